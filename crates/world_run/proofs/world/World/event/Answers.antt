use Rattle.std.proofs.Common.{Option, Err, is_some, slice_get, ap, ◌∙◌, subst}
use Rattle.bft_node.specs.Lodgings.{StepsAt}
use Rattle.bft_node.specs.declared.lodged.Lodged.{Lodged}
use Rattle.bft_node.specs.declared.node_fault.NodeFault.{NodeFault}
use Rattle.world_run.specs.declared.world.World.{World}
use Rattle.world_run.proofs.EventLemmas.{event_failed, event_went, is_read, kept_there}
use Rattle.world_run.proofs.NodeLemmas.{member_at}
use Rattle.world_run.proofs.world.World.event.Goals as goal

pub step-requires-clause-kept : goal.step-requires-clause-kept
step-requires-clause-kept g c =
    let old = c.args.self.now in
    let read = c.index.result.now in
    let is = is_read old c.args.place read c.requires.runs c.index.ensures in
    kept_there (g.N.Nodes.at c.args.nodes.now) old c.args.place read c.requires.sound is.has

pub follow-requires : goal.follow-requires
follow-requires g c =
    let there = c.requires.runs in
    (there.0, ap (λ (w : World). slice_get w.members.items c.args.place) c.in_ok-give_seat.ensures ∙ there.1)

pub returns-in-Ok-clause-takes : goal.returns-in-Ok-clause-takes
returns-in-Ok-clause-takes g c =
    let old = c.args.self.now in
    let read = c.index.result.now in
    let given = c.in_ok-give_seat.ensures in
    let after = c.step.new.keys in
    let is = is_read old c.args.place read c.requires.runs c.index.ensures in
    event_went c.follow.result (g.N.Nodes.at c.args.nodes.now) (g.N.Nodes.at c.step.new.self) old _ c.follow.new.self c.args.place read c.args.event c.give_seat.new.self.outside.seat after c.in-Ok.out
    c.requires.sound is.has is.runs (ap (λ (w : World). w.outside.seat) given) c.in-Ok.ensures c.follow.ensures.follows
    (record {
      config = ap (λ (w : World). w.config) given;
      byzantine = ap (λ (w : World). w.byzantine) given;
      members = ap (λ (w : World). w.members) given;
      outside = ap (λ (w : World). record w.outside { seat = after }) given;
    })

pub fail-requires-clause-there : goal.fail-requires-clause-there
fail-requires-clause-there g c =
    let old = c.args.self.now in
    let read = c.index.result.now in
    let is = is_read old c.args.place read c.requires.runs c.index.ensures in
    let here = member_at (g.N.Nodes.at c.args.nodes.now) old c.args.place read c.requires.sound is.has in
    let failed = c.in-Err-Disk.ensures here.node here.there in
    (read, ap (λ (w : World). slice_get w.members.items c.args.place) c.in_ok-give_seat.ensures ∙ is.has, ap (λ (o : Option Lodged). is_some o) failed.2.there)

pub returns-in_ok-fail-in-Err-Disk-clause-takes : goal.returns-in_ok-fail-in-Err-Disk-clause-takes
returns-in_ok-fail-in-Err-Disk-clause-takes g c =
    let old = c.args.self.now in
    let read = c.index.result.now in
    let given = c.in_ok-give_seat.ensures in
    let at = g.N.Nodes.at c.args.nodes.now in
    let lodging = g.N.Nodes.at c.step.new.self in
    let seat = c.give_seat.new.self.outside.seat in
    let after = c.step.new.keys in
    let is = is_read old c.args.place read c.requires.runs c.index.ensures in
    let steps = subst (λ (fault : NodeFault). StepsAt at lodging read.id c.args.event seat after (Err fault)) c.in-Err-Disk.field-0-is c.in-Err-Disk.ensures in
    event_failed at lodging (g.N.Nodes.at c.fail.new.nodes) old _ c.fail.new.self c.args.place read c.args.event seat after
    c.requires.sound is.has (ap (λ (w : World). w.outside.seat) given) steps
    c.in_ok-fail-in-Err-Disk.ensures.armed c.in_ok-fail-in-Err-Disk.ensures.crashes
    (record {
      config = ap (λ (w : World). w.config) given;
      byzantine = ap (λ (w : World). w.byzantine) given;
      members = ap (λ (w : World). w.members) given;
      outside = ap (λ (w : World). record w.outside { seat = after }) given;
    })
