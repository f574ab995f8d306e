use Rattle.std.proofs.Common.{◌∙◌, ◌<◌, length, arith, ap, refl, sym}
use Rattle.std.proofs.lemmas.List.{length-set}
use Rattle.std.proofs.lemmas.Result.{IfOk-weaker}
use Rattle.world_run.specs.Whereabouts.{whereabouts_of}
use Rattle.world_run.specs.declared.network.Entry.{Entry}
use Rattle.world_run.proofs.DeliverLemmas.{arrived, delivered_nowhere, delivered_to_node}
use Rattle.world_run.proofs.ListLemmas.{same_read, where_running}
use Rattle.world_run.proofs.WaitingLemmas.{waits_marked}
use Rattle.world_run.proofs.world.World.deliver_entry.Goals as goal

pub returns-in_default-clause-plays : goal.returns-in_default-clause-plays
returns-in_default-clause-plays g c = λ entry lodged later has.
    let w = c.args.self.now in
    delivered_nowhere (g.N.Nodes.at c.args.nodes.now) w w.outside.number c.args.at c.index.result.now entry (omega arith) c.index.ensures c.in_default.ensures.none has

pub invariant_of-self : goal.invariant_of-self
invariant_of-self g c =
    let w = c.args.self.now in
    record {
      within = omega (arith, w.within, length-set w.outside.network.items c.args.at (arrived c.index_mut-entry.result.now));
      passed = waits_marked w.config w.first_waiting w.members.items w.outside.network.items c.args.at (arrived c.index_mut-entry.result.now) refl w.passed;
    }

pub take_at-requires-clause-runs : goal.take_at-requires-clause-runs
take_at-requires-clause-runs g c =
    let stands = where_running c.index.result.now.to c.args.self.now.members.items c.in-Some.place c.in-Some.ensures.some in
    (stands.member, stands.there, stands.runs)

pub returns-clause-plays : goal.returns-clause-plays
returns-clause-plays g c =
    let w = c.args.self.now in
    let l = g.N.Nodes.at c.args.nodes.now in
    let next = g.N.Nodes.at c.take_at.new.nodes in
    let new = c.take_at.new.self in
    let read = c.index_mut-entry.result.now in
    let same = same_read w.outside.network.items c.args.at c.index.result.now read (omega arith) c.index.ensures c.index_mut-entry.ensures.value in
    let stands = where_running read.to w.members.items c.in-Some.place (ap (λ (e : Entry). whereabouts_of e.to w.members.items) (sym same) ∙ c.in-Some.ensures.some) in
    let bytes = c.in_ok-bytes.ensures ∙ c.as_ref.ensures in
    let within : c.args.at < length w.outside.network.items = omega arith in
    IfOk-weaker c.take_at.result _ _
    (λ ending taken entry lodged later has.
    delivered_to_node l next w _ new c.args.at c.in-Some.place read c.in_ok-bytes.bytes entry ending stands
    (record { config = refl; byzantine = refl; members = refl; network = refl; seat = refl; number = refl; text = refl })
    within c.index_mut-entry.ensures.value has bytes (taken stands.member stands.there))
    c.take_at.ensures.plays
