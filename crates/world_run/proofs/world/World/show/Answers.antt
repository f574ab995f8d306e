use Rattle.std.proofs.Common.{None, Some, ap}
use Rattle.ord_types.specs.declared.values.Proof.{Proof}
use Rattle.safety_model.specs.Blocks.{Block}
use Rattle.world_run.specs.declared.member.Member.{Member}
use Rattle.world_run.proofs.ReadLemmas.{reads_member}
use Rattle.world_run.proofs.ShowLemmas.{found_is, shown_none, shown_some}
use Rattle.world_run.proofs.SubmitLemmas.{read_is}
use Rattle.world_run.proofs.world.World.show.Goals as goal

pub returns-in_ok-put_refused-in-Ok-None-clause-turned : goal.returns-in_ok-put_refused-in-Ok-None-clause-turned
returns-in_ok-put_refused-in-Ok-None-clause-turned g c = λ member has later.
    let at = g.N.Nodes.at c.args.nodes.now in
    let w = c.args.self.now in
    shown_none at w later c.args.number member _
    (found_is at w c.args.place c.args.number c.index.result.now member None c.requires.sound has c.index.ensures (λ l there. rw c.in-Ok-None.field-0-is at (c.in-Ok-None.ensures.value l there)))
    c.in_ok-put_refused-in-Ok-None.ensures

pub returns-in_ok-put_show-in-Ok-Some-clause-turned : goal.returns-in_ok-put_show-in-Ok-Some-clause-turned
returns-in_ok-put_show-in-Ok-Some-clause-turned g c = λ member has later.
    let at = g.N.Nodes.at c.args.nodes.now in
    let w = c.args.self.now in
    let stored : Block × Proof = (c.in-Ok-Some.block, c.in-Ok-Some.proof) in
    shown_some at w later c.index.result.now.id c.args.number member stored _
    (ap (λ (m : Member). m.id) (read_is w.members.items c.args.place c.index.result.now member c.index.ensures has))
    (found_is at w c.args.place c.args.number c.index.result.now member (Some stored) c.requires.sound has c.index.ensures (λ l there. rw c.in-Ok-Some.field-0-is at (c.in-Ok-Some.ensures.value l there)))
    c.in_ok-put_show-in-Ok-Some.ensures

pub returns-in_ok-put_refused-in-Ok-None-clause-reads : goal.returns-in_ok-put_refused-in-Ok-None-clause-reads
returns-in_ok-put_refused-in-Ok-None-clause-reads g c = λ member has.
    reads_member (g.N.Nodes.at c.args.nodes.now) (g.N.Nodes.at c.get.new.self) c.args.self.now.members.items
    c.args.place c.index.result.now member c.index.ensures has c.get.ensures.reads

pub returns-in_ok-put_show-in-Ok-Some-clause-reads : goal.returns-in_ok-put_show-in-Ok-Some-clause-reads
returns-in_ok-put_show-in-Ok-Some-clause-reads g c = λ member has.
    reads_member (g.N.Nodes.at c.args.nodes.now) (g.N.Nodes.at c.get.new.self) c.args.self.now.members.items
    c.args.place c.index.result.now member c.index.ensures has c.get.ensures.reads
