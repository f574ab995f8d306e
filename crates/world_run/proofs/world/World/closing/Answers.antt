use Rattle.std.proofs.Common.{ℕ, arith}
use Rattle.world_model.specs.Cores.{core_setting}
use Rattle.world_model.specs.Turns.{closing_of_member}
use Rattle.world_model.specs.Worlds as worlds
use Rattle.world_run.specs.Mapped.{world_of}
use Rattle.world_run.proofs.ShowLemmas.{closing_done, closing_more}
use Rattle.world_run.proofs.world.World.closing.Goals as goal

pub loop-id-preserved : goal.loop-id-preserved
loop-id-preserved g c = λ later.
    closing_more (λ (id : ℕ). closing_of_member core_setting id (worlds.node_at id (world_of (g.N.Nodes.at c.args.nodes.now) c.args.self.now later).nodes)) c.as_slice-id-items.result.now c.loop-id.id-index _ _ _
    (omega arith) (c.loop-id.invariant later) (c.in_ok-closing_of.ensures later)

pub returns : goal.returns
returns g c = λ later.
    closing_done (g.N.Nodes.at c.args.nodes.now) c.args.self.now later c.as_slice-id-items.result.now c.loop-id.id-index c.len.result _ _ _ c.as_slice-id-items.ensures (omega arith) (omega (arith, c.len.ensures))
    (c.loop-id.invariant later) c.in_ok-put_sent.ensures
