use Rattle.world_run.proofs.FirstLemmas.{HasFirst}
use Rattle.world_run.proofs.world.World.open_first.Given as goal

abbrev pub invariant-loop-place : goal.invariant-loop-place
invariant-loop-place g l = HasFirst (g.N.Nodes.at l.fn.nodes) (g.N.Nodes.at l.nodes) l.fn.self l.self l.place
