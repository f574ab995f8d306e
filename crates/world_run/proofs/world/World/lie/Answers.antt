use Rattle.std.proofs.Common.{sym, ◌∙◌}
use Rattle.world_run.proofs.world.World.lie.Goals as goal

pub returns-then-branch-clause-says : goal.returns-then-branch-clause-says
returns-then-branch-clause-says c = rw (sym (rw c.as_slice.ensures at c.in_ok-is_raft.ensures) ∙ c.if-branch.true) c.refuse.ensures.says
