use Rattle.std.proofs.Common.{length}
use Rattle.world_run.proofs.liars.+longest.Given as goal

abbrev pub decreases-longest : goal.decreases-longest
decreases-longest g l = length l.members.now
