use Rattle.bft_node.specs.Calls.{still_with}
use Rattle.bft_node.proofs.live.Running.+acts.Given as goal

abbrev pub decreases-acts : goal.decreases-acts
decreases-acts g l = still_with l.told l.self.now
