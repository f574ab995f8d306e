use Rattle.world_model.specs.Turns.{closing_of}
use Rattle.world_run.proofs.runner.RunnerMachine.closing.Goals as goal

pub returns-in_ok-put_sent-in-None : goal.returns-in_ok-put_sent-in-None
unfolding closing_of
returns-in_ok-put_sent-in-None g c = λ later. rw c.in-None.is c.in_ok-put_sent-in-None.ensures
