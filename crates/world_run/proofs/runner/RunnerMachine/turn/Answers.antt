use Rattle.std.proofs.lemmas.Result.{IfOk-weaker}
use Rattle.world_run.specs.Moves.{outcomes_of}
use Rattle.world_run.proofs.runner.RunnerMachine.turn.Goals as goal

pub returns-clause-turned : goal.returns-clause-turned
returns-clause-turned g c =
    IfOk-weaker c.line.result _ _
    (λ ending plays. record {
      taken = outcomes_of plays.moves;
      turned = plays.turned;
      none_taken = λ quiet. (plays.decided quiet.1 quiet.0).0;
      stays_decided = λ quiet goes. (plays.decided quiet.1 quiet.0).1;
    })
    c.line.ensures.plays
