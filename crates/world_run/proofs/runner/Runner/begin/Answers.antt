use Rattle.std.proofs.Common.{[]}
use Rattle.world_model.specs.Turns.{first_config}
use Rattle.world_run.proofs.RunnerLemmas.{line_refused}
use Rattle.world_run.proofs.runner.Runner.begin.Goals as goal

pub returns-in-Genesis-clause-plays : goal.returns-in-Genesis-clause-plays
returns-in-Genesis-clause-plays g c = rw c.in-Genesis.is c.open.ensures.plays

pub returns-clause-plays : goal.returns-clause-plays
returns-clause-plays g c =
    rw c.requires.none (line_refused (g.N.Nodes.at c.args.self.now.nodes) (first_config []) c.args.number c.args.command _ _ c.in_default.not-Genesis c.in_ok-put_refused.ensures)
