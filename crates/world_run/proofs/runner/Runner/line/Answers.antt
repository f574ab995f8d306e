use Rattle.std.proofs.Common.{ap, refl, sym}
use Rattle.std.specs.Prelude.{string_bytes}
use Rattle.world_run.proofs.RunnerLemmas.{line_staged}
use Rattle.world_run.proofs.runner.Runner.line.Goals as goal

pub returns-clause-plays : goal.returns-clause-plays
returns-clause-plays g c =
    rw c.in-Some.is
    (line_staged (g.N.Nodes.at c.args.self.now.nodes) (g.N.Nodes.at c.turn_in.new.nodes) c.in-Some.world _ c.turn_in.new.world _ c.args.number c.args.command _ _ _ _ c.in_ok-ending.ending
    (λ later. refl) (λ none. none) (λ later. refl) (λ none. none) (ap string_bytes c.swap.ensures.y_after) (ap string_bytes (sym c.swap-2.ensures.x_after)) c.in_ok-ending.ensures.plays)
