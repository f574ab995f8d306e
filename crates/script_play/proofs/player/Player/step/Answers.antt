use Rattle.std.specs.Prelude.{string_bytes}
use Rattle.std.proofs.lemmas.Result.{err_from_is_err_and}
use Rattle.script_play.proofs.ChoiceLemmas.{StoppedIn-before, StoppedIn-from_line}
use Rattle.script_play.proofs.player.Player.step.Goals as goal

pub returns-in_err-ending-clause-stops : goal.returns-in_err-ending-clause-stops
returns-in_err-ending-clause-stops g c =
    let err = err_from_is_err_and c.from_residual.result c.from_residual.ensures.1 in
    rw err.1 (λ _. StoppedIn-before _ _ _)

pub returns-in_err-write_all-clause-stops : goal.returns-in_err-write_all-clause-stops
returns-in_err-write_all-clause-stops g c =
    let err = err_from_is_err_and c.from_residual-in_err-write_all.result c.from_residual-in_err-write_all.ensures.1 in
    rw err.1 (λ reads.
    StoppedIn-from_line _ _ (string_bytes c.turn.new.self.text) _ _ _ _ _ (c.in_ok-ending.ensures.leaves reads)
    (λ tells. rw c.as_bytes.ensures.value at (c.in_err-write_all.ensures.front tells)))
