use Rattle.std.proofs.Common.{rules, ap, ◌++◌, List, ℕ}
use Rattle.std.proofs.lemmas.Result.{err_from_is_err_and}
use Rattle.ord_types.specs.Told.{told}
use Rattle.line_flow.specs.Lines.{lines}
use Rattle.script_play.proofs.ChoiceLemmas.{Played-from_end, Played-from_stop, PlayedTo-start, PlayedTo-trans, StoppedIn-before, StoppedIn-trans}
use Rattle.script_play.proofs.player.play.Goals as goal

pub returns-in_err-new-clause-played : goal.returns-in_err-new-clause-played
returns-in_err-new-clause-played g c =
    let err = err_from_is_err_and c.from_residual.result c.from_residual.ensures.1 in
    rw err.1 (λ _. Played-from_stop _ _ _ _ _ (StoppedIn-before _ _ _))

pub lines-init : goal.lines-init
lines-init g c =
    let script = told (g.S.Source.left c.args.source.now) in
    record {
      sound = c.requires;
      tells = λ tells. tells;
      so_far = λ _. PlayedTo-start _ _ _ _ _ _ _ _ _ (ap (λ (bytes : List ℕ). lines (bytes ++ script)) c.in_ok-new.ensures);
      within = search rules;
      later = search rules;
      later_out = search rules;
    }

pub returns-in_err-ending-clause-played : goal.returns-in_err-ending-clause-played
returns-in_err-ending-clause-played g c =
    let err = err_from_is_err_and c.from_residual-in_err-ending.result c.from_residual-in_err-ending.ensures.1 in
    rw err.1 (λ reads.
    let before = c.lines.invariant in
    Played-from_stop _ _ _ _ _ (StoppedIn-trans _ _ _ _ _ _ _ (before.so_far reads) (c.in_err-ending.ensures.stops (before.tells reads))))

pub returns-in-Some-clause-played : goal.returns-in-Some-clause-played
returns-in-Some-clause-played g c = λ reads.
    let before = c.lines.invariant in
    let line = rw c.in-Some.is at (c.in_ok-ending.ensures.plays (before.tells reads)) in
    Played-from_end _ _ _ _ _ _ _ (PlayedTo-trans _ _ _ _ _ _ _ _ _ _ (before.so_far reads) line)

pub lines-preserved : goal.lines-preserved
lines-preserved g c =
    let before = c.lines.invariant in
    let step = c.in_ok-ending.ensures in
    record {
      sound = step.sound;
      tells = λ reads. step.tells (before.tells reads);
      so_far = λ reads.
          let line = rw c.in_default.is at (step.plays (before.tells reads)) in
          PlayedTo-trans _ _ _ _ _ _ _ _ _ _ (before.so_far reads) line;
      within = search rules;
      later = search rules;
      later_out = search rules;
    }
