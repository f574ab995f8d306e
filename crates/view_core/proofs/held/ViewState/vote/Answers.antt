use Rattle.std.proofs.Common.{subst}
use Rattle.view_model.specs.Acts.{View}
use Rattle.view_model.specs.Answers.{at_place, kept_after, vote_answer}
use Rattle.view_core.specs.Calls.{IsTaken}
use Rattle.view_core.proofs.FitLemmas.{answered_from, vote_fits}
use Rattle.view_core.proofs.held.ViewState.vote.Goals as goal

pub returns : goal.returns
returns g c =
    let accepts = g.V.Verifier.accepts c.args.verifier.now in
    let place = c.args.place.now in
    let letter = c.args.letter in
    let placed = at_place place c.args.self.now in
    let result = c.placed_vote.result in
    let new = c.placed_vote.new.self in
    answered_from result (vote_answer accepts place placed letter) new (kept_after accepts place placed letter) placed
    (subst (λ (w : View). IsTaken result (vote_answer accepts place w letter) new (kept_after accepts place w letter) w)
    c.settle.ensures.at c.placed_vote.ensures)
    (vote_fits accepts place c.args.self.now letter c.requires.place.few c.requires.short c.settle.ensures.short)
