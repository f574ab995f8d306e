use Rattle.std.proofs.Common.{subst}
use Rattle.view_model.specs.Acts.{View}
use Rattle.view_model.specs.Answers.{at_place, propose_answer}
use Rattle.view_core.specs.Calls.{IsTaken}
use Rattle.view_core.proofs.FitLemmas.{answered_from, propose_fits}
use Rattle.view_core.proofs.held.ViewState.propose.Goals as goal

pub returns : goal.returns
returns g c =
    let place = c.args.place.now in
    let offer = c.args.offer in
    let placed = at_place place c.args.self.now in
    let result = c.placed_proposal.result in
    let new = c.placed_proposal.new.self in
    answered_from result (propose_answer place placed offer) new placed placed
    (subst (λ (w : View). IsTaken result (propose_answer place w offer) new w w) c.settle.ensures.at
    c.placed_proposal.ensures) (propose_fits place placed offer)
