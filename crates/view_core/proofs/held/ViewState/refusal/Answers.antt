use Rattle.std.proofs.Common.{◌≡◌, sym, ap, ◌∙◌, None}
use Rattle.std.proofs.lemmas.Bool.{eq-eqb}
use Rattle.view_model.specs.Answers.{first_reason, stands_outside}
use Rattle.view_core.proofs.AnswerLemmas.{refused_proposal}
use Rattle.view_core.proofs.held.ViewState.refusal.Goals as goal

pub returns-then-message-place : goal.returns-then-message-place
returns-then-message-place g c =
    let outside : first_reason (stands_outside c.args.place.now c.args.self.now c.args.letter.now) ≡ None = sym (c.outside.ensures c.args.self.now (sym (ap (λ v. v.view) c.self.view_is)) (sym (ap (λ v. v.left) c.self.view_is))) ∙ c.in_default.is in
    c.proposal_refusal.ensures ∙ refused_proposal (g.V.Verifier.accepts c.args.verifier.now) c.args.place.now c.args.self.now c.args.letter.now c.in-PrePrepare.message outside c.in-PrePrepare.is (eq-eqb _ _ c.if-message-place.true)
