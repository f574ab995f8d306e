use Rattle.std.proofs.Common.{◌≡◌, Option, ap, ◌∙◌, subst}
use Rattle.bft_wire.specs.declared.reason.Reason.{Reason}
use Rattle.bft_wire.specs.declared.reason.Reason.TheVariants as reason
use Rattle.view_model.specs.declared.act.Act.{Act}
use Rattle.view_model.specs.declared.act.Act.TheVariants as act_of
use Rattle.view_model.specs.Acts.{View, due}
use Rattle.view_model.specs.Answers.{act_or, at_place, due_answer, first_reason, own_reasons, reason_or}
use Rattle.view_core.specs.Calls.{IsTaken}
use Rattle.view_core.proofs.AnswerLemmas.{reason_is}
use Rattle.view_core.proofs.FitLemmas.{answered_from, due_answer_fits}
use Rattle.view_core.proofs.held.ViewState.due.Goals as goal

pub returns : goal.returns
returns g c =
    let accepts = g.V.Verifier.accepts c.args.verifier.now in
    let place = c.args.place.now in
    let settled = c.settle.new.self in
    let placed = at_place place c.args.self.now in
    let result = c.take_due_or.result in
    let new = c.take_due_or.new.self in
    let other : act_of.Nothing c.unwrap_or-other.result
    ≡ reason_or (first_reason (own_reasons place settled)) reason.NotYet =
    ap act_of.Nothing c.unwrap_or-other.ensures ∙ reason_is c.own_refusal.result reason.NotYet
    ∙ ap (λ (o : Option Reason). reason_or o reason.NotYet) c.own_refusal.ensures in
    let taken = subst (λ (last : Act). IsTaken result (act_or (due accepts place settled) last) new settled settled) other
    c.take_due_or.ensures in
    answered_from result (due_answer accepts place placed) new placed placed
    (subst (λ (w : View). IsTaken result (due_answer accepts place w) new w w) c.settle.ensures.at taken)
    (due_answer_fits accepts place c.args.self.now c.requires.few c.settle.ensures.short)
