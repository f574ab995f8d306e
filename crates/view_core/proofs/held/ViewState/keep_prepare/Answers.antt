use Rattle.std.proofs.Common.{◌≡◌, true, false, Some, None, refl, ap, sym, ◌∙◌}
use Rattle.std.specs.List.{list_any}
use Rattle.view_model.specs.declared.letter.VoteMessage.TheVariants as message_of
use Rattle.view_model.specs.declared.letter.Letter.{Letter}
use Rattle.view_model.specs.Answers.{accepts_nothing, first_reason, is_new, is_repeat, stands_outside}
use Rattle.view_model.specs.Letters.{same_slot}
use Rattle.view_core.proofs.AnswerLemmas.{inside_is_held, kept_new, kept_old, new_answer, new_from, not_new_outside, not_new_repeat, outside_answer, repeat_answer}
use Rattle.view_core.proofs.held.ViewState.keep_prepare.Goals as goal

pub returns-in-Some-clause-answer : goal.returns-in-Some-clause-answer
returns-in-Some-clause-answer c =
    let letter : Letter = record { from = c.args.from; message = message_of.Prepare c.args.message.now } in
    let outside : Some c.in-Some.reason ≡ first_reason (stands_outside c.args.place.now c.args.self.now letter) = c.in-Some.ensures c.args.self.now (sym (ap (λ v. v.view) c.self.view_is)) (sym (ap (λ v. v.left) c.self.view_is)) in
    outside_answer accepts_nothing c.args.place.now c.args.self.now letter c.in-Some.reason outside

pub returns-in-Some-clause-after : goal.returns-in-Some-clause-after
returns-in-Some-clause-after c =
    let letter : Letter = record { from = c.args.from; message = message_of.Prepare c.args.message.now } in
    let outside : Some c.in-Some.reason ≡ first_reason (stands_outside c.args.place.now c.args.self.now letter) = c.in-Some.ensures c.args.self.now (sym (ap (λ v. v.view) c.self.view_is)) (sym (ap (λ v. v.left) c.self.view_is)) in
    kept_old accepts_nothing c.args.place.now c.args.self.now letter (not_new_outside accepts_nothing c.args.place.now c.args.self.now letter c.in-Some.reason outside)

pub returns-then-has_slot-clause-answer : goal.returns-then-has_slot-clause-answer
returns-then-has_slot-clause-answer c =
    let letter : Letter = record { from = c.args.from; message = message_of.Prepare c.args.message.now } in
    let inside : None ≡ first_reason (stands_outside c.args.place.now c.args.self.now letter) = c.in_default.ensures c.args.self.now (sym (ap (λ v. v.view) c.self.view_is)) (sym (ap (λ v. v.left) c.self.view_is)) in
    let repeat : is_repeat c.args.self.now letter ≡ true = ap (list_any (same_slot letter)) (sym (c.as_slice.ensures.value ∙ ap (λ v. v.kept) c.self.view_is)) ∙ sym c.if-has_slot.ensures in
    repeat_answer accepts_nothing c.args.place.now c.args.self.now letter inside repeat

pub returns-then-has_slot-clause-after : goal.returns-then-has_slot-clause-after
returns-then-has_slot-clause-after c =
    let letter : Letter = record { from = c.args.from; message = message_of.Prepare c.args.message.now } in
    let repeat : is_repeat c.args.self.now letter ≡ true = ap (list_any (same_slot letter)) (sym (c.as_slice.ensures.value ∙ ap (λ v. v.kept) c.self.view_is)) ∙ sym c.if-has_slot.ensures in
    kept_old accepts_nothing c.args.place.now c.args.self.now letter (not_new_repeat accepts_nothing c.args.place.now c.args.self.now letter repeat)

pub keep-requires-clause-held : goal.keep-requires-clause-held
keep-requires-clause-held c =
    let letter : Letter = record { from = c.args.from; message = message_of.Prepare c.args.message.now } in
    let inside : None ≡ first_reason (stands_outside c.args.place.now c.args.self.now letter) = c.in_default.ensures c.args.self.now (sym (ap (λ v. v.view) c.self.view_is)) (sym (ap (λ v. v.left) c.self.view_is)) in
    inside_is_held c.args.place.now c.args.self.now letter c.requires.stands refl (sym inside)

pub keep-requires-clause-new : goal.keep-requires-clause-new
keep-requires-clause-new c =
    let letter : Letter = record { from = c.args.from; message = message_of.Prepare c.args.message.now } in
    let repeat : is_repeat c.args.self.now letter ≡ false = ap (list_any (same_slot letter)) (sym (c.as_slice.ensures.value ∙ ap (λ v. v.kept) c.self.view_is)) ∙ sym c.if-has_slot.ensures in
    repeat

pub returns-clause-answer : goal.returns-clause-answer
returns-clause-answer c =
    let letter : Letter = record { from = c.args.from; message = message_of.Prepare c.args.message.now } in
    let inside : None ≡ first_reason (stands_outside c.args.place.now c.args.self.now letter) = c.in_default.ensures c.args.self.now (sym (ap (λ v. v.view) c.self.view_is)) (sym (ap (λ v. v.left) c.self.view_is)) in
    let repeat : is_repeat c.args.self.now letter ≡ false = ap (list_any (same_slot letter)) (sym (c.as_slice.ensures.value ∙ ap (λ v. v.kept) c.self.view_is)) ∙ sym c.if-has_slot.ensures in
    let new : is_new accepts_nothing c.args.place.now c.args.self.now letter ≡ true = new_from accepts_nothing c.args.place.now c.args.self.now letter inside refl repeat in
    new_answer accepts_nothing c.args.place.now c.args.self.now letter new

pub returns-clause-after : goal.returns-clause-after
returns-clause-after c =
    let letter : Letter = record { from = c.args.from; message = message_of.Prepare c.args.message.now } in
    let inside : None ≡ first_reason (stands_outside c.args.place.now c.args.self.now letter) = c.in_default.ensures c.args.self.now (sym (ap (λ v. v.view) c.self.view_is)) (sym (ap (λ v. v.left) c.self.view_is)) in
    let repeat : is_repeat c.args.self.now letter ≡ false = ap (list_any (same_slot letter)) (sym (c.as_slice.ensures.value ∙ ap (λ v. v.kept) c.self.view_is)) ∙ sym c.if-has_slot.ensures in
    let new : is_new accepts_nothing c.args.place.now c.args.self.now letter ≡ true = new_from accepts_nothing c.args.place.now c.args.self.now letter inside refl repeat in
    c.keep.ensures ∙ kept_new accepts_nothing c.args.place.now c.args.self.now letter new
