-- The reasons that answers give.
use Rattle.std.proofs.Common.{◌≡◌, ℕ, Bool, true, false, cond, [], ◌∷◌, ◌++◌, Option, Some, None, refl, sym, ap, ◌∙◌, ◌==◌, ◌+◌, ◌≤◌, ◌||◌, inl, inr, arith, IfOk, OnOk, Result, Ok, Err, ◌&&◌, not, subst}
use Rattle.std.proofs.lemmas.Bool.{cases_Bool, cases_eq, or_left, or_right, or_parts, eq-eqb, not-false, not-true, ltb-false, and_from, and_parts, and_right, not_from_true, not_from_false}
use Rattle.view_model.specs.declared.letter.VoteMessage.{VoteMessage}
use Rattle.view_model.specs.declared.letter.VoteMessage.TheVariants as message_of
use Rattle.bft_wire.specs.declared.message.PrePrepare.{PrePrepare}
use Rattle.bft_wire.specs.declared.reason.Reason.{Reason}
use Rattle.bft_wire.specs.declared.reason.Reason.TheVariants as reason
use Rattle.ord_types.specs.declared.values.Place.{Place}
use Rattle.signer_edge.specs.Accepts.{Accepts}
use Rattle.view_model.specs.declared.letter.Letter.{Letter}
use Rattle.std.specs.Prelude.{is_none, unwrap_or}
use Rattle.view_model.specs.declared.act.Act.{Act}
use Rattle.view_model.specs.declared.act.Act.TheVariants as act_of
use Rattle.view_model.specs.Acts.{View, due, preparation_due, prepare_act}
use Rattle.view_model.specs.Letters.{config_in, number_in, view_in}
use Rattle.ord_types.specs.Members.{is_in, is_raft}
use Rattle.view_model.specs.Answers.{Reasons, accepts_nothing, act_or, after_act, after_told, first_reason, is_new, is_repeat, is_signed, keep, kept_after, kept_or, message_reasons, prepare_answer, proposal_reasons, reason_or, stands_outside, vote_answer}
use Rattle.view_core.specs.Held.{is_held, is_short}
use Rattle.view_core.specs.Places.{StandsAt}

pub first_reason_append : (rs ss : Reasons) → first_reason rs ≡ None → first_reason (rs ++ ss) ≡ first_reason ss
first_reason_append [] ss h = refl
first_reason_append (r ∷ rs) ss h =
    elim (cases_Bool r.0) [
      | inl e ↦ absurd (let clash : Some r.1 ≡ None = rw e at h in cc)
      | inr e ↦ rw e (first_reason_append rs ss (rw e at h))
    ]

-- a proposal at the height, which is neither new nor from outside
pub refused_proposal : (accepts : Accepts) (place : Place) (w : View) (letter : Letter) (m : PrePrepare) → first_reason (stands_outside place w letter) ≡ None → letter.message ≡ message_of.PrePrepare m → (m.number == place.height) ≡ true → reason_or (first_reason (proposal_reasons accepts place w letter.from m)) reason.Repeat ≡ reason_or (first_reason (stands_outside place w letter ++ message_reasons accepts place w letter.from letter.message)) reason.Repeat
refused_proposal accepts place w letter m inside is number =
    let all = first_reason_append (stands_outside place w letter) (message_reasons accepts place w letter.from letter.message) inside in
    let of_message = ap (λ (x : VoteMessage). first_reason (message_reasons accepts place w letter.from x)) is in
    let at_height = ap (λ (b : Bool). first_reason (cond b (proposal_reasons accepts place w letter.from m) [])) number in
    ap (λ (r : Option Reason). reason_or r reason.Repeat) (sym (all ∙ of_message ∙ at_height))

-- no test of these fails
abbrev AllHold : Reasons → Type 0
AllHold [] = Unit {0}
AllHold (r ∷ rs) = (r.0 ≡ false) × AllHold rs

all_hold : (rs : Reasons) → first_reason rs ≡ None → AllHold rs
all_hold [] h = tt
all_hold (r ∷ rs) h =
    elim (cases_Bool r.0) [
      | inl e ↦ absurd (let clash : Some r.1 ≡ None = rw e at h in cc)
      | inr e ↦ (e, all_hold rs (rw e at h))
    ]

near_from : (height n : ℕ) → height ≤ n → n ≤ height + 1 → ((n == height) || (n == height + 1)) ≡ true
near_from height n low high =
    elim (cases_eq n height) [
      | inl e ↦ or_left _ _ (eq-eqb _ _ e)
      | inr e ↦ or_right _ _ (eq-eqb n (height + 1) (omega arith))
    ]

-- a message that isn't from outside may be held by a view that stands at the place
pub inside_is_held : (place : Place) (w : View) (letter : Letter) → StandsAt place w → is_short letter.message ≡ true → first_reason (stands_outside place w letter) ≡ None → is_held w.config w.members w.view w.height letter ≡ true
inside_is_held place w letter stands short inside =
    let all = all_hold (stands_outside place w letter) inside in
    let among = not-false (is_in letter.from place.config.members) all.0 in
    let config = not-false (config_in letter.message == place.config.number) (or_parts (is_raft place.config) _ all.1.0).1 in
    let view = not-false (view_in letter.message == w.view) all.1.1.0 in
    let near = near_from place.height (number_in letter.message) (ltb-false _ _ all.1.1.1.1.0) (ltb-false _ _ all.1.1.1.1.1.0) in
    rw (stands.config, stands.members, stands.height) (and_from _ _ (and_from _ _ (and_from _ _ (and_from _ _ short among) config) view) near)

-- what a message that is newly kept is
pub record IsNew (accepts : Accepts) (place : Place) (w : View) (letter : Letter) : Type 0 where
  pub inside : first_reason (stands_outside place w letter) ≡ None
  pub signed : is_signed accepts letter.from letter.message ≡ true
  pub fresh : is_repeat w letter ≡ false

none_from : (o : Option Reason) → is_none o ≡ true → o ≡ None
none_from None h = refl
none_from (Some r) h = cc

pub new_parts : (accepts : Accepts) (place : Place) (w : View) (letter : Letter) → is_new accepts place w letter ≡ true → IsNew accepts place w letter
new_parts accepts place w letter h =
    let last = and_parts _ _ h in
    let first = and_parts _ _ last.0 in
    record { inside = none_from _ first.0; signed = first.1; fresh = not-true _ last.1 }

-- the answer to a message that is newly kept, and to one that isn't
pub vote_new : (accepts : Accepts) (place : Place) (w : View) (letter : Letter) → is_new accepts place w letter ≡ true → act_or (due accepts place (keep letter w)) act_of.Kept ≡ vote_answer accepts place w letter
vote_new accepts place w letter h = rw h refl

pub vote_old : (accepts : Accepts) (place : Place) (w : View) (letter : Letter) → is_new accepts place w letter ≡ false → act_or (due accepts place w) (reason_or (first_reason (stands_outside place w letter ++ message_reasons accepts place w letter.from letter.message)) reason.Repeat) ≡ vote_answer accepts place w letter
vote_old accepts place w letter h = rw h refl

pub kept_new : (accepts : Accepts) (place : Place) (w : View) (letter : Letter) → is_new accepts place w letter ≡ true → keep letter w ≡ kept_after accepts place w letter
kept_new accepts place w letter h = rw h refl

pub kept_old : (accepts : Accepts) (place : Place) (w : View) (letter : Letter) → is_new accepts place w letter ≡ false → w ≡ kept_after accepts place w letter
kept_old accepts place w letter h = rw h refl

-- what a call leaves, by the answer that it gives
pub answered : {E : Type 0} (r : Result Act E) (answer : Act) (new w : View) → IfOk r (λ act. act ≡ answer) → IfOk r (λ act. new ≡ after_act act w) → OnOk r (new ≡ after_act answer w)
answered (Ok act) answer new w is after = after ∙ ap (λ (a : Act). after_act a w) is
answered (Err e) answer new w is after = tt

-- why a message isn't kept
pub outside_answer : (accepts : Accepts) (place : Place) (w : View) (letter : Letter) (r : Reason) → Some r ≡ first_reason (stands_outside place w letter) → act_of.Nothing r ≡ kept_or (is_new accepts place w letter) (first_reason (stands_outside place w letter)) reason.Repeat
outside_answer accepts place w letter r h = subst (λ (o : Option Reason). act_of.Nothing r ≡ kept_or (is_none o && is_signed accepts letter.from letter.message && not (is_repeat w letter)) o reason.Repeat) h refl

pub not_new_outside : (accepts : Accepts) (place : Place) (w : View) (letter : Letter) (r : Reason) → Some r ≡ first_reason (stands_outside place w letter) → is_new accepts place w letter ≡ false
not_new_outside accepts place w letter r h = subst (λ (o : Option Reason). (is_none o && is_signed accepts letter.from letter.message && not (is_repeat w letter)) ≡ false) h refl

pub not_new_repeat : (accepts : Accepts) (place : Place) (w : View) (letter : Letter) → is_repeat w letter ≡ true → is_new accepts place w letter ≡ false
not_new_repeat accepts place w letter h = and_right _ _ (not_from_true (is_repeat w letter) h)

pub repeat_answer : (accepts : Accepts) (place : Place) (w : View) (letter : Letter) → None ≡ first_reason (stands_outside place w letter) → is_repeat w letter ≡ true → act_of.Nothing reason.Repeat ≡ kept_or (is_new accepts place w letter) (first_reason (stands_outside place w letter)) reason.Repeat
repeat_answer accepts place w letter inside h =
    ap (λ (o : Option Reason). reason_or o reason.Repeat) inside ∙ ap (λ (b : Bool). kept_or b (first_reason (stands_outside place w letter)) reason.Repeat) (sym (not_new_repeat accepts place w letter h))

pub new_from : (accepts : Accepts) (place : Place) (w : View) (letter : Letter) → None ≡ first_reason (stands_outside place w letter) → is_signed accepts letter.from letter.message ≡ true → is_repeat w letter ≡ false → is_new accepts place w letter ≡ true
new_from accepts place w letter inside signed fresh = and_from _ _ (and_from _ _ (ap is_none (sym inside)) signed) (not_from_false _ fresh)

pub new_answer : (accepts : Accepts) (place : Place) (w : View) (letter : Letter) → is_new accepts place w letter ≡ true → act_of.Kept ≡ kept_or (is_new accepts place w letter) (first_reason (stands_outside place w letter)) reason.Repeat
new_answer accepts place w letter h = ap (λ (b : Bool). kept_or b (first_reason (stands_outside place w letter)) reason.Repeat) (sym h)

-- a Prepare
after_told_kept : (o : Option Act) (b : Bool) (r : Option Reason) (last : Reason) (w : View) → after_told o w ≡ after_act (act_or o (kept_or b r last)) w
after_told_kept (Some act) b r last w = refl
after_told_kept None true r last w = refl
after_told_kept None false (Some r) last w = refl
after_told_kept None false None last w = refl

pub prepare_is : (place : Place) (w kept : View) (letter : Letter) (other act : Act) → other ≡ kept_or (is_new accepts_nothing place w letter) (first_reason (stands_outside place w letter)) reason.Repeat → kept ≡ kept_after accepts_nothing place w letter → act ≡ act_or (prepare_act (preparation_due place kept)) other → act ≡ prepare_answer place w letter
prepare_is place w kept letter other act is left told =
    told ∙ ap (act_or (prepare_act (preparation_due place kept))) is ∙ ap (λ (k : View). act_or (prepare_act (preparation_due place k)) (kept_or (is_new accepts_nothing place w letter) (first_reason (stands_outside place w letter)) reason.Repeat)) left

pub prepare_leaves : (place : Place) (w kept new : View) (letter : Letter) → kept ≡ kept_after accepts_nothing place w letter → new ≡ after_told (prepare_act (preparation_due place kept)) kept → new ≡ after_act (prepare_answer place w letter) (kept_after accepts_nothing place w letter)
prepare_leaves place w kept new letter left told =
    told ∙ ap (λ (k : View). after_told (prepare_act (preparation_due place k)) k) left
    ∙ after_told_kept (prepare_act (preparation_due place (kept_after accepts_nothing place w letter))) (is_new accepts_nothing place w letter) (first_reason (stands_outside place w letter)) reason.Repeat (kept_after accepts_nothing place w letter)

-- what the node itself is refused
pub reason_is : (o : Option Reason) (last : Reason) → act_of.Nothing (unwrap_or o last) ≡ reason_or o last
reason_is None last = refl
reason_is (Some r) last = refl
