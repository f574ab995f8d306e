-- What the calls on a view answer and leave, where the view is at the place.
use Rattle.std.proofs.Common.{◌≡◌, ℕ, ◌≤◌, Bool, true, false, ◌&&◌, ◌==◌, not, List, [], ◌∷◌, length, Option, Some, None, refl, sym, ap, subst, ◌∙◌, inl, inr, arith, is_none}
use Rattle.std.specs.Prelude.{if◌then◌else◌}
use Rattle.std.specs.Str.{bytes_eq}
use Rattle.std.proofs.lemmas.Bool.{cases_Bool, and_parts, and_from, and_right, eqb-true, eq-eqb}
use Rattle.std.proofs.lemmas.Slice.Eq.{bytes_eq-Decides}
use Rattle.ord_types.specs.declared.values.Place.{Place}
use Rattle.ord_types.specs.declared.values.Cert.{Cert}
use Rattle.safety_model.specs.Blocks.{Block}
use Rattle.signer_edge.specs.Accepts.{Accepts}
use Rattle.bft_wire.specs.declared.reason.Reason.{Reason}
use Rattle.view_model.specs.declared.letter.VoteMessage.TheVariants as message_of
use Rattle.view_model.specs.Letters.{Prepare}
use Rattle.view_model.specs.declared.letter.Letter.{Letter}
use Rattle.view_model.specs.declared.act.Act.{Act}
use Rattle.view_model.specs.declared.act.Act.TheVariants as act_of
use Rattle.view_model.specs.Acts.{View, accept_act, acceptance_due, deliver_act, delivery_due, digest_if, due, first_of, is_inside_view, is_voting, preparation_due, prepare_act}
use Rattle.view_model.specs.Answers.{accepts_nothing, act_or, after_act, after_prepare, at_place, due_answer, fresh, is_new, is_same_config, kept_after, kept_or, prepare_answer, reason_or, unplaced, vote_answer}
use Rattle.node_model.specs.Cores.{Core, Found}
use Rattle.node_model.specs.Steps as duty_of
use Rattle.node_model.specs.Steps.{accept_duty, deliver_duty, duty, first_some, prepare_duty}
use Rattle.bft_node.specs.Making.{duty_in}
use Rattle.view_core.specs.Places.{StandsAt}

-- AT THE PLACE

pub StandsAt-at_place : (place : Place) (w : View) → StandsAt place (at_place place w)
StandsAt-at_place place w =
    elim (cases_Bool (is_same_config place w)) [
      | inr e ↦ rw e (record { config = refl; members = refl; height = refl })
      | inl e ↦
          let both = and_parts _ _ e in
          let config = eqb-true w.config place.config.number both.0 in
          let members = (bytes_eq-Decides w.members place.config.members).0 both.1 in
          elim (cases_Bool (w.height == place.height)) [
            | inl h ↦ rw (e, h) (record { config = config; members = members; height = eqb-true _ _ h })
            | inr h ↦ rw (e, h) (record { config = config; members = members; height = refl })
          ]
    ]

-- who is at the place stays as it is
pub at_place-at : (place : Place) (w : View) → StandsAt place w → at_place place w ≡ w
at_place-at place w h =
    let same : is_same_config place w ≡ true = and_from _ _ (eq-eqb _ _ h.config) ((bytes_eq-Decides w.members place.config.members).1 h.members) in
    let height : (w.height == place.height) ≡ true = eq-eqb _ _ h.height in
    rw (same, height)

pub me-at_place : (place : Place) (w : View) → (at_place place w).me ≡ w.me
me-at_place place w =
    elim (cases_Bool (is_same_config place w)) [
      | inr e ↦ rw e
      | inl e ↦ elim (cases_Bool (w.height == place.height)) [ inl h ↦ rw (e, h) | inr h ↦ rw (e, h) ]
    ]

pub StandsAt-after_act : (place : Place) (act : Act) (w : View) → StandsAt place w → StandsAt place (after_act act w)
StandsAt-after_act place (act_of.Accept b) w h = record { config = h.config; members = h.members; height = h.height }
StandsAt-after_act place (act_of.Prepare d) w h = record { config = h.config; members = h.members; height = h.height }
StandsAt-after_act place (act_of.Deliver b cert) w h = h
StandsAt-after_act place act_of.Kept w h = h
StandsAt-after_act place (act_of.Nothing r) w h = h

pub me-after_act : (act : Act) (w : View) → (after_act act w).me ≡ w.me
me-after_act (act_of.Accept b) w = refl
me-after_act (act_of.Prepare d) w = refl
me-after_act (act_of.Deliver b cert) w = refl
me-after_act act_of.Kept w = refl
me-after_act (act_of.Nothing r) w = refl

pub StandsAt-kept_after : (accepts : Accepts) (place : Place) (w : View) (letter : Letter) → StandsAt place w → StandsAt place (kept_after accepts place w letter)
StandsAt-kept_after accepts place w letter h =
    elim (cases_Bool (is_new accepts place w letter)) [
      | inl e ↦ rw e (record { config = h.config; members = h.members; height = h.height })
      | inr e ↦ rw e h
    ]

pub me-kept_after : (accepts : Accepts) (place : Place) (w : View) (letter : Letter) → (kept_after accepts place w letter).me ≡ w.me
me-kept_after accepts place w letter =
    elim (cases_Bool (is_new accepts place w letter)) [ inl e ↦ rw e | inr e ↦ rw e ]

-- WHAT IS TOLD IS WHAT IS DUE

duty_in-first : (a : Option Block) (p : Option (List ℕ)) (d : Option (Block × Cert)) (other : Act)
    → duty_in other ≡ None
    → duty_in (act_or (first_of (accept_act a) (first_of (prepare_act p) (deliver_act d))) other)
    ≡ first_some (accept_duty a ∷ prepare_duty p ∷ deliver_duty d ∷ [])
duty_in-first (Some b) p d other e = refl
duty_in-first None (Some h) d other e = refl
duty_in-first None None (Some c) other e = refl
duty_in-first None None None other e = e

duty_in-due : (accepts : Accepts) (c : Core) (other : Act) → duty_in other ≡ None
    → duty_in (act_or (due accepts c.place c.view) other) ≡ duty accepts c
duty_in-due accepts c other e =
    duty_in-first (acceptance_due accepts c.place c.view) (preparation_due c.place c.view)
    (delivery_due c.place c.view) other e

duty_in-reason_or : (o : Option Reason) (last : Reason) → duty_in (reason_or o last) ≡ None
duty_in-reason_or None last = refl
duty_in-reason_or (Some r) last = refl

duty_in-kept_or : (b : Bool) (o : Option Reason) (last : Reason) → duty_in (kept_or b o last) ≡ None
duty_in-kept_or true o last = refl
duty_in-kept_or false o last = duty_in-reason_or o last

pub duty_in-due_answer : (accepts : Accepts) (c : Core) → duty_in (due_answer accepts c.place c.view) ≡ duty accepts c
duty_in-due_answer accepts c = duty_in-due accepts c _ (duty_in-reason_or _ _)

pub duty_in-vote_answer : (accepts : Accepts) (c : Core) (letter : Letter)
    → duty_in (vote_answer accepts c.place c.view letter)
    ≡ duty accepts (record c { view = kept_after accepts c.place c.view letter })
duty_in-vote_answer accepts c letter =
    duty_in-due accepts (record c { view = kept_after accepts c.place c.view letter }) _ (duty_in-kept_or _ _ _)

-- WHAT IS DUE, BY WHAT IS TOLD

first_accept : (a : Option Block) (p : Option (List ℕ)) (d : Option (Block × Cert)) (b : Block)
    → Some (duty_of.Accept b) ≡ first_some (accept_duty a ∷ prepare_duty p ∷ deliver_duty d ∷ []) → a ≡ Some b
first_accept (Some c) p d b e = cc
first_accept None (Some h) d b e = cc
first_accept None None (Some c) b e = cc
first_accept None None None b e = cc

first_prepare : (a : Option Block) (p : Option (List ℕ)) (d : Option (Block × Cert)) (h : List ℕ)
    → Some (duty_of.Prepare h) ≡ first_some (accept_duty a ∷ prepare_duty p ∷ deliver_duty d ∷ []) → p ≡ Some h
first_prepare (Some c) p d h e = cc
first_prepare None (Some g) d h e = cc
first_prepare None None (Some c) h e = cc
first_prepare None None None h e = cc

if_some : {A : Type 0} (b : Bool) (o : Option A) (x : A) → (if b then o else None) ≡ Some x → b ≡ true
if_some true o x e = refl
if_some false o x e = cc

none_of : {A : Type 0} (o : Option A) → is_none o ≡ true → o ≡ None
none_of None e = refl
none_of (Some x) e = cc

unset : (b : Bool) → not b ≡ true → b ≡ false
unset false e = refl
unset true e = cc

-- nothing was accepted where an acceptance is due, and nothing prepared where a preparation is
pub told_unaccepted : (accepts : Accepts) (c : Core) (b : Block) → duty_in (act_of.Accept b) ≡ duty accepts c
    → c.view.accepted ≡ None
told_unaccepted accepts c b e =
    let some = first_accept (acceptance_due accepts c.place c.view) (preparation_due c.place c.view)
    (delivery_due c.place c.view) b e in
    none_of c.view.accepted (and_parts _ _ (if_some _ _ b some)).1

pub told_unprepared : (accepts : Accepts) (c : Core) (d : List ℕ) → duty_in (act_of.Prepare d) ≡ duty accepts c
    → c.view.is_prepared ≡ false
told_unprepared accepts c d e =
    let some = first_prepare (acceptance_due accepts c.place c.view) (preparation_due c.place c.view)
    (delivery_due c.place c.view) d e in
    unset c.view.is_prepared (and_parts _ _ (if_some _ _ d some)).1

digest_if-accepted : (place : Place) (w : View) (o : Option Block) (d : List ℕ) → digest_if place w o ≡ Some d
    → (b : Block) × (o ≡ Some b)
digest_if-accepted place w (Some b) d e = (b, refl)
digest_if-accepted place w None d e = cc

acceptance_if : (accepts : Accepts) (place : Place) (w : View) → is_none w.accepted ≡ false
    → acceptance_due accepts place w ≡ None
acceptance_if accepts place w e = rw (and_right (is_voting place w && is_inside_view w) (is_none w.accepted) e)

none-accepted : (o : Option Block) (b : Block) → o ≡ Some b → is_none o ≡ false
none-accepted (Some c) b e = refl
none-accepted None b e = cc

-- nothing is to be accepted where something was
pub acceptance_due-accepted : (accepts : Accepts) (place : Place) (w : View) (b : Block) → w.accepted ≡ Some b
    → acceptance_due accepts place w ≡ None
acceptance_due-accepted accepts place w b e = acceptance_if accepts place w (none-accepted w.accepted b e)

-- what is prepared has been accepted
pub preparation_due-accepted : (place : Place) (w : View) (d : List ℕ) → preparation_due place w ≡ Some d → (b : Block) × (w.accepted ≡ Some b)
preparation_due-accepted place w d e =
    elim (cases_Bool (is_voting place w && is_inside_view w && not w.is_prepared)) [
      | inl t ↦ digest_if-accepted place w w.accepted d (rw t at e)
      | inr f ↦ (let no : None ≡ Some d = rw f at e in cc)
    ]

-- A PREPARE

prepare_told : (p : Option (List ℕ)) (b : Bool) (o : Option Reason) (r : Reason) (d : List ℕ) → act_or (prepare_act p) (kept_or b o r) ≡ act_of.Prepare d → p ≡ Some d
prepare_told (Some x) b o r d e = cc
prepare_told None true o r d e = cc
prepare_told None false None r d e = cc
prepare_told None false (Some s) r d e = cc

prepare_not_told : (p : Option (List ℕ)) (b : Bool) (o : Option Reason) (r : Reason) (w : View) → ((d : List ℕ) → act_or (prepare_act p) (kept_or b o r) ≡ act_of.Prepare d → ⊥) → after_act (act_or (prepare_act p) (kept_or b o r)) w ≡ w
prepare_not_told (Some x) b o r w h = absurd (h x refl)
prepare_not_told None true o r w h = refl
prepare_not_told None false None r w h = refl
prepare_not_told None false (Some s) r w h = refl

first_prepared : (a : Option Block) (p : Option (List ℕ)) (d : Option (Block × Cert)) (digest : List ℕ) → a ≡ None
    → p ≡ Some digest → Some (duty_of.Prepare digest) ≡ first_some (accept_duty a ∷ prepare_duty p ∷ deliver_duty d ∷ [])
first_prepared a p d digest e f = rw (e, f)

-- what a Prepare is answered by, and what it leaves, at the place
module _ (accepts : Accepts) (place : Place) (w : View) (from : ℕ) (message : Prepare) (act : Act) (left : View) (at : StandsAt place w) (answer : act ≡ prepare_answer place (at_place place w) (record { from = from; message = message_of.Prepare message })) (after : left ≡ after_prepare place w (record { from = from; message = message_of.Prepare message })) where
  abbrev kept_view : View
  kept_view = kept_after accepts place w (record { from = from; message = message_of.Prepare message })

  answer_here : act ≡ prepare_answer place w (record { from = from; message = message_of.Prepare message })
  answer_here = answer ∙ ap (λ v. prepare_answer place v (record { from = from; message = message_of.Prepare message })) (at_place-at place w at)

  left_here : left ≡ after_act act kept_view
  left_here = after ∙ ap (λ v. after_act (prepare_answer place v (record { from = from; message = message_of.Prepare message })) (kept_after accepts_nothing place v (record { from = from; message = message_of.Prepare message }))) (at_place-at place w at) ∙ ap (λ a. after_act a kept_view) (sym answer_here)

  pub left-prepared : (d : List ℕ) → act ≡ act_of.Prepare d → left ≡ after_act (act_of.Prepare d) kept_view
  left-prepared d e = left_here ∙ ap (λ a. after_act a kept_view) e

  pub due-prepared : (d : List ℕ) → act ≡ act_of.Prepare d → (found : Option Found)
      → Some (duty_of.Prepare d) ≡ duty accepts (record { place = place; view = kept_view; found = found })
  due-prepared d e found =
      let p = prepare_told (preparation_due place kept_view) _ _ _ d (sym answer_here ∙ e) in
      let accepted = preparation_due-accepted place kept_view d p in
      first_prepared (acceptance_due accepts place kept_view) (preparation_due place kept_view) (delivery_due place kept_view) d (acceptance_due-accepted accepts place kept_view accepted.0 accepted.1) p

  pub left-kept : ((d : List ℕ) → act ≡ act_of.Prepare d → ⊥) → left ≡ kept_view
  left-kept h = left_here ∙ ap (λ a. after_act a kept_view) answer_here ∙ prepare_not_told (preparation_due place kept_view) _ _ _ kept_view (λ d e. h d (answer_here ∙ e))
