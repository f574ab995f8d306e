-- There is room for what is held: a slot for each member, kind and number, and at most one message in each.
use Rattle.std.proofs.Common.{length-append, ◌≡◌, ℕ, ◌+◌, ◌*◌, ◌-◌, ◌<◌, ◌≤◌, Bool, true, false, cond, ◌==◌, List, [], ◌∷◌, ◌++◌, length, map, filter, refl, sym, ◌∙◌, ◌⊎◌, inl, inr, arith, IsTrue}
use Rattle.std.specs.List.{list_any, list_all, IsDistinct, AllByRecursion}
use Rattle.std.specs.Cmp.{IsEquivalence}
use Rattle.std.proofs.lemmas.Bool.{and_parts, and_from, or_cases, eqb-true, eq-eqb, ne_eqb, cases_Bool, both_ways}
use Rattle.std.proofs.lemmas.Bool.Decides.{nat_tests}
use Rattle.std.proofs.lemmas.List.Folds.{list_all-append}
use Rattle.std.proofs.lemmas.Map.Keys.{IsDistinct-push}
use Rattle.std.proofs.lemmas.Map.Steps.{length-le_from_distinct_below}
use Rattle.ord_types.specs.Members.{is_in}
use Rattle.view_model.specs.declared.letter.Letter.{Letter}
use Rattle.view_model.specs.Letters.{kind_of, number_in, config_in, view_in, same_slot}
use Rattle.view_model.specs.declared.letter.VoteMessage.{VoteMessage}
use Rattle.view_model.specs.declared.letter.VoteMessage.TheVariants as message_of
use Rattle.view_model.specs.Answers.{is_near}
use Rattle.view_core.specs.Held.{IsHeld, is_held, is_short}

same_slot_equiv : IsEquivalence same_slot
same_slot_equiv = record { refl = λ x. grind (arith, nat_tests); symm = λ x y. grind (arith, nat_tests); congr = λ x y z h. grind (arith, nat_tests) }

-- where an id stands among ids
abbrev place : ℕ → List ℕ → ℕ
place id [] = 0
place id (m ∷ ms) = cond (m == id) 0 (place id ms + 1)

place_below : (id : ℕ) (ms : List ℕ) → is_in id ms ≡ true → place id ms < length ms
place_below id [] h = grind arith
place_below id (m ∷ ms) h =
    elim (cases_Bool (m == id)) [
      | inl e ↦ rw e (omega arith)
      | inr e ↦ (let r = place_below id ms (rw e at h) in rw e (omega arith))
    ]

same_place : (a b : ℕ) (ms : List ℕ) → is_in a ms ≡ true → is_in b ms ≡ true → place a ms ≡ place b ms → a ≡ b
same_place a b [] h k e = grind arith
same_place a b (m ∷ ms) h k e =
    elim (cases_Bool (m == a)) [
      | inl p ↦ elim (cases_Bool (m == b)) [
        | inl q ↦ sym (eqb-true m a p) ∙ eqb-true m b q
        | inr q ↦ absurd (omega (arith, rw (p, q) at e))
      ]
      | inr p ↦ elim (cases_Bool (m == b)) [
        | inl q ↦ absurd (omega (arith, rw (p, q) at e))
        | inr q ↦ (let f : place a ms ≡ place b ms = omega (arith, rw (p, q) at e) in same_place a b ms (rw p at h) (rw q at k) f)
      ]
    ]

kinds : (m : VoteMessage) → (1 ≤ kind_of m) × (kind_of m ≤ 3)
kinds (message_of.PrePrepare m) = (omega arith, omega arith)
kinds (message_of.Prepare m) = (omega arith, omega arith)
kinds (message_of.Commit m) = (omega arith, omega arith)

-- the slot of a letter
abbrev slot : List ℕ → ℕ → Letter → ℕ
slot members height letter = 6 * place letter.from members + 2 * (kind_of letter.message - 1) + (number_in letter.message - height)

record IsNear (config : ℕ) (members : List ℕ) (view height : ℕ) (letter : Letter) : Type 0 where
  among : is_in letter.from members ≡ true
  same_config : config_in letter.message ≡ config
  same_view : view_in letter.message ≡ view
  above : height ≤ number_in letter.message
  below : number_in letter.message ≤ height + 1

near : (config : ℕ) (members : List ℕ) (view height : ℕ) (letter : Letter) → is_held config members view height letter ≡ true → IsNear config members view height letter
near config members view height letter h =
    let three = and_parts _ _ h in
    let two = and_parts _ _ three.0 in
    let one = and_parts _ _ two.0 in
    let short = and_parts (is_short letter.message) (is_in letter.from members) one.0 in
    let number : (number_in letter.message ≡ height) ⊎ (number_in letter.message ≡ height + 1) = grind (arith, nat_tests, three.1) in
    record {
      among = short.1;
      same_config = eqb-true _ _ one.1;
      same_view = eqb-true _ _ two.1;
      above = elim number [ inl e ↦ omega arith | inr e ↦ omega arith ];
      below = elim number [ inl e ↦ omega arith | inr e ↦ omega arith ];
    }

slot_below : (config : ℕ) (members : List ℕ) (view height : ℕ) (x : Letter) → length members ≤ 31 → is_held config members view height x ≡ true → slot members height x < 186
slot_below config members view height x few h =
    let n = near config members view height x h in
    let p = place_below x.from members n.among in
    let k = kinds x.message in
    let k0 = k.0 in let k1 = k.1 in let above = n.above in let below = n.below in
    omega arith

same_slot_of : (config : ℕ) (members : List ℕ) (view height : ℕ) (x y : Letter) → is_held config members view height x ≡ true → is_held config members view height y ≡ true → slot members height x ≡ slot members height y → same_slot x y ≡ true
same_slot_of config members view height x y h i e =
    let n = near config members view height x h in
    let m = near config members view height y i in
    let k = kinds x.message in let l = kinds y.message in
    let k0 = k.0 in let k1 = k.1 in let l0 = l.0 in let l1 = l.1 in
    let na = n.above in let nb = n.below in let ma = m.above in let mb = m.below in
    let places : place x.from members ≡ place y.from members = omega arith in
    let kind : kind_of x.message ≡ kind_of y.message = omega arith in
    let number : number_in x.message ≡ number_in y.message = omega arith in
    and_from _ _ (and_from _ _ (and_from _ _ (and_from _ _ (eq-eqb _ _ (same_place x.from y.from members n.among m.among places)) (eq-eqb _ _ kind)) (eq-eqb _ _ (n.same_config ∙ sym m.same_config))) (eq-eqb _ _ (n.same_view ∙ sym m.same_view))) (eq-eqb _ _ number)

apart_slots : (config : ℕ) (members : List ℕ) (view height : ℕ) (x : Letter) (ys : List Letter) → is_held config members view height x ≡ true → list_all (is_held config members view height) ys ≡ true → AllByRecursion (λ y. same_slot x y ≡ false) ys → AllByRecursion (λ n. (slot members height x == n) ≡ false) (map (slot members height) ys)
apart_slots config members view height x [] h all apart = tt
apart_slots config members view height x (y ∷ ys) h all apart =
    let both = and_parts _ _ all in (
      ne_eqb _ _ (λ e. both_ways _ apart.0 (same_slot_of config members view height x y h both.0 e)),
      apart_slots config members view height x ys h both.1 apart.1,
    )

distinct_slots : (config : ℕ) (members : List ℕ) (view height : ℕ) (xs : List Letter) → list_all (is_held config members view height) xs ≡ true → IsDistinct same_slot xs → IsDistinct (λ m n. m == n) (map (slot members height) xs)
unfolding IsDistinct
distinct_slots config members view height [] all d = tt
distinct_slots config members view height (x ∷ xs) all d =
    let both = and_parts _ _ all in
    (apart_slots config members view height x xs both.0 both.1 d.0, distinct_slots config members view height xs both.1 d.1)

slots_below : (config : ℕ) (members : List ℕ) (view height : ℕ) (xs : List Letter) → length members ≤ 31 → list_all (is_held config members view height) xs ≡ true → (q : ℕ) → list_any (λ n. q == n) (map (slot members height) xs) ≡ true → q < 186
slots_below config members view height [] few all q h = grind arith
slots_below config members view height (x ∷ xs) few all q h =
    let both = and_parts _ _ all in
    elim (or_cases _ _ h) [
      | inl e ↦ (let eq = eqb-true q (slot members height x) e in let lt = slot_below config members view height x few both.0 in omega arith)
      | inr e ↦ slots_below config members view height xs few both.1 q e
    ]

length_map : {A B : Type 0} (f : A → B) (xs : List A) → length (map f xs) ≡ length xs
length_map f [] = refl
length_map f (x ∷ xs) = (let e = length_map f xs in omega arith)

-- there is room for what is held
pub held_length : (config : ℕ) (members : List ℕ) (view height : ℕ) (kept : List Letter) → IsHeld config members view height kept → length kept ≤ 186
held_length config members view height kept h =
    let bound = length-le_from_distinct_below (map (slot members height) kept) 186 (distinct_slots config members view height kept h.held h.distinct) (slots_below config members view height kept h.few h.held) in
    let same = length_map (slot members height) kept in
    omega arith

-- one more, which is no repeat
pub held_more : (config : ℕ) (members : List ℕ) (view height : ℕ) (kept : List Letter) (letter : Letter) → IsHeld config members view height kept → IsTrue (is_held config members view height letter) → list_any (same_slot letter) kept ≡ false → IsHeld config members view height (kept ++ letter ∷ [])
held_more config members view height kept letter h fits new = record {
  few = h.few;
  held = list_all-append (is_held config members view height) kept (letter ∷ []) ∙ and_from _ _ h.held (and_from _ _ fits refl);
  distinct = IsDistinct-push same_slot_equiv kept letter h.distinct new;
}

-- there is room for one more, which is no repeat
pub held_room : (config : ℕ) (members : List ℕ) (view height : ℕ) (kept : List Letter) (letter : Letter) → IsHeld config members view height kept → IsTrue (is_held config members view height letter) → list_any (same_slot letter) kept ≡ false → length kept < 186
held_room config members view height kept letter h fits new =
    let all = held_length config members view height (kept ++ letter ∷ []) (held_more config members view height kept letter h fits new) in
    omega (arith, simp length-append at all)

apart_filter : (test : Letter → Bool) (x : Letter) (ys : List Letter) → AllByRecursion (λ y. same_slot x y ≡ false) ys → AllByRecursion (λ y. same_slot x y ≡ false) (filter test ys)
apart_filter test x [] h = tt
apart_filter test x (y ∷ ys) h =
    elim (cases_Bool (test y)) [ inl e ↦ rw e (h.0, apart_filter test x ys h.1) | inr e ↦ rw e (apart_filter test x ys h.1) ]

distinct_filter : (test : Letter → Bool) (xs : List Letter) → IsDistinct same_slot xs → IsDistinct same_slot (filter test xs)
unfolding IsDistinct
distinct_filter test [] d = tt
distinct_filter test (x ∷ xs) d =
    elim (cases_Bool (test x)) [ inl e ↦ rw e (apart_filter test x xs d.0, distinct_filter test xs d.1) | inr e ↦ rw e (distinct_filter test xs d.1) ]

held_filter : (config : ℕ) (members : List ℕ) (view height next : ℕ) (xs : List Letter) → list_all (is_held config members view height) xs ≡ true → list_all (is_held config members view next) (filter (is_near next) xs) ≡ true
held_filter config members view height next [] h = refl
held_filter config members view height next (x ∷ xs) h =
    let both = and_parts _ _ h in
    let rest = held_filter config members view height next xs both.1 in
    elim (cases_Bool (is_near next x)) [
      | inl e ↦ rw e (and_from _ _ (and_from _ _ (and_parts _ _ both.0).0 e) rest)
      | inr e ↦ rw e rest
    ]

-- what is held, of the numbers of another height
pub held_at : (config : ℕ) (members : List ℕ) (view height next : ℕ) (kept : List Letter) → IsHeld config members view height kept → IsHeld config members view next (filter (is_near next) kept)
held_at config members view height next kept h = record {
  few = h.few;
  held = held_filter config members view height next kept h.held;
  distinct = distinct_filter (is_near next) kept h.distinct;
}

apart_front : (x : Letter) (ys zs : List Letter) → AllByRecursion (λ y. same_slot x y ≡ false) (ys ++ zs) → AllByRecursion (λ y. same_slot x y ≡ false) ys
apart_front x [] zs h = tt
apart_front x (y ∷ ys) zs h = (h.0, apart_front x ys zs h.1)

distinct_front : (xs zs : List Letter) → IsDistinct same_slot (xs ++ zs) → IsDistinct same_slot xs
unfolding IsDistinct
distinct_front [] zs d = tt
distinct_front (x ∷ xs) zs d = (apart_front x xs zs d.0, distinct_front xs zs d.1)

-- the first of what is held
pub held_front : (config : ℕ) (members : List ℕ) (view height : ℕ) (xs zs : List Letter) → IsHeld config members view height (xs ++ zs) → IsHeld config members view height xs
held_front config members view height xs zs h = record {
  few = h.few;
  held = (and_parts _ _ (sym (list_all-append (is_held config members view height) xs zs) ∙ h.held)).0;
  distinct = distinct_front xs zs h.distinct;
}

-- nothing is held
pub held_none : (config : ℕ) (members : List ℕ) (view height : ℕ) → length members ≤ 31 → IsHeld config members view height []
unfolding IsDistinct
held_none config members view height few = record { few = few; held = refl; distinct = tt }
