-- What the fold of records leaves, from what counts of them.
use Rattle.std.proofs.Common.{◌≡◌, ◌⊎◌, inl, inr, ℕ, ◌≤◌, Bool, true, false, ◌||◌, List, [], ◌∷◌, ◌++◌, Option, Some, None, filter, refl, ap, subst, arith}
use Rattle.std.specs.Prelude.{nat_le, if◌then◌else◌}
use Rattle.std.specs.List.{AllByRecursion, last_or, list_any}
use Rattle.std.proofs.lemmas.Bool.Decides.{leb_tells}
use Rattle.std.proofs.lemmas.Option.{none-some, same_Some}
use Rattle.bft_wal.specs.Fold.{newest, later}

-- ANY LISTS

pub all_more : {X : Type 0} (P : X → Type 0) (xs : List X) (x : X) → AllByRecursion P xs → P x → AllByRecursion P (xs ++ x ∷ [])
all_more P [] x all here = (here, tt)
all_more P (y ∷ xs) x all here = (all.0, all_more P xs x all.1 here)

pub all_to : {X : Type 0} (P Q : X → Type 0) → ((x : X) → P x → Q x) → (xs : List X) → AllByRecursion P xs → AllByRecursion Q xs
all_to P Q to [] all = tt
all_to P Q to (x ∷ xs) all = (to x all.0, all_to P Q to xs all.1)

-- all pass the test
pub filter_all : {X : Type 0} (p : X → Bool) (xs : List X) → AllByRecursion (λ x. p x ≡ true) xs → filter p xs ≡ xs
filter_all p [] all = refl
filter_all p (x ∷ xs) all = rw all.0 (ap (λ (l : List _). x ∷ l) (filter_all p xs all.1))

last_of : {X : Type 0} (first : X) (xs : List X) → (x : X) × (last_or (Some first) xs ≡ Some x)
last_of first [] = (first, refl)
last_of first (y ∷ ys) = last_of y ys

last_by : {X : Type 0} (b : Bool) (first : Option X) (x : X) (xs : List X) → ((y : X) × (last_or first xs ≡ Some y)) ⊎ (b ≡ true) → (y : X) × (last_or first (if b then x ∷ xs else xs) ≡ Some y)
last_by true first x xs h = last_of x xs
last_by false first x xs (inl h) = h
last_by false first x xs (inr h) = absurd cc

rest_or : (b c : Bool) → (b || c) ≡ true → (c ≡ true) ⊎ (b ≡ true)
rest_or true c h = inr refl
rest_or false c h = inl h

-- one of them passes
pub any_last : {X : Type 0} (p : X → Bool) (first : Option X) (xs : List X) → list_any p xs ≡ true → (x : X) × (last_or first (filter p xs) ≡ Some x)
any_last p first [] h = absurd cc
any_last p first (x ∷ xs) h = last_by (p x) first x (filter p xs) (elim (rest_or (p x) (list_any p xs) h) [ inl k ↦ inl (any_last p first xs k) | inr k ↦ inr k ])

-- NEWEST

later_by : {X : Type 0} (b : Bool) (P : X → Type 0) (y z x : X) → P y → P z → (if b then Some z else Some y) ≡ Some x → P x
later_by true P y z x py pz h = subst P (same_Some z x h) pz
later_by false P y z x py pz h = subst P (same_Some y x h) py

later_has : {X : Type 0} (view : X → ℕ) (P : X → Type 0) (y : X) (o : Option X) (x : X) → P y → ((z : X) → o ≡ Some z → P z) → later view y o ≡ Some x → P x
later_has view P y None x py rest h = subst P (same_Some y x h) py
later_has view P y (Some z) x py rest h = later_by (nat_le (view y) (view z)) P y z x py (rest z refl) h

pub newest_has : {X : Type 0} (view : X → ℕ) (P : X → Type 0) (xs : List X) (x : X) → AllByRecursion P xs → newest view xs ≡ Some x → P x
newest_has view P [] x all h = absurd (none-some x h)
newest_has view P (y ∷ ys) x all h = later_has view P y (newest view ys) x all.0 (λ z is. newest_has view P ys z all.1 is) h

-- the last one is of no lower view than the others
pub newest_last : {X : Type 0} (view : X → ℕ) (xs : List X) (x : X) → AllByRecursion (λ y. view y ≤ view x) xs → newest view (xs ++ x ∷ []) ≡ Some x
newest_last view [] x all = refl
newest_last view (y ∷ ys) x all =
    let le : nat_le (view y) (view x) ≡ true = elim (leb_tells (view y) (view x)) [ inl a ↦ a.0 | inr b ↦ absurd (omega (arith, all.0, b.1)) ] in
    rw (newest_last view ys x all.1, le) refl
