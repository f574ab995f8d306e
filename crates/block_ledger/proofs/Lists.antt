-- Places of a list.
use Rattle.std.proofs.Common.{◌≡◌, inl, inr, ℕ, zero, suc, ◌+◌, ◌<◌, List, [], ◌∷◌, ◌++◌, length, refl, sym, ◌∙◌, ap, arith, Some}
use Rattle.std.specs.Prelude.{◌⊎◌, slice_get}
use Rattle.std.proofs.lemmas.Option.{none-some, same_Some}

-- behind the first one
pub get_behind : {X : Type 0} (x : X) (xs : List X) (i : ℕ) → slice_get (x ∷ xs) (i + 1) ≡ slice_get xs i
get_behind x xs i = let e : i + 1 ≡ suc i = omega arith in ap (λ n. slice_get (x ∷ xs) n) e

-- in a front
pub get_front : {X : Type 0} (xs ys : List X) (i : ℕ) → i < length xs → slice_get (xs ++ ys) i ≡ slice_get xs i
get_front [] ys i lt = absurd (omega arith)
get_front (x ∷ xs) ys zero lt = refl
get_front (x ∷ xs) ys (suc i) lt = get_front xs ys i (omega arith)

-- behind a front
pub get_seam : {X : Type 0} (xs : List X) (y : X) (ys : List X) → slice_get (xs ++ y ∷ ys) (length xs) ≡ Some y
get_seam [] y ys = refl
get_seam (x ∷ xs) y ys = get_seam xs y ys

-- with one more at the end, a place is one of those before, or the last one
pub get_last : {X : Type 0} (xs : List X) (e : X) (i : ℕ) (x : X) → slice_get (xs ++ e ∷ []) i ≡ Some x → ((slice_get xs i ≡ Some x) × (i < length xs)) ⊎ ((i ≡ length xs) × (e ≡ x))
get_last [] e zero x h = inr (refl, same_Some e x h)
get_last [] e (suc i) x h = absurd (none-some x h)
get_last (y ∷ ys) e zero x h = inl (h, omega arith)
get_last (y ∷ ys) e (suc i) x h = elim (get_last ys e i x h) [ inl k ↦ inl (k.0, omega (arith, k.1)) | inr k ↦ inr (omega (arith, k.0), k.1) ]

-- what stands behind a place stands behind one
pub get_before : {X : Type 0} (xs : List X) (i : ℕ) (x : X) → slice_get xs (i + 1) ≡ Some x → (y : X) × (slice_get xs i ≡ Some y)
get_before [] i x h = absurd (none-some x h)
get_before (y ∷ ys) zero x h = (y, refl)
get_before (y ∷ ys) (suc i) x h =
    let e : suc i + 1 ≡ suc (i + 1) = omega arith in
    get_before ys i x (ap (λ n. slice_get (y ∷ ys) n) (sym e) ∙ h)
