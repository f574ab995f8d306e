-- Lists that are looked at one by one.
use Rattle.std.proofs.Common.{◌≡◌, ℕ, zero, suc, ◌+◌, ◌<◌, List, [], ◌∷◌, length, drop, get_or, sym, ap, ◌∙◌, arith}

-- what is left, from the next one on
pub drop_one : {X : Type 0} (xs : List X) (i : ℕ) (x : X) → i < length xs → x ≡ get_or xs i x → drop i xs ≡ x ∷ drop (i + 1) xs
drop_one [] i x within is = absurd (omega (arith, within))
drop_one (y ∷ ys) zero x within is = ap (λ z. z ∷ ys) (sym is)
drop_one (y ∷ ys) (suc i) x within is = let e : suc i + 1 ≡ suc (i + 1) = omega arith in drop_one ys i x (omega (arith, within)) is ∙ sym (ap (λ n. x ∷ drop n (y ∷ ys)) e)
