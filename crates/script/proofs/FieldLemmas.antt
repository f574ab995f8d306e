-- Lemmas on fields.
use Rattle.std.proofs.Common.{◌≡◌, ℕ, ◌+◌, ◌<◌, ◌≤◌, List, [], ◌∷◌, ◌++◌, eqb, length, get_or, drop, sym, ap, refl, arith, Option, Some, None}
use Rattle.std.proofs.lemmas.List.{append_assoc}
use Rattle.std.proofs.lemmas.List.Splits.{length-slice_split}
use Rattle.std.specs.List.{slice_split}
use Rattle.script.specs.Fields.{nibble, pair_of, pairs_of, onto, behind, parts_left, range_of, range_of_parts}

behind-onto : (out : List ℕ) (b : ℕ) (found : Option (List ℕ)) → behind out (onto (Some b) found) ≡ behind (out ++ b ∷ []) found
behind-onto out b None = refl
behind-onto out b (Some more) = ap (λ (xs : List ℕ). Some xs) (sym (append_assoc out (b ∷ []) more))

-- one pair of digits more
pub pairs_step : (out left : List ℕ) (b : ℕ) → 2 ≤ length left → pair_of (nibble (get_or left 0 0)) (nibble (get_or left 1 0)) ≡ Some b
    → behind (out ++ b ∷ []) (pairs_of (drop 2 left)) ≡ behind out (pairs_of left)
pairs_step out [] b l e = absurd (omega arith)
pairs_step out (x ∷ []) b l e = absurd (omega arith)
pairs_step out (x ∷ y ∷ more) b l e = rw e (sym (behind-onto out b (pairs_of more)))

-- how much is left to read
abbrev pub room_left : Option (List ℕ) → ℕ
room_left None = 0
room_left (Some text) = length text + 1

-- three parts or more are no range
range_three : (first last : List ℕ) (parts : List (List ℕ)) → 0 < length parts → range_of_parts (first ∷ last ∷ parts) ≡ None
range_three first last [] h = absurd (omega arith)
range_three first last (other ∷ more) h = refl

pub range_of_three : (text first rest last third : List ℕ)
    → slice_split (λ b. eqb b 45) text ≡ first ∷ parts_left 45 (Some rest) → slice_split (λ b. eqb b 45) rest ≡ last ∷ parts_left 45 (Some third)
    → range_of text ≡ None
unfolding range_of
range_of_three text first rest last third cut again =
    rw (cut, again) (range_three first last (slice_split (λ b. eqb b 45) third) (omega (arith, length-slice_split (λ b. eqb b 45) third)))
