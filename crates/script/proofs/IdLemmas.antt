-- The ids that a line may name have a spelling.
use Rattle.std.proofs.Common.{ℕ, suc, ◌+◌, ◌<◌, ◌≤◌, List, [], ◌∷◌, length, get_or, arith}
use Rattle.std.specs.List.{AllByRecursion, AllPairs}
use Rattle.std.proofs.lemmas.List.Elements.{recursion_from_All}
use Rattle.std.proofs.lemmas.List.Kept.{AllPairs-from_increasing}
use Rattle.ord_types.specs.Grammar.{Ascend, HasIdsSpelling, IsWord}
use Rattle.script.specs.Commands.{AreIds, IsId}

positive : (xs : List ℕ) → AllByRecursion IsId xs → AllByRecursion (λ x. 1 ≤ x) xs
positive [] all = tt
positive (x ∷ xs) all = (all.0.positive, positive xs all.1)

words : (xs : List ℕ) → AllByRecursion IsId xs → AllByRecursion IsWord xs
words [] all = tt
words (x ∷ xs) all = ((let below = all.0.below in omega arith), words xs all.1)

ascend_pairs : (least : ℕ) (xs : List ℕ) → ((j : ℕ) (d : ℕ) → j < length xs → least ≤ get_or xs j d) → AllPairs (λ x y. x < y) xs → Ascend least xs
ascend_pairs least [] from all = tt
ascend_pairs least (x ∷ xs) from all = (
  from 0 x (omega arith),
  ascend_pairs (x + 1) xs (λ j d lt. (let above : x < get_or xs j d = all 0 (suc j) d (omega arith) (omega arith) in omega arith))
      (λ i j d lt le. all (suc i) (suc j) d (omega arith) (omega arith)),
)

lower : (a b : ℕ) (xs : List ℕ) → a ≤ b → Ascend b xs → Ascend a xs
lower a b [] le up = tt
lower a b (x ∷ xs) le up = let from : b ≤ x = up.0 in (omega arith, up.1)

from_one : (xs : List ℕ) → AllByRecursion (λ x. 1 ≤ x) xs → Ascend 0 xs → Ascend 1 xs
from_one [] all up = tt
from_one (x ∷ xs) all up = (all.0, up.1)

pub ids_spelled : (ids : List ℕ) → AreIds ids → HasIdsSpelling ids
ids_spelled ids are =
    let each = recursion_from_All IsId ids are.each in
    let up : Ascend 0 ids = ascend_pairs 0 ids (λ j d lt. omega arith) (AllPairs-from_increasing ids are.ascending) in
    record {
      count = are.few;
      ascending = from_one ids (positive ids each) up;
      words = words ids each;
    }
