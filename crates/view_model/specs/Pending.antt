-- How much can still be due: three acts at each number for which something is kept, and the rest at its own.
use Rattle.std.specs.Prelude.{
  ℕ,
  ◌+◌,
  ◌*◌,
  ◌==◌,
  Bool,
  ◌||◌,
  false,
  nat_lt,
  List,
  [],
  ◌∷◌,
  Option,
  Some,
  None,
  if◌then◌else◌,
}
use Rattle.ord_types.specs.declared.values.Block.{Block}
use Rattle.view_model.specs.declared.letter.Letter.{Letter}
use Rattle.view_model.specs.Acts.{View}
use Rattle.view_model.specs.Leading.{Place}
use Rattle.view_model.specs.Letters.{number_in}

abbrev pub count : Bool → ℕ
count b = if b then 1 else 0

-- how many are kept for numbers above this one
abbrev pub later : ℕ → List Letter → ℕ
later s [] = 0
later s (l ∷ ls) = count (nat_lt s (number_in l.message)) + later s ls

-- whether one is kept for this number
abbrev pub has_here : ℕ → List Letter → Bool
has_here s [] = false
has_here s (l ∷ ls) = (number_in l.message == s) || has_here s ls

abbrev pub rank : Option Block → Bool → Bool → ℕ
rank None prepared here = if here then 3 else 0
rank (Some b) prepared here = if prepared then 1 else 2

-- less after each act
abbrev pub still_at : Place → View → ℕ
still_at place w =
    3 * later place.height w.kept + rank w.accepted w.is_prepared (has_here place.height w.kept)
