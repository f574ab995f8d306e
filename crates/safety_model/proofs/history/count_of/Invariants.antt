use Rattle.std.proofs.Common.{◌≡◌, ◌≤◌, ◌||◌, reverse, take}
use Rattle.safety_model.specs.Facts.{has}
use Rattle.ord_types.specs.Members.{how_many, is_in}
use Rattle.safety_model.specs.Queries.{is_asked}
use Rattle.safety_model.proofs.history.count_of.Given as goal

abbrev pub invariant-loop-member : goal.invariant-loop-member
invariant-loop-member l = (l.count ≡ how_many (λ j. is_in j l.byzantine || has (is_asked l.query j) (reverse l.facts)) (take l.member-index l.members)) × (l.count ≤ l.member-index)
