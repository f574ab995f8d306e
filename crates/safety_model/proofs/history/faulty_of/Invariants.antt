use Rattle.std.proofs.Common.{◌≡◌, ◌≤◌, take}
use Rattle.ord_types.specs.Members.{how_many, is_in}
use Rattle.safety_model.proofs.history.faulty_of.Given as goal

abbrev pub invariant-loop-member : goal.invariant-loop-member
invariant-loop-member l = (l.count ≡ how_many (λ j. is_in j l.byzantine) (take l.member-index l.members)) × (l.count ≤ l.member-index)
