use Rattle.std.proofs.Common.{◌≡◌, ◌≤◌, map, take}
use Rattle.safety_model.specs.Facts.{Sig}
use Rattle.ord_types.specs.Members.{how_many, is_in}
use Rattle.safety_model.proofs.history.signed_of.Given as goal

abbrev pub invariant-loop-member : goal.invariant-loop-member
invariant-loop-member l = (l.count ≡ how_many (λ j. is_in j (map (λ (s : Sig). s.signer) l.sigs)) (take l.member-index l.members)) × (l.count ≤ l.member-index)
