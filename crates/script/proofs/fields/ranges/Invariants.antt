use Rattle.std.proofs.Common.{◌≡◌, option_copied}
use Rattle.script.specs.Fields.{ranges_from, parts_left, behind, ranges_of}
use Rattle.script.proofs.FieldLemmas.{room_left}
use Rattle.script.proofs.fields.ranges.Given as goal

abbrev pub invariant-loop-left : goal.invariant-loop-left
invariant-loop-left l = behind l.ranges (ranges_from (parts_left 44 (option_copied l.left))) ≡ ranges_of l.text

abbrev pub decreases-loop-left : goal.decreases-loop-left
decreases-loop-left l = room_left (option_copied l.left)
