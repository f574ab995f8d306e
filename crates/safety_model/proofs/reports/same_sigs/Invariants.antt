use Rattle.std.proofs.Common.{◌≡◌, ◌≤◌, length, drop}
use Rattle.std.specs.Cmp.Lexicographic.{pointwise}
use Rattle.safety_model.specs.Reports.{sig_eq}
use Rattle.safety_model.proofs.reports.same_sigs.Given as goal

abbrev pub invariant-loop-place : goal.invariant-loop-place
invariant-loop-place l = (l.place ≤ length l.a) × (pointwise sig_eq l.a l.b ≡ pointwise sig_eq (drop l.place l.a) (drop l.place l.b))
