-- Signed reports, and the best preparation that passes among those looked at so far.
use Rattle.std.specs.Prelude.{◌≡◌, ℕ, Bool, false, ◌&&◌, ◌==◌, nat_lt, nat_le, List, map, Option, Some, None, IsTrue, if◌then◌else◌}
pub use Rattle.bft_wire.specs.declared.message.Signed.{Signed}
use Rattle.ord_types.specs.Members.{fault_bound, quorum}
pub use Rattle.ord_types.specs.declared.values.Report.{Report}
pub use Rattle.ord_types.specs.declared.values.Vote.{Vote}
use Rattle.safety_model.specs.Choosing.{heard, is_better, is_told_at, passes}
use Rattle.safety_model.specs.Reports.{tells_accepted, tells_at_most}

-- the reports
abbrev pub reports_in : List Signed → List Report
reports_in ss = map (λ (s : Signed). s.report) ss

-- who signed them
abbrev pub signers_in : List Signed → List ℕ
signers_in ss = map (λ (s : Signed). s.sig.signer) ss

-- enough of n members' reports of height x tell no preparation against the vote, and enough tell its acceptance
abbrev pub are_enough : ℕ → ℕ → List Report → Vote → Bool
are_enough n x rs vote =
    nat_le (quorum n) (heard x (tells_at_most vote) rs) && nat_lt (fault_bound n) (heard x (tells_accepted vote) rs)

-- the preparation that a report tells, where the report is of height x and the preparation passes
abbrev pub passing_if : ℕ → ℕ → List Report → ℕ → Option Vote → Option Vote
passing_if n x rs height None = None
passing_if n x rs height (Some vote) = if (height == x) && are_enough n x rs vote then Some vote else None

abbrev pub passing_of : ℕ → ℕ → List Report → Report → Option Vote
passing_of n x rs r = passing_if n x rs r.height r.prepared

-- of two votes the better one
abbrev pub better_of : Option Vote → Option Vote → Option Vote
better_of None best = best
better_of (Some vote) None = Some vote
better_of (Some vote) (Some best) = if is_better vote best then Some vote else Some best

-- the best of the passing preparations that `these` tell, or none where none passes
abbrev pub IsBest : ℕ → ℕ → List Report → List Report → Option Vote → Type 0
IsBest n x rs these None = (other : Vote) → IsTrue (is_told_at x other these) → passes n x rs other ≡ false
IsBest n x rs these (Some vote) =
    IsTrue (passes n x rs vote) × ((other : Vote) → IsTrue (is_told_at x other these) → IsTrue (passes n x rs other) → is_better other vote ≡ false)
