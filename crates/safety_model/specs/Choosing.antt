-- What the reports of one new view choose (Castro and Liskov 2002, on reports that tell views).
use Rattle.std.specs.Prelude.{◌≡◌, ℕ, ◌+◌, ◌≤◌, ◌<◌, Bool, false, ◌&&◌, ◌||◌, not, ◌==◌, nat_lt, nat_le, max, List, [], ◌∷◌, length, map, Some, IsTrue, if◌then◌else◌, ⊤}
use Rattle.std.specs.Cmp.Lexicographic.{slice_cmp}
use Rattle.std.specs.List.{list_any}
use Rattle.std.specs.Ordering.{is_lt, nat_cmp}
use Rattle.ord_types.specs.Members.{fault_bound, is_in, quorum}
use Rattle.ord_types.specs.declared.values.Choice.TheVariants.{Carry, Free, Neither}
use Rattle.safety_model.specs.Blocks.{Config}
use Rattle.safety_model.specs.Facts.{Vote, Report, Choice, History, Stands}
use Rattle.safety_model.specs.declared.fact.Fact.TheVariants.{Reported}
use Rattle.safety_model.specs.Reports.{is_told, tells_accepted, tells_at_most, tells_none}
use Rattle.safety_model.specs.Rules.{IsRun, bound_of, faulty, is_supported}
use Rattle.safety_model.specs.State.{Setup}

-- the first digest comes before the second in the order of their bytes
abbrev pub is_before : List ℕ → List ℕ → Bool
is_before a b = is_lt (slice_cmp nat_cmp a b)

-- the greatest height that is told, or 0
abbrev pub told_height : List Report → ℕ
told_height [] = 0
told_height (r ∷ rs) = max r.height (told_height rs)

-- how many of the reports of height x tell something
abbrev pub heard : ℕ → (Report → Bool) → List Report → ℕ
heard x tells [] = 0
heard x tells (r ∷ rs) = (if (r.height == x) && tells r then 1 else 0) + heard x tells rs

-- a report of height x tells this preparation
abbrev pub is_told_at : ℕ → Vote → List Report → Bool
is_told_at x vote rs = list_any (λ r. (r.height == x) && is_told r.prepared (Some vote)) rs

-- A told preparation passes where of n members at least a quorum tells none, one of a lower view or this one, and
-- more than the bound tell an acceptance of its digest in its view or above.
abbrev pub passes : ℕ → ℕ → List Report → Vote → Bool
passes n x rs vote =
    is_told_at x vote rs
    && (nat_le (quorum n) (heard x (tells_at_most vote) rs) && nat_lt (fault_bound n) (heard x (tells_accepted vote) rs))

-- the first vote is of a greater view, or of the same view and its digest comes before
abbrev pub is_better : Vote → Vote → Bool
is_better a b = nat_lt b.view a.view || ((a.view == b.view) && is_before a.digest b.digest)

-- Reports of height x choose the passing preparation of the greatest view, and then of the least digest. Where none
-- passes, the choice is free if at least a quorum tells no preparation, and else there is no choice yet.
abbrev pub IsChoice : ℕ → ℕ → List Report → Choice → Type 0
IsChoice n x rs (Carry vote) = IsTrue (passes n x rs vote) × ((other : Vote) → IsTrue (passes n x rs other) → is_better other vote ≡ false)
IsChoice n x rs Free = ((other : Vote) → passes n x rs other ≡ false) × (quorum n ≤ heard x tells_none rs)
IsChoice n x rs Neither = ((other : Vote) → passes n x rs other ≡ false) × (heard x tells_none rs < quorum n)

-- the reports, of different members of n, choose at the greatest height among them
abbrev pub Chooses : ℕ → List Report → ℕ → Choice → Type 0
Chooses n rs x choice = (x ≡ told_height rs) × IsChoice n x rs choice

-- a report and who signed it
pub record Told : Type 0 where
  pub signer : ℕ
  pub report : Report

abbrev pub reports_of : List Told → List Report
reports_of rs = map (λ (r : Told). r.report) rs

-- no id comes twice
abbrev pub AreDifferent : List ℕ → Type 0
AreDifferent [] = ⊤
AreDifferent (id ∷ ids) = IsTrue (not (is_in id ids)) × AreDifferent ids

-- each is of a member, and what a correct one signed stands as its report for view v
abbrev pub AreReports : Setup → History → Config → ℕ → List Told → Type 0
AreReports su h c v [] = ⊤
AreReports su h c v (r ∷ rs) =
    IsTrue (is_in r.signer c.members)
    × (is_in r.signer su.byzantine ≡ false → Stands h (Reported r.signer c.number v r.report))
    × AreReports su h c v rs

-- What the reports of different members choose is what the facts support, for whichever node enters. That the
-- reports are a quorum's follows where they choose.
abbrev pub ChoicesAreSupported : Type 0
ChoicesAreSupported =
    (su : Setup) (h : History) (c : Config) → IsRun su h → faulty su.byzantine c ≤ bound_of c
    → (i v x : ℕ) (rs : List Told) → AreDifferent (map (λ (r : Told). r.signer) rs) → AreReports su h c v rs
    → (choice : Choice) → Chooses (length c.members) (reports_of rs) x choice → (choice ≡ Neither → ⊥) → IsTrue (is_supported su h i c c.number v x choice)
