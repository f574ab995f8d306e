-- What holds of views in every run.
use Rattle.std.specs.Prelude.{◌≡◌, ℕ, ◌≤◌, ◌<◌, nat_lt, List, [], ◌∷◌, ◌++◌, Some, IsTrue, ⊤}
use Rattle.std.specs.List.{list_all, list_any}
use Rattle.safety_model.specs.Blocks.{Config}
use Rattle.safety_model.specs.Facts.{Vote, Report, History, has, Stands, is_prepared}
use Rattle.safety_model.specs.declared.fact.Fact.TheVariants.{Accepted, Prepared, Reported}
use Rattle.safety_model.specs.Reports.{accepted_at, vote_eq}
use Rattle.safety_model.specs.Rules.{HasQuorum, IsRun, bound_of, faulty}
use Rattle.safety_model.specs.Safety.{BeginsWithGenesis}
use Rattle.safety_model.specs.State.{Setup, height, left, view}

-- whatever is done later, a node's height, its view and the view that it left for are no lower
abbrev pub NothingFalls : Type 0
NothingFalls =
    (later h : History) (i e : ℕ)
    → (height i h ≤ height i (later ++ h)) × (view i e h ≤ view i e (later ++ h)) × (left i e h ≤ left i e (later ++ h))

-- What a report for view `target` says of its member's facts under configuration e. What it tells stands, in views
-- below the target. The member prepares below the target at no greater number, and at this number nothing of a
-- greater view than the told preparation, nor another digest in its view.
pub record StaysTrue (h : History) (i e target : ℕ) (r : Report) : Type 0 where
  pub prepared : (vote : Vote) → r.prepared ≡ Some vote → (vote.view < target) × Stands h (Prepared i e vote.view r.height vote.digest)
  pub accepted : (vote : Vote) → IsTrue (list_any (vote_eq vote) r.accepted) → (vote.view < target) × Stands h (Accepted i e vote.view r.height vote.digest)
  pub reached : (v s : ℕ) (d : List ℕ) → Stands h (Prepared i e v s d) → v < target → s ≤ r.height
  pub greatest : (v : ℕ) (d : List ℕ) → Stands h (Prepared i e v r.height d) → v < target
      → (vote : Vote) × (r.prepared ≡ Some vote) × (v ≤ vote.view) × (vote.view ≡ v → vote.digest ≡ d)

-- a report that stands is true at every later moment, of all views below its target
abbrev pub ReportsStayTrue : Type 0
ReportsStayTrue =
    (su : Setup) (h : History) → IsRun su h → (i e target : ℕ) (r : Report) → Stands h (Reported i e target r) → StaysTrue h i e target r

-- each vote is of a greater view than all after it
abbrev pub AreFalling : List Vote → Type 0
AreFalling [] = ⊤
AreFalling (v ∷ vs) = IsTrue (list_all (λ w. nat_lt w.view v.view) vs) × AreFalling vs

-- a node's acceptances at a number, the newest first, are of falling views
abbrev pub AcceptancesFall : Type 0
AcceptancesFall = (su : Setup) (h : History) → IsRun su h → (i e s : ℕ) → AreFalling (accepted_at i e s h)

-- a quorum prepared the digest
abbrev pub IsCertified : Setup → History → Config → ℕ → ℕ → List ℕ → Type 0
IsCertified su h c v s d = HasQuorum su.byzantine c (λ j. has (is_prepared j c.number v s d) h)

-- where a quorum prepared a digest in a view, correct members accept nothing else at this number in later views
abbrev pub CertifiedIsCarriedOn : Type 0
CertifiedIsCarriedOn =
    (su : Setup) (h : History) → BeginsWithGenesis su → IsRun su h → faulty su.byzantine su.config ≤ bound_of su.config
    → (v v' s j : ℕ) (d d' : List ℕ) → v < v' → IsCertified su h su.config v s d → Stands h (Accepted j su.config.number v' s d') → d' ≡ d
