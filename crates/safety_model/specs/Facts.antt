-- What correct nodes did: one fact for each act, the newest first.
use Rattle.std.specs.Prelude.{◌≡◌, ℕ, Bool, false, ◌&&◌, ◌==◌, not, List, [], ◌∷◌, ◌⊎◌}
use Rattle.std.specs.List.{list_any}
use Rattle.std.specs.Str.{bytes_eq}
pub use Rattle.ord_types.specs.declared.values.Cert.{Cert}
pub use Rattle.ord_types.specs.declared.values.Choice.{Choice}
pub use Rattle.ord_types.specs.declared.values.Last.{Last}
pub use Rattle.ord_types.specs.declared.values.Proof.{Proof}
pub use Rattle.ord_types.specs.declared.values.Report.{Report}
pub use Rattle.ord_types.specs.declared.values.Sig.{Sig}
pub use Rattle.ord_types.specs.declared.values.Vote.{Vote}
use Rattle.ord_types.specs.declared.values.Choice.TheVariants.{Carry, Free, Neither}
pub use Rattle.signer_edge.specs.Certificates.{signers_of}
pub use Rattle.safety_model.specs.declared.fact.Fact.{Fact}
use Rattle.safety_model.specs.declared.fact.Fact.TheVariants.{Accepted, Prepared, Reported, Entered}

abbrev pub History : Type 0
History = List Fact

-- a fact of this kind stands in the history
abbrev pub has : (Fact → Bool) → History → Bool
has kind h = list_any kind h

-- the fact itself stands in the history
abbrev pub Stands : History → Fact → Type 0
Stands [] f = ⊥
Stands (g ∷ h) f = (g ≡ f) ⊎ Stands h f

-- member i accepted digest d in configuration e and view v at number s
abbrev pub is_accepted : ℕ → ℕ → ℕ → ℕ → List ℕ → Fact → Bool
is_accepted i e v s d (Accepted i' e' v' s' d') = (i' == i) && (e' == e) && (v' == v) && (s' == s) && bytes_eq d' d
is_accepted i e v s d _ = false

-- with whatever digest
abbrev pub is_accepted_at : ℕ → ℕ → ℕ → ℕ → Fact → Bool
is_accepted_at i e v s (Accepted i' e' v' s' d') = (i' == i) && (e' == e) && (v' == v) && (s' == s)
is_accepted_at i e v s _ = false

-- member i saw a quorum for digest d
abbrev pub is_prepared : ℕ → ℕ → ℕ → ℕ → List ℕ → Fact → Bool
is_prepared i e v s d (Prepared i' e' v' s' d') = (i' == i) && (e' == e) && (v' == v) && (s' == s) && bytes_eq d' d
is_prepared i e v s d _ = false

-- member i reported for view v at height x, and the report tells something
abbrev pub is_reported : ℕ → ℕ → ℕ → ℕ → (Report → Bool) → Fact → Bool
is_reported i e v x tells (Reported i' e' v' r) = (i' == i) && (e' == e) && (v' == v) && (r.height == x) && tells r
is_reported i e v x tells _ = false

-- the choice carries another digest than this one
abbrev pub carries_other : List ℕ → Choice → Bool
carries_other d (Carry vote) = not (bytes_eq vote.digest d)
carries_other d Free = false
carries_other d Neither = false

-- node i entered view v at number s with another digest carried than this one
abbrev pub is_entered_against : ℕ → ℕ → ℕ → ℕ → List ℕ → Fact → Bool
is_entered_against i e v s d (Entered i' e' v' x choice) = (i' == i) && (e' == e) && (v' == v) && (x == s) && carries_other d choice
is_entered_against i e v s d _ = false
