-- One view: what a member accepts and prepares there, and that two certificates have one digest.
use Rattle.std.proofs.Common.{◌≡◌, ℕ, ◌≤◌, true, List, subst, inl, inr}
use Rattle.safety_model.specs.Blocks.{Config}
use Rattle.safety_model.specs.Facts.{History, has, Stands, is_accepted, is_accepted_at, is_prepared}
use Rattle.safety_model.specs.declared.fact.Fact.TheVariants.{Accepted, Prepared}
use Rattle.safety_model.specs.State.{Setup}
use Rattle.safety_model.specs.Rules.{Allowed, IsRun, bound_of, faulty}
pub use Rattle.safety_model.specs.Views.{IsCertified}
use Rattle.safety_model.proofs.Quorums.{two_quorums}
use Rattle.safety_model.proofs.Moments.{stands_later, moment, order, found, has_found}
use Rattle.safety_model.proofs.FactTests.{prepared_is, accepted_is, accepted_at_itself}
use Rattle.safety_model.proofs.RuleFacts.{accepted_rules, prepared_rules}

pub prepared_stands : (i e v s : ℕ) (d : List ℕ) (h : History) → has (is_prepared i e v s d) h ≡ true → Stands h (Prepared i e v s d)
prepared_stands i e v s d h y =
    let f = found (is_prepared i e v s d) h y in
    subst (λ f. Stands h f) (prepared_is i e v s d f.0 f.2) f.1

pub accepted_stands : (i e v s : ℕ) (d : List ℕ) (h : History) → has (is_accepted i e v s d) h ≡ true → Stands h (Accepted i e v s d)
accepted_stands i e v s d h y =
    let f = found (is_accepted i e v s d) h y in
    subst (λ f. Stands h f) (accepted_is i e v s d f.0 f.2) f.1

-- not accepted there already
not_fresh : (su : Setup) (g : History) (i e v s : ℕ) (d d' : List ℕ) → Stands g (Accepted i e v s d) → Allowed su g (Accepted i e v s d') → ⊥
not_fresh su g i e v s d d' st a =
    let fresh = (accepted_rules su g i e v s d' a).fresh in
    let has_it = has_found (is_accepted_at i e v s) g (Accepted i e v s d) st (accepted_at_itself i e v s d) in
    cc

-- a member accepts one digest in a view at a number
pub accepted_once : (su : Setup) (h : History) → IsRun su h → (i e v s : ℕ) (d d' : List ℕ) → Stands h (Accepted i e v s d) → Stands h (Accepted i e v s d') → d ≡ d'
accepted_once su h run i e v s d d' a b =
    elim (order su h (Accepted i e v s d) (Accepted i e v s d') run a b) [
      | inl same ↦ (cc)
      | inr (inl m) ↦ absurd (not_fresh su m.at i e v s d d' m.stands m.allowed)
      | inr (inr m) ↦ absurd (not_fresh su m.at i e v s d' d m.stands m.allowed)
    ]

-- what is prepared was accepted
pub prepared_accepted : (su : Setup) (h : History) → IsRun su h → (i e v s : ℕ) (d : List ℕ) → Stands h (Prepared i e v s d) → Stands h (Accepted i e v s d)
prepared_accepted su h run i e v s d p =
    let m = moment su h (Prepared i e v s d) run p in
    let rules = prepared_rules su m.at i e v s d m.allowed in
    stands_later (Accepted i e v s d) m.at h m.once (accepted_stands i e v s d m.at rules.accepted)

pub prepared_once : (su : Setup) (h : History) → IsRun su h → (i e v s : ℕ) (d d' : List ℕ) → Stands h (Prepared i e v s d) → Stands h (Prepared i e v s d') → d ≡ d'
prepared_once su h run i e v s d d' a b =
    accepted_once su h run i e v s d d' (prepared_accepted su h run i e v s d a) (prepared_accepted su h run i e v s d' b)

-- two certificates of one view and number have one digest
pub one_digest : (su : Setup) (h : History) (c : Config) → IsRun su h → faulty su.byzantine c ≤ bound_of c → (v s : ℕ) (d d' : List ℕ) → IsCertified su h c v s d → IsCertified su h c v s d' → d ≡ d'
one_digest su h c run bound v s d d' a b =
    let both = two_quorums su.byzantine c (λ j. has (is_prepared j c.number v s d) h) (λ j. has (is_prepared j c.number v s d') h) bound a b in
    prepared_once su h run both.0 c.number v s d d' (prepared_stands both.0 c.number v s d h both.2) (prepared_stands both.0 c.number v s d' h both.3)
