-- What the keys of a step signed, one statement after another.
use Rattle.std.specs.Prelude.{◌≡◌, ℕ, List, [], ◌∷◌, ◌++◌, ◌⊎◌, map, Result, Ok, Err, ⊤}
use Rattle.ord_types.specs.declared.values.Sig.{Sig}
use Rattle.signer_edge.specs.Accepts.{Accepts}
use Rattle.signer_edge.specs.Signing.{KeepsAccepted}
use Rattle.signer_edge.specs.declared.signing.SignFault.{SignFault}
use Rattle.node_model.specs.Steps.{Keys}

-- a statement, the signature that was answered for it, and the keys after it
pub record Signing (K : Type 0) : Type 0 where
  pub statement : List ℕ
  pub sig : Sig
  pub keys : K

abbrev pub signing : {K : Type 0} → List ℕ → Sig → K → Signing K
signing statement sig keys = record { statement = statement; sig = sig; keys = keys }

abbrev pub statements_in : {K : Type 0} → List (Signing K) → List (List ℕ)
statements_in signings = map (λ (s : Signing _). s.statement) signings

-- the keys after these
abbrev pub keys_after : {K : Type 0} → K → List (Signing K) → K
keys_after k [] = k
keys_after k (s ∷ more) = keys_after s.keys more

-- each is what keys of this kind may answer
abbrev pub AreGiven : {K : Type 0} → (K → List ℕ → Result Sig SignFault → K → Type 0) → K
    → List (Signing K) → Type 0
AreGiven gives k [] = ⊤
AreGiven gives k (s ∷ more) = gives k s.statement (Ok s.sig) s.keys × AreGiven gives s.keys more

-- The keys of a definition's step say what these did, from the moment on in which these statements were
-- signed: what is accepted in each moment, and what is signed next.
abbrev pub KeysFit : {K : Type 0} → (K → Accepts) → Keys → List (List ℕ) → K → List (Signing K) → Type 0
KeysFit accepts keys before k [] = keys.accepts before ≡ accepts k
KeysFit accepts keys before k (s ∷ more) =
    (keys.accepts before ≡ accepts k) × (keys.signs before ≡ s.sig)
    × KeysFit accepts keys (before ++ s.statement ∷ []) s.keys more

-- keys that were asked for a statement and gave no signature
pub record Tries {K : Type 0} (gives : K → List ℕ → Result Sig SignFault → K → Type 0) (old new : K)
    : Type 0 where
  pub statement : List ℕ
  pub fault : SignFault
  pub given : gives old statement (Err fault) new

-- where the keys of a call end: in the state after its signatures; where it was given up, maybe after one
-- that failed
abbrev pub EndsAt : {K T E : Type 0} → (K → List ℕ → Result Sig SignFault → K → Type 0) → Result T E → K → K
    → Type 0
EndsAt gives (Ok _) k new = new ≡ k
EndsAt gives (Err _) k new = (new ≡ k) ⊎ Tries gives k new

-- What the keys signed in a call, and what follows for these signings.
pub record Signs {K T E : Type 0} (gives : K → List ℕ → Result Sig SignFault → K → Type 0)
    (result : Result T E) (old new : K) (P : List (Signing K) → Type 0) : Type 0 where
  pub signings : List (Signing K)
  pub given : AreGiven gives old signings
  pub after : EndsAt gives result (keys_after old signings) new
  pub what : P signings

-- what was accepted is accepted after each of these
abbrev pub Grows : {K : Type 0} → (K → Accepts) → K → List (Signing K) → Type 0
Grows accepts k [] = ⊤
Grows accepts k (s ∷ more) = KeepsAccepted (accepts k) (accepts s.keys) × Grows accepts s.keys more
