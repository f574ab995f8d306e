-- What a signer's answer means.
use Rattle.std.specs.Prelude.{◌≡◌, ℕ, ◌≤◌, List, [], ◌∷◌, ◌++◌, length, true, Option, Result, Ok, Err}
use Rattle.std.specs.Option.{option_map}
use Rattle.ord_types.specs.Causes.{Rose}
use Rattle.ord_types.specs.declared.values.Sig.{Sig}
use Rattle.signer_edge.specs.Accepts.{Accepts}
use Rattle.signer_edge.specs.declared.signing.SignFault.{SignFault}
use Rattle.signer_edge.specs.declared.signing.SignFault.TheVariants.{Failed, NoMemory}

-- a signature of this signer, accepted on the statement, and not too long to be spelled
pub record IsSignatureOf (id : ℕ) (accepts : Accepts) (statement : List ℕ) (sig : Sig) : Type 0 where
  pub signer : sig.signer ≡ id
  pub accepted : accepts statement sig ≡ true
  pub short : length sig.bytes ≤ 2048

-- an Ok is a signature of this signer
abbrev pub IfSigned : Result Sig SignFault → ℕ → Accepts → List ℕ → Type 0
IfSigned (Ok sig) id accepts statement = IsSignatureOf id accepts statement sig
IfSigned (Err fault) id accepts statement = Unit {0}

-- a signature that was accepted still is
abbrev pub KeepsAccepted : Accepts → Accepts → Type 0
KeepsAccepted old new = (statement : List ℕ) (sig : Sig) → old statement sig ≡ true → new statement sig ≡ true

-- the statements signed so far, where they are told: an Ok adds this one at the end, any other answer none
abbrev pub signed_after : Result Sig SignFault → Option (List (List ℕ)) → List ℕ → Option (List (List ℕ))
signed_after (Ok sig) signed statement = option_map (λ statements. statements ++ statement ∷ []) signed
signed_after (Err fault) signed statement = signed

-- a fact where the device failed
abbrev pub OnFailed : Result Sig SignFault → Type 0 → Type 0
OnFailed (Ok sig) P = Unit {0}
OnFailed (Err Failed) P = P
OnFailed (Err NoMemory) P = Unit {0}

-- a fact where no memory was found
abbrev pub OnNoMemory : Result Sig SignFault → Type 0 → Type 0
OnNoMemory (Ok sig) P = Unit {0}
OnNoMemory (Err Failed) P = Unit {0}
OnNoMemory (Err NoMemory) P = P

-- the count of faults never falls, and the device failed only where it rose
pub record HasSignCause (before now : ℕ) (result : Result Sig SignFault) : Type 0 where
  pub later : before ≤ now
  pub failed : OnFailed result (Rose before now)
