-- An ideal box of signatures: what stands in it was signed, and nothing else was.
use Rattle.std.specs.Prelude.{◌≡◌, ℕ, Bool, false, ◌&&◌, ◌==◌, List, [], ◌∷◌, ◌++◌, length, map, filter, slice_get, Option, Some, None, Result, Ok, Err}
use Rattle.std.specs.Int.{w64, to_be_bytes, from_be_bytes}
use Rattle.std.specs.Str.{bytes_eq}
use Rattle.ord_types.specs.declared.values.Sig.{Sig}
use Rattle.signer_edge.specs.Accepts.{Accepts}
use Rattle.signer_edge.specs.declared.seals.Seal.{Seal}
use Rattle.signer_edge.specs.declared.signing.SignFault.{SignFault}
use Rattle.signer_edge.specs.declared.signing.SignFault.TheVariants.{NoMemory}

abbrev pub is_seal : ℕ → List ℕ → Option Seal → Bool
is_seal signer statement None = false
is_seal signer statement (Some seal) = (seal.signer == signer) && bytes_eq seal.statement statement

-- a signature is the place of its seal, counted from 0, in eight bytes
unfoldable pub is_sealed : List Seal → Accepts
is_sealed box statement sig =
    (length sig.bytes == 8) && is_seal sig.signer statement (slice_get box (from_be_bytes w64 sig.bytes))

-- a signer's place at the box
pub record Seat : Type 0 where
  pub id : ℕ
  pub seals : List Seal

-- the statements that a signer signed, in order
abbrev pub statements_by : ℕ → List Seal → List (List ℕ)
statements_by id seals = map (λ (seal : Seal). seal.statement) (filter (λ (seal : Seal). seal.signer == id) seals)

-- the signature that names the next seal
abbrev pub next_sig : Seat → Sig
next_sig seat = record { signer = seat.id; bytes = to_be_bytes w64 (length seat.seals) }

-- the seat after it signed a statement
abbrev pub with_seal : Seat → List ℕ → Seat
with_seal seat statement =
    record { id = seat.id; seals = seat.seals ++ record { signer = seat.id; statement = statement } ∷ [] }

-- a seat signs by one new seal, and changes nothing where it finds no memory
abbrev pub SealsOne : Seat → List ℕ → Result Sig SignFault → Seat → Type 0
SealsOne old statement (Ok sig) new = (sig ≡ next_sig old) × (new ≡ with_seal old statement)
SealsOne old statement (Err fault) new = (fault ≡ NoMemory) × (new ≡ old)
