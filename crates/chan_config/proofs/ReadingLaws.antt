-- What all of the bytes spell, by what stands at their front.
use Rattle.std.proofs.Common.{◌≡◌, ℕ, ◌-◌, List, [], ◌∷◌, length, Result, Ok, Err, refl, ap, arith}
use Rattle.ord_types.specs.Faults.{fault_at, whole}
use Rattle.ord_types.specs.Grammar.{HasRequestSpelling}
use Rattle.ord_types.specs.Reading.{request_at}
use Rattle.ord_types.specs.declared.fault.Flaw.{Flaw}
use Rattle.ord_types.proofs.Laws.{IsBytes}
use Rattle.ord_types.proofs.Answering.{found_of_all}
use Rattle.ord_types.proofs.ValueLaws.{request_law}
use Rattle.chan_config.specs.Blocks.{Request}
use Rattle.chan_config.specs.Submissions.{by_place, place_of_fault, read_in, request_in}

read_is : (bytes : List ℕ) (read : Result (Request × List ℕ) Flaw) → request_at bytes ≡ read → read_in bytes ≡ by_place (whole (length bytes) read)
unfolding request_in
read_is bytes read e = ap (λ (r : Result (Request × List ℕ) Flaw). by_place (whole (length bytes) r)) e

pub read_all : (bytes rest : List ℕ) (r : Request) → request_at bytes ≡ Ok (r, rest) → length rest ≡ 0 → read_in bytes ≡ Ok r
read_all bytes [] r e none = read_is bytes (Ok (r, [])) e
read_all bytes (b ∷ rest) r e none = absurd (omega (arith, none))

pub read_trailing : (bytes rest : List ℕ) (r : Request) → request_at bytes ≡ Ok (r, rest) → (length rest ≡ 0 → ⊥) → read_in bytes ≡ Err (length bytes - length rest)
read_trailing bytes [] r e some = absurd (some refl)
read_trailing bytes (b ∷ rest) r e some = read_is bytes (Ok (r, b ∷ rest)) e

pub read_flawed : (bytes : List ℕ) (flaw : Flaw) → request_at bytes ≡ Err flaw → read_in bytes ≡ Err (place_of_fault (fault_at (length bytes) flaw))
read_flawed bytes flaw e = read_is bytes (Err flaw) e

-- what is read has a spelling
pub read_spelled : (bytes : List ℕ) (r : Request) → IsBytes bytes → request_at bytes ≡ Ok (r, []) → HasRequestSpelling r
read_spelled bytes r fits e =
    (found_of_all request_law bytes bytes (Ok r) refl fits (ap (whole (length bytes)) e)).spelling
