-- What holds of the spelling of all messages.
use Rattle.std.specs.Prelude.{◌≡◌, ℕ, List, [], ◌∷◌, ◌++◌, length, Ok, Err}
use Rattle.ord_types.specs.declared.fault.ReadFault.TheVariants.{Short}
use Rattle.bft_wire.specs.Messages.{HasMessageSpelling}
use Rattle.bft_wire.specs.Reading.{decoded, message_at}
use Rattle.bft_wire.specs.Spelling.{Message, message_text}

-- what was spelled is read again, whatever follows, and decoded where nothing does
pub record RoundTrip : Type 0 where
  pub again : (m : Message) (rest : List ℕ) → HasMessageSpelling m → message_at (message_text m ++ rest) ≡ Ok (m, rest)
  pub whole : (m : Message) → HasMessageSpelling m → decoded (message_text m) ≡ Ok m

-- where the spelling of one message begins that of another, they are one message, and nothing follows
abbrev pub Unambiguous : Type 0
Unambiguous =
    (m n : Message) (rest : List ℕ) → HasMessageSpelling m → HasMessageSpelling n → message_text m ++ rest ≡ message_text n → (m ≡ n) × (rest ≡ [])

-- a spelling that is cut anywhere ends inside the message, and is Short with its length
abbrev pub CutIsShort : Type 0
CutIsShort =
    (m : Message) (front : List ℕ) (next : ℕ) (behind : List ℕ) → HasMessageSpelling m → message_text m ≡ front ++ next ∷ behind → decoded front ≡ Err (Short (length front))
