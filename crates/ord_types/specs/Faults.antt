-- What a call that reads answers: the value, or the fault by its place.
use Rattle.std.specs.Prelude.{◌≡◌, ℕ, ◌+◌, ◌-◌, ◌≤◌, List, [], ◌∷◌, ◌++◌, length, drop, Result, Ok, Err, ⊤}
use Rattle.ord_types.specs.Reading.{Reading}
use Rattle.ord_types.specs.declared.fault.Flaw.{Flaw}
use Rattle.ord_types.specs.declared.fault.Flaw.TheVariants.{Short, Bad}
use Rattle.ord_types.specs.declared.fault.Halt.{Halt}
use Rattle.ord_types.specs.declared.fault.Halt.TheVariants as halt_of
use Rattle.ord_types.specs.declared.fault.ReadFault.{ReadFault}
use Rattle.ord_types.specs.declared.fault.ReadFault.TheVariants as fault_of

-- what ended the code's reading is the flaw, unless memory ran out
abbrev pub Halts : {Y : Type 0} → Halt → Result Y Flaw → Type 0
Halts halt_of.NoMemory read = ⊤
Halts (halt_of.Flawed flaw) read = read ≡ Err flaw

-- the code's reading gave the value and left these bytes, or ended with the flaw
abbrev pub Reads : {X : Type 0} → Result X Halt → List ℕ → Result (X × List ℕ) Flaw → Type 0
Reads (Ok x) left read = read ≡ Ok (x, left)
Reads (Err e) left read = Halts e read

-- the same of a value that is seen so
abbrev pub ReadsAs : {X Y : Type 0} → (X → Y) → Result X Halt → List ℕ → Result (Y × List ℕ) Flaw → Type 0
ReadsAs view (Ok x) left read = read ≡ Ok (view x, left)
ReadsAs view (Err e) left read = Halts e read

-- the fault of a flaw, in this many bytes
abbrev pub fault_at : ℕ → Flaw → ReadFault
fault_at size Short = fault_of.Short size
fault_at size (Bad left) = fault_of.BadField (size - left)

-- a value of a front of these bytes, with the place behind it
abbrev pub placed : {X : Type 0} → ℕ → Result (X × List ℕ) Flaw → Result (X × ℕ) ReadFault
placed size (Ok found) = Ok (found.0, size - length found.1)
placed size (Err flaw) = Err (fault_at size flaw)

-- the value of all of these bytes: none may trail
abbrev pub all_or : {X : Type 0} → ℕ → X → List ℕ → Result X ReadFault
all_or size x [] = Ok x
all_or size x (b ∷ rest) = Err (fault_of.Trailing (size - length (b ∷ rest)))

abbrev pub whole : {X : Type 0} → ℕ → Result (X × List ℕ) Flaw → Result X ReadFault
whole size (Ok found) = all_or size found.0 found.1
whole size (Err flaw) = Err (fault_at size flaw)

-- what a call answered is this, unless memory ran out
abbrev pub Answers : {Y : Type 0} → Result Y ReadFault → Result Y ReadFault → Type 0
Answers (Err fault_of.NoMemory) answer = ⊤
Answers result answer = answer ≡ result

-- WHERE THE CODE'S READING ENDED

-- the fault of what ended it, in this many bytes
abbrev pub halted_at : ℕ → Halt → ReadFault
halted_at size halt_of.NoMemory = fault_of.NoMemory
halted_at size (halt_of.Flawed flaw) = fault_at size flaw

-- the field that ended it begins inside of this many bytes
abbrev pub BeginsWithin : ℕ → Halt → Type 0
BeginsWithin size (halt_of.Flawed (Bad left)) = left ≤ size
BeginsWithin size halt = ⊤

-- it stayed inside of this many bytes, and left these
abbrev pub StaysWithin : {X : Type 0} → ℕ → Result X Halt → List ℕ → Type 0
StaysWithin size (Ok x) left = length left ≤ size
StaysWithin size (Err halt) left = BeginsWithin size halt

-- A CALL THAT READS AT A PLACE

-- it answers what the reading gives from this place on
abbrev pub AnswersAt : {X : Type 0} → Reading X → Result (X × ℕ) ReadFault → List ℕ → ℕ → Type 0
AnswersAt at result bytes from = Answers result (placed (length bytes) (at (drop from bytes)))

-- what it gives has a spelling, and the spelling stands from this place up to the one that it tells
pub record IsSpelledAt {X : Type 0} (HasSpelling : X → Type 0) (text : X → List ℕ) (bytes : List ℕ) (from : ℕ) (found : X × ℕ) : Type 0 where
  pub spelling : HasSpelling found.0
  pub stands : drop from bytes ≡ text found.0 ++ drop found.1 bytes
  pub behind : found.1 ≡ from + length (text found.0)
  pub within : found.1 ≤ length bytes

-- what is spelled at this place is read, unless memory runs out
abbrev pub ReadsSpelling : {X : Type 0} → (X → Type 0) → (X → List ℕ) → Result (X × ℕ) ReadFault → List ℕ → ℕ → Type 0
ReadsSpelling {X} HasSpelling text result bytes from =
    (x : X) (rest : List ℕ) → HasSpelling x → from ≤ length bytes → drop from bytes ≡ text x ++ rest → Answers result (Ok (x, from + length (text x)))

-- A CALL THAT READS ALL

abbrev pub AnswersWhole : {X : Type 0} → Reading X → Result X ReadFault → List ℕ → Type 0
AnswersWhole at result bytes = Answers result (whole (length bytes) (at bytes))

-- what it gives has a spelling, which the bytes are
pub record IsSpelled {X : Type 0} (HasSpelling : X → Type 0) (text : X → List ℕ) (bytes : List ℕ) (x : X) : Type 0 where
  pub spelling : HasSpelling x
  pub is : bytes ≡ text x

-- what is spelled by all of the bytes is read, unless memory runs out
abbrev pub ReadsWhole : {X : Type 0} → (X → Type 0) → (X → List ℕ) → Result X ReadFault → List ℕ → Type 0
ReadsWhole {X} HasSpelling text result bytes = (x : X) → HasSpelling x → bytes ≡ text x → Answers result (Ok x)
