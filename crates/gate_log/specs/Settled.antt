-- A log and its file.
use Rattle.std.specs.Prelude.{◌≡◌, ◌⊎◌, ℕ, ◌+◌, ◌^◌, List, [], ◌∷◌, ◌++◌, nat_lt, Option, Some, None, Result, Ok, Err, if◌then◌else◌}
use Rattle.ord_types.specs.Causes.{Rose}
use Rattle.gate_log.specs.Disk.{State, synced_file}
use Rattle.gate_log.specs.Format.{reading, gate_after}
use Rattle.gate_log.specs.declared.reading.Reading.TheVariants.{Log}
use Rattle.gate_log.specs.declared.log.GateLog.{GateLog}
use Rattle.gate_log.specs.declared.fault.LogFault.{LogFault}
use Rattle.gate_log.specs.declared.fault.LogFault.TheVariants.{TooLong, Foreign, NoMemory, Failed}

-- The log's file stands for the log's generation and entries; all of it is on the disk.
pub record IsSettled (log : GateLog) (state : State) : Type 0 where
  pub bytes : List ℕ
  pub file : state log.file ≡ synced_file bytes
  pub stands : reading bytes ≡ Log log.generation log.entries
  pub gate : log.gate ≡ gate_after log.entries

-- The file stands for the entries, with one more or without it.
abbrev pub IsWithOrWithout : ℕ → List (List ℕ) → List ℕ → List ℕ → Type 0
IsWithOrWithout generation entries entry c = (reading c ≡ Log generation entries) ⊎ (reading c ≡ Log generation (entries ++ entry ∷ []))

-- the length that an entry behind this gate is too long for: the entry's own, or the file's
abbrev pub too_long : ℕ → ℕ → Option ℕ
too_long gate n = if nat_lt 4194304 n then Some n else if nat_lt (2 ^ 62) (gate + 6 + n) then Some (gate + 6 + n) else None

-- why an append answers so
abbrev pub AppendAnswers : Option ℕ → ℕ → ℕ → Result (Unit {0}) LogFault → Type 0
AppendAnswers refusal before now (Ok _) = refusal ≡ None
AppendAnswers refusal before now (Err (TooLong n)) = refusal ≡ Some n
AppendAnswers refusal before now (Err (Foreign at)) = ⊥
AppendAnswers refusal before now (Err NoMemory) = refusal ≡ None
AppendAnswers refusal before now (Err Failed) = (refusal ≡ None) × Rose before now

-- what holds after a refusal; of an answer after Failed nothing is said
abbrev pub OnRefusal : {T : Type 0} → Result T LogFault → Type 0 → Type 0
OnRefusal (Ok _) P = Unit {0}
OnRefusal (Err (TooLong n)) P = P
OnRefusal (Err (Foreign at)) P = P
OnRefusal (Err NoMemory) P = P
OnRefusal (Err Failed) P = Unit {0}

-- a call that gives up for want of memory, or because the disk failed
abbrev pub GivesUp : {T : Type 0} → ℕ → ℕ → Result T LogFault → Type 0
GivesUp before now (Ok _) = Unit {0}
GivesUp before now (Err (TooLong n)) = ⊥
GivesUp before now (Err (Foreign at)) = ⊥
GivesUp before now (Err NoMemory) = Unit {0}
GivesUp before now (Err Failed) = Rose before now
