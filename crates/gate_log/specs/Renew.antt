-- A log that is begun anew.
use Rattle.std.specs.Prelude.{◌≡◌, ◌≢◌, ◌⊎◌, ℕ, ◌+◌, ◌-◌, ◌^◌, ◌≤◌, min, nat_lt, List, [], ◌∷◌, ◌++◌, length, Option, Some, None, Result, Ok, Err, if◌then◌else◌}
use Rattle.ord_types.specs.Causes.{Rose}
use Rattle.gate_log.specs.Disk.{File, synced_file}
use Rattle.gate_log.specs.Format.{header, reading, gate_after}
use Rattle.gate_log.specs.declared.reading.Reading.{Reading}
use Rattle.gate_log.specs.declared.reading.Reading.TheVariants.{Absent, Foreign, Log}
use Rattle.gate_log.specs.declared.head.Head.{Head}
use Rattle.gate_log.specs.declared.head.Head.TheVariants.{New, Begun, Open}
use Rattle.gate_log.specs.declared.log.GateLog.{GateLog}
use Rattle.gate_log.specs.declared.fault.LogFault.{LogFault}
use Rattle.gate_log.specs.declared.fault.LogFault.TheVariants.{TooLong, Foreign as ForeignFile, NoMemory, Failed}

-- all of the file is on the disk
abbrev pub IsSynced : File → Type 0
IsSynced file = file ≡ synced_file file.reads

-- the bytes begin with the header and this head gate
pub record HasHead (gate : ℕ) (bytes : List ℕ) : Type 0 where
  pub rest : List ℕ
  pub is : bytes ≡ header ++ gate ∷ rest

-- the head gate is open
pub record HasOpenHead (bytes : List ℕ) : Type 0 where
  pub gate : ℕ
  pub is_open : gate ≢ 0
  pub has : HasHead gate bytes

-- the head of a file with these bytes can be closed in this way
abbrev pub CanClose : Head → List ℕ → Type 0
CanClose New bytes = length bytes ≤ 9
CanClose Begun bytes = HasHead 0 bytes
CanClose Open bytes = HasOpenHead bytes

-- the file is on the disk, and its head gate is closed
pub record IsClosed (file : File) : Type 0 where
  pub rest : List ℕ
  pub is : file ≡ synced_file (header ++ 0 ∷ rest)

abbrev pub IsOldOrAbsent : List ℕ → List ℕ → Type 0
IsOldOrAbsent old c = (reading c ≡ Absent) ⊎ (reading c ≡ reading old)

abbrev pub IsNewOrAbsent : ℕ → List (List ℕ) → List ℕ → Type 0
IsNewOrAbsent generation entries c = (reading c ≡ Absent) ⊎ (reading c ≡ Log generation entries)

-- The file is absent, or stands for what it stood for with the old bytes, or for the new list.
abbrev pub IsOldOrNew : List ℕ → ℕ → List (List ℕ) → List ℕ → Type 0
IsOldOrNew old generation entries c = (reading c ≡ Absent) ⊎ (reading c ≡ reading old) ⊎ (reading c ≡ Log generation entries)

-- no entry has more than 4,194,304 bytes
abbrev pub AreShort : List (List ℕ) → Type 0
AreShort [] = Unit {0}
AreShort (entry ∷ entries) = (length entry ≤ 4194304) × AreShort entries

-- the length of the first entry that is too long
abbrev pub first_long : List (List ℕ) → Option ℕ
first_long [] = None
first_long (entry ∷ entries) = if nat_lt 4194304 (length entry) then Some (length entry) else first_long entries

-- the length for which a list is refused: an entry's, or else a file's of this size
abbrev pub long_or_large : Option ℕ → ℕ → Option ℕ
long_or_large (Some n) size = Some n
long_or_large None size = if nat_lt (2 ^ 62) size then Some (min size (2 ^ 64 - 1)) else None

-- the length that a list of entries is too long for: the first such entry's, or the file's. It stops at the last value of a u64.
abbrev pub list_too_long : List (List ℕ) → Option ℕ
list_too_long entries = long_or_large (first_long entries) (gate_after entries + 1)

-- why a new list is refused or isn't written
abbrev pub RestartAnswers : Option ℕ → ℕ → ℕ → Result GateLog LogFault → Type 0
RestartAnswers refusal before now (Ok _) = refusal ≡ None
RestartAnswers refusal before now (Err (TooLong n)) = refusal ≡ Some n
RestartAnswers refusal before now (Err (ForeignFile at)) = refusal ≡ None
RestartAnswers refusal before now (Err NoMemory) = refusal ≡ None
RestartAnswers refusal before now (Err Failed) = (refusal ≡ None) × Rose before now

-- A foreign file is refused at its first wrong byte, and no other file is.
abbrev pub RefusesForeign : Reading → Result GateLog LogFault → Type 0
RefusesForeign read (Ok _) = (at : ℕ) → read ≢ Foreign at
RefusesForeign read (Err (TooLong n)) = Unit {0}
RefusesForeign read (Err (ForeignFile at)) = read ≡ Foreign at
RefusesForeign read (Err NoMemory) = Unit {0}
RefusesForeign read (Err Failed) = Unit {0}
