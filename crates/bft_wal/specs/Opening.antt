-- The records of a log, and what a file opens to.
use Rattle.std.specs.Prelude.{◌≡◌, ◌⊎◌, ℕ, ◌+◌, List, [], ◌∷◌, ◌++◌, length, filter_map, unwrap_or, Option, Some, None, Result, Ok, Err}
use Rattle.ord_types.specs.Causes.{Rose}
use Rattle.gate_log.specs.Disk.{File, State, MayLeave}
use Rattle.gate_log.specs.Format.{reading}
use Rattle.gate_log.specs.Front.{entries_before}
use Rattle.gate_log.specs.Settled.{IsSettled as IsLogSettled}
use Rattle.gate_log.specs.declared.reading.Reading.{Reading}
use Rattle.gate_log.specs.declared.reading.Reading.TheVariants.{Absent, Foreign, Log}
use Rattle.gate_log.specs.declared.fault.LogFault.{LogFault}
use Rattle.gate_log.specs.declared.fault.LogFault.TheVariants.{TooLong, Foreign as ForeignFile, NoMemory, Failed}
use Rattle.bft_wal.specs.Reading.{record_in}
use Rattle.bft_wal.specs.Records.{WalRecord}
pub use Rattle.bft_wal.specs.declared.wal.Wal.{Wal}

-- the records that entries spell
abbrev pub records_in : List (List ℕ) → List WalRecord
records_in entries = filter_map record_in entries

-- the records of a log, in the order in which they were appended
abbrev pub records : Wal → List WalRecord
records wal = records_in wal.log.entries

-- the place, or a later one where the entry is a record
abbrev pub here_or : ℕ → Option WalRecord → Option ℕ → Option ℕ
here_or at None later = Some at
here_or at (Some entry) later = later

-- the place of the gate of the first entry that isn't a record; the first gate stands at the place
abbrev pub first_wrong : ℕ → List (List ℕ) → Option ℕ
first_wrong at [] = None
first_wrong at (entry ∷ entries) = here_or at (record_in entry) (first_wrong (at + 5 + length entry) entries)

-- the records of entries, or the place of the wrong one
abbrev pub records_or : List (List ℕ) → Option ℕ → Result (List WalRecord) ℕ
records_or entries None = Ok (records_in entries)
records_or entries (Some at) = Err at

-- of a broken gate and a wrong entry in front of it the entry's gate is told
abbrev pub opens_by : List ℕ → Reading → Result (List WalRecord) ℕ
opens_by bytes Absent = Ok []
opens_by bytes (Foreign at) = Err (unwrap_or (first_wrong 17 (entries_before at bytes)) at)
opens_by bytes (Log generation entries) = records_or entries (first_wrong 17 entries)

-- the records that a file with these bytes opens to, or its first wrong place. An absent file opens to none.
abbrev pub opens_as : List ℕ → Result (List WalRecord) ℕ
opens_as bytes = opens_by bytes (reading bytes)

-- The log stands in file 0, all of it on the disk, and each entry is a record.
pub record IsSettled (wal : Wal) (state : State) : Type 0 where
  pub log : IsLogSettled wal.log state
  pub in_file : wal.log.file ≡ 0
  pub are_records : first_wrong 17 wal.log.entries ≡ None

-- the bytes open to what some crash of the file could have opened to
pub record OpensAsBefore (file : File) (c : List ℕ) : Type 0 where
  pub image : List ℕ
  pub left : MayLeave file image
  pub same : opens_as c ≡ opens_as image

-- the bytes open to these records, with one more or without it
abbrev pub IsWithOrWithout : List WalRecord → WalRecord → List ℕ → Type 0
IsWithOrWithout rs r c = (opens_as c ≡ Ok rs) ⊎ (opens_as c ≡ Ok (rs ++ r ∷ []))

-- The log has the records that the file opens to; a foreign file is refused at its first wrong place, and no other file is.
abbrev pub RecordsOpenTo : Result (List WalRecord) ℕ → Result Wal LogFault → Type 0
RecordsOpenTo opens (Ok wal) = opens ≡ Ok (records wal)
RecordsOpenTo opens (Err (TooLong n)) = ⊥
RecordsOpenTo opens (Err (ForeignFile at)) = opens ≡ Err at
RecordsOpenTo opens (Err NoMemory) = Unit {0}
RecordsOpenTo opens (Err Failed) = Unit {0}

-- why a log isn't opened
abbrev pub OpenAnswers : ℕ → ℕ → Result Wal LogFault → Type 0
OpenAnswers before now (Ok _) = Unit {0}
OpenAnswers before now (Err (TooLong n)) = ⊥
OpenAnswers before now (Err (ForeignFile at)) = Unit {0}
OpenAnswers before now (Err NoMemory) = Unit {0}
OpenAnswers before now (Err Failed) = Rose before now

-- The files of a disk keep these records: the log's file opens to them.
abbrev pub KeepsRecords : (ℕ → List ℕ) → List WalRecord → Type 0
KeepsRecords files records = opens_as (files 0) ≡ Ok records
