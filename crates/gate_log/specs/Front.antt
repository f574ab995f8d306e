-- The entries of a log file in front of a place.
use Rattle.std.specs.Prelude.{◌≡◌, ◌⊎◌, ℕ, List, [], ◌∷◌, ◌++◌, take}
use Rattle.gate_log.specs.declared.reading.Reading.{Reading}
use Rattle.gate_log.specs.declared.reading.Reading.TheVariants.{Absent, Foreign, Log}
use Rattle.gate_log.specs.Format.{reading, opened_as}

-- the entries of a log; nothing else has any
abbrev pub entries_of : Reading → List (List ℕ)
entries_of Absent = []
entries_of (Foreign at) = []
entries_of (Log generation entries) = entries

-- the entries in front of a gate at this place: those of the file where it is cut there and the gate is closed
abbrev pub entries_before : ℕ → List ℕ → List (List ℕ)
entries_before at bytes = entries_of (reading (take at bytes ++ 0 ∷ []))

-- The bytes are those that were read, or these stand for nothing yet and the bytes open as what is made of that.
abbrev pub IsReadOrNew : List ℕ → List ℕ → Type 0
IsReadOrNew read c = (c ≡ read) ⊎ ((reading read ≡ Absent) × (opened_as (reading c) ≡ Log 1 []))
