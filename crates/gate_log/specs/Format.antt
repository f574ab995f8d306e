-- What the bytes of a log file stand for.
use Rattle.std.specs.Prelude.{ℕ, zero, suc, ◌+◌, ◌^◌, List, [], ◌∷◌, ◌++◌, length, take, drop, slice_index, ◌==◌, nat_lt, nat_le, ◌||◌, if◌then◌else◌, Result, Ok, Err}
use Rattle.std.specs.Int.{w32, w64, from_be_bytes, to_be_bytes}
use Rattle.gate_log.specs.declared.reading.Reading.{Reading}
use Rattle.gate_log.specs.declared.reading.Reading.TheVariants.{Absent, Foreign, Log}

-- the first bytes of each file, `ORDLOG1` and a line feed
abbrev pub header : List ℕ
header = 79 ∷ 82 ∷ 68 ∷ 76 ∷ 79 ∷ 71 ∷ 49 ∷ 10 ∷ []

-- how many bytes two lists have in common at their front
abbrev pub common : List ℕ → List ℕ → ℕ
common [] ys = 0
common (x ∷ xs) [] = 0
common (x ∷ xs) (y ∷ ys) = if x == y then suc (common xs ys) else 0

-- the length of the entry behind an open gate
unfoldable pub entry_length : List ℕ → ℕ
entry_length rest = from_be_bytes w32 rest

-- the generation, from byte 9 on
unfoldable pub generation_of : List ℕ → ℕ
generation_of bytes =
    from_be_bytes w64
    (slice_index bytes 9 ∷ slice_index bytes 10 ∷ slice_index bytes 11 ∷ slice_index bytes 12 ∷ slice_index bytes 13 ∷ slice_index bytes 14 ∷ slice_index bytes 15 ∷ slice_index bytes 16 ∷ [])

-- an entry in front of those behind it
abbrev pub behind : List ℕ → Result (List (List ℕ)) ℕ → Result (List (List ℕ)) ℕ
behind entry (Ok entries) = Ok (entry ∷ entries)
behind entry (Err at) = Err at

-- The entries whose gates are open, up to the first closed gate, or the place of an open gate that isn't followed
-- by a whole entry and one more gate. The first gate stands at the place; no more than n gates are looked at.
unfoldable pub walk : ℕ → ℕ → List ℕ → Result (List (List ℕ)) ℕ
walk zero at bytes = Err at
walk (suc n) at [] = Err at
walk (suc n) at (gate ∷ rest) =
    if gate == 0 then Ok []
    else if nat_lt (length rest) (5 + entry_length rest) then Err at
    else behind (take (entry_length rest) (drop 4 rest)) (walk n (at + 5 + entry_length rest) (drop (4 + entry_length rest) rest))

-- a log, or the place of its wrong gate
abbrev pub read_as : ℕ → Result (List (List ℕ)) ℕ → Reading
read_as generation (Ok entries) = Log generation entries
read_as generation (Err at) = Foreign at

-- what a file stands for
unfoldable pub reading : List ℕ → Reading
reading bytes =
    if nat_le (length bytes) 9 then Absent
    else if nat_lt (common header bytes) 8 then Foreign (common header bytes)
    else if slice_index bytes 8 == 0 then Absent
    else if nat_lt (length bytes) 18 then Foreign (length bytes)
    else if nat_lt (generation_of bytes) 1 || nat_le (2 ^ 62) (generation_of bytes) then Foreign 9
    else read_as (generation_of bytes) (walk (length bytes) 17 (drop 17 bytes))

-- what it is opened as: an absent file is made new
abbrev pub opened_as : Reading → Reading
opened_as Absent = Log 1 []
opened_as (Foreign at) = Foreign at
opened_as (Log generation entries) = Log generation entries

-- an entry behind its gate
abbrev pub block : List ℕ → List ℕ
block entry = to_be_bytes w32 (length entry) ++ entry

-- the place of the gate behind these entries
abbrev pub gate_after : List (List ℕ) → ℕ
gate_after [] = 17
gate_after (entry ∷ entries) = 5 + length entry + gate_after entries

-- entries behind open gates, and a closed gate
abbrev pub spelled : List (List ℕ) → List ℕ
spelled [] = 0 ∷ []
spelled (entry ∷ entries) = 1 ∷ block entry ++ spelled entries

-- what stands behind the head gate of a log that is begun with these entries
abbrev pub body : ℕ → List (List ℕ) → List ℕ
body generation entries = to_be_bytes w64 generation ++ spelled entries
