-- The files of a disk, and what a crash may leave of them.
use Rattle.std.specs.Prelude.{◌≡◌, ◌≢◌, ◌⊎◌, ℕ, ◌+◌, ◌-◌, ◌<◌, ◌≤◌, max, List, [], ◌∷◌, ◌++◌, length, take, drop, replicate, slice_index}

-- a file at one moment
pub record File : Type 0 where
  -- its bytes at its last successful sync
  pub kept : List ℕ
  -- the place and length of each write since, the last first
  pub pending : List (ℕ × ℕ)
  -- what a read gives
  pub reads : List ℕ

-- a file with these bytes, all of them on the disk
abbrev pub synced_file : List ℕ → File
synced_file bytes = record { kept = bytes; pending = []; reads = bytes }

-- the files of a disk at one moment, by number
abbrev pub State : Type 0
State = ℕ → File

-- the state after the last of these moments, the last first
abbrev pub now : List State → State
now [] = λ _. record { kept = []; pending = []; reads = [] }
now (state ∷ _) = state

-- the place is in none of these ranges
abbrev pub IsOutside : ℕ → List (ℕ × ℕ) → Type 0
IsOutside i [] = Unit {0}
IsOutside i (range ∷ ranges) = ((i < range.0) ⊎ (range.0 + range.1 ≤ i)) × IsOutside i ranges

-- the greatest end of these ranges, and at least n
abbrev pub greatest_end : ℕ → List (ℕ × ℕ) → ℕ
greatest_end n [] = n
greatest_end n (range ∷ ranges) = max (range.0 + range.1) (greatest_end n ranges)

-- A crash may leave the bytes c: any bytes in the ranges and past the length that was kept, the same elsewhere.
pub record IsLeft (kept : List ℕ) (pending : List (ℕ × ℕ)) (c : List ℕ) : Type 0 where
  pub no_shorter : length kept ≤ length c
  pub no_longer : length c ≤ greatest_end (length kept) pending
  pub same : (i : ℕ) → i < length kept → IsOutside i pending → slice_index c i ≡ slice_index kept i

-- the same, of a file
abbrev pub MayLeave : File → List ℕ → Type 0
MayLeave file c = IsLeft file.kept file.pending c

-- bytes after a write at a place, with zero bytes in a gap before it
abbrev pub overwritten : ℕ → List ℕ → List ℕ → List ℕ
overwritten at bytes old = take at old ++ replicate (at - length old) 0 ++ bytes ++ drop (at + length bytes) old

-- the file after a write; after a write that failed and now reads so; after a sync
abbrev pub after_write : ℕ → List ℕ → File → File
after_write at bytes file = record {
  kept = file.kept;
  pending = (at, length bytes) ∷ file.pending;
  reads = overwritten at bytes file.reads;
}

abbrev pub after_try : ℕ → ℕ → List ℕ → File → File
after_try at n reads file = record {
  kept = file.kept;
  pending = (at, n) ∷ file.pending;
  reads = reads;
}

abbrev pub after_sync : File → File
after_sync file = synced_file file.reads

-- One moment more, at which this file is as told and the others are as before.
pub record Moves (file : ℕ) (to : File) (old new : List State) : Type 0 where
  pub state : State
  pub is : new ≡ state ∷ old
  pub there : state file ≡ to
  pub others : (other : ℕ) → other ≢ file → state other ≡ now old other

-- a write, or a sync, that succeeded
abbrev pub Wrote : ℕ → ℕ → List ℕ → List State → List State → Type 0
Wrote file at bytes old new = Moves file (after_write at bytes (now old file)) old new

abbrev pub Synced : ℕ → List State → List State → Type 0
Synced file old new = Moves file (after_sync (now old file)) old new

-- A write that failed and may have been made in part: its range may read as any bytes, and the file's length is any
-- that a crash may leave.
pub record HalfWrote (file at n : ℕ) (old new : List State) : Type 0 where
  pub reads : List ℕ
  pub left : IsLeft (now old file).kept ((at, n) ∷ (now old file).pending) reads
  pub same : (i : ℕ) → i < length (now old file).reads → i < length reads → (i < at) ⊎ (at + n ≤ i) → slice_index reads i ≡ slice_index (now old file).reads i
  pub moves : Moves file (after_try at n reads (now old file)) old new

-- a write that failed: nothing, or the range may hold any bytes, in a crash and in a read
abbrev pub Tried : ℕ → ℕ → ℕ → List State → List State → Type 0
Tried file at n old new = (new ≡ old) ⊎ HalfWrote file at n old new
