-- The states of a disk in memory, from what was done to it.
use Rattle.std.specs.Prelude.{◌≡◌, ◌≢◌, ℕ, ◌<◌, List, [], ◌∷◌, length, replicate, ◌==◌, if◌then◌else◌, true, false, Bool}
use Rattle.gate_log.specs.Disk.{File, State, now, MayLeave, synced_file, after_write, after_sync, overwritten}
use Rattle.gate_log.specs.Written.{write_fine, whole_fine}
use Rattle.gate_log.specs.declared.files.Files.{Files}
use Rattle.gate_log.specs.declared.call.Call.{Call}
use Rattle.gate_log.specs.declared.call.Call.TheVariants.{Wrote, Synced}
use Rattle.gate_log.specs.declared.image.Image.{Image}
use Rattle.gate_log.specs.declared.image.Image.TheVariants.{Keep, Undo, Fill}

-- the bytes of one of three files
abbrev pub file_of : Files → ℕ → List ℕ
file_of files f = if f == 0 then files.first.items else if f == 1 then files.second.items else files.third.items

-- one of three files was written to
pub record Rewrote (file at : ℕ) (bytes : List ℕ) (old new : Files) : Type 0 where
  pub there : file_of new file ≡ overwritten at bytes (file_of old file)
  pub others : (f : ℕ) → f < 3 → f ≢ file → file_of new f ≡ file_of old f

abbrev pub SameFiles : Files → Files → Type 0
SameFiles old new = (f : ℕ) → f < 3 → file_of new f ≡ file_of old f

-- the state with this file changed
abbrev pub with_file : ℕ → File → State → State
with_file f file state = λ g. if g == f then file else state g

-- the state after a call
abbrev pub after : Call → State → State
after (Wrote f at bytes) state = with_file f (after_write at bytes (state f)) state
after (Synced f) state = with_file f (after_sync (state f)) state

-- the state in which a disk begins with these files
abbrev pub start : Files → State
start files = λ f. synced_file (file_of files f)

-- the states after these calls, the first of them first, in front of those before
abbrev pub states_from : List State → List Call → List State
states_from states [] = states
states_from states (call ∷ calls) = states_from (after call (now states) ∷ states) calls

-- the bytes with this byte in every place of these ranges
abbrev pub filled : ℕ → List (ℕ × ℕ) → List ℕ → List ℕ
filled byte [] bytes = bytes
filled byte (range ∷ ranges) bytes = overwritten range.0 (replicate range.1 byte) (filled byte ranges bytes)

-- the image that a crash makes of a file
abbrev pub left_by : Image → File → List ℕ
left_by Keep file = file.reads
left_by Undo file = file.kept
left_by (Fill byte) file = filled byte file.pending file.reads

-- the call is a sync of this file
abbrev pub is_sync : ℕ → Call → Bool
is_sync f (Wrote g at bytes) = false
is_sync f (Synced g) = g == f

-- none of these calls is a sync of this file
abbrev pub NoSync : ℕ → List Call → Type 0
NoSync f [] = Unit {0}
NoSync f (call ∷ calls) = (is_sync f call ≡ false) × NoSync f calls

-- a file after a call, and after calls
abbrev pub after_on : ℕ → Call → File → File
after_on f (Wrote g at bytes) file = if g == f then after_write at bytes file else file
after_on f (Synced g) file = if g == f then after_sync file else file

abbrev pub file_after : ℕ → File → List Call → File
file_after f file [] = file
file_after f file (call ∷ calls) = file_after f (after_on f call file) calls

-- what a call makes of a file's bytes
abbrev pub bytes_after : ℕ → Call → List ℕ → List ℕ
bytes_after f (Wrote g at bytes) old = if g == f then overwritten at bytes old else old
bytes_after f (Synced g) old = old

-- bytes with this byte in each place that a call writes
abbrev pub filled_after : ℕ → ℕ → Call → List ℕ → List ℕ
filled_after byte f (Wrote g at bytes) old = if g == f then overwritten at (replicate (length bytes) byte) old else old
filled_after byte f (Synced g) old = old

with_fine : (f : ℕ) (file : File) (state : State) → MayLeave file file.reads → ((g : ℕ) → MayLeave (state g) (state g).reads) → (g : ℕ) → MayLeave (with_file f file state g) (with_file f file state g).reads
with_fine f file state here all g = elim (g == f) as (λ b. MayLeave (if b then file else state g) (if b then file else state g).reads) [ true ↦ here | false ↦ all g ]

after_fine : (call : Call) (state : State) → ((g : ℕ) → MayLeave (state g) (state g).reads) → (g : ℕ) → MayLeave (after call state g) (after call state g).reads
after_fine (Wrote f at bytes) state all = with_fine f (after_write at bytes (state f)) state (write_fine (state f) at bytes (all f)) all
after_fine (Synced f) state all = with_fine f (after_sync (state f)) state (whole_fine (state f).reads) all

-- what a file reads as is one of the images that a crash may leave of it
pub states_fine : (states : List State) (calls : List Call) → ((g : ℕ) → MayLeave (now states g) (now states g).reads) → (g : ℕ) → MayLeave (now (states_from states calls) g) (now (states_from states calls) g).reads
states_fine states [] all = all
states_fine states (call ∷ calls) all = states_fine (after call (now states) ∷ states) calls (after_fine call (now states) all)

pub start_fine : (files : Files) (g : ℕ) → MayLeave (start files g) (start files g).reads
start_fine files g = whole_fine (file_of files g)
