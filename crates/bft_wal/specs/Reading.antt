-- How a record is read, field by field from the left.
use Rattle.std.specs.Prelude.{ℕ, ◌==◌, ◌&&◌, nat_le, List, [], ◌∷◌, Option, Some, None, Result, Ok, Err, if◌then◌else◌}
use Rattle.std.specs.Int.{w8, w32}
use Rattle.ord_types.specs.Reading.{◌>>=◌, Reading, below_at, block_at, digest_at, option_at, tested_at, vote_at}
use Rattle.ord_types.specs.declared.fault.Flaw.{Flaw}
use Rattle.bft_wal.specs.Records.{WalRecord}
use Rattle.bft_wal.specs.declared.record.WalRecord.TheVariants as record_of

-- THE BODIES

unfoldable pub accepted_at : Reading WalRecord
accepted_at bytes = do
  config ← below_at bytes
  view ← below_at config.1
  number ← below_at view.1
  block ← block_at number.1
  Ok (record_of.Accepted config.0 view.0 number.0 block.0, block.1)

unfoldable pub prepared_at : Reading WalRecord
prepared_at bytes = do
  config ← below_at bytes
  view ← below_at config.1
  number ← below_at view.1
  digest ← digest_at number.1
  Ok (record_of.Prepared config.0 view.0 number.0 digest.0, digest.1)

unfoldable pub left_at : Reading WalRecord
left_at bytes = do
  config ← below_at bytes
  view ← below_at config.1
  Ok (record_of.Left config.0 view.0, view.1)

unfoldable pub entered_at : Reading WalRecord
entered_at bytes = do
  config ← below_at bytes
  view ← below_at config.1
  number ← below_at view.1
  carried ← option_at vote_at number.1
  Ok (record_of.Entered config.0 view.0 number.0 carried.0, carried.1)

unfoldable pub voted_at : Reading WalRecord
voted_at bytes = do
  term ← below_at bytes
  candidate ← tested_at w32 (λ id. nat_le 1 id) term.1
  Ok (record_of.Voted term.0 candidate.0, candidate.1)

unfoldable pub tail_at : Reading WalRecord
tail_at bytes = do
  term ← below_at bytes
  number ← below_at term.1
  block ← block_at number.1
  Ok (record_of.Tail term.0 number.0 block.0, block.1)

-- THE KINDS

-- the body of a kind from 1 to 6
unfoldable pub body_at : ℕ → Reading WalRecord
body_at kind bytes =
    if kind == 1 then accepted_at bytes else
    (if kind == 2 then prepared_at bytes else
    (if kind == 3 then left_at bytes else
    (if kind == 4 then entered_at bytes else
    (if kind == 5 then voted_at bytes else
    tail_at bytes))))

unfoldable pub record_at : Reading WalRecord
record_at bytes = do
  kind ← tested_at w8 (λ n. nat_le 1 n && nat_le n 6) bytes
  body_at kind.0 kind.1

-- the record that all of the bytes are, if none trail
abbrev pub all_of : WalRecord → List ℕ → Option WalRecord
all_of entry [] = Some entry
all_of entry (b ∷ rest) = None

abbrev pub whole_record : Result (WalRecord × List ℕ) Flaw → Option WalRecord
whole_record (Ok found) = all_of found.0 found.1
whole_record (Err flaw) = None

-- the record that the bytes spell, if they spell one
unfoldable pub record_in : List ℕ → Option WalRecord
record_in bytes = whole_record (record_at bytes)
