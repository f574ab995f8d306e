-- The records of a write-ahead log: which have a spelling, and the one spelling of each, its kind as a u8 and its body.
use Rattle.std.specs.Prelude.{ℕ, ◌<◌, ◌≤◌, ◌^◌, List, ◌++◌, IfSome}
use Rattle.std.specs.Int.{w8, w32, w64, to_be_bytes}
use Rattle.ord_types.specs.Grammar.{HasBlockSpelling, HasVoteSpelling, IsDigest, IsNumber}
use Rattle.ord_types.specs.Lengths.{FitsBlock}
use Rattle.ord_types.specs.Spelling.{block_text, option_text, vote_text}
pub use Rattle.bft_wal.specs.declared.record.WalRecord.{WalRecord}
use Rattle.bft_wal.specs.declared.record.WalRecord.TheVariants as record_of

-- an id of a member
abbrev pub IsId : ℕ → Type 0
IsId id = (1 ≤ id) × (id < 2 ^ 32)

-- a record that has a spelling
abbrev pub HasRecordSpelling : WalRecord → Type 0
HasRecordSpelling (record_of.Accepted config view number block) = IsNumber config × IsNumber view × IsNumber number × HasBlockSpelling block
HasRecordSpelling (record_of.Prepared config view number digest) = IsNumber config × IsNumber view × IsNumber number × IsDigest digest
HasRecordSpelling (record_of.Left config view) = IsNumber config × IsNumber view
HasRecordSpelling (record_of.Entered config view number carried) = IsNumber config × IsNumber view × IsNumber number × IfSome carried HasVoteSpelling
HasRecordSpelling (record_of.Voted term candidate) = IsNumber term × IsId candidate
HasRecordSpelling (record_of.Tail term number block) = IsNumber term × IsNumber number × HasBlockSpelling block

-- the kinds of records, by their numbers in the file
abbrev pub record_text : WalRecord → List ℕ
record_text (record_of.Accepted config view number block) =
    to_be_bytes w8 1 ++ to_be_bytes w64 config ++ to_be_bytes w64 view ++ to_be_bytes w64 number ++ block_text block
record_text (record_of.Prepared config view number digest) =
    to_be_bytes w8 2 ++ to_be_bytes w64 config ++ to_be_bytes w64 view ++ to_be_bytes w64 number ++ digest
record_text (record_of.Left config view) =
    to_be_bytes w8 3 ++ to_be_bytes w64 config ++ to_be_bytes w64 view
record_text (record_of.Entered config view number carried) =
    to_be_bytes w8 4 ++ to_be_bytes w64 config ++ to_be_bytes w64 view ++ to_be_bytes w64 number ++ option_text vote_text carried
record_text (record_of.Voted term candidate) =
    to_be_bytes w8 5 ++ to_be_bytes w64 term ++ to_be_bytes w32 candidate
record_text (record_of.Tail term number block) =
    to_be_bytes w8 6 ++ to_be_bytes w64 term ++ to_be_bytes w64 number ++ block_text block

-- a record whose lengths fit the fields that tell them
abbrev pub FitsRecord : WalRecord → Type 0
FitsRecord (record_of.Accepted config view number block) = FitsBlock block
FitsRecord (record_of.Prepared config view number digest) = Unit {0}
FitsRecord (record_of.Left config view) = Unit {0}
FitsRecord (record_of.Entered config view number carried) = Unit {0}
FitsRecord (record_of.Voted term candidate) = Unit {0}
FitsRecord (record_of.Tail term number block) = FitsBlock block
