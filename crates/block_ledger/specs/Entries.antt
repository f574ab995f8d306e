-- How a block and its proof are spelled in a ledger's file.
use Rattle.std.specs.Prelude.{ℕ, List, ◌++◌, length, Result, Ok}
use Rattle.std.specs.List.{AllByRecursion}
use Rattle.ord_types.specs.Faults.{whole}
use Rattle.ord_types.specs.Grammar.{HasBlockSpelling, HasProofSpelling}
use Rattle.ord_types.specs.Reading.{◌>>=◌, Reading, block_at, proof_at}
use Rattle.ord_types.specs.Spelling.{block_text, proof_text}
use Rattle.ord_types.specs.declared.fault.ReadFault.{ReadFault}
use Rattle.ord_types.specs.declared.fault.ReadFault.TheVariants.{Short, BadField, Trailing, NoMemory}
use Rattle.block_ledger.specs.Chains.{Entry}

-- the block, and its proof behind it
abbrev pub entry_text : Entry → List ℕ
entry_text e = block_text e.0 ++ proof_text e.1

pub record HasEntrySpelling (e : Entry) : Type 0 where
  pub block : HasBlockSpelling e.0
  pub proof : HasProofSpelling e.1

abbrev pub HaveSpelling : List Entry → Type 0
HaveSpelling chain = AllByRecursion HasEntrySpelling chain

unfoldable pub entry_at : Reading Entry
entry_at bytes = do
  block ← block_at bytes
  proof ← proof_at block.1
  Ok ((block.0, proof.0), proof.1)

-- the block and the proof that all of these bytes are, or the first fault
abbrev pub read_entry : List ℕ → Result Entry ReadFault
read_entry bytes = whole (length bytes) (entry_at bytes)

-- the place of a fault: the end of the bytes, a field's first byte, or what trails
abbrev pub fault_place : ReadFault → ℕ
fault_place (Short at) = at
fault_place (BadField at) = at
fault_place (Trailing at) = at
fault_place NoMemory = 0
