-- What a node holds durable, and what its deeds add to it.
use Rattle.std.specs.Prelude.{List, [], ◌∷◌, ◌++◌, Option, Some, None}
use Rattle.ord_types.specs.declared.values.Choice.{Choice}
use Rattle.ord_types.specs.declared.values.Choice.TheVariants.{Carry, Free, Neither}
use Rattle.ord_types.specs.declared.values.Vote.{Vote}
use Rattle.bft_wal.specs.declared.record.WalRecord.{WalRecord}
use Rattle.bft_wal.specs.declared.record.WalRecord.TheVariants.{Accepted, Prepared, Left, Entered}
use Rattle.block_ledger.specs.Chains.{Entry}
use Rattle.node_model.specs.Entries.{Deed, Accepts, Prepares, Delivers, Leaves, Enters}

-- the blocks of its ledger with their proofs, and the records of its log
pub record Held : Type 0 where
  pub blocks : List Entry
  pub records : List WalRecord

-- the vote that an entry carries
abbrev pub carried_in : Choice → Option Vote
carried_in Free = None
carried_in (Carry vote) = Some vote
carried_in Neither = None

-- one record more, and one block more with its proof
abbrev pub with_record : WalRecord → Held → Held
with_record entry held = record held { records = held.records ++ entry ∷ [] }

abbrev pub with_block : Entry → Held → Held
with_block entry held = record held { blocks = held.blocks ++ entry ∷ [] }

-- a delivery stands in the ledger, each other deed in the log
abbrev pub with_deed : Deed → Held → Held
with_deed (Accepts i e v s b) held = with_record (Accepted e v s b) held
with_deed (Prepares i e v s d) held = with_record (Prepared e v s d) held
with_deed (Delivers i b proof) held = with_block (b, proof) held
with_deed (Leaves i e v) held = with_record (Left e v) held
with_deed (Enters i e v x choice) held = with_record (Entered e v x (carried_in choice)) held

-- after deeds, the first of them first
abbrev pub with_deeds : List Deed → Held → Held
with_deeds [] held = held
with_deeds (deed ∷ deeds) held = with_deeds deeds (with_deed deed held)
