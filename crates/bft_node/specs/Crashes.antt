-- What a crash leaves of a disk, and what it opens to.
use Rattle.std.specs.Prelude.{ℕ, ◌<◌, ◌≤◌, List, length, take}
use Rattle.ord_types.specs.declared.values.Config.{Config}
use Rattle.gate_log.specs.Disk.{State, MayLeave}
use Rattle.signer_edge.specs.Accepts.{Accepts}
use Rattle.bft_wal.specs.Opening.{KeepsRecords}
use Rattle.block_ledger.specs.Reading.{KeepsChain}
use Rattle.node_model.specs.Entries.{Deed}
use Rattle.bft_node.specs.Held.{Held, with_deeds}

-- the bytes of each file
abbrev pub Image : Type 0
Image = ℕ → List ℕ

-- a crash at this moment may leave these files
abbrev pub IsCrash : State → Image → Type 0
IsCrash state image = (file : ℕ) → file < 3 → MayLeave (state file) (image file)

-- The files keep the blocks and the records.
pub record Opens (accepts : Accepts) (c : Config) (image : Image) (held : Held) : Type 0 where
  pub ledger : KeepsChain accepts c image held.blocks
  pub log : KeepsRecords image held.records

-- It opens to what the first of these deeds leave.
pub record OpensAfter (accepts : Accepts) (c : Config) (deeds : List Deed) (held : Held) (image : Image)
    : Type 0 where
  pub done : ℕ
  pub some : done ≤ length deeds
  pub opens : Opens accepts c image (with_deeds (take done deeds) held)

-- Every crash at this moment opens to what a front of these deeds leaves.
abbrev pub Within : Accepts → Config → List Deed → Held → State → Type 0
Within accepts c deeds held state =
    (image : Image) → IsCrash state image → OpensAfter accepts c deeds held image
