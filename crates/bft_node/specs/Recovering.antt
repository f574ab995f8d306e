-- What a node holds on its disk, and what an opening makes of what a crash leaves of it.
use Rattle.std.specs.Prelude.{◌≡◌, ℕ, ◌≤◌, List, [], ◌∷◌, ◌++◌, length, take}
use Rattle.ord_types.specs.Genesis.{IsGenesisConfig}
use Rattle.ord_types.specs.declared.values.Config.{Config}
use Rattle.gate_log.specs.Disk.{State}
use Rattle.signer_edge.specs.Accepts.{Accepts as Acceptance}
use Rattle.signer_edge.specs.Signing.{KeepsAccepted}
use Rattle.bft_wal.specs.Opening.{KeepsRecords}
use Rattle.bft_wal.specs.declared.record.WalRecord.{WalRecord}
use Rattle.block_ledger.specs.Chains.{Entry as Stored, IsChain, genesis_entry}
use Rattle.block_ledger.specs.Reading.{KeepsChain}
use Rattle.node_model.specs.Cores.{Core, after_entries, core_on}
use Rattle.node_model.specs.Entries.{Entry, statements_of, stored_of}
use Rattle.bft_node.specs.Crashes.{Image, IsCrash}
use Rattle.bft_node.specs.Running.{chain_of, state_of}
use Rattle.bft_node.specs.Standing.{Stands}
use Rattle.bft_node.specs.Stores.{IsKept, StaysOpen, config_of, held_of}
use Rattle.bft_node.specs.declared.live.Running.{Running}

-- Files that keep a chain and what a node did: an opening finds the node as it was, but for the vote messages
-- that it kept.
pub record Keeps (accepts : Acceptance) (c : Config) (me : ℕ) (image : Image) (chain : List Stored)
    (core : Core) : Type 0 where
  pub ledger : KeepsChain accepts c image chain
  pub records : List WalRecord
  pub log : KeepsRecords image records
  pub stands : Stands c me (record { blocks = chain; records = records }) core

-- A node holds what it did on a disk in this state, and its blocks are a chain by what is accepted.
pub record Holds (accepts : Acceptance) (r : Running) (state : State) : Type 0 where
  pub chain : IsChain accepts (config_of r.store) (chain_of r)
  pub stands : Stands (config_of r.store) r.id (held_of r.store) (state_of r)
  pub kept : IsKept r.store state

-- Files that keep what a node had, and a front of the entries of a step that it began.
pub record KeepsFront (accepts : Acceptance) (old : Running) (made : List Entry) (image : Image)
    : Type 0 where
  pub cut : ℕ
  pub some : cut ≤ length made
  pub keeps : Keeps accepts (config_of old.store) old.id image (chain_of old ++ stored_of (take cut made))
      (after_entries (take cut made) (state_of old))

-- The same, where the statements that were signed are those of that front.
pub record KeepsSigned (accepts : Acceptance) (old : Running) (made : List Entry)
    (statements : List (List ℕ)) (image : Image) : Type 0 where
  pub front : KeepsFront accepts old made image
  pub signed : statements ≡ statements_of (take front.cut made)

-- LAWS

-- empty files keep a node that has done nothing
abbrev pub EmptyFilesKeep : Type 0
EmptyFilesKeep =
    (accepts : Acceptance) (c : Config) (me : ℕ) → IsGenesisConfig c
    → Keeps accepts c me (λ file. []) (genesis_entry c ∷ []) (core_on c me)

-- every crash of a disk on which a node holds what it did keeps it
abbrev pub CrashesKeep : Type 0
CrashesKeep =
    (accepts : Acceptance) (r : Running) (state : State) → Holds accepts r state
    → (image : Image) → IsCrash state image
    → Keeps accepts (config_of r.store) r.id image (chain_of r) (state_of r)

-- it goes on where more is accepted, and where the two files are as they were
abbrev pub HoldsOn : Type 0
HoldsOn =
    (accepts judge : Acceptance) (r : Running) (one two : State) → Holds accepts r one
    → KeepsAccepted accepts judge → two 0 ≡ one 0 → two 2 ≡ one 2 → Holds judge r two

-- what every crash of a disk keeps is kept by every crash while a node is opened on it
abbrev pub OpeningsKeep : Type 0
OpeningsKeep =
    (accepts : Acceptance) (c : Config) (me : ℕ) (chain : List Stored) (core : Core) (before state : State)
    → ((image : Image) → IsCrash before image → Keeps accepts c me image chain core)
    → StaysOpen accepts c before state
    → (image : Image) → IsCrash state image → Keeps accepts c me image chain core
