-- The nodes of one world with their disks, and what an opening and a step make of one.
use Rattle.std.specs.Prelude.{
  ◌≡◌,
  ◌≢◌,
  ◌↔◌,
  ℕ,
  false,
  true,
  List,
  Option,
  Some,
  Result,
  Ok,
  Err,
  is_err,
  OnOk,
}
use Rattle.gate_log.specs.Arms.{armed}
use Rattle.gate_log.specs.Disk.{now}
use Rattle.gate_log.specs.History.{states}
use Rattle.gate_log.specs.Memory.{IsUncounted}
use Rattle.gate_log.specs.Runs.{Throughout}
use Rattle.gate_log.specs.declared.image.Image.{Image}
use Rattle.gate_log.specs.declared.memory.MemDisk.{MemDisk}
use Rattle.signer_edge.specs.Accepts.{Accepts as Acceptance}
use Rattle.signer_edge.specs.Seals.{Seat, SealsOne, is_sealed}
use Rattle.block_ledger.specs.Chains.{Entry as Stored, IsChain}
use Rattle.node_model.specs.Cores.{Core}
use Rattle.node_model.specs.declared.event.Event.{Event}
use Rattle.bft_node.specs.Crashes.{Image as Files}
use Rattle.bft_node.specs.NodeOpenings.{IsFoundAgain, files_at}
use Rattle.bft_node.specs.NodeFaults.{HasNodeCause, counts}
use Rattle.bft_node.specs.NodeSteps.{TakesBy}
use Rattle.bft_node.specs.Returning.{opened}
use Rattle.bft_node.specs.Recovering.{Holds, Keeps}
use Rattle.bft_node.specs.Running.{chain_of, state_of}
use Rattle.bft_node.specs.Signings.{Signing, Signs}
use Rattle.bft_node.specs.Stores.{IsKept, StoreOpensTo, StaysOpen, config_of, held_of}
use Rattle.bft_node.specs.declared.fault.OpenFault.{OpenFault}
use Rattle.bft_node.specs.declared.live.Out.{Out}
use Rattle.bft_node.specs.declared.live.Setup.{Setup}
use Rattle.bft_node.specs.declared.node_fault.NodeFault.{NodeFault}
use Rattle.bft_node.specs.declared.node_fault.NodeFault.TheVariants as fault_of
use Rattle.bft_node.specs.declared.lodged.Lodged.{Lodged}

-- which node stands under an id
abbrev pub Lodging : Type 0
Lodging = ℕ → Option Lodged

-- under this id stands this now, and the others are as they were
pub record Becomes (before after : Lodging) (id : ℕ) (then : Option Lodged) : Type 0 where
  pub there : after id ≡ then
  pub others : (other : ℕ) → other ≢ id → after other ≡ before other

-- all stand as they did
abbrev pub StaysAlike : Lodging → Lodging → Type 0
StaysAlike before after = (id : ℕ) → after id ≡ before id

-- what was accepted by a box of seals
abbrev pub accepts_of : Seat → Acceptance
accepts_of seat = is_sealed seat.seals

-- the disk is as the node's last call left it
abbrev pub IsKeptIn : Lodged → Type 0
IsKeptIn l = l.node.closed ≡ false → IsKept l.node.running.store (now (states l.disk.history))

-- it holds what it did on its disk
abbrev pub HoldsIn : Acceptance → Lodged → Type 0
HoldsIn accepts l = Holds accepts l.node.running (now (states l.disk.history))

-- the bytes of a disk's files
abbrev pub files_of : MemDisk → Files
files_of disk = files_at (now (states disk.history))

-- a node that was found again as it was, but for the vote messages that it kept
abbrev pub IsFound : Acceptance → Lodged → List Stored → Core → Type 0
IsFound accepts l chain core = IsFoundAgain accepts l.node.running (now (states l.disk.history)) chain core

-- A node as it is opened on what this disk holds.
pub record IsOpenedOn (setup : Setup) (accepts : Acceptance) (disk : MemDisk) (l : Lodged) : Type 0 where
  pub runs : l.node.closed ≡ false
  pub id : l.node.running.id ≡ setup.me
  pub config : config_of l.node.running.store ≡ setup.genesis
  pub chain : IsChain accepts setup.genesis (chain_of l.node.running)
  pub state : state_of l.node.running ≡ opened setup.genesis setup.me (held_of l.node.running.store)
  pub value : StoreOpensTo accepts setup.genesis (now (states disk.history)) (Ok l.node.running.store)
  pub finds : (chain : List Stored) (core : Core)
      → Keeps accepts setup.genesis setup.me (files_of disk) chain core
      → IsFound accepts l chain core
  pub any_moment : Throughout (StaysOpen accepts setup.genesis (now (states disk.history))) (states disk.history)
      (states l.disk.history)
  pub kept : IsKept l.node.running.store (now (states l.disk.history))

-- what `add` comes to: the node stands under its id, or the first fault is told
abbrev pub Adds : Lodging → Lodging → Setup → Acceptance → MemDisk → Result (Unit {0}) OpenFault → Type 0
Adds before after setup accepts disk (Ok _) =
    (l : Lodged) × IsOpenedOn setup accepts disk l × Becomes before after setup.me (Some l)
Adds before after setup accepts disk (Err fault) =
    StaysAlike before after × StoreOpensTo accepts setup.genesis (now (states disk.history)) (Err fault)

-- what a step comes to by what the keys signed
abbrev pub TakesSealed : Lodged → Lodged → Event → Seat → Result Out NodeFault → List (Signing Seat) → Type 0
TakesSealed old new event before result signings =
    TakesBy accepts_of before old.node.running new.node.running event result true (states old.disk.history)
    (states new.disk.history) signings

-- One step of a node over its disk.
pub record IsStepOf (old new : Lodged) (event : Event) (before after : Seat) (result : Result Out NodeFault)
    : Type 0 where
  pub step : old.node.closed ≡ false
      → Signs SealsOne result before after (TakesSealed old new event before result)
  pub kept : OnOk result (IsKept new.node.running.store (now (states new.disk.history)))
  pub id : OnOk result (new.node.running.id ≡ old.node.running.id)
  pub config : OnOk result (config_of new.node.running.store ≡ config_of old.node.running.store)
  pub closed : (result ≡ Err fault_of.Closed) ↔ (old.node.closed ≡ true)
  pub nothing : old.node.closed ≡ true → (new.disk ≡ old.disk) × (after ≡ before)
  pub closes : new.node.closed ≡ is_err result
  pub cause : old.node.closed ≡ false
      → HasNodeCause (counts old.disk.faults 0) (counts new.disk.faults 0) result

-- what `step` comes to
abbrev pub StepsAt : Lodging → Lodging → ℕ → Event → Seat → Seat → Result Out NodeFault → Type 0
StepsAt before after id event keys keys_then result =
    (old : Lodged) → before id ≡ Some old
    → (new : Lodged) × IsStepOf old new event keys keys_then result × Becomes before after id (Some new)

-- A node with its disk after a read: the node is the same, and the files and the arm of its disk are. So it is
-- kept, and holds what it did, where that was so before.
pub record IsRead (old new : Lodged) : Type 0 where
  pub node : new.node ≡ old.node
  pub disk : IsUncounted old.disk new.disk

-- what a read of a node's disk may change
abbrev pub ReadsAt : Lodging → Lodging → ℕ → Type 0
ReadsAt before after id =
    (old : Lodged) → before id ≡ Some old
    → (new : Lodged) × IsRead old new × Becomes before after id (Some new)

-- with its disk armed
abbrev pub with_arm : ℕ → Image → Lodged → Lodged
with_arm call image l = record l { disk = record l.disk { arm = armed call image l.disk.arm } }
