-- What the opening of a node answers, and what it finds.
use Rattle.std.specs.Prelude.{◌≡◌, ℕ, IfOk, List, Result, Ok, Err}
use Rattle.ord_types.specs.declared.values.Config.{Config}
use Rattle.gate_log.specs.Disk.{State}
use Rattle.signer_edge.specs.Accepts.{Accepts}
use Rattle.block_ledger.specs.Chains.{Entry as Stored}
use Rattle.node_model.specs.Cores.{Core, after_opening}
use Rattle.bft_node.specs.Crashes.{Image}
use Rattle.bft_node.specs.Recovering.{Holds, Keeps}
use Rattle.bft_node.specs.Running.{chain_of, state_of}
use Rattle.bft_node.specs.Stores.{StoreOpensTo}
use Rattle.bft_node.specs.declared.fault.OpenFault.{OpenFault}
use Rattle.bft_node.specs.declared.live.Running.{Running}
use Rattle.bft_node.specs.declared.member.Node.{Node}

-- as its store is opened
abbrev pub NodeOpens : Accepts → Config → State → Result Node OpenFault → Type 0
NodeOpens accepts c state (Ok node) = StoreOpensTo accepts c state (Ok node.running.store)
NodeOpens accepts c state (Err fault) = StoreOpensTo accepts c state (Err fault)

-- what the files of a disk in this state read as
abbrev pub files_at : State → Image
files_at state file = (state file).reads

-- A node that was found again with this chain as it was, but for the vote messages that it kept.
pub record IsFoundAgain (accepts : Accepts) (r : Running) (disk : State) (blocks : List Stored) (core : Core)
    : Type 0 where
  pub chain : chain_of r ≡ blocks
  pub state : state_of r ≡ after_opening core
  pub holds : Holds accepts r disk

-- What the files kept of a node before an opening is found, and held on the disk after it.
abbrev pub FindsAgain : Accepts → Config → ℕ → State → State → Result Node OpenFault → Type 0
FindsAgain accepts c me before after result =
    (chain : List Stored) (core : Core) → Keeps accepts c me (files_at before) chain core
    → IfOk result (λ (node : Node). IsFoundAgain accepts node.running after chain core)
