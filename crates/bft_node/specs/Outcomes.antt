-- What a call of a running node leaves, whatever it answers.
use Rattle.std.specs.Prelude.{◌≡◌, ℕ, ◌≤◌, Bool, List, OnOk, Result}
use Rattle.gate_log.specs.Disk.{State}
use Rattle.bft_node.specs.NodeFaults.{HasNodeCause, counts}
use Rattle.bft_node.specs.Running.{IsReady, IsSame, IsSound}
use Rattle.bft_node.specs.declared.live.Running.{Running}
use Rattle.bft_node.specs.declared.node_fault.NodeFault.{NodeFault}

-- the devices at one moment: whether the disk tells, its moments, and how often the disk and the signer failed
pub record Devices : Type 0 where
  pub tells : Bool
  pub moments : List State
  pub disk : ℕ
  pub keys : ℕ

abbrev pub devices : Bool → List State → ℕ → ℕ → Devices
devices tells moments disk keys = record { tells = tells; moments = moments; disk = disk; keys = keys }

-- Where it was done, it is the same node, and ready again. The disk tells as it did, no count of failures fell,
-- and what a fault names has failed.
pub record KeepsRunning {T : Type 0} (result : Result T NodeFault) (old new : Running) (before after : Devices)
    : Type 0 where
  pub same : OnOk result (IsSame old new)
  pub ready : OnOk result (IsReady after.tells after.moments new)
  pub tells : after.tells ≡ before.tells
  pub later : (before.disk ≤ after.disk) × (before.keys ≤ after.keys)
  pub cause : HasNodeCause (counts before.disk before.keys) (counts after.disk after.keys) result

-- A call that touches no disk: the same node, which keeps true what it kept, and is ready where it was.
pub record StaysSound (old new : Running) : Type 0 where
  pub same : IsSame old new
  pub sound : IsSound new
  pub ready : (tells : Bool) (moments : List State) → IsReady tells moments old → IsReady tells moments new
