-- Why a step wasn't done.
use Rattle.std.specs.Prelude.{
  ℕ,
  ◌^◌,
  ◌≤◌,
  ◌⊎◌,
  ◌≡◌,
  Bool,
  true,
  false,
  IsTrue,
  List,
  length,
  take,
  slice_get,
  Option,
  Some,
  IsSome,
  Result,
  Ok,
  Err,
}
use Rattle.ord_types.specs.Causes.{Rose}
use Rattle.bft_wal.specs.declared.record.WalRecord.TheVariants as record_of
use Rattle.gate_log.specs.Disk.{State}
use Rattle.node_model.specs.Entries.{Deed, Accepts, Prepares, Delivers, Leaves, Enters}
use Rattle.signer_edge.specs.declared.signing.SignFault.{SignFault}
use Rattle.signer_edge.specs.declared.signing.SignFault.TheVariants as sign_of
use Rattle.bft_node.specs.Held.{Held, carried_in, with_deeds}
use Rattle.bft_node.specs.Stores.{IsKept, held_of, ledger_limit, log_limit}
use Rattle.bft_node.specs.declared.store.Store.{Store}
use Rattle.bft_node.specs.declared.fault.StoreFault.{StoreFault}
use Rattle.bft_node.specs.declared.fault.StoreFault.TheVariants as store_of
use Rattle.bft_node.specs.declared.node_fault.NodeFault.{NodeFault}
use Rattle.bft_node.specs.declared.node_fault.NodeFault.TheVariants as node_of

abbrev pub sign_fault : SignFault → NodeFault
sign_fault sign_of.Failed = node_of.Sign
sign_fault sign_of.NoMemory = node_of.NoMemory

-- whatever length a file would get
abbrev pub store_fault : StoreFault → NodeFault
store_fault (store_of.Limit n) = node_of.Limit (2 ^ 62)
store_fault store_of.NoMemory = node_of.NoMemory
store_fault store_of.Disk = node_of.Disk

-- the counts of faults of the disk and of the signer
pub record Counts : Type 0 where
  pub disk : ℕ
  pub keys : ℕ

abbrev pub counts : ℕ → ℕ → Counts
counts disk keys = record { disk = disk; keys = keys }

-- A DEED THAT NEEDS MORE THAN MAY BE

-- the length that the file would get to which a deed is written, where it is too great
abbrev pub write_limit : Store → Deed → Option ℕ
write_limit store (Accepts i e v s b) = log_limit store (record_of.Accepted e v s b)
write_limit store (Prepares i e v s d) = log_limit store (record_of.Prepared e v s d)
write_limit store (Delivers i b proof) = ledger_limit store (b, proof)
write_limit store (Leaves i e v) = log_limit store (record_of.Left e v)
write_limit store (Enters i e v x choice) = log_limit store (record_of.Entered e v x (carried_in choice))

abbrev pub is_delivery : Deed → Bool
is_delivery (Delivers i b proof) = true
is_delivery (Accepts i e v s b) = false
is_delivery (Prepares i e v s d) = false
is_delivery (Leaves i e v) = false
is_delivery (Enters i e v x choice) = false

-- A deed of a node that holds so would make a file too long, or is the delivery after which no number is
-- left. Where the disk tells, the files are those in which the node's store is kept.
abbrev pub NeedsMore : Bool → ℕ → Deed → Held → Type 0
NeedsMore tells limit deed held =
    ((limit ≡ 2 ^ 62) × ((store : Store) × (held_of store ≡ held) × IsSome (write_limit store deed)
    × (IsTrue tells → (state : State) × IsKept store state)))
    ⊎ ((limit ≡ 4611686018427387903) × (is_delivery deed ≡ true) × (4611686018427387903 ≤ length held.blocks))

-- the same of the deed at which a call fails
abbrev pub NeedsLimit : Bool → Deed → Held → NodeFault → Type 0
NeedsLimit tells deed held node_of.Closed = Unit {0}
NeedsLimit tells deed held (node_of.Limit n) = NeedsMore tells n deed held
NeedsLimit tells deed held node_of.NoMemory = Unit {0}
NeedsLimit tells deed held node_of.Disk = Unit {0}
NeedsLimit tells deed held node_of.Sign = Unit {0}

-- One of these deeds needs more, where those before it are done. A disk fails only where there is a deed.
abbrev pub HasLimit : Bool → Held → List Deed → NodeFault → Type 0
HasLimit tells held deeds node_of.Closed = Unit {0}
HasLimit tells held deeds (node_of.Limit n) =
    (k : ℕ) × (deed : Deed) × (slice_get deeds k ≡ Some deed)
    × NeedsMore tells n deed (with_deeds (take k deeds) held)
HasLimit tells held deeds node_of.NoMemory = Unit {0}
HasLimit tells held deeds node_of.Disk = 1 ≤ length deeds
HasLimit tells held deeds node_of.Sign = Unit {0}

-- a device is named only where its count rose; Closed is told by no call of a node that runs
abbrev pub HasNodeCause : {T : Type 0} → Counts → Counts → Result T NodeFault → Type 0
HasNodeCause before now (Ok _) = Unit {0}
HasNodeCause before now (Err node_of.Closed) = ⊥
HasNodeCause before now (Err (node_of.Limit n)) = (n ≡ 2 ^ 62) ⊎ (n ≡ 4611686018427387903)
HasNodeCause before now (Err node_of.NoMemory) = Unit {0}
HasNodeCause before now (Err node_of.Disk) = Rose before.disk now.disk
HasNodeCause before now (Err node_of.Sign) = Rose before.keys now.keys

-- a call that makes nothing durable tells no fault of the disk, and needs no more than may be
abbrev pub TouchesNoDisk : NodeFault → Type 0
TouchesNoDisk node_of.Closed = Unit {0}
TouchesNoDisk (node_of.Limit n) = ⊥
TouchesNoDisk node_of.NoMemory = Unit {0}
TouchesNoDisk node_of.Disk = ⊥
TouchesNoDisk node_of.Sign = Unit {0}
