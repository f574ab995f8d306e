-- A ledger and a log over one disk, and what their calls leave and answer.
use Rattle.std.specs.Prelude.{
  ◌≡◌,
  ◌≢◌,
  ◌⊎◌,
  Bool,
  false,
  ℕ,
  ◌+◌,
  ◌^◌,
  List,
  [],
  ◌∷◌,
  ◌++◌,
  length,
  nat_lt,
  Option,
  Some,
  None,
  Result,
  Ok,
  Err,
  if◌then◌else◌,
}
use Rattle.ord_types.specs.Causes.{Rose}
use Rattle.ord_types.specs.declared.values.Config.{Config}
use Rattle.gate_log.specs.Disk.{State}
use Rattle.gate_log.specs.Runs.{Throughout}
use Rattle.gate_log.specs.Settled.{too_long}
use Rattle.gate_log.specs.declared.fault.LogFault.{LogFault}
use Rattle.gate_log.specs.declared.fault.LogFault.TheVariants as log_of
use Rattle.signer_edge.specs.Accepts.{Accepts}
use Rattle.bft_wal.specs.Opening.{IsSettled, opens_as, records}
use Rattle.bft_wal.specs.Records.{record_text}
use Rattle.bft_wal.specs.declared.record.WalRecord.{WalRecord}
use Rattle.block_ledger.specs.Chains.{Entry}
use Rattle.block_ledger.specs.Entries.{entry_text}
use Rattle.block_ledger.specs.Ledgers.{IsKept as IsLedgerKept, blocks_of, end_of, first_config}
use Rattle.block_ledger.specs.Reading.{Bad, Chain, Foreign, stands_for}
use Rattle.block_ledger.specs.declared.fault.LedgerFault.{LedgerFault}
use Rattle.block_ledger.specs.declared.fault.LedgerFault.TheVariants as ledger_of
use Rattle.node_model.specs.Entries.{Deed}
use Rattle.bft_node.specs.Crashes.{Image, IsCrash, Within}
use Rattle.bft_node.specs.Held.{Held, with_deed}
use Rattle.bft_node.specs.declared.fault.OpenFault.{OpenFault}
use Rattle.bft_node.specs.declared.fault.OpenFault.TheVariants as open_of
use Rattle.bft_node.specs.declared.fault.StoreFault.{StoreFault}
use Rattle.bft_node.specs.declared.fault.StoreFault.TheVariants as store_of
use Rattle.bft_node.specs.declared.store.Store.{Store}

-- what a store holds
abbrev pub held_of : Store → Held
held_of store = record { blocks = blocks_of store.ledger; records = records store.wal }

-- the configuration that its chain began with
abbrev pub config_of : Store → Config
config_of store = first_config store.ledger

-- Both files stand for what the store holds; all of it is on the disk.
pub record IsKept (store : Store) (state : State) : Type 0 where
  pub ledger : IsLedgerKept store.ledger state
  pub log : IsSettled store.wal state

-- no file but the ledger's and the log's is another one
abbrev pub OthersStay : State → State → Type 0
OthersStay before state = (file : ℕ) → file ≢ 0 → file ≢ 2 → state file ≡ before file

-- the deed stands in the log as this record
abbrev pub IsStoredAs : Deed → WalRecord → Type 0
IsStoredAs deed entry =
    (held : Held) → with_deed deed held ≡ record held { records = held.records ++ entry ∷ [] }

-- at each moment every crash opens to what a store held, with this deed or without
abbrev pub WritesWithin : Store → Deed → Accepts → List State → List State → Type 0
WritesWithin store deed accepts before after =
    Throughout (Within accepts (config_of store) (deed ∷ []) (held_of store)) before after

-- the length that a record or its file would get, where it is too great
abbrev pub log_limit : Store → WalRecord → Option ℕ
log_limit store entry = too_long store.wal.log.gate (length (record_text entry))

-- the same of the ledger's file with an entry
abbrev pub ledger_limit : Store → Entry → Option ℕ
ledger_limit store e =
    let grown : ℕ = end_of store.ledger + 5 + length (entry_text e) in
    if nat_lt (2 ^ 62) grown then Some grown else None

-- why a call that makes a deed durable answers so; want of memory may come before a length is looked at
abbrev pub WriteAnswers : Option ℕ → ℕ → ℕ → Result (Unit {0}) StoreFault → Type 0
WriteAnswers limit before now (Ok _) = limit ≡ None
WriteAnswers limit before now (Err (store_of.Limit n)) = limit ≡ Some n
WriteAnswers limit before now (Err store_of.NoMemory) = Unit {0}
WriteAnswers limit before now (Err store_of.Disk) = (limit ≡ None) × Rose before now

-- what holds after a refusal; of an answer after a fault of the disk nothing is said
abbrev pub OnRefusal : Result (Unit {0}) StoreFault → Type 0 → Type 0
OnRefusal (Ok _) P = Unit {0}
OnRefusal (Err (store_of.Limit n)) P = P
OnRefusal (Err store_of.NoMemory) P = P
OnRefusal (Err store_of.Disk) P = Unit {0}

-- the ledger's file stands for a chain
abbrev pub HasChain : Accepts → Config → State → Type 0
HasChain accepts c state = (chain : List Entry) × (stands_for accepts c (state 2).reads ≡ Chain chain)

-- a file is foreign at its first wrong place: the ledger's, or else the log's
abbrev pub IsForeign : Accepts → Config → State → ℕ → ℕ → Type 0
IsForeign accepts c state file at =
    ((file ≡ 2) × (stands_for accepts c (state 2).reads ≡ Foreign at))
    ⊎ ((file ≡ 0) × HasChain accepts c state × (opens_as (state 0).reads ≡ Err at))

-- The store holds what the files stand for, or the first cause of a refusal is told: the ledger's file, a
-- stored block, the log's file.
abbrev pub StoreOpensTo : Accepts → Config → State → Result Store OpenFault → Type 0
StoreOpensTo accepts c state (Ok store) =
    (stands_for accepts c (state 2).reads ≡ Chain (held_of store).blocks)
    × (opens_as (state 0).reads ≡ Ok (held_of store).records)
StoreOpensTo accepts c state (Err (open_of.Foreign file at)) = IsForeign accepts c state file at
StoreOpensTo accepts c state (Err (open_of.Stored number why)) =
    stands_for accepts c (state 2).reads ≡ Bad number why
StoreOpensTo accepts c state (Err (open_of.Limit n)) = ⊥
StoreOpensTo accepts c state (Err open_of.NoMemory) = Unit {0}
StoreOpensTo accepts c state (Err open_of.Disk) = Unit {0}

-- why a store isn't opened; a disk that doesn't tell may hold a file that gets too long by what an opening
-- adds
abbrev pub OpenAnswers : {T : Type 0} → Bool → ℕ → ℕ → Result T OpenFault → Type 0
OpenAnswers tells before now (Ok _) = Unit {0}
OpenAnswers tells before now (Err (open_of.Foreign file at)) = (file ≡ 0) ⊎ (file ≡ 2)
OpenAnswers tells before now (Err (open_of.Stored number why)) = Unit {0}
OpenAnswers tells before now (Err (open_of.Limit n)) = tells ≡ false
OpenAnswers tells before now (Err open_of.NoMemory) = Unit {0}
OpenAnswers tells before now (Err open_of.Disk) = Rose before now

-- The files of a crash open to what those of a crash at an earlier moment could have opened to.
pub record OpensAsBefore (accepts : Accepts) (c : Config) (before : State) (image : Image) : Type 0 where
  pub was : Image
  pub left : IsCrash before was
  pub ledger : stands_for accepts c (image 2) ≡ stands_for accepts c (was 2)
  pub log : opens_as (image 0) ≡ opens_as (was 0)

-- At this moment every crash does so, and no other file is another one.
pub record StaysOpen (accepts : Accepts) (c : Config) (before state : State) : Type 0 where
  pub crash : (image : Image) → IsCrash state image → OpensAsBefore accepts c before image
  pub others : OthersStay before state

-- what is told of a fault of the log in an append; it tells no foreign file
abbrev pub log_write_fault : LogFault → StoreFault
log_write_fault (log_of.TooLong n) = store_of.Limit n
log_write_fault (log_of.Foreign at) = store_of.NoMemory
log_write_fault log_of.NoMemory = store_of.NoMemory
log_write_fault log_of.Failed = store_of.Disk

-- the same of the ledger; an append of a block that is to come next refuses nothing else
abbrev pub ledger_write_fault : LedgerFault → StoreFault
ledger_write_fault (ledger_of.Limit n) = store_of.Limit n
ledger_write_fault ledger_of.Failed = store_of.Disk
ledger_write_fault _ = store_of.NoMemory
