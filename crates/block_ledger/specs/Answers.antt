-- What the calls of a ledger answer.
use Rattle.std.specs.Prelude.{◌≡◌, Bool, false, ℕ, ◌+◌, ◌^◌, nat_lt, length, if◌then◌else◌, Option, Some, None, Result, Ok, Err}
use Rattle.std.specs.Option.{option_map, option_or}
use Rattle.ord_types.specs.Causes.{Rose}
use Rattle.ord_types.specs.declared.values.Place.{Place}
use Rattle.gate_log.specs.declared.fault.LogFault.{LogFault}
use Rattle.gate_log.specs.declared.fault.LogFault.TheVariants as log_of
use Rattle.signer_edge.specs.Accepts.{Accepts}
use Rattle.chan_config.specs.declared.checks.BlockRefusal.{BlockRefusal}
use Rattle.chan_config.specs.declared.checks.BlockRefusal.TheVariants as block_of
use Rattle.block_ledger.specs.declared.fault.LedgerFault.{LedgerFault}
use Rattle.block_ledger.specs.declared.fault.LedgerFault.TheVariants as fault_of
use Rattle.block_ledger.specs.declared.fault.NextRefusal.{NextRefusal}
use Rattle.block_ledger.specs.declared.fault.NextRefusal.TheVariants as next_of
use Rattle.block_ledger.specs.declared.ledger.Ledger.{Ledger}
use Rattle.block_ledger.specs.Chains.{Entry}
use Rattle.block_ledger.specs.Entries.{entry_text}
use Rattle.block_ledger.specs.Judging.{next_refusal}
use Rattle.block_ledger.specs.Ledgers.{blocks_of}
use Rattle.block_ledger.specs.Reading.{Stored, Foreign, Bad, Chain}

-- the fault of a block's refusal: a number and a hash have faults of their own
abbrev pub block_fault : BlockRefusal → LedgerFault
block_fault (block_of.WrongNumber n) = fault_of.WrongNumber n
block_fault (block_of.WrongPrevious named real) = fault_of.WrongPrevious named real
block_fault block_of.WrongContent = fault_of.BadBlock block_of.WrongContent
block_fault block_of.WrongMeta = fault_of.BadBlock block_of.WrongMeta
block_fault (block_of.WrongConfig n) = fault_of.BadBlock (block_of.WrongConfig n)
block_fault (block_of.Unlawful i) = fault_of.BadBlock (block_of.Unlawful i)
block_fault block_of.NoMemory = fault_of.NoMemory

-- the fault of a block that may not come next
abbrev pub next_fault : NextRefusal → LedgerFault
next_fault (next_of.Block refusal) = block_fault refusal
next_fault next_of.Proof = fault_of.BadProof
next_fault (next_of.Cert refusal) = fault_of.BadCert refusal

-- the fault of a log
abbrev pub log_fault : LogFault → LedgerFault
log_fault (log_of.TooLong n) = fault_of.Limit n
log_fault (log_of.Foreign at) = fault_of.Foreign at
log_fault log_of.NoMemory = fault_of.NoMemory
log_fault log_of.Failed = fault_of.Failed

-- a file that ends there gets too long by so many bytes: the length that it would get
abbrev pub limit_fault : ℕ → ℕ → Option LedgerFault
limit_fault end size = if nat_lt (2 ^ 62) (end + 5 + size) then Some (fault_of.Limit (end + 5 + size)) else None

-- why a block with its proof isn't added to a ledger that stands at a place and whose file ends there: the first that holds
abbrev pub append_fault : Accepts → Place → ℕ → Entry → Option LedgerFault
append_fault accepts place end e = option_or (option_map next_fault (next_refusal accepts place e)) (limit_fault end (length (entry_text e)))

-- what is answered for a block that is to come next
abbrev pub ChecksNext : Option NextRefusal → Result (Unit {0}) LedgerFault → Type 0
ChecksNext refusal (Ok _) = refusal ≡ None
ChecksNext refusal (Err fault_of.NoMemory) = refusal ≡ None
ChecksNext refusal (Err told) = option_map next_fault refusal ≡ Some told

-- why an append answers so; want of memory may come before the file's length is looked at
abbrev pub AppendAnswers : Option NextRefusal → Option LedgerFault → ℕ → ℕ → Result (Unit {0}) LedgerFault → Type 0
AppendAnswers refusal fault before now (Ok _) = fault ≡ None
AppendAnswers refusal fault before now (Err fault_of.NoMemory) = refusal ≡ None
AppendAnswers refusal fault before now (Err fault_of.Failed) = (fault ≡ None) × Rose before now
AppendAnswers refusal fault before now (Err told) = fault ≡ Some told

-- what holds after a refusal; of an answer after Failed nothing is said
abbrev pub OnRefusal : {T : Type 0} → Result T LedgerFault → Type 0 → Type 0
OnRefusal (Ok _) P = Unit {0}
OnRefusal (Err fault_of.Failed) P = Unit {0}
OnRefusal (Err told) P = P

-- The ledger has the chain that the file stands for. A foreign file is refused at its first wrong byte, and a stored block that breaks the
-- rules where it is the first one; no other file is.
abbrev pub LedgerOpensTo : Stored → Result Ledger LedgerFault → Type 0
LedgerOpensTo stored (Ok ledger) = stored ≡ Chain (blocks_of ledger)
LedgerOpensTo stored (Err (fault_of.Foreign at)) = stored ≡ Foreign at
LedgerOpensTo stored (Err (fault_of.Stored number why)) = stored ≡ Bad number why
LedgerOpensTo stored (Err fault_of.NoMemory) = Unit {0}
LedgerOpensTo stored (Err fault_of.Failed) = Unit {0}
LedgerOpensTo stored (Err told) = ⊥

-- why an empty log isn't made a ledger
abbrev pub BeginAnswers : Bool → ℕ → ℕ → Result Ledger LedgerFault → Type 0
BeginAnswers tells before now (Ok _) = Unit {0}
BeginAnswers tells before now (Err fault_of.NoMemory) = Unit {0}
BeginAnswers tells before now (Err fault_of.Failed) = Rose before now
BeginAnswers tells before now (Err (fault_of.Limit n)) = tells ≡ false
BeginAnswers tells before now (Err told) = ⊥

-- the block of a number with its proof, unless memory runs out
abbrev pub GivesBlock : Option Entry → Result (Option Entry) LedgerFault → Type 0
GivesBlock entry (Ok found) = found ≡ entry
GivesBlock entry (Err fault) = fault ≡ fault_of.NoMemory

-- why a ledger isn't opened; a disk that doesn't tell may hold a file that gets too long by the genesis block
abbrev pub OpenAnswers : Bool → ℕ → ℕ → Result Ledger LedgerFault → Type 0
OpenAnswers tells before now (Ok _) = Unit {0}
OpenAnswers tells before now (Err (fault_of.Foreign at)) = Unit {0}
OpenAnswers tells before now (Err (fault_of.Stored number why)) = Unit {0}
OpenAnswers tells before now (Err fault_of.NoMemory) = Unit {0}
OpenAnswers tells before now (Err (fault_of.Limit n)) = tells ≡ false
OpenAnswers tells before now (Err fault_of.Failed) = Rose before now
OpenAnswers tells before now (Err told) = ⊥
