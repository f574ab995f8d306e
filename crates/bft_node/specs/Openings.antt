-- What an opening tells of the faults of a ledger and of a log.
use Rattle.gate_log.specs.declared.fault.LogFault.{LogFault}
use Rattle.gate_log.specs.declared.fault.LogFault.TheVariants as log_of
use Rattle.block_ledger.specs.declared.fault.LedgerFault.{LedgerFault}
use Rattle.block_ledger.specs.declared.fault.LedgerFault.TheVariants as ledger_of
use Rattle.bft_node.specs.declared.fault.OpenFault.{OpenFault}
use Rattle.bft_node.specs.declared.fault.OpenFault.TheVariants as open_of

-- the fault of a ledger, with its file; an opening tells no other
abbrev pub ledger_fault : LedgerFault → OpenFault
ledger_fault (ledger_of.Foreign at) = open_of.Foreign 2 at
ledger_fault (ledger_of.Stored number why) = open_of.Stored number why
ledger_fault (ledger_of.Limit n) = open_of.Limit n
ledger_fault ledger_of.Failed = open_of.Disk
ledger_fault _ = open_of.NoMemory

-- the fault of a log, with its file
abbrev pub log_fault : LogFault → OpenFault
log_fault (log_of.Foreign at) = open_of.Foreign 0 at
log_fault (log_of.TooLong n) = open_of.Limit n
log_fault log_of.NoMemory = open_of.NoMemory
log_fault log_of.Failed = open_of.Disk
