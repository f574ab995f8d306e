use Rattle.std.proofs.Common.{◌≡◌, take}
use Rattle.bft_wal.specs.Fold.{tally_of}
use Rattle.bft_wal.specs.Opening.{records_in}
use Rattle.bft_wal.proofs.wal.Wal.tally.Given as goal

abbrev pub invariant-loop-entry : goal.invariant-loop-entry
invariant-loop-entry l = l.tally ≡ tally_of l.fn.config l.fn.height (records_in (take l.entry-index l.fn.self.log.entries))
