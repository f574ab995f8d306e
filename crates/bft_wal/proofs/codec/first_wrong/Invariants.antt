use Rattle.std.proofs.Common.{drop}
use Rattle.bft_wal.proofs.Opens.{IsHere}
use Rattle.bft_wal.proofs.codec.first_wrong.Given as goal

abbrev pub invariant-loop-entry : goal.invariant-loop-entry
invariant-loop-entry l = IsHere l.at l.entries (drop l.entry-index l.entries)
