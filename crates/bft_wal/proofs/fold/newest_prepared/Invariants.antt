use Rattle.std.proofs.Common.{◌≡◌, drop, filter}
use Rattle.bft_wal.specs.Fold.{is_accepted, newest, newest_prepared, view_voted}
use Rattle.bft_wal.proofs.Folding.{over}
use Rattle.bft_wal.proofs.fold.newest_prepared.Given as goal

abbrev pub invariant-loop-vote : goal.invariant-loop-vote
invariant-loop-vote l = over view_voted l.best (newest view_voted (filter (is_accepted l.accepted) (drop l.vote-index l.prepared))) ≡ newest_prepared l.accepted l.prepared
