use Rattle.std.proofs.Common.{◌≡◌, drop, filter, option_copied}
use Rattle.bft_wal.specs.Fold.{is_below, newest, newest_below, view_accepted}
use Rattle.bft_wal.proofs.Folding.{over}
use Rattle.bft_wal.proofs.fold.newest_below.Given as goal

abbrev pub invariant-loop-acceptance : goal.invariant-loop-acceptance
invariant-loop-acceptance l = over view_accepted (option_copied l.best) (newest view_accepted (filter (is_below l.limit) (drop l.acceptance-index l.accepted))) ≡ newest_below l.limit l.accepted
