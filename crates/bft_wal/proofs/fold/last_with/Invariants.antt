use Rattle.std.proofs.Common.{◌≡◌, None, drop, filter, option_copied}
use Rattle.std.specs.List.{last_or}
use Rattle.bft_wal.specs.Fold.{has_digest}
use Rattle.bft_wal.proofs.fold.last_with.Given as goal

abbrev pub invariant-loop-acceptance : goal.invariant-loop-acceptance
invariant-loop-acceptance l = last_or (option_copied l.found) (filter (has_digest l.digest) (drop l.acceptance-index l.accepted)) ≡ last_or None (filter (has_digest l.digest) l.accepted)
