use Rattle.std.proofs.Common.{◌≡◌, ◌-◌, ◌++◌, None}
use Rattle.bft_wal.specs.Fold.{newest_votes}
use Rattle.bft_wal.proofs.fold.newest_votes.Given as goal

abbrev pub invariant-loop : goal.invariant-loop
invariant-loop l = l.votes ++ newest_votes (32 - l.counter) l.limit l.accepted ≡ newest_votes 32 None l.accepted
