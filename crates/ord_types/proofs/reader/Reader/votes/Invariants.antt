use Rattle.std.proofs.Common.{◌≡◌, ◌-◌, ◌^◌}
use Rattle.ord_types.specs.Reading.{votes_at}
use Rattle.ord_types.proofs.Loops.{with_front}
use Rattle.ord_types.proofs.reader.Reader.votes.Given as goal

abbrev pub invariant-loop : goal.invariant-loop
invariant-loop l = with_front l.votes (votes_at l.limit (l.count - l.counter) l.self) ≡ votes_at (2 ^ 62) l.count l.fn.self
