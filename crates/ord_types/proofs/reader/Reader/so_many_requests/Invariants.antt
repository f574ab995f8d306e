use Rattle.std.proofs.Common.{◌≡◌, ◌-◌}
use Rattle.ord_types.specs.Reading.{list_at, request_at}
use Rattle.ord_types.proofs.Loops.{with_front}
use Rattle.ord_types.proofs.reader.Reader.so_many_requests.Given as goal

abbrev pub invariant-loop : goal.invariant-loop
invariant-loop l = with_front l.requests (list_at request_at (l.count - l.counter) l.self) ≡ list_at request_at l.count l.fn.self
