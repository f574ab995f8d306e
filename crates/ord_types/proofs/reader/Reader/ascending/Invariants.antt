use Rattle.std.proofs.Common.{◌≡◌, ◌-◌}
use Rattle.ord_types.specs.Reading.{ascending_at}
use Rattle.ord_types.proofs.Loops.{with_front}
use Rattle.ord_types.proofs.reader.Reader.ascending.Given as goal

abbrev pub invariant-loop : goal.invariant-loop
invariant-loop l = with_front l.ids (ascending_at l.least (l.count - l.counter) l.self) ≡ ascending_at 1 l.count l.fn.self
