use Rattle.std.proofs.Common.{◌≡◌, ◌-◌, []}
use Rattle.ord_types.specs.Reading.{differing_at}
use Rattle.ord_types.proofs.Loops.{with_front}
use Rattle.ord_types.proofs.reader.Reader.differing.Given as goal

abbrev pub invariant-loop : goal.invariant-loop
invariant-loop l = with_front l.ids (differing_at l.ids (l.count - l.counter) l.self) ≡ differing_at [] l.count l.fn.self
