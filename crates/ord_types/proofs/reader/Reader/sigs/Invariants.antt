use Rattle.std.proofs.Common.{◌≡◌, ◌-◌}
use Rattle.ord_types.specs.Reading.{sigs_at}
use Rattle.ord_types.proofs.Loops.{with_front}
use Rattle.ord_types.proofs.reader.Reader.sigs.Given as goal

abbrev pub invariant-loop : goal.invariant-loop
invariant-loop l = with_front l.sigs (sigs_at l.least (l.count - l.counter) l.self) ≡ sigs_at 0 l.count l.fn.self
