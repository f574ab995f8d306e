use Rattle.std.proofs.Common.{◌≡◌, ◌-◌}
use Rattle.ord_types.proofs.Loops.{with_front}
use Rattle.bft_wire.specs.Reading.{signed_reports_at}
use Rattle.bft_wire.proofs.decoding.signed_reports.Given as goal

abbrev pub invariant-loop : goal.invariant-loop
invariant-loop l = with_front l.reports (signed_reports_at l.least (l.count - l.counter) l.reader) ≡ signed_reports_at 0 l.count l.fn.reader
