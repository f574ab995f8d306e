use Rattle.std.proofs.Common.{◌≡◌, ◌-◌}
use Rattle.ord_types.specs.Reading.{header_at, list_at}
use Rattle.ord_types.proofs.Loops.{with_front}
use Rattle.bft_wire.proofs.decoding.so_many_headers.Given as goal

abbrev pub invariant-loop : goal.invariant-loop
invariant-loop l = with_front l.headers (list_at header_at (l.count - l.counter) l.reader) ≡ list_at header_at l.count l.fn.reader
