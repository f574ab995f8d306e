use Rattle.std.proofs.Common.{take}
use Rattle.std.specs.List.{flat_map}
use Rattle.ord_types.specs.Spelling.{header_text}
use Rattle.bft_wire.proofs.encoding.write_headers.Given as goal

abbrev pub invariant-loop-header : goal.invariant-loop-header
invariant-loop-header g l = g.W.Writer.took l.initial.writer l.writer (flat_map header_text (take l.header-index l.headers))
