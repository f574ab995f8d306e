use Rattle.std.proofs.Common.{take}
use Rattle.std.specs.List.{flat_map}
use Rattle.bft_wire.specs.Spelling.{signed_text}
use Rattle.bft_wire.proofs.encoding.write_signed_reports.Given as goal

abbrev pub invariant-loop-signed : goal.invariant-loop-signed
invariant-loop-signed g l = g.W.Writer.took l.initial.writer l.writer (flat_map signed_text (take l.signed-index l.reports))
