use Rattle.std.proofs.Common.{take}
use Rattle.std.specs.List.{flat_map}
use Rattle.ord_types.specs.Spelling.{sig_text}
use Rattle.ord_types.proofs.layouts.write_cert.Given as goal

abbrev pub invariant-loop-sig : goal.invariant-loop-sig
invariant-loop-sig g l = g.W.Writer.took l.initial.writer l.writer (flat_map sig_text (take l.sig-index l.cert.sigs))
