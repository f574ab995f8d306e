use Rattle.std.proofs.Common.{take}
use Rattle.std.specs.List.{flat_map}
use Rattle.ord_types.specs.Spelling.{request_text}
use Rattle.ord_types.proofs.layouts.write_requests.Given as goal

abbrev pub invariant-loop-request : goal.invariant-loop-request
invariant-loop-request g l = g.W.Writer.took l.initial.writer l.writer (flat_map request_text (take l.request-index l.requests))
