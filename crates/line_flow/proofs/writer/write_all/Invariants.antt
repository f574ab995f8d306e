use Rattle.std.proofs.Common.{◌≤◌, length, IsSome}
use Rattle.ord_types.specs.Told.{TookAllBut}
use Rattle.line_flow.proofs.writer.write_all.Given as goal

abbrev pub invariant-loop-rest : goal.invariant-loop-rest
invariant-loop-rest g l = record {
  took : IsSome (g.K.Sink.content l.fn.out) → TookAllBut (g.K.Sink.content l.fn.out) (g.K.Sink.content l.out) l.bytes l.rest;
  later : g.K.Sink.faults l.fn.out ≤ g.K.Sink.faults l.out;
}

abbrev pub decreases-loop-rest : goal.decreases-loop-rest
decreases-loop-rest g l = length l.rest
