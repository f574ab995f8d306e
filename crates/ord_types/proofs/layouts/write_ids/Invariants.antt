use Rattle.std.proofs.Common.{take}
use Rattle.std.specs.Int.{w32, to_be_bytes}
use Rattle.std.specs.List.{flat_map}
use Rattle.ord_types.proofs.layouts.write_ids.Given as goal

abbrev pub invariant-loop-id : goal.invariant-loop-id
invariant-loop-id g l = g.W.Writer.took l.initial.writer l.writer (flat_map (λ id. to_be_bytes w32 id) (take l.id-index l.ids))
