use Rattle.std.proofs.Common.{◌≡◌, map, take}
use Rattle.ord_types.specs.declared.values.Request.{Request}
use Rattle.bft_node.proofs.keeping.ids_in.Given as goal

abbrev pub invariant-loop-request : goal.invariant-loop-request
invariant-loop-request l = l.ids ≡ map (λ (r : Request). r.id) (take l.request-index l.request-items)
