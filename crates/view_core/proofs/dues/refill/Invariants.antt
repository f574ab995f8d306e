use Rattle.std.proofs.Common.{◌≡◌, take, vec_capacity}
use Rattle.view_core.proofs.dues.refill.Given as goal

abbrev pub invariant-loop-id : goal.invariant-loop-id
invariant-loop-id l = (l.held.items ≡ take l.id-index l.ids) × (vec_capacity l.held ≡ vec_capacity l.fn.held)
