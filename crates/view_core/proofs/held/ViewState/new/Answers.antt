use Rattle.std.proofs.Common.{arith}
use Rattle.view_core.proofs.HeldLemmas.{held_none}
use Rattle.view_core.proofs.held.ViewState.new.Goals as goal

pub invariant_of-result : goal.invariant_of-result
invariant_of-result c =
    let members = c.in_ok-with_capacity.ensures.items in
    let kept = c.in_ok-with_capacity-2.ensures.items in
    rw (members, kept) (held_none 0 _ 0 0 (omega arith), c.in_ok-with_capacity.ensures.capacity, c.in_ok-with_capacity-2.ensures.capacity)
