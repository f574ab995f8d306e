use Rattle.std.proofs.Common.{arith}
use Rattle.view_core.proofs.HeldLemmas.{held_none}
use Rattle.view_core.proofs.held.ViewState.begin.Goals as goal

pub invariant_of-self : goal.invariant_of-self
invariant_of-self c =
    rw (c.clear.ensures.items, c.refill.ensures.items) (held_none _ _ _ _ (rw c.as_slice.ensures c.requires.few), omega (arith, c.refill.ensures.capacity, c.self.invariant.1), omega (arith, c.clear.ensures.capacity, c.self.invariant.2))
