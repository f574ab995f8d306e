use Rattle.std.proofs.Common.{arith, subst}
use Rattle.view_core.proofs.HeldLemmas.{held_front}
use Rattle.view_core.specs.Held.{IsHeld}
use Rattle.view_core.proofs.held.ViewState.new_vote.Goals as goal

pub invariant_of-self : goal.invariant_of-self
invariant_of-self g c =
    (held_front _ _ _ _ c.pop.new.self.items _ (subst (λ xs. IsHeld c.self.inside.config c.self.inside.members.items c.self.inside.view c.self.inside.height xs) c.pop.ensures.items c.self.invariant.0), c.self.invariant.1, omega (arith, c.pop.ensures.capacity, c.self.invariant.2))
