use Rattle.std.proofs.Common.{refl, sym, ap, ◌∙◌}
use Rattle.node_model.specs.declared.event.Event.TheVariants.{FromMember}
use Rattle.node_model.specs.Steps.{step}
use Rattle.bft_node.proofs.CallLemmas.{goes_quiet}
use Rattle.bft_node.proofs.SigningLemmas.{signs_with}
use Rattle.bft_node.proofs.live.Running.step.Goals as goal

pub returns-in-Tick-clause-makes : goal.returns-in-Tick-clause-makes
returns-in-Tick-clause-makes g c =
    signs_with g.K.Signer.sign_gives c.tick.result c.args.keys.now c.tick.new.keys _ _
    (λ signings does b fit grows h.
    goes_quiet b c.tick.result c.tick.new.self _ _ _ _ _ _ _ _ _ _ (ap (λ e. step b.keys b.core e) (sym c.in-Tick.is))
    refl refl refl (does b fit grows h))
    c.tick.ensures.makes

pub returns-in-FromMember-clause-makes : goal.returns-in-FromMember-clause-makes
returns-in-FromMember-clause-makes g c =
    signs_with g.K.Signer.sign_gives c.take.result c.args.keys.now c.take.new.keys _ _
    (λ signings does b fit grows h.
    goes_quiet b c.take.result c.take.new.self _ _ _ _ _ _ _ _ _ _
    (ap (λ e. step b.keys b.core e)
    (ap (λ bytes. FromMember c.in-FromMember.from bytes) c.as_slice.ensures ∙ sym c.in-FromMember.is)) refl refl refl
    (does b fit grows h))
    c.take.ensures.makes
