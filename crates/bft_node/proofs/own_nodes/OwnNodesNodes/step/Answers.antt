use Rattle.std.proofs.Common.{subst, ◌∙◌}
use Rattle.std.proofs.lemmas.Option.{same_Some}
use Rattle.bft_node.specs.Lodgings.{IsStepOf}
use Rattle.bft_node.specs.declared.lodged.Lodged.{Lodged}
use Rattle.bft_node.proofs.OpenLemmas.{apart}
use Rattle.bft_node.proofs.own_nodes.OwnNodesNodes.step.Goals as goal

pub returns : goal.returns
returns c = λ old there.
    let new = c.step.new.self in
    let updates = (c.get_mut.follows.holds new).3 c.requires.there in (
      new,
      subst (λ (l : Lodged). IsStepOf l new c.args.event c.args.keys.now c.step.new.keys c.step.result) (same_Some c.in-Some.lodged.now old (c.in-Some.ensures.value ∙ there)) c.step.ensures,
      record { there = updates.1; others = λ other not. updates.2 other (apart c.args.node other not) },
    )
