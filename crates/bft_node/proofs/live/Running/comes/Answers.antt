use Rattle.std.proofs.Common.{refl, sym, ◌∙◌}
use Rattle.std.proofs.lemmas.Result.{IfOk-weaker}
use Rattle.node_model.specs.declared.event.Event.TheVariants.{FromMember}
use Rattle.bft_node.proofs.EventLemmas.{asked_again, hears_none, no_message}
use Rattle.bft_node.proofs.live.Running.comes.Goals as goal

pub returns-in-Some-clause-told : goal.returns-in-Some-clause-told
returns-in-Some-clause-told g c =
    IfOk-weaker c.hears.result _ _
    (λ told t. t c.args.bytes.now (sym c.in_ok-message.ensures.message ∙ c.in-Some.is)) c.hears.ensures.told

pub returns-in-None-clause-told : goal.returns-in-None-clause-told
returns-in-None-clause-told g c =
    let r = c.args.self.now in
    let accepts = g.V.Verifier.accepts c.args.keys.now in
    let none = no_message c.args.from c.args.bytes.now (sym c.in_ok-message.ensures.message ∙ c.in-None.is) in
    IfOk-weaker c.told.result _ _
    (λ told t. asked_again r r c.told.new.self accepts (FromMember c.args.from c.args.bytes.now) told refl refl refl
    (hears_none r accepts c.args.from c.args.bytes.now none) t) c.told.ensures.told
