use Rattle.bft_node.proofs.EventLemmas.{due_view, view_stays}
use Rattle.bft_node.proofs.MakingLemmas.{IfOk-with}
use Rattle.bft_node.proofs.ToldLemmas.{due_told}
use Rattle.bft_node.proofs.live.Running.told.Goals as goal

pub returns-clause-told : goal.returns-clause-told
returns-clause-told g c =
    let r = c.args.self.now in
    IfOk-with c.due.result _ _ _
    (λ told answer after. due_told r (g.V.Verifier.accepts c.args.keys.now) told c.place.result.now c.due.new.self
    c.place.ensures c.requires.at answer after)
    c.due.ensures.answer c.due.ensures.after

pub returns-clause-stays : goal.returns-clause-stays
returns-clause-stays g c =
    let r = c.args.self.now in
    view_stays r c.due.new.self c.requires
    (due_view c.due.result r (g.V.Verifier.accepts c.args.keys.now) c.place.result.now c.due.new.self c.requires
    c.place.ensures c.due.ensures.after c.due.ensures.err)
