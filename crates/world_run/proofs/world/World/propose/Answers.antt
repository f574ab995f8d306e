use Rattle.std.proofs.Common.{codes, sym, ◌∙◌}
use Rattle.world_model.specs.Cores.{core_setting}
use Rattle.world_model.specs.Liars.{longest, propose_turn, sends}
use Rattle.world_model.specs.Says.{refuses}
use Rattle.world_run.specs.Mapped.{Model, world_of}
use Rattle.world_run.proofs.LiarLemmas.{proposed_nowhere, proposed_on}
use Rattle.world_run.proofs.SaysLemmas.{said_at}
use Rattle.world_run.proofs.world.World.propose.Goals as goal

pub returns-in-None-clause-turned : goal.returns-in-None-clause-turned
returns-in-None-clause-turned g c =
    let at = g.N.Nodes.at c.args.nodes.now in
    let w = c.args.self.now in
    said_at c.refuse.result at w c.refuse.new.self (refuses w.outside.number (codes "no core"))
    (λ (v : Model). propose_turn core_setting w.outside.number v c.args.from c.args.to c.args.view c.args.request)
    (λ later. sym (proposed_nowhere w.outside.number (world_of at w later) c.args.from c.args.to c.args.view c.args.request (longest (world_of at w later).nodes) (sym c.in-None.is ∙ c.in_ok-proposal.ensures later)))
    c.refuse.ensures.says

pub returns-in-Some-clause-turned : goal.returns-in-Some-clause-turned
returns-in-Some-clause-turned g c =
    let at = g.N.Nodes.at c.args.nodes.now in
    let w = c.args.self.now in
    said_at c.send.result at w c.send.new.self (λ (v : Model). sends w.outside.number (codes "byz-propose") v c.args.from c.args.to c.in-Some.bytes)
    (λ (v : Model). propose_turn core_setting w.outside.number v c.args.from c.args.to c.args.view c.args.request)
    (λ later. sym (proposed_on w.outside.number (world_of at w later) c.args.from c.args.to c.args.view c.args.request c.in-Some.bytes (longest (world_of at w later).nodes) (sym c.in-Some.is ∙ c.in_ok-proposal.ensures later)))
    c.send.ensures.says
