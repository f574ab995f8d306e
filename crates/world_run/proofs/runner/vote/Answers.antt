use Rattle.std.proofs.Common.{sym}
use Rattle.world_model.specs.Liars.{vote_turn}
use Rattle.world_model.specs.Worlds as worlds
use Rattle.world_run.specs.Mapped.{Model}
use Rattle.world_run.proofs.CommandLemmas.{barred_says, may_says}
use Rattle.world_run.proofs.runner.vote.Goals as goal

pub returns-in-Some-clause-says : goal.returns-in-Some-clause-says
returns-in-Some-clause-says c =
    let w = c.args.world.now in
    barred_says c.refuse_barred.result w c.refuse_barred.new.self c.args.from c.args.to c.in-Some.bar
    (λ (v : Model). vote_turn w.outside.number v c.args.from c.args.to c.args.kind c.args.view (worlds.entry c.args.entry v)) (λ at later. sym (c.in-Some.ensures at later)) c.refuse_barred.ensures.says

pub returns-in-None-clause-says : goal.returns-in-None-clause-says
returns-in-None-clause-says c =
    let w = c.args.world.now in
    may_says c.vote.result w c.vote.new.self c.args.from c.args.to
    (λ (v : Model). vote_turn w.outside.number v c.args.from c.args.to c.args.kind c.args.view (worlds.entry c.args.entry v)) (λ at later. sym (c.in-None.ensures at later)) c.vote.ensures.says
