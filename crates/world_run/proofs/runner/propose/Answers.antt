use Rattle.std.proofs.Common.{sym}
use Rattle.world_model.specs.Cores.{core_setting}
use Rattle.world_model.specs.Liars.{propose_turn}
use Rattle.world_model.specs.Says.{ordinary}
use Rattle.world_run.specs.Mapped.{Model}
use Rattle.world_run.proofs.CommandLemmas.{barred_says, may_plays}
use Rattle.world_run.proofs.SaysLemmas.{plays_after, sound_after}
use Rattle.world_run.proofs.runner.propose.Goals as goal

pub returns-in-Some-clause-sound : goal.returns-in-Some-clause-sound
returns-in-Some-clause-sound g c = sound_after c.refuse_barred.result (g.N.Nodes.at c.args.nodes.now) c.args.world.now c.refuse_barred.new.self c.refuse_barred.ensures.keeps c.requires.sound

pub returns-in-Some-clause-plays : goal.returns-in-Some-clause-plays
returns-in-Some-clause-plays g c =
    let w = c.args.world.now in
    plays_after c.refuse_barred.result (g.N.Nodes.at c.args.nodes.now) w c.refuse_barred.new.self _ c.refuse_barred.ensures.keeps
    (barred_says c.refuse_barred.result w c.refuse_barred.new.self c.args.from c.args.to c.in-Some.bar
    (λ (v : Model). propose_turn core_setting w.outside.number v c.args.from c.args.to c.args.view (ordinary c.args.id.client c.args.id.serial c.args.payload)) (λ at later. sym (c.in-Some.ensures at later)) c.refuse_barred.ensures.says)

pub returns-in-None-clause-sound : goal.returns-in-None-clause-sound
returns-in-None-clause-sound g c = sound_after c.propose.result (g.N.Nodes.at c.args.nodes.now) c.args.world.now c.propose.new.self c.propose.ensures.keeps c.requires.sound

pub returns-in-None-clause-plays : goal.returns-in-None-clause-plays
returns-in-None-clause-plays g c =
    let w = c.args.world.now in
    may_plays c.propose.result (g.N.Nodes.at c.args.nodes.now) w c.propose.new.self c.args.from c.args.to
    (λ (v : Model). propose_turn core_setting w.outside.number v c.args.from c.args.to c.args.view (ordinary c.args.id.client c.args.id.serial c.args.payload)) (λ at later. sym (c.in-None.ensures at later))
    c.propose.ensures.keeps c.propose.ensures.turned
