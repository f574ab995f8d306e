use Rattle.std.proofs.Common.{sym}
use Rattle.world_model.specs.Cores.{core_setting}
use Rattle.world_model.specs.Turns.{ticks}
use Rattle.world_run.proofs.CommandLemmas.{absent_says, halted_says, running_plays}
use Rattle.world_run.proofs.ListLemmas.{where_running}
use Rattle.world_run.proofs.SaysLemmas.{plays_after, sound_after}
use Rattle.world_run.proofs.runner.tick.Goals as goal

pub returns-in-Absent-clause-sound : goal.returns-in-Absent-clause-sound
returns-in-Absent-clause-sound g c = sound_after c.refuse_absent.result (g.N.Nodes.at c.args.nodes.now) c.args.world.now c.refuse_absent.new.self c.refuse_absent.ensures.keeps c.requires.sound

pub returns-in-Absent-clause-plays : goal.returns-in-Absent-clause-plays
returns-in-Absent-clause-plays g c =
    let w = c.args.world.now in
    plays_after c.refuse_absent.result (g.N.Nodes.at c.args.nodes.now) w c.refuse_absent.new.self _ c.refuse_absent.ensures.keeps
    (absent_says c.refuse_absent.result w c.refuse_absent.new.self c.args.node (λ v found. ticks core_setting c.args.world.now.outside.number c.args.node c.args.count v) (sym c.in-Absent.ensures) c.refuse_absent.ensures.says)

pub returns-in-Stopped-clause-sound : goal.returns-in-Stopped-clause-sound
returns-in-Stopped-clause-sound g c = sound_after c.refuse.result (g.N.Nodes.at c.args.nodes.now) c.args.world.now c.refuse.new.self c.refuse.ensures.keeps c.requires.sound

pub returns-in-Stopped-clause-plays : goal.returns-in-Stopped-clause-plays
returns-in-Stopped-clause-plays g c =
    let w = c.args.world.now in
    plays_after c.refuse.result (g.N.Nodes.at c.args.nodes.now) w c.refuse.new.self _ c.refuse.ensures.keeps
    (halted_says c.refuse.result w c.refuse.new.self c.args.node c.in-Stopped._place (λ v found. ticks core_setting c.args.world.now.outside.number c.args.node c.args.count v) (sym c.in-Stopped.ensures) c.refuse.ensures.says)

pub returns-in-Running-clause-plays : goal.returns-in-Running-clause-plays
returns-in-Running-clause-plays g c =
    let w = c.args.world.now in
    let stands = where_running c.args.node w.members.items c.in-Running._place (sym c.in-Running.ensures) in
    running_plays c.ticks.result (g.N.Nodes.at c.args.nodes.now) (g.N.Nodes.at c.ticks.new.nodes) w c.ticks.new.self c.args.node c.in-Running._place
    (λ v found. ticks core_setting w.outside.number c.args.node c.args.count v) stands c.ticks.ensures.plays
