use Rattle.std.proofs.Common.{None, sym}
use Rattle.world_model.specs.Cores.{core_setting}
use Rattle.world_model.specs.Turns.{stop_turn}
use Rattle.world_run.proofs.CommandLemmas.{absent_says, halted_says, plays_running}
use Rattle.world_run.proofs.ListLemmas.{where_running}
use Rattle.world_run.proofs.SaysLemmas.{plays_after, sound_after}
use Rattle.world_run.proofs.runner.stop.Goals as goal

pub stop-requires-clause-there : goal.stop-requires-clause-there
stop-requires-clause-there g c =
    let stands = where_running c.args.node c.args.world.now.members.items c.in-Running.place (sym c.in-Running.ensures) in
    (stands.member, stands.there)

pub returns-in-Absent-clause-sound : goal.returns-in-Absent-clause-sound
returns-in-Absent-clause-sound g c = sound_after c.refuse_absent.result (g.N.Nodes.at c.args.nodes.now) c.args.world.now c.refuse_absent.new.self c.refuse_absent.ensures.keeps c.requires.sound

pub returns-in-Absent-clause-plays : goal.returns-in-Absent-clause-plays
returns-in-Absent-clause-plays g c =
    let w = c.args.world.now in
    plays_after c.refuse_absent.result (g.N.Nodes.at c.args.nodes.now) w c.refuse_absent.new.self _ c.refuse_absent.ensures.keeps
    (absent_says c.refuse_absent.result w c.refuse_absent.new.self c.args.node (λ v found. stop_turn core_setting c.args.world.now.outside.number v found) (sym c.in-Absent.ensures) c.refuse_absent.ensures.says)

pub returns-in-Stopped-clause-sound : goal.returns-in-Stopped-clause-sound
returns-in-Stopped-clause-sound g c = sound_after c.refuse.result (g.N.Nodes.at c.args.nodes.now) c.args.world.now c.refuse.new.self c.refuse.ensures.keeps c.requires.sound

pub returns-in-Stopped-clause-plays : goal.returns-in-Stopped-clause-plays
returns-in-Stopped-clause-plays g c =
    let w = c.args.world.now in
    plays_after c.refuse.result (g.N.Nodes.at c.args.nodes.now) w c.refuse.new.self _ c.refuse.ensures.keeps
    (halted_says c.refuse.result w c.refuse.new.self c.args.node c.in-Stopped._place (λ v found. stop_turn core_setting c.args.world.now.outside.number v found) (sym c.in-Stopped.ensures) c.refuse.ensures.says)

pub returns-in_ok-stop-in-Running-clause-plays : goal.returns-in_ok-stop-in-Running-clause-plays
returns-in_ok-stop-in-Running-clause-plays g c =
    let w = c.args.world.now in
    let stands = where_running c.args.node w.members.items c.in-Running.place (sym c.in-Running.ensures) in
    plays_running (g.N.Nodes.at c.args.nodes.now) (g.N.Nodes.at c.stop.new.nodes) w c.stop.new.self c.args.node c.in-Running.place (λ v found. stop_turn core_setting w.outside.number v found) None stands
    (c.in_ok-stop-in-Running.ensures.plays stands.member stands.there)
