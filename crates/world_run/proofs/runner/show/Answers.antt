use Rattle.std.proofs.Common.{None, sym}
use Rattle.node_model.specs.Cores.{Core}
use Rattle.world_model.specs.Turns.{at_node, show_turn}
use Rattle.world_model.specs.Worlds as worlds
use Rattle.world_run.specs.Mapped.{Model, world_of}
use Rattle.world_run.specs.Members.{node_of}
use Rattle.world_run.proofs.CommandLemmas.{absent_says, at_running, halted_says}
use Rattle.world_run.proofs.ListLemmas.{where_running}
use Rattle.world_run.proofs.NodeLemmas.{member_at}
use Rattle.world_run.proofs.ReadLemmas.{plays_read, read_looks, sound_looks}
use Rattle.world_run.proofs.SaysLemmas.{plays_after, sound_after}
use Rattle.world_run.proofs.runner.show.Goals as goal

pub show-requires-clause-there : goal.show-requires-clause-there
show-requires-clause-there g c =
    let stands = where_running c.args.node c.args.world.now.members.items c.in-Running.place (sym c.in-Running.ensures) in
    (stands.member, stands.there)

pub returns-in-Absent-clause-sound : goal.returns-in-Absent-clause-sound
returns-in-Absent-clause-sound g c = sound_after c.refuse_absent.result (g.N.Nodes.at c.args.nodes.now) c.args.world.now c.refuse_absent.new.self c.refuse_absent.ensures.keeps c.requires.sound

pub returns-in-Absent-clause-plays : goal.returns-in-Absent-clause-plays
returns-in-Absent-clause-plays g c =
    let w = c.args.world.now in
    plays_after c.refuse_absent.result (g.N.Nodes.at c.args.nodes.now) w c.refuse_absent.new.self _ c.refuse_absent.ensures.keeps
    (absent_says c.refuse_absent.result w c.refuse_absent.new.self c.args.node (λ v found. show_turn c.args.world.now.outside.number v found c.args.number) (sym c.in-Absent.ensures) c.refuse_absent.ensures.says)

pub returns-in-Stopped-clause-sound : goal.returns-in-Stopped-clause-sound
returns-in-Stopped-clause-sound g c = sound_after c.refuse.result (g.N.Nodes.at c.args.nodes.now) c.args.world.now c.refuse.new.self c.refuse.ensures.keeps c.requires.sound

pub returns-in-Stopped-clause-plays : goal.returns-in-Stopped-clause-plays
returns-in-Stopped-clause-plays g c =
    let w = c.args.world.now in
    plays_after c.refuse.result (g.N.Nodes.at c.args.nodes.now) w c.refuse.new.self _ c.refuse.ensures.keeps
    (halted_says c.refuse.result w c.refuse.new.self c.args.node c.in-Stopped._place (λ v found. show_turn c.args.world.now.outside.number v found c.args.number) (sym c.in-Stopped.ensures) c.refuse.ensures.says)

pub returns-in_ok-show-in-Running-clause-sound : goal.returns-in_ok-show-in-Running-clause-sound
returns-in_ok-show-in-Running-clause-sound g c =
    let w = c.args.world.now in
    let at = g.N.Nodes.at c.args.nodes.now in
    let next = g.N.Nodes.at c.show.new.nodes in
    let stands = where_running c.args.node w.members.items c.in-Running.place (sym c.in-Running.ensures) in
    let here = member_at at w c.in-Running.place stands.member c.requires.sound stands.there in
    let read = c.in_ok-show-in-Running.ensures in
    sound_looks at next w c.show.new.self read.keeps
    (read_looks w.config at next stands.member.id here.node here.there (read.reads stands.member stands.there))
    c.requires.sound

pub returns-in_ok-show-in-Running-clause-plays : goal.returns-in_ok-show-in-Running-clause-plays
returns-in_ok-show-in-Running-clause-plays g c =
    let w = c.args.world.now in
    let at = g.N.Nodes.at c.args.nodes.now in
    let next = g.N.Nodes.at c.show.new.nodes in
    let stands = where_running c.args.node w.members.items c.in-Running.place (sym c.in-Running.ensures) in
    let here = member_at at w c.in-Running.place stands.member c.requires.sound stands.there in
    let read = c.in_ok-show-in-Running.ensures in
    let reads = read.reads stands.member stands.there in
    plays_read at next w c.show.new.self stands.member.id (λ (v : Model). show_turn w.outside.number v (node_of w.config at stands.member) c.args.number)
    (λ (v : Model). at_node w.outside.number v c.args.node (λ (found : worlds.Node Core). show_turn w.outside.number v found c.args.number)) None read.keeps reads
    (read_looks w.config at next stands.member.id here.node here.there reads)
    (λ later. sym (at_running at w later w.outside.number c.args.node c.in-Running.place (λ (found : worlds.Node Core). show_turn w.outside.number (world_of at w later) found c.args.number) stands))
    (λ later. read.turned stands.member stands.there later)
