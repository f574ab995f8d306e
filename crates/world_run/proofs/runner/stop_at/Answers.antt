use Rattle.std.proofs.Common.{ℕ, subst, sym}
use Rattle.gate_log.specs.declared.image.Image.{Image}
use Rattle.world_model.specs.Turns.{stop_at_turn}
use Rattle.world_run.specs.Moves.{IsArmedAt}
use Rattle.world_run.proofs.CommandLemmas.{absent_says, armed_plays, halted_says}
use Rattle.world_run.proofs.ListLemmas.{id_at_place, where_running}
use Rattle.std.proofs.lemmas.Result.{IfOk-weaker}
use Rattle.world_run.proofs.SaysLemmas.{by_quieter, plays_after, sound_after}
use Rattle.world_run.proofs.runner.stop_at.Goals as goal

pub stop_at-requires-clause-there : goal.stop_at-requires-clause-there
stop_at-requires-clause-there g c =
    let stands = where_running c.args.node c.args.world.now.members.items c.in-Running.place (sym c.in-Running.ensures) in
    (stands.member, stands.there)

pub returns-in-Absent-clause-sound : goal.returns-in-Absent-clause-sound
returns-in-Absent-clause-sound g c = sound_after c.refuse_absent.result (g.N.Nodes.at c.args.nodes.now) c.args.world.now c.refuse_absent.new.self c.refuse_absent.ensures.keeps c.requires.sound

pub returns-in-Absent-clause-plays : goal.returns-in-Absent-clause-plays
returns-in-Absent-clause-plays g c =
    let w = c.args.world.now in
    let at = g.N.Nodes.at c.args.nodes.now in
    IfOk-weaker c.refuse_absent.result _ _ (λ ending by. by_quieter (Unit {0}) ⊥ at at w c.refuse_absent.new.self _ (λ no. tt) by)
    (plays_after c.refuse_absent.result at w c.refuse_absent.new.self _ c.refuse_absent.ensures.keeps
    (absent_says c.refuse_absent.result w c.refuse_absent.new.self c.args.node (λ v found. stop_at_turn c.args.world.now.outside.number v found) (sym c.in-Absent.ensures) c.refuse_absent.ensures.says))

pub returns-in-Stopped-clause-sound : goal.returns-in-Stopped-clause-sound
returns-in-Stopped-clause-sound g c = sound_after c.refuse.result (g.N.Nodes.at c.args.nodes.now) c.args.world.now c.refuse.new.self c.refuse.ensures.keeps c.requires.sound

pub returns-in-Stopped-clause-plays : goal.returns-in-Stopped-clause-plays
returns-in-Stopped-clause-plays g c =
    let w = c.args.world.now in
    let at = g.N.Nodes.at c.args.nodes.now in
    IfOk-weaker c.refuse.result _ _ (λ ending by. by_quieter (Unit {0}) ⊥ at at w c.refuse.new.self _ (λ no. tt) by)
    (plays_after c.refuse.result at w c.refuse.new.self _ c.refuse.ensures.keeps
    (halted_says c.refuse.result w c.refuse.new.self c.args.node c.in-Stopped._place (λ v found. stop_at_turn c.args.world.now.outside.number v found) (sym c.in-Stopped.ensures) c.refuse.ensures.says))

pub returns-in_ok-stop_at-in-Running-clause-plays : goal.returns-in_ok-stop_at-in-Running-clause-plays
returns-in_ok-stop_at-in-Running-clause-plays g c =
    let w = c.args.world.now in
    let stands = where_running c.args.node w.members.items c.in-Running.place (sym c.in-Running.ensures) in
    armed_plays (g.N.Nodes.at c.args.nodes.now) (g.N.Nodes.at c.stop_at.new.nodes) w c.stop_at.new.self c.args.node c.in-Running.place c.args.call c.image_of.result stands
    (c.in_ok-stop_at-in-Running.ensures.arms stands.member stands.there) (c.in_ok-stop_at-in-Running.ensures.turned stands.member stands.there)

pub returns-in_ok-stop_at-in-Running-clause-arms : goal.returns-in_ok-stop_at-in-Running-clause-arms
returns-in_ok-stop_at-in-Running-clause-arms g c = λ place is.
    let w = c.args.world.now in
    let at = g.N.Nodes.at c.args.nodes.now in
    let next = g.N.Nodes.at c.stop_at.new.nodes in
    let stands = where_running c.args.node w.members.items c.in-Running.place (sym c.in-Running.ensures) in
    subst (λ (image : Image). IsArmedAt at next c.args.node c.args.call image) c.image_of.ensures
    (subst (λ (id : ℕ). IsArmedAt at next id c.args.call c.image_of.result) (id_at_place c.args.node w.members.items c.in-Running.place stands.member stands.first stands.there)
    (c.in_ok-stop_at-in-Running.ensures.arms stands.member stands.there))
