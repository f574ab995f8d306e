use Rattle.std.proofs.Common.{sym}
use Rattle.node_model.specs.Cores.{Core}
use Rattle.world_model.specs.Turns.{submit_turn}
use Rattle.world_model.specs.Worlds as worlds
use Rattle.world_run.specs.Mapped.{world_of}
use Rattle.world_run.proofs.CommandLemmas.{absent_says, at_running, halted_says}
use Rattle.world_run.proofs.GoingLemmas.{Turned-same}
use Rattle.world_run.proofs.ListLemmas.{where_running}
use Rattle.world_run.proofs.runner.submit_bytes.Goals as goal

pub returns-in-Absent-clause-says : goal.returns-in-Absent-clause-says
returns-in-Absent-clause-says c =
    absent_says c.refuse_absent.result c.args.world.now c.refuse_absent.new.self c.args.node (λ v found. submit_turn c.args.world.now.outside.number c.args.word.now v found c.args.bytes.now) (sym c.in-Absent.ensures) c.refuse_absent.ensures.says

pub returns-in-Stopped-clause-says : goal.returns-in-Stopped-clause-says
returns-in-Stopped-clause-says c =
    halted_says c.refuse.result c.args.world.now c.refuse.new.self c.args.node c.in-Stopped._place (λ v found. submit_turn c.args.world.now.outside.number c.args.word.now v found c.args.bytes.now) (sym c.in-Stopped.ensures) c.refuse.ensures.says

pub returns-in_ok-submit-in-Running-clause-says : goal.returns-in_ok-submit-in-Running-clause-says
returns-in_ok-submit-in-Running-clause-says c = λ at later.
    let w = c.args.world.now in
    let stands = where_running c.args.node w.members.items c.in-Running.place (sym c.in-Running.ensures) in
    Turned-same _ _ _ _ _ _
    (sym (at_running at w later w.outside.number c.args.node c.in-Running.place (λ (found : worlds.Node Core). submit_turn w.outside.number c.args.word.now (world_of at w later) found c.args.bytes.now) stands))
    (c.in_ok-submit-in-Running.ensures.turned at stands.member stands.there later)
