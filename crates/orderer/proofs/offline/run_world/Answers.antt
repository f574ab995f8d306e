use Rattle.std.proofs.Common.{◌≡◌, ◌∙◌, ap, List, refl}
use Rattle.std.specs.List.{AllByRecursion}
use Rattle.line_flow.specs.Lines.{lines}
use Rattle.ord_types.specs.Told.{told}
use Rattle.node_model.specs.Cores.{Core}
use Rattle.script_play.specs.Choices.{MeansOnly}
use Rattle.script_play.specs.Runs.{Run, script_run}
use Rattle.world_model.specs.Cores.{core_setting}
use Rattle.world_model.specs.Histories.{run_of}
use Rattle.world_model.specs.Stages.{Stage, stage_closing, stage_turn}
use Rattle.world_model.specs.Worlds.{Outcome}
use Rattle.world_model.proofs.RunLemmas.{stages_agree}
use Rattle.world_run.specs.Lines.{decides}
use Rattle.orderer.proofs.PlayLemmas.{plays_script, tells_fault}
use Rattle.orderer.proofs.offline.run_world.Goals as goal

pub returns-in-Ok-clause-plays : goal.returns-in-Ok-clause-plays
returns-in-Ok-clause-plays g c = λ reads.
    let script = told (g.S.Source.left c.args.source.now) in
    let run = λ (stage : Stage Core (Unit {0})). script_run (stage_turn core_setting) (stage_closing core_setting) stage script in
    plays_script _ script _ _ _ _ _
    (λ outcomes. ap run (c.new-runner.ensures.world outcomes) ∙ stages_agree outcomes script)
    (λ none. record { decided = c.new-runner.ensures.decided; each = none })
    c.status.ensures.value (c.in-Ok.ensures.played reads)

pub returns-clause-plays : goal.returns-clause-plays
returns-clause-plays g c = λ reads.
    let script = told (g.S.Source.left c.args.source.now) in
    let run = λ (stage : Stage Core (Unit {0})). script_run (stage_turn core_setting) (stage_closing core_setting) stage script in
    plays_script _ script _ _ _ _ _
    (λ outcomes. ap run (c.new-runner.ensures.world outcomes) ∙ stages_agree outcomes script)
    (λ none. record { decided = c.new-runner.ensures.decided; each = none })
    (tells_fault _ _ c.fault_status.ensures) (c.in-Err.ensures.played reads)
