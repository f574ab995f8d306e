use Rattle.std.proofs.Common.{ap, ◌∙◌}
use Rattle.safety_model.specs.Blocks.{Config}
use Rattle.world_model.specs.Cores.{core_setting}
use Rattle.world_model.specs.Turns.{first_world}
use Rattle.world_run.proofs.world.World.new.Goals as goal

pub returns-clause-value : goal.returns-clause-value
returns-clause-value g c later = c.in_ok-open_first.ensures.value later ∙ ap (λ (d : Config). first_world core_setting later d c.args.byzantine) c.first_config.ensures
