use Rattle.std.proofs.Common.{rules, not, ◌∙◌}
use Rattle.std.proofs.lemmas.Fn.{filter_same}
use Rattle.safety_model.specs.Blocks.{Request}
use Rattle.world_run.proofs.PoolLemmas.{is_told, told_settled}
use Rattle.world_run.proofs.pool.settle.Goals as goal

pub returns : goal.returns
returns c delivered is =
    filter_same _ (λ (r : Request). not (is_told c.args.done.now r.id)) _ (λ x b f' h. search rules) _ _ c.retain.ensures.filtered
    ∙ told_settled c.args.done.now delivered c.args.pool.now.items is
