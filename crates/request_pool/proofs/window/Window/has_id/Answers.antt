use Rattle.std.proofs.Common.{◌∙◌, ap, sym}
use Rattle.request_pool.specs.Waiting.{contains_id}
use Rattle.request_pool.proofs.SeenLemmas.{not_among}
use Rattle.request_pool.proofs.window.Window.has_id.Goals as goal

pub returns-then-not-has_id : goal.returns-then-not-has_id
returns-then-not-has_id c =
    sym (not_among c.args.id.now c.self.inside.ids.items c.self.inside.seen c.self.invariant.2 (sym c.has_id.ensures ∙ c.if-not-has_id.true))
    ∙ ap (contains_id c.args.id.now) c.self.view_is
