use Rattle.std.proofs.Common.{◌≡◌, false, None, rules, arith, ap, filter, ◌∙◌}
use Rattle.std.proofs.lemmas.Fn.{filter_same}
use Rattle.view_model.specs.Answers.{is_near, raised}
use Rattle.view_core.proofs.HeldLemmas.{held_at}
use Rattle.view_core.proofs.held.ViewState.raise.Goals as goal

pub invariant_of-self : goal.invariant_of-self
invariant_of-self c =
    let kept : c.retain.new.self.items ≡ filter (is_near c.args.place.now.height) c.self.inside.kept.items = filter_same _ _ _ (λ x b f' k. search rules) _ _ c.retain.ensures.filtered in
    rw kept (held_at _ _ _ _ _ _ c.self.invariant.0, c.self.invariant.1, omega (arith, c.retain.ensures.capacity, c.self.invariant.2))

pub returns : goal.returns
returns c =
    let kept : c.retain.new.self.items ≡ filter (is_near c.args.place.now.height) c.self.inside.kept.items = filter_same _ _ _ (λ x b f' k. search rules) _ _ c.retain.ensures.filtered in
    ap (λ ls. record { me = c.self.inside.me; config = c.self.inside.config; members = c.self.inside.members.items; height = c.args.place.now.height; view = c.self.inside.view; left = c.self.inside.left; accepted = None; is_prepared = false; kept = ls }) kept ∙ ap (raised c.args.place.now) c.self.view_is
