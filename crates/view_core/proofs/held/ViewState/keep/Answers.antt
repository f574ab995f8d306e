use Rattle.std.proofs.Common.{◌≡◌, ◌<◌, false, length, arith, sym, subst, rules, IsTrue}
use Rattle.std.specs.List.{list_any}
use Rattle.view_model.specs.Acts.{View}
use Rattle.view_model.specs.Letters.{same_slot}
use Rattle.view_core.specs.Held.{is_held}
use Rattle.view_core.proofs.HeldLemmas.{held_room, held_more}
use Rattle.view_core.proofs.held.ViewState.keep.Goals as goal

pub push_reserved-requires : goal.push_reserved-requires
push_reserved-requires c =
    let fits = subst (λ (v : View). IsTrue (is_held v.config v.members v.view v.height c.args.letter)) (sym c.self.view_is) c.requires.held in
    let new = subst (λ (v : View). list_any (same_slot c.args.letter) v.kept ≡ false) (sym c.self.view_is) c.requires.new in
    let room : length c.self.inside.kept.items < 186 = held_room _ _ _ _ _ c.args.letter c.self.invariant.0 fits new in
    search rules

pub invariant_of-self : goal.invariant_of-self
invariant_of-self c =
    let fits = subst (λ (v : View). IsTrue (is_held v.config v.members v.view v.height c.args.letter)) (sym c.self.view_is) c.requires.held in
    let new = subst (λ (v : View). list_any (same_slot c.args.letter) v.kept ≡ false) (sym c.self.view_is) c.requires.new in
    rw c.push_reserved.ensures.items (held_more _ _ _ _ _ c.args.letter c.self.invariant.0 fits new, c.self.invariant.1, omega (arith, c.push_reserved.ensures.capacity, c.self.invariant.2))
