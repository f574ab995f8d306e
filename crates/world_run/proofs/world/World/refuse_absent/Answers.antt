use Rattle.std.proofs.Common.{codes, refl, sym, ◌∙◌}
use Rattle.world_model.specs.Says.{refuses}
use Rattle.world_model.specs.Turns.{absence}
use Rattle.world_run.specs.Mapped.{Model}
use Rattle.world_run.proofs.SaysLemmas.{says_after}
use Rattle.world_run.proofs.world.World.refuse_absent.Goals as goal

pub returns-then-contains-clause-says : goal.returns-then-contains-clause-says
returns-then-contains-clause-says c =
    let w = c.args.self.now in
    let is = rw c.as_slice.ensures at (sym c.contains.ensures.value ∙ c.if-contains.true) in
    says_after c.refuse.result w w c.refuse.new.self (refuses w.outside.number (codes "no core")) (λ (v : Model). refuses w.outside.number (absence v c.args.id) v) refl
    (λ at later. rw is refl) c.refuse.ensures.says

pub returns-else-contains-clause-says : goal.returns-else-contains-clause-says
returns-else-contains-clause-says c =
    let w = c.args.self.now in
    let is = rw c.as_slice.ensures at (sym c.contains.ensures.value ∙ c.if-contains.false) in
    says_after c.refuse-else-contains.result w w c.refuse-else-contains.new.self (refuses w.outside.number (codes "unknown node")) (λ (v : Model). refuses w.outside.number (absence v c.args.id) v) refl
    (λ at later. rw is refl) c.refuse-else-contains.ensures.says
