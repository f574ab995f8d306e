use Rattle.std.proofs.Common.{refl}
use Rattle.node_model.specs.Entries.{Accepts}
use Rattle.bft_node.proofs.store.Store.accept.Goals as goal

pub returns-clause-added : goal.returns-clause-added
returns-clause-added g c = λ id. c.append_record.ensures.added (Accepts id c.args.config c.args.view c.args.number c.args.block) (λ held. refl)

pub returns-clause-any_moment : goal.returns-clause-any_moment
returns-clause-any_moment g c = λ id accepts t chain. c.append_record.ensures.any_moment (Accepts id c.args.config c.args.view c.args.number c.args.block) accepts (λ held. refl) t chain
