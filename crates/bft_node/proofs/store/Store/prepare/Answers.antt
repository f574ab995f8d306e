use Rattle.std.proofs.Common.{refl}
use Rattle.node_model.specs.Entries.{Prepares}
use Rattle.bft_node.proofs.store.Store.prepare.Goals as goal

pub returns-clause-added : goal.returns-clause-added
returns-clause-added g c = λ id. c.append_record.ensures.added (Prepares id c.args.config c.args.view c.args.number c.args.digest) (λ held. refl)

pub returns-clause-any_moment : goal.returns-clause-any_moment
returns-clause-any_moment g c = λ id accepts t chain. c.append_record.ensures.any_moment (Prepares id c.args.config c.args.view c.args.number c.args.digest) accepts (λ held. refl) t chain
