use Rattle.ord_types.specs.Told.{told}
use Rattle.world_safety.proofs.Within.{all_worlds_certified, all_worlds_safe}
use Rattle.orderer.proofs.offline.run_offline.Goals as goal

pub returns-in-World-clause-safe : goal.returns-in-World-clause-safe
returns-in-World-clause-safe g c = λ _ _ outcomes. all_worlds_safe outcomes (told (g.S.Source.left c.args.source.now))

pub returns-in-World-clause-certified : goal.returns-in-World-clause-certified
returns-in-World-clause-certified g c = λ _ _ outcomes. all_worlds_certified outcomes (told (g.S.Source.left c.args.source.now))
