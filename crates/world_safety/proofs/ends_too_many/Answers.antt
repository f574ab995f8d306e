use Rattle.world_safety.proofs.TooMany.{ends_where_too_many}
use Rattle.world_safety.proofs.ends_too_many.Goals as goal

pub returns-clause-there : goal.returns-clause-there
returns-clause-there c = ends_where_too_many
