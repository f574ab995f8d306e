use Rattle.std.proofs.Common.{◌∙◌, ap}
use Rattle.bft_wal.specs.Fold.{folded}
use Rattle.bft_wal.proofs.wal.Wal.durable.Goals as goal

pub returns : goal.returns
returns c = c.in_ok-durable.ensures ∙ ap folded c.in_ok-tally.ensures
