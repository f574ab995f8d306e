use Rattle.chan_config.proofs.BlockLaws.{refuses_rightly}
use Rattle.chan_config.proofs.RequestLaws.{finds_rightly}
use Rattle.chan_config.proofs.refuses_rightly.Goals as goal

pub returns-clause-blocks : goal.returns-clause-blocks
returns-clause-blocks c = refuses_rightly

pub returns-clause-requests : goal.returns-clause-requests
returns-clause-requests c = finds_rightly
