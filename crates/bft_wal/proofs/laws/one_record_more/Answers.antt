use Rattle.bft_wal.proofs.OneMore.{accepting, entering, leaving, others, preparing, tailing, voting}
use Rattle.bft_wal.proofs.laws.one_record_more.Goals as goal

pub returns-clause-accepted : goal.returns-clause-accepted
returns-clause-accepted c = accepting

pub returns-clause-prepared : goal.returns-clause-prepared
returns-clause-prepared c = preparing

pub returns-clause-left : goal.returns-clause-left
returns-clause-left c = leaving

pub returns-clause-entered : goal.returns-clause-entered
returns-clause-entered c = entering

pub returns-clause-voted : goal.returns-clause-voted
returns-clause-voted c = voting

pub returns-clause-tail : goal.returns-clause-tail
returns-clause-tail c = tailing

pub returns-clause-others : goal.returns-clause-others
returns-clause-others c = others
