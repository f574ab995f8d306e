use Rattle.gate_log.proofs.LawLemmas.{settled_crash, settled_others}
use Rattle.gate_log.proofs.laws.settled_log_stands.Goals as goal

pub returns-clause-crash : goal.returns-clause-crash
returns-clause-crash c = settled_crash

pub returns-clause-others : goal.returns-clause-others
returns-clause-others c = settled_others
