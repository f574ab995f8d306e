use Rattle.block_ledger.proofs.Keeping.{kept_crash, kept_ends, kept_others}
use Rattle.block_ledger.proofs.laws.kept_ledger_stands.Goals as goal

pub returns-clause-crash : goal.returns-clause-crash
returns-clause-crash g = kept_crash

pub returns-clause-others : goal.returns-clause-others
returns-clause-others g = kept_others

pub returns-clause-end : goal.returns-clause-end
returns-clause-end g = kept_ends
