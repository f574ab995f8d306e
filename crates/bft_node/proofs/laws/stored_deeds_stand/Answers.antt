use Rattle.bft_node.proofs.Running.{runs_go_on, runs_within, store_opens, store_stays}
use Rattle.bft_node.proofs.laws.stored_deeds_stand.Goals as goal

pub returns-clause-crash : goal.returns-clause-crash
returns-clause-crash c = store_opens

pub returns-clause-others : goal.returns-clause-others
returns-clause-others c = store_stays

pub returns-clause-one_after_another : goal.returns-clause-one_after_another
returns-clause-one_after_another c = runs_go_on

pub returns-clause-more : goal.returns-clause-more
returns-clause-more c = runs_within
