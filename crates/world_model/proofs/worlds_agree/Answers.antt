use Rattle.world_model.proofs.RunLemmas.{runs_agree, stages_agree, worlds_agree}
use Rattle.world_model.proofs.worlds_agree.Goals as goal

pub returns-clause-text : goal.returns-clause-text
returns-clause-text c = runs_agree

pub returns-clause-worlds : goal.returns-clause-worlds
returns-clause-worlds c = worlds_agree

pub returns-clause-stages : goal.returns-clause-stages
returns-clause-stages c = stages_agree
