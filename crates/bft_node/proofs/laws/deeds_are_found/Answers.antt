use Rattle.bft_node.proofs.GoingOn.{begins_standing, deeds_stand, steps_keep_standing}
use Rattle.bft_node.proofs.StepDeeds.{steps_have_deeds}
use Rattle.bft_node.proofs.laws.deeds_are_found.Goals as goal

pub returns-clause-first : goal.returns-clause-first
returns-clause-first c = begins_standing

pub returns-clause-deeds : goal.returns-clause-deeds
returns-clause-deeds c = deeds_stand

pub returns-clause-done : goal.returns-clause-done
returns-clause-done c = steps_have_deeds

pub returns-clause-steps : goal.returns-clause-steps
returns-clause-steps c = steps_keep_standing
