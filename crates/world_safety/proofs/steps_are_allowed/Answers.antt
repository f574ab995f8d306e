use Rattle.world_safety.proofs.Nodes.{opened, other_did, reopened}
use Rattle.world_safety.proofs.Stepping.{
  nodes_after_steps,
  nodes_after_stops,
  steps_allowed,
  steps_in_place_allowed,
}
use Rattle.world_safety.proofs.steps_are_allowed.Goals as goal

pub returns-clause-from_past : goal.returns-clause-from_past
returns-clause-from_past c = steps_allowed

pub returns-clause-in_place : goal.returns-clause-in_place
returns-clause-in_place c = steps_in_place_allowed

pub returns-clause-at_first : goal.returns-clause-at_first
returns-clause-at_first c = opened

pub returns-clause-after_steps : goal.returns-clause-after_steps
returns-clause-after_steps c = nodes_after_steps

pub returns-clause-after_stops : goal.returns-clause-after_stops
returns-clause-after_stops c = nodes_after_stops

pub returns-clause-after_openings : goal.returns-clause-after_openings
returns-clause-after_openings c = reopened

pub returns-clause-after_others : goal.returns-clause-after_others
returns-clause-after_others c = other_did
