use Rattle.world_safety.proofs.Among.{worlds_among}
use Rattle.world_safety.proofs.Telling.{every_text_told}
use Rattle.world_safety.proofs.Within.{all_worlds_certified, all_worlds_safe, worlds_safe}
use Rattle.world_safety.proofs.every_world_is_a_run.Goals as goal

pub returns-clause-between_lines : goal.returns-clause-between_lines
returns-clause-between_lines c = worlds_safe

pub returns-clause-after_each_event : goal.returns-clause-after_each_event
returns-clause-after_each_event c = all_worlds_safe

pub returns-clause-among : goal.returns-clause-among
returns-clause-among c = worlds_among

pub returns-clause-text : goal.returns-clause-text
returns-clause-text c = every_text_told

pub returns-clause-certified : goal.returns-clause-certified
returns-clause-certified c = all_worlds_certified
