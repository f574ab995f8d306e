use Rattle.change_model.proofs.SupportLemmas.{announced_is_supported, entered_is_supported}
use Rattle.change_model.proofs.laws.choices_are_supported.Goals as goal

pub returns-clause-announced : goal.returns-clause-announced
returns-clause-announced c = announced_is_supported

pub returns-clause-entered : goal.returns-clause-entered
returns-clause-entered c = entered_is_supported
