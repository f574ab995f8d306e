use Rattle.change_model.proofs.SupportLemmas.{reports_are_their_members}
use Rattle.change_model.proofs.laws.reports_are_their_members.Goals as goal

pub returns : goal.returns
returns c = reports_are_their_members
