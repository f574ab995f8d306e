use Rattle.script.proofs.CommandLemmas.{meaning_fits}
use Rattle.script.proofs.laws.commands_are_well_formed.Goals as goal

pub returns : goal.returns
returns c = meaning_fits
