use Rattle.script.proofs.MeaningLaws.{means_where_grammatical}
use Rattle.script.proofs.laws.lines_that_mean_commands_are_of_the_grammar.Goals as goal

pub returns : goal.returns
returns c = means_where_grammatical
