use Rattle.script.proofs.MeaningLaws.{malformed_where_wrong}
use Rattle.script.proofs.laws.malformed_lines_end_at_their_first_wrong_word.Goals as goal

pub returns : goal.returns
returns c = malformed_where_wrong
