use Rattle.script.proofs.PrintedMeans.{printed_means, once_means, ranges_mean}
use Rattle.script.proofs.laws.printed_lines_mean_their_commands.Goals as goal

pub returns : goal.returns
returns c = record { printed = printed_means; once = once_means; ranges = ranges_mean }
