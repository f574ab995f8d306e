use Rattle.std.proofs.Common.{take}
use Rattle.std.specs.List.{flat_map}
use Rattle.ord_types.specs.Spelling.{vote_text}
use Rattle.ord_types.proofs.layouts.write_votes.Given as goal

abbrev pub invariant-loop-vote : goal.invariant-loop-vote
invariant-loop-vote g l = g.W.Writer.took l.initial.writer l.writer (flat_map vote_text (take l.vote-index l.votes))
