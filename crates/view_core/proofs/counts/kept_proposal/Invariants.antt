use Rattle.std.proofs.Common.{◌≡◌, drop}
use Rattle.view_model.specs.Acts.{kept_proposal}
use Rattle.view_core.proofs.counts.kept_proposal.Given as goal

abbrev pub invariant-loop-letter : goal.invariant-loop-letter
invariant-loop-letter l = kept_proposal l.from l.number l.letters ≡ kept_proposal l.from l.number (drop l.letter-index l.letters)
