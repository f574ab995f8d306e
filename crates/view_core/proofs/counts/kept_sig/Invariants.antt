use Rattle.std.proofs.Common.{◌≡◌, drop}
use Rattle.view_model.specs.Acts.{kept_sig}
use Rattle.view_core.proofs.counts.kept_sig.Given as goal

abbrev pub invariant-loop-letter : goal.invariant-loop-letter
invariant-loop-letter l = kept_sig l.number l.digest l.letters l.member ≡ kept_sig l.number l.digest (drop l.letter-index l.letters) l.member
