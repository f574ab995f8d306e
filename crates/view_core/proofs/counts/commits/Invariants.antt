use Rattle.std.proofs.Common.{◌≡◌, ◌++◌, filter_map, drop}
use Rattle.view_model.specs.Acts.{kept_sig}
use Rattle.view_core.proofs.counts.commits.Given as goal

abbrev pub invariant-loop-member : goal.invariant-loop-member
invariant-loop-member l = l.sigs ++ filter_map (kept_sig l.number l.digest l.letters) (drop l.member-index l.members) ≡ filter_map (kept_sig l.number l.digest l.letters) l.members
