use Rattle.std.proofs.Common.{◌≡◌, ◌+◌, ◌≤◌, length, filter_map, drop}
use Rattle.view_model.specs.Acts.{kept_sig}
use Rattle.view_core.proofs.counts.commit_count.Given as goal

abbrev pub invariant-loop-member : goal.invariant-loop-member
invariant-loop-member l = record {
  few : l.count ≤ l.member-index;
  counted : l.count + length (filter_map (kept_sig l.number l.digest l.letters) (drop l.member-index l.members)) ≡ length (filter_map (kept_sig l.number l.digest l.letters) l.members);
}
