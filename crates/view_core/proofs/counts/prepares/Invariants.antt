use Rattle.std.proofs.Common.{◌≡◌, ◌+◌, ◌≤◌, drop}
use Rattle.ord_types.specs.Members.{how_many}
use Rattle.view_model.specs.Acts.{has_prepare}
use Rattle.view_core.proofs.counts.prepares.Given as goal

abbrev pub invariant-loop-member : goal.invariant-loop-member
invariant-loop-member l = record {
  few : l.count ≤ l.member-index;
  counted : l.count + how_many (has_prepare l.me l.number l.letters l.digest) (drop l.member-index l.members) ≡ how_many (has_prepare l.me l.number l.letters l.digest) l.members;
}
