use Rattle.std.proofs.Common.{◌≡◌, ◌+◌, ◌≤◌, drop}
use Rattle.ord_types.specs.Members.{how_many_in}
use Rattle.signer_edge.specs.Certificates.{signers_in}
use Rattle.signer_edge.proofs.certificates.count_signers.Given as goal

abbrev pub invariant-loop-member : goal.invariant-loop-member
invariant-loop-member l = record {
  few : l.count ≤ l.member-index;
  counted : l.count + how_many_in (signers_in l.sigs) (drop l.member-index l.member-items) ≡ how_many_in (signers_in l.sigs) l.members;
}
