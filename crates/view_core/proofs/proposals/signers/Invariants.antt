use Rattle.std.proofs.Common.{◌≡◌, take}
use Rattle.signer_edge.specs.Certificates.{signers_in}
use Rattle.view_core.proofs.proposals.signers.Given as goal

abbrev pub invariant-loop-sig : goal.invariant-loop-sig
invariant-loop-sig l = l.signers ≡ signers_in (take l.sig-index l.sig-items)
