use Rattle.std.proofs.Common.{◌≡◌, drop}
use Rattle.std.specs.Str.{bytes_eq}
use Rattle.signer_edge.specs.Certificates.{signers_in}
use Rattle.view_core.proofs.blocks.signed.Given as goal

abbrev pub invariant-loop-i : goal.invariant-loop-i
invariant-loop-i l = bytes_eq (drop l.i l.signers) (signers_in (drop l.i l.sigs)) ≡ bytes_eq l.signers (signers_in l.sigs)
