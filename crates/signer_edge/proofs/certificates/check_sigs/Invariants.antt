use Rattle.std.proofs.Common.{◌≡◌, drop}
use Rattle.signer_edge.specs.Certificates.{sigs_refusal}
use Rattle.signer_edge.proofs.certificates.check_sigs.Given as goal

abbrev pub invariant-loop-sig : goal.invariant-loop-sig
invariant-loop-sig g l =
    sigs_refusal (g.V.Verifier.accepts l.verifier) l.members l.statement l.sigs
    ≡ sigs_refusal (g.V.Verifier.accepts l.verifier) l.members l.statement (drop l.sig-index l.sig-items)
