use Rattle.std.proofs.Common.{◌≡◌, ◌<◌, length, true, false, arith}
use Rattle.ord_types.specs.Members.{is_in}
use Rattle.signer_edge.specs.Certificates.{sigs_refusal}
use Rattle.signer_edge.proofs.CertificateFacts.{goes-on, refuses-bad, refuses-stranger}
use Rattle.signer_edge.proofs.certificates.check_sigs.Goals as goal

pub returns-then-not-contains : goal.returns-then-not-contains
returns-then-not-contains g c =
    let sig = c.sig-item.result in
    let within : c.loop-sig.sig-index < length c.as_slice-sig-items.result.now = omega arith in
    let outside : is_in sig.signer c.args.members.now ≡ false = grind arith in
    refuses-stranger (g.V.Verifier.accepts c.args.verifier.now) c.args.members.now c.args.statement.now c.as_slice-sig-items.result.now c.loop-sig.sig-index sig
    (sigs_refusal (g.V.Verifier.accepts c.args.verifier.now) c.args.members.now c.args.statement.now c.args.sigs.now) within
    c.sig-item.is c.loop-sig.invariant outside

pub returns-then-not-verify : goal.returns-then-not-verify
returns-then-not-verify g c =
    let sig = c.sig-item.result in
    let within : c.loop-sig.sig-index < length c.as_slice-sig-items.result.now = omega arith in
    let inside : is_in sig.signer c.args.members.now ≡ true = grind arith in
    let refused : g.V.Verifier.accepts c.args.verifier.now c.args.statement.now sig ≡ false = grind arith in
    refuses-bad (g.V.Verifier.accepts c.args.verifier.now) c.args.members.now c.args.statement.now c.as_slice-sig-items.result.now c.loop-sig.sig-index sig
    (sigs_refusal (g.V.Verifier.accepts c.args.verifier.now) c.args.members.now c.args.statement.now c.args.sigs.now) within c.sig-item.is
    c.loop-sig.invariant inside refused

pub loop-sig-preserved : goal.loop-sig-preserved
loop-sig-preserved g c =
    let sig = c.sig-item.result in
    let within : c.loop-sig.sig-index < length c.as_slice-sig-items.result.now = omega arith in
    let inside : is_in sig.signer c.args.members.now ≡ true = grind arith in
    let accepted : g.V.Verifier.accepts c.args.verifier.now c.args.statement.now sig ≡ true = grind arith in
    goes-on (g.V.Verifier.accepts c.args.verifier.now) c.args.members.now c.args.statement.now c.as_slice-sig-items.result.now c.loop-sig.sig-index sig
    (sigs_refusal (g.V.Verifier.accepts c.args.verifier.now) c.args.members.now c.args.statement.now c.args.sigs.now) within c.sig-item.is
    c.loop-sig.invariant inside accepted
