use Rattle.std.proofs.Common.{◌≡◌, Ok, arith}
use Rattle.std.proofs.lemmas.Grind.{common_steps}
use Rattle.std.specs.Result.{result_err}
use Rattle.signer_edge.specs.Certificates.{cert_refusal}
use Rattle.signer_edge.specs.declared.certificates.CertRefusal.{CertRefusal}
use Rattle.signer_edge.proofs.CertificateFacts.{IsOk-proves, is_ok-good}
use Rattle.signer_edge.proofs.certificates.check_cert.Goals as goal

pub returns-in_err-check_sigs-clause-proves : goal.returns-in_err-check_sigs-clause-proves
returns-in_err-check_sigs-clause-proves g c =
    let accepts = g.V.Verifier.accepts c.args.verifier.now in
    let refused : result_err c.from_residual.result ≡ cert_refusal accepts c.args.config.now c.args.number c.args.hash.now c.args.cert.now = grind (arith, common_steps) in
    IsOk-proves c.from_residual.result accepts c.args.config.now c.args.number c.args.hash.now c.args.cert.now refused

pub returns-in_err-check_sigs-clause-good : goal.returns-in_err-check_sigs-clause-good
returns-in_err-check_sigs-clause-good g c =
    let accepts = g.V.Verifier.accepts c.args.verifier.now in
    let refused : result_err c.from_residual.result ≡ cert_refusal accepts c.args.config.now c.args.number c.args.hash.now c.args.cert.now = grind (arith, common_steps) in
    is_ok-good c.from_residual.result accepts c.args.config.now c.args.number c.args.hash.now c.args.cert.now refused

pub returns-clause-proves : goal.returns-clause-proves
returns-clause-proves g c =
    let accepts = g.V.Verifier.accepts c.args.verifier.now in
    let refused : result_err {T = Unit {0}} {E = CertRefusal} (Ok tt) ≡ cert_refusal accepts c.args.config.now c.args.number c.args.hash.now c.args.cert.now = grind (arith, common_steps) in
    IsOk-proves {T = Unit {0}} (Ok tt) accepts c.args.config.now c.args.number c.args.hash.now c.args.cert.now refused

pub returns-clause-good : goal.returns-clause-good
returns-clause-good g c =
    let accepts = g.V.Verifier.accepts c.args.verifier.now in
    let refused : result_err {T = Unit {0}} {E = CertRefusal} (Ok tt) ≡ cert_refusal accepts c.args.config.now c.args.number c.args.hash.now c.args.cert.now = grind (arith, common_steps) in
    is_ok-good {T = Unit {0}} (Ok tt) accepts c.args.config.now c.args.number c.args.hash.now c.args.cert.now refused
