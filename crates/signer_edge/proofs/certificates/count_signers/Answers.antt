use Rattle.std.proofs.Common.{◌<◌, get_or, length, arith, refl}
use Rattle.std.proofs.lemmas.Grind.{common_steps}
use Rattle.signer_edge.specs.Certificates.{signers_in}
use Rattle.signer_edge.proofs.CertificateFacts.{how_many_in-drop, is_in-signers}
use Rattle.signer_edge.proofs.certificates.count_signers.Goals as goal

pub loop-member-preserved : goal.loop-member-preserved
loop-member-preserved c =
    let members = c.as_slice-member-items.result.now in
    let member = get_or members c.loop-member.member-index 0 in
    let within : c.loop-member.member-index < length members = omega arith in
    let step = how_many_in-drop (signers_in c.args.sigs.now) members c.loop-member.member-index member within refl in
    grind (arith, common_steps, step, is_in-signers member c.args.sigs.now)
