use Rattle.std.proofs.Common.{◌<◌, get_or, length, arith, refl}
use Rattle.std.proofs.lemmas.Grind.{common_steps}
use Rattle.signer_edge.proofs.CertificateFacts.{how_many_in-drop}
use Rattle.world_run.proofs.runner.how_many_in.Goals as goal

pub loop-id-preserved : goal.loop-id-preserved
loop-id-preserved c =
    let ids = c.args.ids.now in
    let id = get_or ids c.loop-id.id-index 0 in
    let within : c.loop-id.id-index < length ids = omega arith in
    let step = how_many_in-drop c.args.list.now ids c.loop-id.id-index id within refl in
    grind (arith, common_steps, step)
