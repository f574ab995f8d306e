use Rattle.std.proofs.Common.{◌<◌, ap, arith, length, length-take, take}
use Rattle.request_pool.proofs.SeenLemmas.{many_longer}
use Rattle.request_pool.proofs.seen.SeenIds.add_all.Goals as goal

pub add-requires : goal.add-requires
add-requires c =
    let more = many_longer (take c.loop-id.id-index c.args.ids.now) c.args.self.now in
    let taken = length-take c.loop-id.id-index c.args.ids.now in
    let same = ap length c.loop-id.invariant in
    omega (arith, more, taken, same, c.requires, c.loop-id-test.true)
