use Rattle.std.proofs.Common.{true, false, refl}
use Rattle.chan_config.proofs.BlockLaws.{next_where}
use Rattle.chan_config.proofs.checks.check_block.Goals as goal

pub returns-in-Some-clause-next : goal.returns-in-Some-clause-next
returns-in-Some-clause-next g c =
    let place = c.args.place.now in
    next_where place.last place.height place.config c.args.block.now false _ c.in-Some.ensures refl

pub returns-in-None-clause-next : goal.returns-in-None-clause-next
returns-in-None-clause-next g c =
    let place = c.args.place.now in
    next_where place.last place.height place.config c.args.block.now true _ c.in-None.ensures refl
