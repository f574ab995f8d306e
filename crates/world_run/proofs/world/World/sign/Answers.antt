use Rattle.std.proofs.Common.{ap}
use Rattle.world_run.specs.declared.world.World.{World}
use Rattle.world_run.proofs.SaysLemmas.{keeps_sealed}
use Rattle.world_run.proofs.world.World.sign.Goals as goal

pub returns-clause-keeps : goal.returns-clause-keeps
returns-clause-keeps c =
    let given = c.in_ok-give_seat.ensures in
    keeps_sealed c.signed.result c.args.self.now _ c.give_seat.new.self.outside.seat c.args.statement.now (ap (λ (w : World). w.config) given) (ap (λ (w : World). w.members) given)
    (ap (λ (w : World). w.outside.number) given) (ap (λ (w : World). w.outside.seat.seals) given) c.signed.ensures.seat
