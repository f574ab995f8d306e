use Rattle.std.proofs.Common.{ap, subst}
use Rattle.safety_model.specs.Blocks.{Config}
use Rattle.signer_edge.specs.Accepts.{Accepts}
use Rattle.bft_node.specs.Lodgings.{IsOpenedOn, accepts_of}
use Rattle.world_run.specs.Moves.{setup_of}
use Rattle.world_run.specs.declared.world.World.{World}
use Rattle.world_run.proofs.world.World.open.Goals as goal

pub returns-in-Ok-clause-opens : goal.returns-in-Ok-clause-opens
returns-in-Ok-clause-opens g c =
    let h = c.in-Ok.ensures.adds in
    let seat = c.give_seat.new.self.outside.seat in
    let opened = subst (λ (config : Config). IsOpenedOn (setup_of config c.args.id) (accepts_of seat) c.args.disk h.0) c.in_ok-copy.ensures h.1 in
    (h.0, subst (λ (accepts : Accepts). IsOpenedOn (setup_of c.args.self.now.config c.args.id) accepts c.args.disk h.0) (ap (λ (w : World). accepts_of w.outside.seat) c.in_ok-give_seat.ensures) opened, h.2)
