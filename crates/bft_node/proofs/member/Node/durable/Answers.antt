use Rattle.std.proofs.Common.{◌≡◌, IfOk, subst}
use Rattle.ord_types.specs.declared.values.Place.{Place}
use Rattle.bft_wal.specs.Fold.{durable_of}
use Rattle.bft_node.specs.Stores.{held_of}
use Rattle.bft_node.proofs.member.Node.durable.Goals as goal

pub returns : goal.returns
returns c =
    subst (λ (p : Place). IfOk c.durable.result (λ d. d ≡ durable_of p.config.number p.height (held_of c.args.self.now.running.store).records)) c.place-place.ensures c.durable.ensures
