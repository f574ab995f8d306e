use Rattle.std.proofs.Common.{◌∙◌, ap}
use Rattle.ord_types.specs.declared.values.Place.{Place}
use Rattle.bft_wal.specs.Fold.{durable_of}
use Rattle.bft_wal.specs.Opening.{records}
use Rattle.bft_wal.specs.declared.durable.Durable.{Durable}
use Rattle.block_ledger.specs.Places.{place_after}
use Rattle.bft_node.specs.Returning.{view_at}
use Rattle.bft_node.specs.Stores.{config_of, held_of}
use Rattle.bft_node.proofs.Resumed.{held_view}
use Rattle.bft_node.proofs.store.Store.found.Goals as goal

pub returns : goal.returns
returns c = λ me.
    let place : Place = place_after (config_of c.args.self.now) (held_of c.args.self.now).blocks in
    held_view me place c.held_in.result c.in_ok-durable.durable c.held_in.ensures.view c.held_in.ensures.left c.held_in.ensures.accepted c.held_in.ensures.prepared
    ∙ ap (λ (d : Durable). view_at me place d) c.in_ok-durable.ensures
    ∙ ap (λ (p : Place). view_at me place (durable_of p.config.number p.height (records c.args.self.now.wal))) c.place-place.ensures
