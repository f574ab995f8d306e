-- What a node that is opened again makes of what it holds.
use Rattle.std.specs.Prelude.{ℕ, ◌==◌, Bool, false, List, [], ◌∷◌, Option, Some, None, if◌then◌else◌}
use Rattle.ord_types.specs.declared.values.Block.{Block}
use Rattle.ord_types.specs.declared.values.Config.{Config}
use Rattle.ord_types.specs.declared.values.Place.{Place}
use Rattle.ord_types.specs.declared.values.Vote.{Vote}
use Rattle.bft_wal.specs.Fold.{durable_of}
use Rattle.bft_wal.specs.declared.durable.Durable.{Durable}
use Rattle.block_ledger.specs.Places.{place_after}
use Rattle.view_model.specs.Acts.{View}
use Rattle.node_model.specs.Cores.{Core, found_in}
use Rattle.bft_node.specs.Held.{Held}

-- the block of the newest acceptance, where it is of this view
abbrev pub accepted_in : ℕ → List Vote → Option Block → Option Block
accepted_in view [] block = None
accepted_in view (vote ∷ votes) block = if vote.view == view then block else None

-- the newest preparation is of this view
abbrev pub is_prepared_in : ℕ → Option (Vote × Block) → Bool
is_prepared_in view None = false
is_prepared_in view (Some prepared) = prepared.0.view == view

-- what a member holds of its view where this is durable of it; no vote message was kept
abbrev pub view_at : ℕ → Place → Durable → View
view_at me place durable =
    record {
      me = me;
      config = place.config.number;
      members = place.config.members;
      height = place.height;
      view = durable.view;
      left = durable.left;
      accepted = accepted_in durable.view durable.accepted durable.block;
      is_prepared = is_prepared_in durable.view durable.prepared;
      kept = [];
    }

-- where the ledger stands, and what is durable there
abbrev pub core_at : ℕ → Place → Durable → Core
core_at me place durable =
    let view : View = view_at me place durable in
    record { place = place; view = view; found = found_in place view }

-- the state of a node of this id that is opened on what is held, in the chain of this configuration
abbrev pub opened : Config → ℕ → Held → Core
opened c me held =
    let place : Place = place_after c held.blocks in
    core_at me place (durable_of place.config.number place.height held.records)
