-- A view that takes up what an opening found.
use Rattle.std.specs.Prelude.{ℕ, ◌==◌, Bool, false, [], Option, Some, None, if◌then◌else◌}
use Rattle.ord_types.specs.declared.values.Block.{Block}
use Rattle.ord_types.specs.declared.values.Vote.{Vote}
use Rattle.view_model.specs.Acts.{View}
use Rattle.view_core.specs.Places.{Place}
use Rattle.view_core.specs.declared.resume.Held.{Held}

-- the block, where it was accepted in this view
abbrev pub block_of_view : ℕ → Option (Vote × Block) → Option Block
block_of_view view None = None
block_of_view view (Some accepted) = if accepted.0.view == view then Some accepted.1 else None

-- it was prepared in this view
abbrev pub is_of_view : ℕ → Option Vote → Bool
is_of_view view None = false
is_of_view view (Some vote) = vote.view == view

-- at the place, with what is durable of its view there; no vote message is kept
abbrev pub resumed : ℕ → Place → Held → View
resumed me place held =
    record {
      me = me;
      config = place.config.number;
      members = place.config.members;
      height = place.height;
      view = held.view;
      left = held.left;
      accepted = block_of_view held.view held.accepted;
      is_prepared = is_of_view held.view held.prepared;
      kept = [];
    }
