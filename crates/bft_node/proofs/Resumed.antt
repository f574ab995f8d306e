-- A view that takes up what an opening found.
use Rattle.std.proofs.Common.{◌≡◌, ℕ, ◌∙◌, ap}
use Rattle.ord_types.specs.declared.values.Place.{Place}
use Rattle.view_core.specs.Resuming.{block_of_view, is_of_view, resumed}
use Rattle.view_core.specs.declared.resume.Held.{Held}
use Rattle.bft_wal.specs.declared.durable.Durable.{Durable}
use Rattle.bft_node.specs.Returning.{accepted_in, is_prepared_in, view_at}
use Rattle.bft_node.proofs.Standings.{same_parts}

pub held_view : (me : ℕ) (place : Place) (held : Held) (durable : Durable) → held.view ≡ durable.view → held.left ≡ durable.left
    → ((view : ℕ) → block_of_view view held.accepted ≡ accepted_in view durable.accepted durable.block) → ((view : ℕ) → is_of_view view held.prepared ≡ is_prepared_in view durable.prepared)
    → resumed me place held ≡ view_at me place durable
held_view me place held durable view left accepted prepared =
    same_parts me place held.view durable.view held.left durable.left
    (block_of_view held.view held.accepted) (accepted_in durable.view durable.accepted durable.block)
    (is_of_view held.view held.prepared) (is_prepared_in durable.view durable.prepared) view left
    (ap (λ n. block_of_view n held.accepted) view ∙ accepted durable.view) (ap (λ n. is_of_view n held.prepared) view ∙ prepared durable.view)
