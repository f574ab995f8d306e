use Rattle.std.proofs.Common.{◌≡◌, ◌++◌, List, string_bytes, take}
use Rattle.std.specs.List.{flat_map}
use Rattle.world_model.specs.Cores.{core_setting}
use Rattle.world_model.specs.Turns.{closing_of_member}
use Rattle.world_model.specs.Worlds.{Outcome, node_at}
use Rattle.world_run.specs.Mapped.{world_of}
use Rattle.world_run.proofs.world.World.closing.Given as goal

abbrev pub invariant-loop-id : goal.invariant-loop-id
invariant-loop-id g l =
    (later : List Outcome) → string_bytes l.text ≡ string_bytes l.fn.text ++ flat_map (λ id. closing_of_member core_setting id (node_at id (world_of (g.N.Nodes.at l.nodes) l.self later).nodes)) (take l.id-index l.id-items)
