-- Which entries of the code's network wait for their receiver.
use Rattle.std.specs.Prelude.{ℕ, Bool, List, None, map, take}
use Rattle.std.specs.List.{list_any}
use Rattle.safety_model.specs.Blocks.{Config}
use Rattle.world_model.specs.Worlds as worlds
use Rattle.bft_node.specs.Lodgings.{Lodging}
use Rattle.world_run.specs.Entries.{entry_of}
use Rattle.world_run.specs.Members.{node_of}
use Rattle.world_run.specs.declared.member.Member.{Member}
use Rattle.world_run.specs.declared.network.Entry.{Entry}

-- no node stands anywhere; who waits for whom doesn't rest on what a node holds
abbrev pub nowhere : Lodging
nowhere id = None

-- one of the first entries has not come, and its receiver runs
abbrev pub waits_before : Config → ℕ → List Member → List Entry → Bool
waits_before c count members network = list_any (worlds.is_waiting (map (node_of c nowhere) members) None)
    (take count (map entry_of network))
