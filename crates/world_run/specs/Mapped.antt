-- What the code's world stands for, where these outcomes are still to come.
use Rattle.std.specs.Prelude.{List, map}
use Rattle.node_model.specs.Cores.{Core}
use Rattle.world_model.specs.Worlds as worlds
use Rattle.world_model.specs.Worlds.{Outcome}
use Rattle.bft_node.specs.Lodgings.{Lodging}
use Rattle.world_run.specs.Entries.{entry_of}
use Rattle.world_run.specs.Members.{node_of}
use Rattle.world_run.specs.declared.world.World.{World}

abbrev pub Model : Type 0
Model = worlds.World Core (Unit {0})

abbrev pub world_of : Lodging → World → List Outcome → Model
world_of at w later =
    record {
      config = w.config;
      byzantine = w.byzantine;
      nodes = map (node_of w.config at) w.members.items;
      network = map entry_of w.outside.network.items;
      seals = w.outside.seat.seals;
      told = tt;
      outcomes = later;
    }
