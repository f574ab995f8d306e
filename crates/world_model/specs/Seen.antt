-- The world that is updated in place, as a world of pasts gives it.
use Rattle.std.specs.Prelude.{map, Option, Some, None}
use Rattle.safety_model.specs.Facts.{History}
use Rattle.node_model.specs.Cores.{Core}
use Rattle.node_model.specs.Keeping.{PastNode, core_of_past}
use Rattle.world_model.specs.Worlds.{Node, World}

abbrev pub seen_node : Node PastNode → Node Core
seen_node node =
    record {
      id = node.id;
      state = core_of_past node.state;
      pool = node.pool;
      ledger = node.ledger;
      runs = node.runs;
      armed = node.armed;
    }

abbrev pub seen : World PastNode History → World Core (Unit {0})
seen w =
    record {
      config = w.config;
      byzantine = w.byzantine;
      nodes = map seen_node w.nodes;
      network = w.network;
      seals = w.seals;
      told = tt;
      outcomes = w.outcomes;
    }

-- where there may be no world yet
abbrev pub seen_if_any : Option (World PastNode History) → Option (World Core (Unit {0}))
seen_if_any None = None
seen_if_any (Some w) = Some (seen w)
