-- The world whose nodes' states are updated in place, and which keeps no history.
use Rattle.node_model.specs.Cores.{Core, after_entries, core_on}
use Rattle.world_model.specs.Worlds.{Keeping, Setting}

abbrev pub core_keeping : Keeping Core
core_keeping = record { look = λ c. c; opens = core_on; takes = after_entries }

abbrev pub core_setting : Setting Core (Unit {0})
core_setting = record { keeping = core_keeping; silent = tt; hears = λ facts told. tt }
