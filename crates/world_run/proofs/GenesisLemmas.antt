-- The members of a genesis make a configuration that a chain can begin with.
use Rattle.std.proofs.Common.{ℕ, List, refl, lit≤}
use Rattle.ord_types.specs.Genesis.{IsGenesisConfig}
use Rattle.script.specs.Commands.{AreIds}
use Rattle.script.proofs.IdLemmas.{ids_spelled}
use Rattle.world_model.specs.Turns.{first_config}

pub genesis_from_ids : (members : List ℕ) → AreIds members → IsGenesisConfig (first_config members)
genesis_from_ids members ids = record {
  first = refl;
  bounds = record {
    some_count = lit≤ tt;
    small_count = lit≤ tt;
    some_size = lit≤ tt;
    larger_absolute = lit≤ tt;
    small_absolute = lit≤ tt;
    some_wait = lit≤ tt;
    small_wait = lit≤ tt;
    small_rotation = lit≤ tt;
  };
  some_member = ids.some;
  members = ids_spelled members ids;
}
