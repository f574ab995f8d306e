-- Blocks in memory.
use Rattle.std.specs.Prelude.{◌≡◌, ◌≤◌, List, length}
use Rattle.ord_types.specs.declared.values.Config.{Config}
use Rattle.ord_types.specs.declared.values.Place.{Place}
use Rattle.block_ledger.specs.Chains.{Entry}
use Rattle.block_ledger.specs.Places.{place_after}

-- the members of a configuration are few, and its blocks are small
pub record IsBounded (c : Config) : Type 0 where
  pub some_member : 1 ≤ length c.members
  pub few_members : length c.members ≤ 31
  pub small_absolute : c.batch.absolute ≤ 1048576

-- the place is the one behind these blocks
pub record IsInOrder (chain : List Entry) (place : Place) : Type 0 where
  pub bounds : IsBounded place.config
  pub some : 1 ≤ length chain
  pub behind : place ≡ place_after place.config chain
