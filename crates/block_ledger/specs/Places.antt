-- Where a chain stands.
use Rattle.std.specs.Prelude.{List, [], ◌∷◌, length}
use Rattle.ord_types.specs.Hashes.{block_hash}
use Rattle.ord_types.specs.declared.values.Config.{Config}
use Rattle.ord_types.specs.declared.values.Place.{Place}
use Rattle.chan_config.specs.Blocks.{config_at}
pub use Rattle.chan_config.specs.Places.{cert_in, first_place, start_after, start_behind}
unfoldable pub use Rattle.chan_config.specs.Places.{next_place}
use Rattle.block_ledger.specs.Chains.{Entry, blocks_in, genesis_entry}

-- the last of these, or the one before them
abbrev pub tip_after : Entry → List Entry → Entry
tip_after tip [] = tip
tip_after tip (e ∷ es) = tip_after e es

-- Where a chain stands: the configuration in force at the next number, the first number under it, the next
-- number, and the hash, the meta and the certificate, if there is one, of the last block.
unfoldable pub place_after : Config → List Entry → Place
place_after c chain =
    let tip : Entry = tip_after (genesis_entry c) chain in
    record {
      config = config_at c (blocks_in chain);
      start = start_after 1 (blocks_in chain);
      height = length chain;
      last = block_hash tip.0;
      last_meta = tip.0.meta;
      last_cert = cert_in tip.1;
    }
