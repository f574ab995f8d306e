-- Where a chain stands after one more block.
use Rattle.std.specs.Prelude.{ℕ, ◌+◌, List, [], ◌∷◌, is_some, Option, Some, None, if◌then◌else◌}
use Rattle.ord_types.specs.Genesis.{genesis_block, genesis_meta}
use Rattle.ord_types.specs.Hashes.{block_hash}
use Rattle.ord_types.specs.declared.values.Block.{Block}
use Rattle.ord_types.specs.declared.values.Cert.{Cert}
use Rattle.ord_types.specs.declared.values.Config.{Config}
use Rattle.ord_types.specs.declared.values.Place.{Place}
use Rattle.ord_types.specs.declared.values.Proof.{Proof}
use Rattle.ord_types.specs.declared.values.Proof.TheVariants as proof_of
use Rattle.chan_config.specs.Blocks.{change_in, config_or}

abbrev pub cert_in : Proof → Option Cert
cert_in proof_of.Raft = None
cert_in (proof_of.Bft cert) = Some cert

-- the first number under the configuration in force after a block
abbrev pub start_behind : ℕ → Block → ℕ
start_behind start b = if is_some (change_in b.requests) then b.header.number + 1 else start

-- the same after these blocks
abbrev pub start_after : ℕ → List Block → ℕ
start_after start [] = start
start_after start (b ∷ bs) = start_after (start_behind start b) bs

-- the place behind one more block
unfoldable pub next_place : Place → Block × Proof → Place
next_place place e =
    record {
      config = config_or place.config (change_in e.0.requests);
      start = start_behind place.start e.0;
      height = place.height + 1;
      last = block_hash e.0;
      last_meta = e.0.meta;
      last_cert = cert_in e.1;
    }

-- the place behind block 0
abbrev pub first_place : Config → Place
first_place c =
    record {
      config = c;
      start = 1;
      height = 1;
      last = block_hash (genesis_block c);
      last_meta = genesis_meta;
      last_cert = None;
    }
