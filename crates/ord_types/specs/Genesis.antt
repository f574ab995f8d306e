-- Block 0 of a chain.
use Rattle.std.specs.Prelude.{◌≡◌, ℕ, ◌≤◌, List, [], ◌∷◌, ◌++◌, length, replicate}
use Rattle.ord_types.specs.declared.values.ReqKind.TheVariants.{Change}
use Rattle.ord_types.specs.Spelling.{Block, Config, Meta, Request, Sig, config_text, sig_text}
use Rattle.ord_types.specs.Grammar.{HasIdsSpelling}
use Rattle.ord_types.specs.Hashes.{content_hash, meta_hash}

-- the bounds that every configuration keeps: a batch's count in requests, its sizes in bytes, its wait in ticks
pub record IsWithinBounds (c : Config) : Type 0 where
  pub some_count : 1 ≤ c.batch.count
  pub small_count : c.batch.count ≤ 1000
  pub some_size : 1 ≤ c.batch.preferred
  pub larger_absolute : c.batch.preferred ≤ c.batch.absolute
  pub small_absolute : c.batch.absolute ≤ 1048576
  pub some_wait : 1 ≤ c.batch.wait
  pub small_wait : c.batch.wait ≤ 100000
  pub small_rotation : c.rotation ≤ 1000000

-- a configuration that a chain can begin with
pub record IsGenesisConfig (c : Config) : Type 0 where
  pub first : c.number ≡ 0
  pub bounds : IsWithinBounds c
  pub some_member : 1 ≤ length c.members
  pub members : HasIdsSpelling c.members

-- the administrator's signature of no bytes
abbrev pub genesis_sig : Sig
genesis_sig = record { signer = 0; bytes = [] }

-- the change request that carries the first configuration
abbrev pub genesis_request : Config → Request
genesis_request c = record { kind = Change; id = record { client = 0; serial = 0 }; payload = config_text c ++ sig_text genesis_sig }

abbrev pub genesis_meta : Meta
genesis_meta = record { config = 0; view = 0; decided = 0; blacklist = []; signers = [] }

-- 32 zero bytes
abbrev pub no_hash : List ℕ
no_hash = replicate 32 0

unfoldable pub genesis_block : Config → Block
genesis_block c =
    record {
      header = record { number = 0; previous = no_hash; content = content_hash (genesis_request c ∷ []); meta = meta_hash genesis_meta };
      requests = genesis_request c ∷ [];
      meta = genesis_meta;
    }
