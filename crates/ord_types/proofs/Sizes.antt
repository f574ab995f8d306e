-- How long texts are.
use Rattle.std.proofs.Common.{◌≡◌, ℕ, zero, suc, ◌+◌, ◌*◌, ◌<◌, ◌^◌, List, [], ◌∷◌, length, arith, length-append, refl}
use Rattle.std.specs.Int.{w32, to_be_bytes}
use Rattle.std.specs.List.{All, flat_map}
use Rattle.sha2.proofs.Facts256.{length-sha256}
use Rattle.ord_types.specs.Spelling.{Config, config_text, sig_text}
use Rattle.ord_types.specs.Grammar.{HasBlockSpelling}
use Rattle.ord_types.specs.Hashes.{content_hash, meta_hash}
use Rattle.ord_types.specs.Lengths.{FitsBlock, FitsConfig, FitsRequest}
use Rattle.ord_types.specs.Genesis.{IsGenesisConfig, genesis_block, genesis_request, genesis_sig}

length-ids : (ids : List ℕ) → length (flat_map (λ id. to_be_bytes w32 id) ids) ≡ 4 * length ids
length-ids [] = omega arith
length-ids (id ∷ ids) = omega (arith, length-ids ids)

pub length-config : (c : Config) → length (config_text c) ≡ 4 * length c.members + 32
length-config c = simp length-append (omega (arith, length-ids c.members))

length-payload : (c : Config) → length (genesis_request c).payload ≡ 4 * length c.members + 38
length-payload c = omega (arith, length-config c, length-append (config_text c) (sig_text genesis_sig))

-- the first configuration's text fits a payload
pub genesis_fits : (c : Config) → FitsConfig c → length (genesis_request c).payload < 2 ^ 32
genesis_fits c h = omega (arith, length-payload c)

one_of : {X : Type 0} (P : X → Type 0) (x : X) → P x → All P (x ∷ [])
one_of P x p zero d h = p
one_of P x p (suc k) d h = absurd (omega arith)

pub genesis_block_fits : (c : Config) → FitsConfig c → FitsBlock (genesis_block c)
unfolding genesis_block
genesis_block_fits c h =
    record {
      requests = record { count = omega arith; requests = one_of FitsRequest (genesis_request c) (genesis_fits c h) };
      meta = record { blacklist = omega arith; signers = omega arith };
    }

-- the ids of a genesis block, its requests and its meta
pub genesis_block_spelling : (c : Config) → IsGenesisConfig c → HasBlockSpelling (genesis_block c)
unfolding genesis_block content_hash meta_hash
genesis_block_spelling c h =
    record {
      header = record { number = omega arith; previous = refl; content = length-sha256 _; meta = length-sha256 _ };
      requests = record {
        count = omega arith;
        requests = (record { client = omega arith; serial = omega arith; size = omega (arith, length-payload c, h.members.count) }, tt);
      };
      meta = record {
        config = omega arith;
        view = omega arith;
        decided = omega arith;
        blacklist = record { count = omega arith; different = tt; words = tt };
        signers = record { count = omega arith; ascending = tt; words = tt };
      };
    }
