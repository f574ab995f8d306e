-- Chains of blocks, each with what proves it.
use Rattle.std.specs.Prelude.{◌≡◌, ℕ, ◌+◌, Bool, true, ◌&&◌, not, List, map, take, slice_get, Some}
use Rattle.ord_types.specs.Genesis.{IsGenesisConfig, genesis_block}
use Rattle.ord_types.specs.Hashes.{block_hash}
use Rattle.ord_types.specs.Members.{is_raft}
use Rattle.ord_types.specs.declared.values.Block.{Block}
use Rattle.ord_types.specs.declared.values.Config.{Config}
use Rattle.ord_types.specs.declared.values.Proof.{Proof}
use Rattle.ord_types.specs.declared.values.Proof.TheVariants as proof_of
use Rattle.signer_edge.specs.Accepts.{Accepts}
use Rattle.signer_edge.specs.Certificates.{is_good_cert}
use Rattle.chan_config.specs.Blocks.{config_at, follows_block, is_lawful}

-- a block, and what proves it
abbrev pub Entry : Type 0
Entry = Block × Proof

abbrev pub blocks_in : List Entry → List Block
blocks_in chain = map (λ (e : Entry). e.0) chain

-- block 0 of the chain that begins with this configuration; nobody signs it, under either kind
abbrev pub genesis_entry : Config → Entry
genesis_entry c = (genesis_block c, proof_of.Raft)

-- a block with which the chain of this configuration can begin
pub record IsGenesisBlock (c : Config) (b : Block) : Type 0 where
  pub config : IsGenesisConfig c
  pub block : b ≡ genesis_block c

abbrev pub IsSomeGenesis : Block → Type 0
IsSomeGenesis b = (c : Config) × IsGenesisBlock c b

-- What proves a block under a configuration (SmartBFT, Raft): under Raft nothing more than that it is there, under BFT a certificate
-- under this configuration, of whose signatures each is accepted.
abbrev pub is_proved : Accepts → Config → Entry → Bool
is_proved accepts c (b, proof_of.Raft) = is_raft c
is_proved accepts c (b, proof_of.Bft cert) = not (is_raft c) && is_good_cert accepts c b.header.number (block_hash b) cert

-- the configuration in force at a number of the chain: the one that the last change below it carries, or the first one
abbrev pub config_in_force : Config → List Entry → ℕ → Config
config_in_force c chain number = config_at c (blocks_in (take number chain))

-- A chain (Fabric): block 0 is the genesis block; each later one has the next number, names the hash of the one before and the hashes
-- of what stands in it, and is lawful and proved under the configuration in force at its number.
pub record IsChain (accepts : Accepts) (c : Config) (chain : List Entry) : Type 0 where
  pub first : slice_get chain 0 ≡ Some (genesis_entry c)
  pub linked : (i : ℕ) (before next : Entry) → slice_get chain i ≡ Some before → slice_get chain (i + 1) ≡ Some next → follows_block before.0 next.0 ≡ true
  pub lawful : (i : ℕ) (next : Entry) → slice_get chain (i + 1) ≡ Some next → is_lawful (config_in_force c chain (i + 1)) next.0 ≡ true
  pub proved : (i : ℕ) (next : Entry) → slice_get chain (i + 1) ≡ Some next → is_proved accepts (config_in_force c chain (i + 1)) next ≡ true
