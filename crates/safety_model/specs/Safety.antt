-- What holds of every run.
use Rattle.std.specs.Prelude.{◌≡◌, ℕ, ◌≤◌, ◌<◌, ◌-◌, ◌^◌, take, slice_get, Some, IsTrue, false, List, [], ◌∷◌, ◌++◌, ◌⊎◌, ⊤}
use Rattle.std.specs.List.{All}
use Rattle.sha2.specs.Sha256.{sha256}
use Rattle.ord_types.specs.Genesis.{genesis_block}
use Rattle.ord_types.specs.Hashes.{block_hash}
use Rattle.ord_types.specs.Members.{is_raft}
use Rattle.ord_types.specs.Spelling.{header_text, meta_text, requests_text}
use Rattle.safety_model.specs.Blocks.{Block, Config, Request, change_in, config_at, config_or, follows_block, is_lawful}
use Rattle.safety_model.specs.Facts.{Fact, Proof, History, Stands}
use Rattle.safety_model.specs.declared.fact.Fact.TheVariants.{Delivered}
use Rattle.safety_model.specs.Rules.{IsRun, is_bft_proof}
use Rattle.safety_model.specs.State.{Setup, delivered, height, ledger}

-- block 0 is the genesis block of the first configuration, which is a BFT one
pub record BeginsWithGenesis (su : Setup) : Type 0 where
  pub block : su.genesis ≡ genesis_block su.config
  pub bft : is_raft su.config ≡ false

-- block 0, or a block that somebody delivered
abbrev pub IsBlockOf : Setup → History → Block → Type 0
IsBlockOf su h b = (b ≡ su.genesis) ⊎ ((i : ℕ) × (proof : Proof) × Stands h (Delivered i b proof))

-- a text that is hashed in the run: of a block's header, requests or meta
abbrev pub IsTextOf : Setup → History → List ℕ → Type 0
IsTextOf su h text =
    (b : Block) × IsBlockOf su h b × ((text ≡ header_text b.header) ⊎ ((text ≡ requests_text b.requests) ⊎ (text ≡ meta_text b.meta)))

-- different texts of the run have different SHA-256 values
abbrev pub NoCollision : Setup → History → Type 0
NoCollision su h = (x y : List ℕ) → IsTextOf su h x → IsTextOf su h y → sha256 x ≡ sha256 y → x ≡ y

-- the numbers of a request have the widths of their spelling
pub record RequestFits (r : Request) : Type 0 where
  pub client : r.id.client < 2 ^ 32
  pub serial : r.id.serial < 2 ^ 64

-- the numbers of a block have the widths of their spelling, as its Rust value has them: so nothing else is spelled alike
pub record Fits (b : Block) : Type 0 where
  pub view : b.meta.view < 2 ^ 64
  pub decided : b.meta.decided < 2 ^ 64
  pub blacklist : All (λ id. id < 2 ^ 32) b.meta.blacklist
  pub signers : All (λ id. id < 2 ^ 32) b.meta.signers
  pub requests : All RequestFits b.requests

-- the block of a fact, if it has one, fits
abbrev pub FactFits : Fact → Type 0
FactFits f = (i : ℕ) (b : Block) (proof : Proof) → f ≡ Delivered i b proof → Fits b

-- each delivered block fits
abbrev pub AllFit : History → Type 0
AllFit h = (i : ℕ) (b : Block) (proof : Proof) → Stands h (Delivered i b proof) → Fits b

abbrev pub IsPrefixOf : List Block → List Block → Type 0
IsPrefixOf xs ys = (rest : List Block) × (xs ++ rest ≡ ys)

-- each block is next after the one before it
abbrev pub AreLinked : Block → List Block → Type 0
AreLinked a [] = ⊤
AreLinked a (b ∷ bs) = IsTrue (follows_block a b) × AreLinked b bs

-- a chain: the genesis block of the first configuration, and each block next after the one before it
abbrev pub IsChain : Config → List Block → Type 0
IsChain c [] = ⊥
IsChain c (b ∷ bs) = (b ≡ genesis_block c) × AreLinked b bs

-- each block is lawful under the configuration in force at its number
abbrev pub AreLawful : Config → List Block → Type 0
AreLawful c [] = ⊤
AreLawful c (b ∷ bs) = IsTrue (is_lawful c b) × AreLawful (config_or c (change_in b.requests)) bs

-- the node delivered the block at place s with a proof; where a BFT configuration was in force at this number, the
-- proof is a certificate: all its signers are members, at least a quorum of distinct ones, and the correct ones
-- prepared the block in the certificate's one view
pub record IsProvedAt (su : Setup) (h : History) (i s : ℕ) : Type 0 where
  pub block : Block
  pub proof : Proof
  pub is : slice_get (ledger su i h) s ≡ Some block
  pub stands : Stands h (Delivered i block proof)
  pub proved : (let c = config_at su.config (take (s - 1) (delivered i h)) in is_raft c ≡ false → IsTrue (is_bft_proof su h c s (block_hash block) proof))

-- the ledgers of all nodes are prefixes of one chain, whose blocks above 0 are lawful and proved
pub record Agreement (su : Setup) (h : History) : Type 0 where
  pub prefixes : (i j : ℕ) → height i h ≤ height j h → IsPrefixOf (ledger su i h) (ledger su j h)
  pub chain : (i : ℕ) → IsChain su.config (ledger su i h)
  pub lawful : (i : ℕ) → AreLawful su.config (delivered i h)
  pub proved : (i s : ℕ) → 0 < s → s < height i h → IsProvedAt su h i s

-- whatever was allowed, the ledgers agree
abbrev pub RunsAgree : Type 0
RunsAgree = (su : Setup) (h : History) → BeginsWithGenesis su → IsRun su h → AllFit h → NoCollision su h → Agreement su h
