-- A ledger and its file.
use Rattle.std.specs.Prelude.{◌≡◌, ◌⊎◌, ℕ, ◌+◌, List, [], ◌∷◌, ◌++◌, map}
use Rattle.ord_types.specs.declared.values.Config.{Config}
use Rattle.ord_types.specs.declared.values.Place.{Place}
use Rattle.gate_log.specs.Disk.{File, State, MayLeave}
use Rattle.gate_log.specs.Settled.{IsSettled}
use Rattle.signer_edge.specs.Accepts.{Accepts}
use Rattle.block_ledger.specs.Chains.{Entry, IsChain}
use Rattle.block_ledger.specs.Entries.{HaveSpelling, entry_text}
use Rattle.block_ledger.specs.Places.{place_after}
use Rattle.block_ledger.specs.Reading.{Chain, stands_for}
use Rattle.block_ledger.specs.declared.ledger.Ledger.{Ledger}

-- the blocks of a ledger with their proofs, block 0 first
unfoldable pub blocks_of : Ledger → List Entry
blocks_of ledger = ledger.blocks.chain

-- the configuration that its chain began with: no change is ordered yet, so it is the one in force
unfoldable pub first_config : Ledger → Config
first_config ledger = ledger.blocks.place.config

-- where it stands
abbrev pub stands_at : Ledger → Place
stands_at ledger = place_after (first_config ledger) (blocks_of ledger)

-- where its file ends: behind the closed gate
unfoldable pub end_of : Ledger → ℕ
end_of ledger = ledger.log.gate + 1

-- The ledger's file spells its blocks; all of it is on the disk.
pub record IsKept (ledger : Ledger) (state : State) : Type 0 where
  pub settled : IsSettled ledger.log state
  pub spells : ledger.log.entries ≡ map entry_text (blocks_of ledger)
  pub spelled : HaveSpelling (blocks_of ledger)

-- Where these were a chain, the bytes stand for them, with one more or without it.
abbrev pub IsWithOrWithout : Accepts → Config → List Entry → Entry → List ℕ → Type 0
IsWithOrWithout accepts c chain e bytes =
    IsChain accepts c chain → (stands_for accepts c bytes ≡ Chain chain) ⊎ (stands_for accepts c bytes ≡ Chain (chain ++ e ∷ []))

-- The bytes stand for what some crash of the file could have stood for.
pub record StandsAsBefore (accepts : Accepts) (c : Config) (file : File) (bytes : List ℕ) : Type 0 where
  pub image : List ℕ
  pub left : MayLeave file image
  pub same : stands_for accepts c bytes ≡ stands_for accepts c image
