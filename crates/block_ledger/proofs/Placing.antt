-- How places move.
use Rattle.std.proofs.Common.{◌≡◌, ℕ, ◌+◌, List, [], ◌∷◌, ◌++◌, length, refl, arith, length-append}
use Rattle.ord_types.specs.Genesis.{genesis_block}
use Rattle.ord_types.specs.declared.values.Block.{Block}
use Rattle.ord_types.specs.declared.values.Config.{Config}
use Rattle.chan_config.specs.Blocks.{change_in, config_at, config_or}
pub use Rattle.chan_config.proofs.PlaceLaws.{config_stays}
use Rattle.block_ledger.specs.Chains.{Entry, blocks_in, genesis_entry}
use Rattle.block_ledger.specs.Places.{first_place, next_place, place_after, start_after, start_behind, tip_after}

config_more : (c : Config) (chain : List Entry) (e : Entry) → config_at c (blocks_in (chain ++ e ∷ [])) ≡ config_or (config_at c (blocks_in chain)) (change_in e.0.requests)
config_more c [] e = refl
config_more c (x ∷ xs) e = config_more (config_or c (change_in x.0.requests)) xs e

start_more : (start : ℕ) (chain : List Entry) (e : Entry) → start_after start (blocks_in (chain ++ e ∷ [])) ≡ start_behind (start_after start (blocks_in chain)) e.0
start_more start [] e = refl
start_more start (x ∷ xs) e = start_more (start_behind start x.0) xs e

tip_more : (tip : Entry) (chain : List Entry) (e : Entry) → tip_after tip (chain ++ e ∷ []) ≡ e
tip_more tip [] e = refl
tip_more tip (x ∷ xs) e = tip_more x xs e

length_more : (chain : List Entry) (e : Entry) → length (chain ++ e ∷ []) ≡ length chain + 1
length_more chain e = omega (arith, length-append chain (e ∷ []))

-- one more block moves the place
pub moves_by_one : (c : Config) (chain : List Entry) (e : Entry) → place_after c (chain ++ e ∷ []) ≡ next_place (place_after c chain) e
unfolding place_after next_place
moves_by_one c chain e = rw (config_more c chain e, start_more 1 chain e, tip_more (genesis_entry c) chain e, length_more chain e) refl

-- behind block 0
pub begins_at_first : (c : Config) → place_after c (genesis_entry c ∷ []) ≡ first_place c
unfolding place_after change_in genesis_block
begins_at_first c = refl

pub config_of_place : (c : Config) (chain : List Entry) → (place_after c chain).config ≡ config_at c (blocks_in chain)
unfolding place_after
config_of_place c chain = refl

pub height_of_place : (c : Config) (chain : List Entry) → (place_after c chain).height ≡ length chain
unfolding place_after
height_of_place c chain = refl
