-- How places move with one more block.
use Rattle.std.proofs.Common.{◌≡◌, ℕ, ◌+◌, List, [], ◌∷◌, ◌++◌, refl}
use Rattle.ord_types.specs.declared.values.Block.{Block}
use Rattle.ord_types.specs.declared.values.Config.{Config}
use Rattle.ord_types.specs.declared.values.Place.{Place}
use Rattle.ord_types.specs.declared.values.Proof.{Proof}
use Rattle.chan_config.specs.Blocks.{change_in, config_at, config_or}
use Rattle.chan_config.specs.Places.{next_place, start_after, start_behind}

pub config_more : (c : Config) (bs : List Block) (b : Block)
    → config_at c (bs ++ b ∷ []) ≡ config_or (config_at c bs) (change_in b.requests)
config_more c [] b = refl
config_more c (x ∷ bs) b = config_more (config_or c (change_in x.requests)) bs b

pub start_more : (start : ℕ) (bs : List Block) (b : Block)
    → start_after start (bs ++ b ∷ []) ≡ start_behind (start_after start bs) b
start_more start [] b = refl
start_more start (x ∷ bs) b = start_more (start_behind start x) bs b

pub next_height : (place : Place) (e : Block × Proof) → (next_place place e).height ≡ place.height + 1
unfolding next_place
next_height place e = refl

-- THE CONFIGURATION STAYS: no change is ordered yet. What rests on that cites one of these.

pub config_same : (c : Config) (b : Block) → config_or c (change_in b.requests) ≡ c
unfolding change_in
config_same c b = refl

pub next_config : (place : Place) (e : Block × Proof) → (next_place place e).config ≡ place.config
unfolding next_place
next_config place e = config_same place.config e.0

pub config_stays : (c : Config) (blocks : List Block) → config_at c blocks ≡ c
unfolding change_in
config_stays c [] = refl
config_stays c (b ∷ bs) = config_stays c bs

pub start_stays : (start : ℕ) (blocks : List Block) → start_after start blocks ≡ start
unfolding change_in
start_stays start [] = refl
start_stays start (b ∷ bs) = start_stays start bs
