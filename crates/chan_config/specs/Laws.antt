-- What the refusals of blocks mean.
use Rattle.std.specs.Prelude.{◌≡◌, ◌↔◌, ℕ, ◌+◌, ◌<◌, Bool, true, false, ◌&&◌, ◌||◌, ◌==◌, nat_lt, List, [], ◌∷◌, take, slice_get, Some, None}
use Rattle.std.specs.Option.{option_map_or}
use Rattle.std.specs.Str.{bytes_eq}
use Rattle.chan_config.specs.Blocks.{Block, Config, Request, are_lawful, content_fits, has_number, is_linked, is_next_at, meta_fits, total_size}
use Rattle.chan_config.specs.Refusals.{first_unlawful, is_bad_alone, refusal_at}
use Rattle.chan_config.specs.declared.checks.BlockRefusal.{BlockRefusal}
use Rattle.chan_config.specs.declared.checks.BlockRefusal.TheVariants.{WrongNumber, WrongPrevious, WrongContent, WrongMeta, WrongConfig, Unlawful, NoMemory}

-- The requests of a block are unlawful at a place. Where there are none, that is place 0. Else it is the place of one that
-- is bad alone, or with which those up to it are above the bound together.
abbrev pub is_unlawful : Config → List Request → ℕ → Bool
is_unlawful c [] i = i == 0
is_unlawful c (r ∷ rs) i =
    option_map_or (λ one. is_bad_alone c one || nat_lt c.batch.absolute (total_size (take (i + 1) (r ∷ rs)))) (slice_get (r ∷ rs) i) false

-- the requests are unlawful at this place, and at none before it
pub record IsFirstUnlawful (c : Config) (rs : List Request) (i : ℕ) : Type 0 where
  pub here : is_unlawful c rs i ≡ true
  pub earlier : (j : ℕ) → j < i → is_unlawful c rs j ≡ false

-- the causes stand in this order: the refusal's cause holds, with its values, and none before it
abbrev pub IsRefusal : List ℕ → ℕ → Config → Block → BlockRefusal → Type 0
IsRefusal last number c b (WrongNumber n) = (has_number number b ≡ false) × (n ≡ b.header.number)
IsRefusal last number c b (WrongPrevious named real) =
    (has_number number b ≡ true) × (bytes_eq b.header.previous last ≡ false) × (named ≡ b.header.previous) × (real ≡ last)
IsRefusal last number c b WrongContent = ((has_number number b && bytes_eq b.header.previous last) ≡ true) × (content_fits b ≡ false)
IsRefusal last number c b WrongMeta =
    ((has_number number b && bytes_eq b.header.previous last && content_fits b) ≡ true) × (meta_fits b ≡ false)
IsRefusal last number c b (WrongConfig n) = (is_linked last number b ≡ true) × ((b.meta.config == c.number) ≡ false) × (n ≡ b.meta.config)
IsRefusal last number c b (Unlawful i) =
    (is_linked last number b ≡ true) × ((b.meta.config == c.number) ≡ true) × IsFirstUnlawful c b.requests i
IsRefusal last number c b NoMemory = ⊥

-- a block is refused by nothing exactly where it may come next, and each refusal comes exactly where it is the first whose
-- cause holds
pub record RefusesRightly (last : List ℕ) (number : ℕ) (c : Config) (b : Block) : Type 0 where
  pub none : (refusal_at last number c b ≡ None) ↔ (is_next_at last number c b ≡ true)
  pub each : (refusal : BlockRefusal) → (refusal_at last number c b ≡ Some refusal) ↔ IsRefusal last number c b refusal

-- the same of the requests alone
pub record FindsRightly (c : Config) (rs : List Request) : Type 0 where
  pub none : (first_unlawful c rs ≡ None) ↔ (are_lawful c rs ≡ true)
  pub each : (i : ℕ) → (first_unlawful c rs ≡ Some i) ↔ IsFirstUnlawful c rs i

abbrev pub BlocksAreChecked : Type 0
BlocksAreChecked = (last : List ℕ) (number : ℕ) (c : Config) (b : Block) → RefusesRightly last number c b

abbrev pub RequestsAreChecked : Type 0
RequestsAreChecked = (c : Config) (rs : List Request) → FindsRightly c rs
