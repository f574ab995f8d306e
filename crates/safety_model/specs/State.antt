-- What a node's facts say of its state.
use Rattle.std.specs.Prelude.{ℕ, ◌+◌, Bool, false, ◌&&◌, ◌==◌, nat_le, max, List, [], ◌∷◌, ◌++◌, length, Option, Some, None, if◌then◌else◌}
use Rattle.safety_model.specs.Blocks.{Block, Config, config_at}
use Rattle.safety_model.specs.Facts.{Proof, Fact, History}
use Rattle.safety_model.specs.declared.fact.Fact.TheVariants.{Left, Entered, Delivered}

-- what is fixed for a run: the first block and its configuration, and who may lie
pub record Setup : Type 0 where
  pub genesis : Block
  pub config : Config
  pub byzantine : List ℕ

-- the block that a fact adds to a node's ledger
abbrev pub delivered_by : ℕ → Fact → List Block
delivered_by i (Delivered j b proof) = if j == i then b ∷ [] else []
delivered_by i _ = []

-- the blocks that it delivered, in order
abbrev pub delivered : ℕ → History → List Block
delivered i [] = []
delivered i (f ∷ h) = delivered i h ++ delivered_by i f

-- its ledger: block 0, and what it delivered
abbrev pub ledger : Setup → ℕ → History → List Block
ledger su i h = su.genesis ∷ delivered i h

-- the number of its next block
abbrev pub height : ℕ → History → ℕ
height i h = length (delivered i h) + 1

-- its last block with the proof, where it has delivered one
abbrev pub last_or : ℕ → Fact → Option (Block × Proof) → Option (Block × Proof)
last_or i (Delivered j b proof) before = if j == i then Some (b, proof) else before
last_or i _ before = before

abbrev pub last_delivered : ℕ → History → Option (Block × Proof)
last_delivered i [] = None
last_delivered i (f ∷ h) = last_or i f (last_delivered i h)

abbrev pub block_or : Block → Option (Block × Proof) → Block
block_or genesis None = genesis
block_or genesis (Some last) = last.0

-- its last block
abbrev pub tip : Setup → ℕ → History → Block
tip su i h = block_or su.genesis (last_delivered i h)

-- the configuration in force for it
abbrev pub config_of : Setup → ℕ → History → Config
config_of su i h = config_at su.config (delivered i h)

-- the view that a fact of the node enters under configuration e, or 0
abbrev pub entered_view : ℕ → ℕ → Fact → ℕ
entered_view i e (Entered j e' v x choice) = if (j == i) && (e' == e) then v else 0
entered_view i e _ = 0

-- the greatest view that it entered under configuration e, or 0
abbrev pub view : ℕ → ℕ → History → ℕ
view i e [] = 0
view i e (f ∷ h) = max (entered_view i e f) (view i e h)

-- the view that a fact of the node leaves for under configuration e, or 0
abbrev pub left_view : ℕ → ℕ → Fact → ℕ
left_view i e (Left j e' v) = if (j == i) && (e' == e) then v else 0
left_view i e _ = 0

-- the greatest view that it left for under configuration e, or 0
abbrev pub left : ℕ → ℕ → History → ℕ
left i e [] = 0
left i e (f ∷ h) = max (left_view i e f) (left i e h)

-- it is inside view v
abbrev pub is_inside : ℕ → ℕ → ℕ → History → Bool
is_inside i e v h = (view i e h == v) && nat_le (left i e h) v

-- the fact is of node i leaving its view or entering one
abbrev pub changes_view : ℕ → Fact → Bool
changes_view i (Left j e v) = j == i
changes_view i (Entered j e v x choice) = j == i
changes_view i _ = false
