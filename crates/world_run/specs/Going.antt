-- How far the text of a turn has come, and what a line does.
use Rattle.std.specs.Prelude.{◌≡◌, ℕ, List, [], ◌++◌, Option, None, Some, string_bytes}
use Rattle.script_play.specs.Turns.{EndsTurn, Turn, Turned}
use Rattle.script_play.specs.declared.ending.Ending.{Ending}
use Rattle.world_model.specs.Turns.{within_limit}
use Rattle.world_model.specs.Worlds.{Outcome}
use Rattle.bft_node.specs.Lodgings.{Lodging}
use Rattle.world_run.specs.Mapped.{Model, world_of}
use Rattle.world_run.specs.Moves.{AreMoves, Move, outcomes_of}
use Rattle.world_run.specs.Sound.{NoneArmed}
use Rattle.world_run.specs.declared.delivering.Delivered.{Delivered}
use Rattle.world_run.specs.declared.delivering.Delivered.TheVariants.{All, Halted, Ended}
use Rattle.world_run.specs.declared.world.World.{World}

-- of a turn, `now` is what was printed since `before`, and this turn is left
pub record Goes {W : Type 0} (whole : Turn W) (before now : List ℕ) (rest : Turn W) : Type 0 where
  pub printed : before ++ whole.printed ≡ now ++ rest.printed
  pub next : whole.next ≡ rest.next

-- of a turn, this much was told between two worlds
abbrev pub Tells : World → World → Turn Model → Model → Option Ending → Type 0
Tells old new turn to ending =
    Turned turn (string_bytes old.outside.text) (string_bytes new.outside.text) to ending

-- Some moves were made, and whatever outcomes are still to come, this holds of the world with those of the
-- moves before them and of the world after them. The configuration stays. What arms no disk leaves a world so
-- in which none is armed, and takes no outcome.
pub record ByMoves (Quiet : Type 0) (at next : Lodging) (old new : World) (P : Model → Model → Type 0)
    : Type 0 where
  pub moves : List Move
  pub made : AreMoves old.config at next moves
  pub config : new.config ≡ old.config
  pub so : (later : List Outcome) → P (world_of at old (outcomes_of moves ++ later)) (world_of next new later)
  pub decided : Quiet → NoneArmed old → (outcomes_of moves ≡ []) × NoneArmed new

-- Some moves were made by which the turn leads from world to world.
abbrev pub Plays : Lodging → Lodging → World → World → (Model → Turn Model) → Option Ending → Type 0
Plays at next old new turn ending =
    ByMoves (Unit {0}) at next old new (λ w to. Tells old new (turn w) to ending)

-- the same of a turn that touches no node and takes no outcome, where these nodes stand in the world
abbrev pub SaysAt : Lodging → World → World → (Model → Turn Model) → Option Ending → Type 0
SaysAt at old new turn ending =
    (later : List Outcome) → Tells old new (turn (world_of at old later)) (world_of at new later) ending

-- and whatever nodes stand there
abbrev pub Says : World → World → (Model → Turn Model) → Option Ending → Type 0
Says old new turn ending =
    (at : Lodging) → SaysAt at old new turn ending

-- Where the text is this and then these blocks, it is told that the limit is kept, or the run ends.
abbrev pub TellsLimit : World → World → Option Ending → Type 0
TellsLimit old new ending =
    (at : Lodging) (later : List Outcome) (before blocks : List ℕ)
    → string_bytes old.outside.text ≡ before ++ blocks
    → Turned (within_limit old.outside.number blocks (world_of at old later)) before
    (string_bytes new.outside.text) (world_of at new later) ending

-- what became of a range, where a turn goes on with so many deliveries
abbrev pub Delivers : {W : Type 0} → ((ℕ → W → Turn W) → Turn W) → List ℕ → List ℕ → W → Delivered → Type 0
Delivers {W} whole before after next (All count) = (rest : ℕ → W → Turn W)
    → Goes (whole rest) before after (rest count next)
Delivers {W} whole before after next Halted = (rest : ℕ → W → Turn W)
    → Turned (whole rest) before after next None
Delivers {W} whole before after next (Ended ending) = (rest : ℕ → W → Turn W)
    → Turned (whole rest) before after next (Some ending)

-- the same by some moves
abbrev pub DeliversBy : Lodging → Lodging → World → World → (Model → (ℕ → Model → Turn Model) → Turn Model)
    → Delivered → Type 0
DeliversBy at next old new whole delivered =
    ByMoves (Unit {0}) at next old new
    (λ w to. Delivers (whole w) (string_bytes old.outside.text) (string_bytes new.outside.text) to delivered)

-- what ends the deliveries ends the turn
abbrev pub EndsDelivery : Delivered → Type 0
EndsDelivery (All count) = Unit {0}
EndsDelivery Halted = Unit {0}
EndsDelivery (Ended ending) = EndsTurn ending
