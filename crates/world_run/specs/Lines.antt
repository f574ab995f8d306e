-- What a line does to a runner, whether there is a world yet or not.
use Rattle.std.specs.Prelude.{◌≡◌, ℕ, List, [], ◌++◌, Option, Some, None}
use Rattle.safety_model.specs.Blocks.{Config}
use Rattle.script.specs.declared.command.Command.{Command}
use Rattle.script.specs.declared.command.Command.TheVariants.{
  Genesis,
  Submit,
  Raw,
  Show,
  Tick,
  Deliver,
  Flush,
  Propose,
  Vote,
  Lie,
  Seal,
  Stop,
  StopAt,
  Start,
}
use Rattle.script_play.specs.Turns.{Turn, Turned}
use Rattle.script_play.specs.declared.ending.Ending.{Ending}
use Rattle.node_model.specs.Cores.{Core}
use Rattle.world_model.specs.Cores.{core_setting}
use Rattle.world_model.specs.Stages.{Stage, Waits, Goes, stage_turn}
use Rattle.world_model.specs.Worlds.{Outcome}
use Rattle.bft_node.specs.Lodgings.{Lodging}
use Rattle.world_run.specs.Answers.{image_of}
use Rattle.world_run.specs.Mapped.{world_of}
use Rattle.world_run.specs.Moves.{AreMoves, IsArmedAt, Move, outcomes_of}
use Rattle.world_run.specs.Sound.{IsDecided}
use Rattle.world_run.specs.Whereabouts.{whereabouts_of}
use Rattle.world_run.specs.declared.world.Whereabouts.TheVariants.{Running}
use Rattle.world_run.specs.declared.world.World.{World}

-- how far a script is, where these outcomes are still to come
abbrev pub stage_at : Lodging → Option World → List Outcome → Stage Core (Unit {0})
stage_at at None later = Waits later
stage_at at (Some w) later = Goes (world_of at w later)

-- a line that arms no disk
abbrev pub decides : Command → Type 0
decides (Genesis members byzantine) = Unit {0}
decides (Submit id client serial payload) = Unit {0}
decides (Raw id bytes) = Unit {0}
decides (Show id number) = Unit {0}
decides (Tick id count) = Unit {0}
decides (Deliver ranges) = Unit {0}
decides (Flush only) = Unit {0}
decides (Propose from to view client serial payload) = Unit {0}
decides (Vote from to kind view entry) = Unit {0}
decides (Lie from to bytes) = Unit {0}
decides (Seal id bytes) = Unit {0}
decides (Stop id image) = Unit {0}
decides (StopAt id call image) = ⊥
decides (Start id) = Unit {0}

-- A line by which the turn leads from stage to stage, with the moves of its nodes: the outcomes that it takes
-- are theirs.
pub record PlaysLine (at next : Lodging) (old new : Option World) (command : Command)
    (turn : Stage Core (Unit {0}) → Turn (Stage Core (Unit {0}))) (before after : List ℕ)
    (ending : Option Ending) : Type 0 where
  pub config : Config
  pub moves : List Move
  pub made : AreMoves config at next moves
  pub turned : (later : List Outcome)
      → Turned (turn (stage_at at old (outcomes_of moves ++ later))) before after (stage_at next new later)
      ending
  pub decided : decides command → IsDecided old → (outcomes_of moves ≡ []) × IsDecided new

-- a line of this number plays its command
abbrev pub PlaysCommand : ℕ → Command → Lodging → Lodging → Option World → Option World → List ℕ → List ℕ
    → Option Ending → Type 0
PlaysCommand number command at next old new before after ending =
    PlaysLine at next old new command (λ stage. stage_turn core_setting stage number command)
    before after ending

-- a `stop-at` line about a node that runs leaves its disk armed
abbrev pub ArmsBy : Lodging → Lodging → Option World → Command → Type 0
ArmsBy at next (Some w) (StopAt id call image) =
    (place : ℕ) → whereabouts_of id w.members.items ≡ Running place
    → IsArmedAt at next id call (image_of image)
ArmsBy at next (Some w) command = Unit {0}
ArmsBy at next None command = Unit {0}
