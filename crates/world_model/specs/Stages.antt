-- What a script's machine goes through: before the genesis the outcomes of all events of armed nodes, and
-- then a world with those to come.
use Rattle.std.specs.Prelude.{ℕ, List, Option, Some, None, Result, Ok, Err}
use Rattle.script.specs.declared.command.Command.{Command}
use Rattle.script_play.specs.declared.ending.Ending.{Ending}
use Rattle.script_play.specs.Turns.{Turn}
use Rattle.world_model.specs.Worlds.{Outcome, Setting, World}
use Rattle.world_model.specs.Turns.{turn_of, closing_of}

pub data Stage (S T : Type 0) : Type 0 where
  Waits : List Outcome → Stage S T
  Goes : World S T → Stage S T

-- where these are all outcomes of the script
abbrev pub stage_of : {S T : Type 0} → List Outcome → Option (World S T) → Stage S T
stage_of outcomes None = Waits outcomes
stage_of outcomes (Some w) = Goes w

abbrev pub next_stage : {S T : Type 0} → List Outcome → Result (Option (World S T)) Ending
    → Result (Stage S T) Ending
next_stage outcomes (Ok next) = Ok (stage_of outcomes next)
next_stage outcomes (Err ending) = Err ending

abbrev pub staged : {S T : Type 0} → List Outcome → Turn (Option (World S T)) → Turn (Stage S T)
staged outcomes turn = record { printed = turn.printed; next = next_stage outcomes turn.next }

unfoldable pub stage_turn : {S T : Type 0} → Setting S T → Stage S T → ℕ → Command → Turn (Stage S T)
stage_turn setting (Waits outcomes) number command =
    staged outcomes (turn_of setting outcomes None number command)
stage_turn setting (Goes w) number command =
    staged w.outcomes (turn_of setting w.outcomes (Some w) number command)

abbrev pub stage_closing : {S T : Type 0} → Setting S T → Stage S T → List ℕ
stage_closing setting (Waits outcomes) = closing_of setting None
stage_closing setting (Goes w) = closing_of setting (Some w)
