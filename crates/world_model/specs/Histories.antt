-- The world of the model: its nodes are computed from all that happened at them, and it keeps the list of all
-- facts.
use Rattle.std.specs.Prelude.{ℕ, List, [], ◌++◌, reverse, Option, None}
use Rattle.line_flow.specs.Lines.{lines}
use Rattle.safety_model.specs.Facts.{History}
use Rattle.node_model.specs.Keeping.{PastNode, core_of_past, past_on, with_entries}
use Rattle.script_play.specs.Runs.{Run, script_run}
use Rattle.script_play.specs.Worlds as played
use Rattle.world_model.specs.Worlds.{Keeping, Outcome, Setting, World}
use Rattle.world_model.specs.Turns.{turn_of, closing_of}

-- the history is the list of all facts, the newest first
abbrev pub past_keeping : Keeping PastNode
past_keeping = record { look = core_of_past; opens = past_on; takes = with_entries }

abbrev pub past_setting : Setting PastNode History
past_setting =
    record { keeping = past_keeping; silent = []; hears = λ facts history. reverse facts ++ history }

-- the run of a script: its text, and how it ends, a function of its bytes and of the outcomes
abbrev pub run_of : List Outcome → List ℕ → Run
run_of outcomes script = script_run (turn_of past_setting outcomes) (closing_of past_setting) None script

-- the worlds of a script: the one before each line, and the last one
abbrev pub worlds_of : List Outcome → List ℕ → List (Option (World PastNode History))
worlds_of outcomes script = played.worlds (turn_of past_setting outcomes) (lines script) None 1
