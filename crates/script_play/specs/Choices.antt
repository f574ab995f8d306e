-- The run of a script on a machine that takes choices.
use Rattle.std.specs.Prelude.{◌≡◌, ℕ, List, [], ◌++◌, Result, Option, None, IsSome, IfOk, OnOk}
use Rattle.std.specs.List.{AllByRecursion}
use Rattle.ord_types.specs.Told.{Took, TookAllBut, TookFront}
use Rattle.script.specs.declared.command.Command.{Command}
use Rattle.script.specs.declared.command.Meaning.TheVariants.{Means}
use Rattle.script.specs.Grammar.{meaning}
use Rattle.script_play.specs.declared.ending.Ending.{Ending}
use Rattle.script_play.specs.declared.ending.Fault.{Fault}
use Rattle.script_play.specs.Runs.{Run, Leaves, text_left, EndsAs}

-- what the line means, if it means a command, is one of these
abbrev pub MeansOnly : (Command → Type 0) → List ℕ → Type 0
MeansOnly P line = (command : Command) → meaning line ≡ Means command → P command

-- all is decided, and each command of these lines leaves it so
pub record AllDecided (Decided : Type 0) (decides : Command → Type 0) (ls : List (List ℕ)) : Type 0 where
  pub decided : Decided
  pub each : AllByRecursion (MeansOnly decides) ls

-- Some choices were taken in a line, and with any that come later it leaves of the whole run the rest.
pub record LeavesBy {C : Type 0} (whole rest : List C → Run) (printed : List ℕ) (ending : Option Ending) (Decided Stays : Type 0) : Type 0 where
  pub taken : List C
  pub leaves : (later : List C) → Leaves (whole (taken ++ later)) printed (rest later) ending
  pub none_taken : Decided → taken ≡ []
  pub stays_decided : Decided → ending ≡ None → Stays

-- Some choices were taken so far, and with any that come later a sink that tells its bytes took the text of the whole run but for the rest's, and
-- both end alike.
pub record PlayedTo {C : Type 0} (whole rest : List C → Run) (old new : Option (List ℕ)) (ending : Option Ending) (Decided Stays : Type 0) : Type 0 where
  pub taken : List C
  pub took : (later : List C) → IsSome old → TookAllBut old new (whole (taken ++ later)).text (text_left (rest later) ending)
  pub end : (later : List C) → EndsAs (whole (taken ++ later)) (rest later) ending
  pub none_taken : Decided → taken ≡ []
  pub stays_decided : Decided → ending ≡ None → Stays

-- Some choices were taken until a fault, and with any that come later such a sink took a front of the text.
pub record StoppedIn {C : Type 0} (whole : List C → Run) (old new : Option (List ℕ)) (Decided : Type 0) : Type 0 where
  pub taken : List C
  pub front : (later : List C) → IsSome old → TookFront old new (whole (taken ++ later)).text
  pub none_taken : Decided → taken ≡ []

-- Some choices were taken, none where all is decided, and of the run by these choices a sink that tells its bytes took a front of the text,
-- whatever the result, and the whole text where the run ended as the script says, which is the result.
pub record Played {C : Type 0} (run_by : List C → Run) (old new : Option (List ℕ)) (result : Result Ending Fault) (Decided : Type 0) : Type 0 where
  pub taken : List C
  pub text : OnOk result (IsSome old → Took old new (run_by taken).text)
  pub end : IfOk result (λ ending. ending ≡ (run_by taken).ending)
  pub front : IsSome old → TookFront old new (run_by taken).text
  pub none_taken : Decided → taken ≡ []
