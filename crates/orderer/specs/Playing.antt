-- What is written of a script, and how it ends.
use Rattle.std.specs.Prelude.{◌≡◌, ℕ, List, [], Option, IsSome}
use Rattle.std.specs.List.{AllByRecursion}
use Rattle.line_flow.specs.Lines.{lines}
use Rattle.ord_types.specs.Told.{Took, TookFront}
use Rattle.script_play.specs.Choices.{MeansOnly}
use Rattle.script_play.specs.Statuses.{IsOwn, status_of}
use Rattle.world_model.specs.Histories.{run_of}
use Rattle.world_model.specs.Worlds.{Outcome}
use Rattle.world_run.specs.Lines.{decides}

-- By some outcomes of the events of nodes whose disks were armed, which are none where no line is a `stop-at`: a status of the script's own
-- is that of its end, with the whole text written to a sink that tells its bytes; and a front of the text is written whatever comes.
pub record PlaysScript (script : List ℕ) (old new : Option (List ℕ)) (result : ℕ) : Type 0 where
  pub outcomes : List Outcome
  pub alone : AllByRecursion (MeansOnly decides) (lines script) → outcomes ≡ []
  pub status : IsOwn result → result ≡ status_of (run_of outcomes script).ending
  pub whole : IsOwn result → IsSome old → Took old new (run_of outcomes script).text
  pub front : IsSome old → TookFront old new (run_of outcomes script).text
