-- The worlds between the lines of a script are among all its worlds.
use Rattle.std.proofs.Common.{ℕ, ◌+◌, List, [], ◌∷◌, ◌++◌, sym, subst, Option, None, Result, Ok, Err}
use Rattle.std.specs.List.{AllByRecursion, Contains}
use Rattle.std.proofs.lemmas.List.Elements.{All-contains_itself, recursion_from_All}
use Rattle.line_flow.specs.Lines.{lines}
use Rattle.script_play.specs.declared.ending.Ending.{Ending}
use Rattle.script_play.specs.Runs.{line_turn}
use Rattle.script_play.specs.Worlds.{worlds, worlds_after}
use Rattle.world_model.specs.Histories.{past_setting}
use Rattle.world_model.specs.Turns.{turn_of}
use Rattle.world_model.specs.Worlds.{Outcome}
use Rattle.world_safety.specs.Telling.{last_of}
use Rattle.world_safety.specs.Within.{
  PastWorld,
  WorldsAreAmongAll,
  all_worlds_of,
  worlds_in_line,
  worlds_in_lines,
}
use Rattle.world_safety.proofs.Lists.{all_last, all_parts}
use Rattle.world_safety.proofs.Telling.{line_tells}
use Rattle.world_safety.proofs.Tells.{GoesTo, IsEarly}

-- what holds of all worlds holds of those between the lines
module _ (outcomes : List Outcome) (P : Option PastWorld → Type 0) where
  behind : (o : Option PastWorld) (here : List (Option PastWorld)) (r : Result (Option PastWorld) Ending)
      (within between : Option PastWorld → List (Option PastWorld)) → P o → GoesTo IsEarly r (last_of o here)
      → AllByRecursion P (here ++ worlds_after r within) → ((next : Option PastWorld) → P next
      → AllByRecursion P (within next) → AllByRecursion P (between next))
      → AllByRecursion P (worlds_after r between)
  behind o here (Ok next) within between holds to all more =
      let parts = all_parts P here (within next) all in
      more next (subst P (sym to) (all_last P o here holds parts.0)) parts.1
  behind o here (Err ending) within between holds to all more = tt

  pub between_lines : (ls : List (List ℕ)) (o : Option PastWorld) (number : ℕ) → P o
      → AllByRecursion P (worlds_in_lines outcomes ls o number)
      → AllByRecursion P (worlds (turn_of past_setting outcomes) ls o number)
  unfolding worlds worlds_in_lines
  between_lines [] o number holds all = (holds, tt)
  between_lines (line ∷ more) o number holds all = (
    holds,
    behind o (worlds_in_line outcomes o number line) (line_turn (turn_of past_setting outcomes) o number
        line).next (λ next. worlds_in_lines outcomes more next (number + 1))
        (λ next. worlds (turn_of past_setting outcomes) more next (number + 1))
        holds (line_tells outcomes number o line).next all (λ next holds all. between_lines more next
        (number + 1) holds all),
  )

pub worlds_among : WorldsAreAmongAll
worlds_among outcomes script =
    let every = all_worlds_of outcomes script in
    let all = recursion_from_All (Contains every) every (All-contains_itself every) in
    between_lines outcomes (Contains every) (lines script) None 1 all.0 all.1
