-- The run of a script ends with too many Byzantine members exactly where its first genesis has them.
use Rattle.std.specs.Prelude.{◌≡◌, ◌≤◌, ◌<◌, ℕ, ◌+◌, List, ◌∷◌, ◌++◌, length, ⊤}
use Rattle.std.specs.List.{AllByRecursion}
use Rattle.ord_types.specs.Members.{fault_bound, how_many_in}
use Rattle.line_flow.specs.Lines.{lines}
use Rattle.script.specs.Grammar.{meaning}
use Rattle.script.specs.declared.command.Command.TheVariants.{Genesis}
use Rattle.script.specs.declared.command.Meaning.{Meaning}
use Rattle.script.specs.declared.command.Meaning.TheVariants.{Nothing, Means, Wrong}
use Rattle.script_play.specs.declared.ending.Ending.TheVariants.{TooManyFaulty}
use Rattle.script_play.specs.Runs.{max_line, max_lines}
use Rattle.world_model.specs.Histories.{run_of}
use Rattle.world_model.specs.Worlds.{Outcome}

-- nothing, or a command that begins no world
abbrev pub BeginsNone : Meaning → Type 0
BeginsNone Nothing = ⊤
BeginsNone (Means (Genesis members byzantine)) = ⊥
BeginsNone (Means _) = ⊤
BeginsNone (Wrong stop) = ⊥

-- a line within its limit that begins no world and doesn't end the run
pub record IsBeforeGenesis (line : List ℕ) : Type 0 where
  pub short : length line ≤ max_line
  pub none : BeginsNone (meaning line)

-- so many of the members of configuration 0 are Byzantine, above the bound of their number
pub record AreTooMany (members byzantine : List ℕ) (config count bound : ℕ) : Type 0 where
  pub first_config : config ≡ 0
  pub counted : count ≡ how_many_in byzantine members
  pub most : bound ≡ fault_bound (length members)
  pub above : bound < count

-- the first genesis of these lines, of which the first has this number, stands at that number, within the
-- limits, and has too many Byzantine members
pub record HaveTooMany (ls : List (List ℕ)) (first number config count bound : ℕ) : Type 0 where
  pub before : List (List ℕ)
  pub line : List ℕ
  pub after : List (List ℕ)
  pub members : List ℕ
  pub byzantine : List ℕ
  pub split : ls ≡ before ++ line ∷ after
  pub earlier : AllByRecursion IsBeforeGenesis before
  pub at : number ≡ first + length before
  pub within : number ≤ max_lines
  pub short : length line ≤ max_line
  pub means : meaning line ≡ Means (Genesis members byzantine)
  pub faulty : AreTooMany members byzantine config count bound

-- the run of a script ends so there alone
abbrev pub EndsOnlyWhereTooMany : Type 0
EndsOnlyWhereTooMany =
    (outcomes : List Outcome) (script : List ℕ) (number config count bound : ℕ)
    → (run_of outcomes script).ending ≡ TooManyFaulty number config count bound
    → HaveTooMany (lines script) 1 number config count bound

-- and wherever they do
abbrev pub EndsWhereTooMany : Type 0
EndsWhereTooMany =
    (outcomes : List Outcome) (script : List ℕ) (number config count bound : ℕ)
    → HaveTooMany (lines script) 1 number config count bound → (run_of outcomes script).ending
    ≡ TooManyFaulty number config count bound
