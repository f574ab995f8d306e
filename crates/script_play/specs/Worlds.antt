-- The worlds that a script goes through.
use Rattle.std.specs.Prelude.{◌≡◌, ℕ, ◌+◌, List, [], ◌∷◌, Result, Ok, Err}
use Rattle.script.specs.declared.command.Command.{Command}
use Rattle.script.specs.declared.command.Meaning.TheVariants.{Means}
use Rattle.script.specs.Grammar.{meaning}
use Rattle.script_play.specs.declared.ending.Ending.{Ending}
use Rattle.script_play.specs.Turns.{Turn}
use Rattle.script_play.specs.Runs.{line_turn}

abbrev pub worlds_after : {W : Type 0} → Result W Ending → (W → List W) → List W
worlds_after (Ok world) rest = rest world
worlds_after (Err ending) rest = []

-- the world before each line, and the last one
unfoldable pub worlds : {W : Type 0} → (W → ℕ → Command → Turn W) → List (List ℕ) → W → ℕ → List W
worlds turn [] world number = world ∷ []
worlds turn (line ∷ more) world number = world ∷ worlds_after (line_turn turn world number line).next (λ next. worlds turn more next (number + 1))

-- a command of a script keeps the fact
abbrev pub Keeps : {W : Type 0} → (W → ℕ → Command → Turn W) → (W → Type 0) → Type 0
Keeps {W} turn Good = (world next : W) (number : ℕ) (line : List ℕ) (command : Command) → meaning line ≡ Means command → Good world → (turn world number command).next ≡ Ok next → Good next
