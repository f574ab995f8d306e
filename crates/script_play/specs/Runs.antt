-- The text of a script, and how its run ends.
use Rattle.std.specs.Prelude.{ℕ, ◌+◌, ◌++◌, List, [], ◌∷◌, length, nat_lt, if◌then◌else◌, Result, Ok, Err, ◌≡◌, Option, Some, None, Bool, true, false, ◌<◌}
use Rattle.script.specs.declared.command.Command.{Command}
use Rattle.script.specs.declared.command.Stop.TheVariants.{Malformed, NotBuilt}
use Rattle.script.specs.declared.command.Meaning.{Meaning}
use Rattle.script.specs.declared.command.Meaning.TheVariants.{Nothing, Means, Wrong}
use Rattle.script.specs.Grammar.{meaning}
use Rattle.line_flow.specs.Lines.{lines}
use Rattle.script_play.specs.declared.ending.Ending.{Ending}
use Rattle.script_play.specs.declared.ending.Ending.TheVariants.{Done, MalformedLine, LaterLine, Limit}
use Rattle.script_play.specs.Turns.{Turn}
use Rattle.script_play.specs.Texts.{malformed_text, not_built_text, limit_text}

pub record Run : Type 0 where
  pub text : List ℕ
  pub ending : Ending

abbrev pub max_lines : ℕ
max_lines = 1000000

abbrev pub max_line : ℕ
max_line = 8500000

abbrev pub limit_turn : {W : Type 0} → ℕ → ℕ → Turn W
limit_turn number limit = record { printed = limit_text number limit; next = Err (Limit limit) }

-- what a line with this number means to a world
abbrev pub said : {W : Type 0} → (W → ℕ → Command → Turn W) → W → ℕ → Meaning → Turn W
said turn world number Nothing = record { printed = []; next = Ok world }
said turn world number (Means command) = turn world number command
said turn world number (Wrong (Malformed place)) = record { printed = malformed_text number place; next = Err (MalformedLine number place) }
said turn world number (Wrong NotBuilt) = record { printed = not_built_text number; next = Err (LaterLine number) }

-- the limits come first
unfoldable pub line_turn : {W : Type 0} → (W → ℕ → Command → Turn W) → W → ℕ → List ℕ → Turn W
line_turn turn world number line =
    if nat_lt max_lines number then limit_turn number max_lines
    else (if nat_lt max_line (length line) then limit_turn number max_line
    else said turn world number (meaning line))

-- a turn, and the run from the world after it
abbrev pub went : {W : Type 0} → List ℕ → Result W Ending → (W → Run) → Run
went printed (Ok world) rest = record { text = printed ++ (rest world).text; ending = (rest world).ending }
went printed (Err ending) rest = record { text = printed; ending = ending }

-- the run over these lines, of which the first has this number
unfoldable pub run : {W : Type 0} → (W → ℕ → Command → Turn W) → (W → List ℕ) → List (List ℕ) → W → ℕ → Run
run turn closing [] world number = record { text = closing world; ending = Done }
run turn closing (line ∷ more) world number =
    went (line_turn turn world number line).printed (line_turn turn world number line).next (λ next. run turn closing more next (number + 1))

-- the text of a run that has not ended
abbrev pub text_left : Run → Option Ending → List ℕ
text_left rest None = rest.text
text_left rest (Some ending) = []

-- a run ends as the run that is left, or has ended so
abbrev pub EndsAs : Run → Run → Option Ending → Type 0
EndsAs whole rest None = whole.ending ≡ rest.ending
EndsAs whole rest (Some ending) = whole.ending ≡ ending

-- of a run, so much was printed, and this run is left, unless it has ended
pub record Leaves (whole : Run) (printed : List ℕ) (rest : Run) (ending : Option Ending) : Type 0 where
  pub text : whole.text ≡ printed ++ text_left rest ending
  pub end : EndsAs whole rest ending

-- a line that was read whole, or is known to be too long
abbrev pub LineIs : Bool → List ℕ → List ℕ → Type 0
LineIs true line read = max_line < length line
LineIs false line read = line ≡ read

-- the run of a script: its lines, from 1 on
abbrev pub script_run : {W : Type 0} → (W → ℕ → Command → Turn W) → (W → List ℕ) → W → List ℕ → Run
script_run turn closing world script = run turn closing (lines script) world 1
