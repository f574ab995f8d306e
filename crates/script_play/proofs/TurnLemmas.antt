-- Lemmas on turns and runs.
use Rattle.std.proofs.Common.{◌≡◌, ℕ, ◌+◌, ◌<◌, ◌≤◌, List, [], ◌∷◌, ◌++◌, length, sym, ap, ◌∙◌, refl, arith, ltb, Bool, true, false, Option, Some, None, ◌≢◌, Result, Ok, Err, IfOk}
use Rattle.std.proofs.lemmas.Bool.Decides.{nat_tests}
use Rattle.std.proofs.lemmas.Bool.{le-ltb}
use Rattle.script.specs.declared.command.Command.{Command}
use Rattle.script.specs.Grammar.{meaning}
use Rattle.script_play.specs.Turns.{Turn, Turned}
use Rattle.script_play.specs.Runs.{line_turn, limit_turn, said, max_lines, max_line, LineIs, run, Run, Leaves}
use Rattle.script_play.specs.declared.ending.Ending.{Ending}
use Rattle.script_play.specs.declared.ending.Ending.TheVariants.{Done}
use Rattle.line_flow.specs.Lines.{lines}
use Rattle.std.proofs.lemmas.List.{append-nil}

above : (a b : ℕ) → a < b → ltb a b ≡ true
above a b h = grind (arith, nat_tests)

pub turn_over_lines : {W : Type 0} (turn : W → ℕ → Command → Turn W) (world : W) (number : ℕ) (line : List ℕ) → max_lines < number → line_turn turn world number line ≡ limit_turn number max_lines
unfolding line_turn
turn_over_lines turn world number line h = rw (above max_lines number h) refl

pub turn_too_long : {W : Type 0} (turn : W → ℕ → Command → Turn W) (world : W) (number : ℕ) (line : List ℕ) → number ≤ max_lines → max_line < length line → line_turn turn world number line ≡ limit_turn number max_line
unfolding line_turn
turn_too_long turn world number line h k = rw (le-ltb max_lines number h, above max_line (length line) k) refl

pub turn_said : {W : Type 0} (turn : W → ℕ → Command → Turn W) (world : W) (number : ℕ) (line : List ℕ) → number ≤ max_lines → length line ≤ max_line → line_turn turn world number line ≡ said turn world number (meaning line)
unfolding line_turn
turn_said turn world number line h k = rw (le-ltb max_lines number h, le-ltb max_line (length line) k) refl

pub line_is : (long : Bool) (line read : List ℕ) → long ≡ false → LineIs long line read → line ≡ read
line_is long line read short is = rw short at is

pub leaves_end : {W : Type 0} (turn : W → ℕ → Command → Turn W) (closing : W → List ℕ) (world : W) (number : ℕ) (ls : List (List ℕ)) (printed : List ℕ) (rest : Run)
    → ls ≡ [] → printed ≡ closing world → Leaves (run turn closing ls world number) printed rest (Some Done)
unfolding run
leaves_end turn closing world number ls printed rest none is = rw none (record { text = sym is ∙ sym (append-nil printed); end = refl })

pub leaves_line : {W : Type 0} (turn : W → ℕ → Command → Turn W) (closing : W → List ℕ) (world next : W) (number : ℕ) (ls : List (List ℕ)) (line : List ℕ) (more : List (List ℕ)) (printed : List ℕ) (ending : Option Ending)
    → ls ≡ line ∷ more → Turned (line_turn turn world number line) [] printed next ending
    → Leaves (run turn closing ls world number) printed (run turn closing more next (number + 1)) ending
unfolding run
leaves_line turn closing world next number ls line more printed None is turned = rw (is, turned.next) (record { text = ap (λ (xs : List ℕ). xs ++ (run turn closing more next (number + 1)).text) (sym turned.printed); end = refl })
leaves_line turn closing world next number ls line more printed (Some ending) is turned = rw (is, turned.next) (record { text = sym turned.printed ∙ sym (append-nil printed); end = refl })

-- a line that ends the run
pub leaves_last : {W : Type 0} (turn : W → ℕ → Command → Turn W) (closing : W → List ℕ) (world next : W) (number : ℕ) (line : List ℕ) (more : List (List ℕ)) (printed : List ℕ) (rest : Run) (ending : Option Ending)
    → (ending ≢ None) → Turned (line_turn turn world number line) [] printed next ending
    → Leaves (run turn closing (line ∷ more) world number) printed rest ending
unfolding run
leaves_last turn closing world next number line more printed rest None ends turned = absurd (ends refl)
leaves_last turn closing world next number line more printed rest (Some ending) ends turned =
    rw turned.next (record { text = sym turned.printed ∙ sym (append-nil printed); end = refl })

-- a fact of the value, from the equation that says which it is
pub IfOk-from_is : {T E : Type 0} (r : Result T E) (Q : T → Type 0) → ((x : T) → r ≡ Ok x → Q x) → IfOk r Q
IfOk-from_is (Ok x) Q h = h x refl
IfOk-from_is (Err e) Q h = tt

pub lines_none : (bytes : List ℕ) → bytes ≡ [] → lines bytes ≡ []
unfolding lines
lines_none bytes none = rw none refl
