-- What holds in every world of a script.
use Rattle.std.proofs.Common.{◌≡◌, ℕ, ◌+◌, List, [], ◌∷◌, cond, Bool, true, false, refl, subst, Result, Ok, Err, nat_lt, length}
use Rattle.std.specs.List.{AllByRecursion}
use Rattle.script.specs.declared.command.Command.{Command}
use Rattle.script.specs.declared.command.Stop.TheVariants.{Malformed, NotBuilt}
use Rattle.script.specs.declared.command.Meaning.{Meaning}
use Rattle.script.specs.declared.command.Meaning.TheVariants.{Nothing, Means, Wrong}
use Rattle.script.specs.Grammar.{meaning}
use Rattle.script_play.specs.declared.ending.Ending.{Ending}
use Rattle.script_play.specs.Turns.{Turn}
use Rattle.script_play.specs.Runs.{line_turn, limit_turn, said, max_lines, max_line}
use Rattle.script_play.specs.Worlds.{Keeps, worlds, worlds_after}

said_keeps : {W : Type 0} (turn : W → ℕ → Command → Turn W) (Good : W → Type 0) → Keeps turn Good → (world next : W) (number : ℕ) (line : List ℕ) (m : Meaning) → meaning line ≡ m → Good world → (said turn world number m).next ≡ Ok next → Good next
said_keeps turn Good keeps world next number line Nothing is good e = let same : world ≡ next = cc in subst Good same good
said_keeps turn Good keeps world next number line (Means command) is good e = keeps world next number line command is good e
said_keeps turn Good keeps world next number line (Wrong (Malformed place)) is good e = absurd (cc)
said_keeps turn Good keeps world next number line (Wrong NotBuilt) is good e = absurd (cc)

either_keeps : {W : Type 0} (b : Bool) (x y : Turn W) (next : W) (Q : Type 0) → (x.next ≡ Ok next → Q) → (y.next ≡ Ok next → Q) → (cond b x y).next ≡ Ok next → Q
either_keeps true x y next Q f g e = f e
either_keeps false x y next Q f g e = g e

limit_stops : {W : Type 0} (number limit : ℕ) (next : W) (Q : Type 0) → (limit_turn {W = W} number limit).next ≡ Ok next → Q
limit_stops number limit next Q e = absurd (cc)

line_keeps : {W : Type 0} (turn : W → ℕ → Command → Turn W) (Good : W → Type 0) → Keeps turn Good → (world next : W) (number : ℕ) (line : List ℕ) → Good world → (line_turn turn world number line).next ≡ Ok next → Good next
unfolding line_turn
line_keeps turn Good keeps world next number line good e =
    let last = said turn world number (meaning line) in
    let long = limit_turn number max_line in
    either_keeps (nat_lt max_lines number) (limit_turn number max_lines) (cond (nat_lt max_line (length line)) long last) next (Good next) (limit_stops number max_lines next (Good next))
    (either_keeps (nat_lt max_line (length line)) long last next (Good next) (limit_stops number max_line next (Good next)) (said_keeps turn Good keeps world next number line (meaning line) refl good)) e

after_keeps : {W : Type 0} (Good : W → Type 0) (r : Result W Ending) (rest : W → List W) → ((w : W) → r ≡ Ok w → AllByRecursion Good (rest w)) → AllByRecursion Good (worlds_after r rest)
after_keeps Good (Ok w) rest h = h w refl
after_keeps Good (Err e) rest h = tt

pub worlds_keep : {W : Type 0} (turn : W → ℕ → Command → Turn W) (Good : W → Type 0) → Keeps turn Good → (ls : List (List ℕ)) (world : W) (number : ℕ) → Good world → AllByRecursion Good (worlds turn ls world number)
unfolding worlds
worlds_keep turn Good keeps [] world number good = (good, tt)
worlds_keep turn Good keeps (line ∷ more) world number good =
    (good, after_keeps Good (line_turn turn world number line).next (λ next. worlds turn more next (number + 1)) (λ next is. worlds_keep turn Good keeps more next (number + 1) (line_keeps turn Good keeps world next number line good is)))
