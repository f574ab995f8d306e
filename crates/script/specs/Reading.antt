-- How fields are read one after the other.
use Rattle.std.specs.Prelude.{◌≡◌, ℕ, List, [], ◌∷◌, Option, Some, None, Result, Ok, Err}
use Rattle.script.specs.declared.command.Stop.{Stop}
use Rattle.script.specs.declared.command.Stop.TheVariants.{Malformed}
use Rattle.script.specs.declared.command.Halt.{Halt}
use Rattle.script.specs.declared.command.Halt.TheVariants.{Stopped, NoMemory}
use Rattle.script.specs.Words.{Word}

infixl 10 ◌>>=◌
abbrev pub ◌>>=◌ : {A B : Type 0} → Result A Stop → (A → Result B Stop) → Result B Stop
(Ok x) >>= f = f x
(Err e) >>= f = Err e

-- the value of a word that fits, and the words behind it
abbrev pub fitted : {A : Type 0} → Option A → ℕ → List Word → Result (A × List Word) Stop
fitted None place more = Err (Malformed place)
fitted (Some x) place more = Ok (x, more)

-- the next word is one that fits; a missing one is missed one past the line's end
abbrev pub field : {A : Type 0} → (List ℕ → Option A) → ℕ → List Word → Result (A × List Word) Stop
field fits past [] = Err (Malformed past)
field fits past (word ∷ more) = fitted (fits word.text) word.place more

-- the next word fits, or there is none, and the value is this one
abbrev pub field_or : {A : Type 0} → A → (List ℕ → Option A) → List Word → Result (A × List Word) Stop
field_or other fits [] = Ok (other, [])
field_or other fits (word ∷ more) = fitted (fits word.text) word.place more

abbrev pub taken : {A : Type 0} → A → Option A → Word → List Word → A × List Word
taken other None word more = (other, word ∷ more)
taken other (Some x) word more = (x, more)

-- the next word where it is one that fits; another word stays, and the value is this one
abbrev pub optional : {A : Type 0} → A → (List ℕ → Option A) → List Word → A × List Word
optional other fits [] = (other, [])
optional other fits (word ∷ more) = taken other (fits word.text) word more

-- no word is left
abbrev pub no_more : List Word → Result (Unit {0}) Stop
no_more [] = Ok tt
no_more (word ∷ more) = Err (Malformed word.place)

-- what stopped the code is what stops the reading, unless memory ran out
abbrev pub Fails : {Y : Type 0} → Halt → Result Y Stop → Type 0
Fails NoMemory read = Unit {0}
Fails (Stopped stop) read = read ≡ Err stop

abbrev pub Gives : {X Y : Type 0} → (X → Y) → Result X Halt → Result Y Stop → Type 0
Gives view (Ok x) read = read ≡ Ok (view x)
Gives view (Err e) read = Fails e read

abbrev pub Reads : {X : Type 0} → Result X Halt → List Word → Result (X × List Word) Stop → Type 0
Reads (Ok x) left read = read ≡ Ok (x, left)
Reads (Err e) left read = Fails e read
