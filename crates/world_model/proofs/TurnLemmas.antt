-- Turns in two kinds of worlds that do the same.
use Rattle.std.proofs.Common.{◌≡◌, ℕ, Bool, true, false, cond, List, ◌++◌, ap₂, refl, Result, Ok, Err}
use Rattle.script_play.specs.declared.ending.Ending.{Ending}
use Rattle.script_play.specs.Turns.{Turn}
use Rattle.world_model.specs.Says.{goes_on, says, then_on}

abbrev pub SameNext : {V W : Type 0} → (V → W) → (V → Type 0) → Result V Ending → Result W Ending → Type 0
SameNext see Good (Ok v) r = (r ≡ Ok (see v)) × Good v
SameNext see Good (Err ending) r = r ≡ Err ending

-- they print the same, the worlds after them are one seen in two ways, and the one is good
pub record SameTurn {V W : Type 0} (see : V → W) (Good : V → Type 0) (turn : Turn V) (seen : Turn W)
    : Type 0 where
  pub printed : turn.printed ≡ seen.printed
  pub next : SameNext see Good turn.next seen.next

module _ {V W : Type 0} {see : V → W} {Good : V → Type 0} where
  pub says_same : (text : List ℕ) (v : V) → Good v → SameTurn see Good (says text v) (says text (see v))
  says_same text v good = record { printed = refl; next = (refl, good) }

  pub either_same : {p q : Turn V} {r s : Turn W} (b : Bool) → SameTurn see Good p r → SameTurn see Good q s
      → SameTurn see Good (cond b p q) (cond b r s)
  either_same true one other = one
  either_same false one other = other

-- a turn, and what follows on it
pub goes_on_same : {U V W X : Type 0} {see : U → W} {see_then : V → X} {Good : U → Type 0}
    {After : V → Type 0} {turn : Turn U} {seen : Turn W} (rest : U → Turn V) (seen_rest : W → Turn X)
    → SameTurn see Good turn seen
    → ((u : U) → Good u → SameTurn see_then After (rest u) (seen_rest (see u)))
    → SameTurn see_then After (goes_on turn rest) (goes_on seen seen_rest)
goes_on_same {see} {see_then} {Good} {After} {turn} {seen} rest seen_rest same more =
    go turn.next seen.next same.next
  where
    go : (next : Result _ Ending) (seen_next : Result _ Ending) → SameNext see Good next seen_next
        → SameTurn see_then After (then_on turn.printed next rest) (then_on seen.printed seen_next seen_rest)
    go (Ok u) seen_next is =
        let after = more u is.1 in
        rw is.0
        (record { printed = ap₂ (λ (a b : List ℕ). a ++ b) same.printed after.printed; next = after.next })
    go (Err ending) seen_next is = rw is (record { printed = same.printed; next = refl })
