-- All worlds of every script are safe, those within its lines too.
use Rattle.std.proofs.Common.{
  ◌≡◌,
  ℕ,
  ◌+◌,
  Bool,
  true,
  false,
  List,
  [],
  ◌∷◌,
  length,
  cond,
  refl,
  sym,
  subst,
  Option,
  Some,
  None,
  Result,
  Ok,
  Err,
}
use Rattle.std.specs.Prelude.{nat_lt}
use Rattle.std.specs.List.{AllByRecursion}
use Rattle.safety_model.specs.State.{Setup}
use Rattle.signer_edge.specs.Seals.{is_sealed}
use Rattle.line_flow.specs.Lines.{lines}
use Rattle.script.specs.Grammar.{meaning}
use Rattle.script.specs.declared.command.Meaning.{Meaning}
use Rattle.script.specs.declared.command.Meaning.TheVariants.{Nothing, Means, Wrong}
use Rattle.script.proofs.CommandLemmas.{meaning_fits}
use Rattle.script_play.specs.declared.ending.Ending.{Ending}
use Rattle.script_play.specs.Runs.{line_turn, max_line, max_lines}
use Rattle.script_play.specs.Worlds.{worlds_after}
use Rattle.world_model.specs.Histories.{past_setting}
use Rattle.world_model.specs.Turns.{turn_of}
use Rattle.world_model.specs.Worlds.{Outcome}
use Rattle.world_safety.specs.Safe.{IsSafe}
use Rattle.world_safety.specs.Telling.{AllWorldsAreSafe}
use Rattle.world_safety.specs.Certified.{AllWorldsAreCertified, IsCertified, IsCertifiedFact, IsCertifiedIn}
use Rattle.world_safety.specs.Within.{PastWorld, worlds_in_line, worlds_in_lines, worlds_said}
use Rattle.world_safety.proofs.Lists.{all_append, all_map}
use Rattle.world_safety.proofs.Safety.{good_safe}
use Rattle.world_safety.specs.Safe.{EveryWorldIsSafe}
use Rattle.world_safety.specs.Telling.{last_of}
use Rattle.world_safety.proofs.Among.{between_lines}
use Rattle.world_safety.proofs.Lists.{all_last}
use Rattle.world_safety.proofs.Beginning.{IsGood, IsGoodIn}
use Rattle.world_safety.proofs.Telling.{line_tells}
use Rattle.world_safety.proofs.Tells.{GoesTo, IsEarly}
use Rattle.world_safety.proofs.GoodTurns.{turn_good}

-- A LINE

said_good : (outcomes : List Outcome) (o : Option PastWorld) (number : ℕ) (line : List ℕ) (m : Meaning)
    → meaning line ≡ m → IsGoodIn o → AllByRecursion IsGoodIn (worlds_said outcomes o number m)
said_good outcomes o number line Nothing is good = tt
said_good outcomes o number line (Means command) is good =
    turn_good outcomes o number command (meaning_fits line command is) good
said_good outcomes o number line (Wrong stop) is good = tt

line_good : (outcomes : List Outcome) (o : Option PastWorld) (number : ℕ) (line : List ℕ) → IsGoodIn o
    → AllByRecursion IsGoodIn (worlds_in_line outcomes o number line)
unfolding worlds_in_line
line_good outcomes o number line good = go (nat_lt max_lines number) (nat_lt max_line (length line))
  where
    go : (t u : Bool) → AllByRecursion IsGoodIn
        (cond t [] (cond u [] (worlds_said outcomes o number (meaning line))))
    go true u = tt
    go false true = tt
    go false false = said_good outcomes o number line (meaning line) refl good

-- and it leads to a good one
line_leads : (outcomes : List Outcome) (o next : Option PastWorld) (number : ℕ) (line : List ℕ) → IsGoodIn o
    → (line_turn (turn_of past_setting outcomes) o number line).next ≡ Ok next → IsGoodIn next
line_leads outcomes o next number line good is =
    let to : next ≡ last_of o (worlds_in_line outcomes o number line) =
    subst (λ (r : Result (Option PastWorld) Ending). GoesTo IsEarly r
    (last_of o (worlds_in_line outcomes o number line))) is (line_tells outcomes number o line).next in
    subst IsGoodIn (sym to) (all_last IsGoodIn o (worlds_in_line outcomes o number line) good
    (line_good outcomes o number line good))

-- A SCRIPT

from_next : (P : Option PastWorld → Type 0) (r : Result (Option PastWorld) Ending) (rest : Option PastWorld
    → List (Option PastWorld)) → ((next : Option PastWorld) → r ≡ Ok next → AllByRecursion P (rest next))
    → AllByRecursion P (worlds_after r rest)
from_next P (Ok next) rest each = each next refl
from_next P (Err e) rest each = tt

lines_good : (outcomes : List Outcome) (ls : List (List ℕ)) (o : Option PastWorld) (number : ℕ) → IsGoodIn o
    → AllByRecursion IsGoodIn (worlds_in_lines outcomes ls o number)
unfolding worlds_in_lines
lines_good outcomes [] o number good = tt
lines_good outcomes (line ∷ more) o number good =
    all_append IsGoodIn (worlds_in_line outcomes o number line)
    (worlds_after (line_turn (turn_of past_setting outcomes) o number line).next
    (λ next. worlds_in_lines outcomes more next (number + 1))) (line_good outcomes o number line good)
    (from_next IsGoodIn (line_turn (turn_of past_setting outcomes) o number line).next
    (λ next. worlds_in_lines outcomes more next (number + 1))
    (λ next is. lines_good outcomes more next (number + 1) (line_leads outcomes o next number line good is)))

pub all_worlds_safe : AllWorldsAreSafe
all_worlds_safe outcomes script = (
  tt,
  all_map IsGoodIn IsSafe good_safe (worlds_in_lines outcomes (lines script) None 1)
      (lines_good outcomes (lines script) None 1 tt),
)

-- so are those between the lines
pub worlds_safe : EveryWorldIsSafe
worlds_safe outcomes script =
    let all = all_worlds_safe outcomes script in
    between_lines outcomes IsSafe (lines script) None 1 all.0 all.1

-- what was delivered is certified

world_certified : (w : PastWorld) → IsGood w → IsCertified w
world_certified w is = subst (λ (su : Setup). AllByRecursion (IsCertifiedFact (is_sealed w.seals) su.config)
    w.told) is.good.first is.good.certified

good_certified : (o : Option PastWorld) → IsGoodIn o → IsCertifiedIn o
good_certified None good = tt
good_certified (Some w) good = world_certified w good

pub all_worlds_certified : AllWorldsAreCertified
all_worlds_certified outcomes script = (
  tt,
  all_map IsGoodIn IsCertifiedIn good_certified (worlds_in_lines outcomes (lines script) None 1)
      (lines_good outcomes (lines script) None 1 tt),
)
