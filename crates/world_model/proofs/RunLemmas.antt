-- Lemmas on runs that go through the same: they print the same and end the same.
use Rattle.std.proofs.Common.{
  ◌≡◌,
  ℕ,
  ◌+◌,
  ltb,
  List,
  [],
  ◌∷◌,
  ◌++◌,
  map,
  length,
  sym,
  ap,
  ap₂,
  ◌∙◌,
  refl,
  Option,
  Some,
  None,
  Result,
  Ok,
  Err,
}
use Rattle.line_flow.specs.Lines.{lines}
use Rattle.script.specs.declared.command.Command.{Command}
use Rattle.script.specs.declared.command.Stop.TheVariants.{Malformed, NotBuilt}
use Rattle.script.specs.declared.command.Meaning.{Meaning}
use Rattle.script.specs.declared.command.Meaning.TheVariants.{Nothing, Means, Wrong}
use Rattle.script.specs.Grammar.{meaning}
use Rattle.script_play.specs.declared.ending.Ending.{Ending}
use Rattle.script_play.specs.declared.ending.Ending.TheVariants.{Done}
use Rattle.script_play.specs.Turns.{Turn}
use Rattle.script_play.specs.Runs.{Run, line_turn, max_line, max_lines, run, said, script_run, went}
use Rattle.script_play.specs.Worlds.{worlds, worlds_after}
use Rattle.world_model.specs.Worlds.{Outcome, Setting, World}
use Rattle.world_model.specs.Turns.{closing_of, some_world, then_on, turn_in, turn_of}
use Rattle.world_model.specs.Cores.{core_setting}
use Rattle.world_model.specs.Histories.{past_setting, run_of, worlds_of}
use Rattle.world_model.specs.Seen.{seen_if_any}
use Rattle.world_model.specs.Stages.{Stage, Waits, next_stage, stage_closing, stage_of, stage_turn, staged}
use Rattle.world_model.proofs.TurnLemmas.{SameNext, SameTurn, either_same}
use Rattle.world_model.proofs.SeenLemmas.{NoneAheadIfAny, closing_same, turn_of_same}

-- each command does the same in two worlds, of which one is seen in the other
abbrev SameTurns : {V W : Type 0} → (V → W) → (V → Type 0) → (V → ℕ → Command → Turn V)
    → (W → ℕ → Command → Turn W) → Type 0
SameTurns {V} see Good turn core =
    (v : V) (number : ℕ) (command : Command) → Good v
    → SameTurn see Good (turn v number command) (core (see v) number command)

module _ {V W : Type 0} (see : V → W) (Good : V → Type 0) (turn : V → ℕ → Command → Turn V)
    (core : W → ℕ → Command → Turn W) (same : SameTurns see Good turn core) where
  said_same : (v : V) (number : ℕ) (m : Meaning) → Good v
      → SameTurn see Good (said turn v number m) (said core (see v) number m)
  said_same v number Nothing good = record { printed = refl; next = (refl, good) }
  said_same v number (Means command) good = same v number command good
  said_same v number (Wrong (Malformed place)) good = record { printed = refl; next = refl }
  said_same v number (Wrong NotBuilt) good = record { printed = refl; next = refl }

  line_same : (v : V) (number : ℕ) (line : List ℕ) → Good v
      → SameTurn see Good (line_turn turn v number line) (line_turn core (see v) number line)
  unfolding line_turn
  line_same v number line good =
      either_same (ltb max_lines number) (record { printed = refl; next = refl })
      (either_same (ltb max_line (length line)) (record { printed = refl; next = refl })
      (said_same v number (meaning line) good))

  went_same : (one : Turn V) (other : Turn W) (rest : V → Run) (core_rest : W → Run)
      → SameTurn see Good one other → ((v : V) → Good v → rest v ≡ core_rest (see v))
      → went one.printed one.next rest ≡ went other.printed other.next core_rest
  went_same one other rest core_rest is more = go one.next other.next is.next
    where
      go : (next : Result V Ending) (core_next : Result W Ending) → SameNext see Good next core_next
          → went one.printed next rest ≡ went other.printed core_next core_rest
      go (Ok v) core_next to =
          rw to.0
          (ap₂ (λ (text : List ℕ) (r : Run). record { text = text ++ r.text; ending = r.ending }) is.printed
          (more v to.1))
      go (Err ending) core_next to =
          rw to (ap (λ (text : List ℕ). record { text = text; ending = ending }) is.printed)

  run_same : (closing : V → List ℕ) (core_closing : W → List ℕ)
      → ((v : V) → Good v → closing v ≡ core_closing (see v))
      → (ls : List (List ℕ)) (v : V) (number : ℕ) → Good v
      → run turn closing ls v number ≡ run core core_closing ls (see v) number
  unfolding run
  run_same closing core_closing closes [] v number good =
      ap (λ (text : List ℕ). record { text = text; ending = Done }) (closes v good)
  run_same closing core_closing closes (line ∷ more) v number good =
      went_same (line_turn turn v number line) (line_turn core (see v) number line)
      (λ next. run turn closing more next (number + 1))
      (λ next. run core core_closing more next (number + 1)) (line_same v number line good)
      (λ next. run_same closing core_closing closes more next (number + 1))

  after_same : (next : Result V Ending) (core_next : Result W Ending) (rest : V → List V)
      (core_rest : W → List W) → SameNext see Good next core_next
      → ((v : V) → Good v → map see (rest v) ≡ core_rest (see v))
      → map see (worlds_after next rest) ≡ worlds_after core_next core_rest
  after_same (Ok v) core_next rest core_rest is more = rw is.0 (more v is.1)
  after_same (Err ending) core_next rest core_rest is more = rw is refl

  worlds_same : (ls : List (List ℕ)) (v : V) (number : ℕ) → Good v
      → map see (worlds turn ls v number) ≡ worlds core ls (see v) number
  unfolding worlds
  worlds_same [] v number good = refl
  worlds_same (line ∷ more) v number good =
      ap (λ (rest : List W). see v ∷ rest)
      (after_same (line_turn turn v number line).next (line_turn core (see v) number line).next
      (λ next. worlds turn more next (number + 1)) (λ next. worlds core more next (number + 1))
      (line_same v number line good).next (λ next. worlds_same more next (number + 1)))

-- the text of a script is the same in the model's world and in the world that is updated in place, and its
-- run ends the same
pub runs_agree : (outcomes : List Outcome) (script : List ℕ)
    → script_run (turn_of core_setting outcomes) (closing_of core_setting) None script
    ≡ run_of outcomes script
runs_agree outcomes script =
    sym
    (run_same seen_if_any NoneAheadIfAny (turn_of past_setting outcomes) (turn_of core_setting outcomes)
    (turn_of_same outcomes) (closing_of past_setting) (closing_of core_setting) closing_same (lines script)
    None 1 tt)

-- and so are its worlds
pub worlds_agree : (outcomes : List Outcome) (script : List ℕ)
    → worlds (turn_of core_setting outcomes) (lines script) None 1
    ≡ map seen_if_any (worlds_of outcomes script)
worlds_agree outcomes script =
    sym
    (worlds_same seen_if_any NoneAheadIfAny (turn_of past_setting outcomes) (turn_of core_setting outcomes)
    (turn_of_same outcomes) (lines script) None 1 tt)

-- THE STAGES OF A SCRIPT'S MACHINE: the outcomes are those of the script before there is a world, and then
-- that world's

abbrev Any : {V : Type 0} → V → Type 0
Any v = Unit {0}

abbrev InStages : {S T : Type 0} → List Outcome → Turn (Option (World S T)) → Turn (Stage S T) → Type 0
InStages outcomes = SameTurn (stage_of outcomes) Any

next_staged : {S T : Type 0} (outcomes : List Outcome) (r : Result (Option (World S T)) Ending)
    → SameNext (stage_of outcomes) Any r (next_stage outcomes r)
next_staged outcomes (Ok o) = (refl, tt)
next_staged outcomes (Err ending) = refl

-- where there is a world, no other outcomes are looked at
going_staged : {S T : Type 0} (outcomes later : List Outcome) (printed : List ℕ)
    (r : Result (World S T) Ending)
    → InStages outcomes (then_on printed r some_world) (staged later (then_on printed r some_world))
going_staged outcomes later printed (Ok w) = record { printed = refl; next = (refl, tt) }
going_staged outcomes later printed (Err ending) = record { printed = refl; next = refl }

turn_staged : {S T : Type 0} (setting : Setting S T) (outcomes : List Outcome) (o : Option (World S T))
    (number : ℕ) (command : Command) → Any o
    → InStages outcomes (turn_of setting outcomes o number command)
    (stage_turn setting (stage_of outcomes o) number command)
unfolding turn_of stage_turn
turn_staged setting outcomes None number command any =
    record { printed = refl; next = next_staged outcomes (turn_of setting outcomes None number command).next }
turn_staged setting outcomes (Some w) number command any =
    let turn = turn_in setting number w command in
    going_staged outcomes w.outcomes turn.printed turn.next

closing_staged : {S T : Type 0} (setting : Setting S T) (outcomes : List Outcome) (o : Option (World S T))
    → Any o → closing_of setting o ≡ stage_closing setting (stage_of outcomes o)
closing_staged setting outcomes None any = refl
closing_staged setting outcomes (Some w) any = refl

-- a machine that goes through the stages of a script prints the same text, and its run ends the same
pub stages_agree : (outcomes : List Outcome) (script : List ℕ)
    → script_run (stage_turn core_setting) (stage_closing core_setting) (Waits outcomes) script
    ≡ run_of outcomes script
stages_agree outcomes script =
    sym
    (run_same (stage_of outcomes) Any (turn_of core_setting outcomes) (stage_turn core_setting)
    (turn_staged core_setting outcomes) (closing_of core_setting) (stage_closing core_setting)
    (closing_staged core_setting outcomes) (lines script) None 1 tt)
    ∙ runs_agree outcomes script
