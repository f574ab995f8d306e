-- Lemmas on the turn of a line.
use Rattle.std.proofs.Common.{◌≡◌, ◌≤◌, ◌<◌, ℕ, true, false, ltb, length, arith, List, [], ◌++◌, Option, Result, IfOk, OnOk, Some, None, refl, sym, ap, subst, ◌∙◌}
use Rattle.std.specs.Prelude.{codes, string_bytes}
use Rattle.std.proofs.lemmas.Bool.Decides.{nat_tests}
use Rattle.std.proofs.lemmas.List.{append-nil}
use Rattle.std.proofs.lemmas.Result.{IfOk-weaker}
use Rattle.ord_types.specs.Members.{fault_bound, how_many_in}
use Rattle.ord_types.specs.declared.lists.NoMemory.{NoMemory}
use Rattle.safety_model.specs.Blocks.{Config}
use Rattle.script.specs.declared.command.Command.{Command}
use Rattle.script.specs.declared.command.Command.TheVariants.{Genesis, Submit, Raw, Show, Tick, Deliver, Flush, Propose, Vote, Lie, Seal, Stop, StopAt, Start}
use Rattle.script_play.specs.declared.ending.Ending.{Ending}
use Rattle.script_play.specs.declared.ending.Ending.TheVariants.{TooManyFaulty}
use Rattle.script_play.specs.Texts.{too_many_faulty_text}
use Rattle.script_play.specs.Turns.{Turned}
use Rattle.world_model.specs.Cores.{core_setting}
use Rattle.world_model.specs.Stages.{Goes, Waits, stage_turn}
use Rattle.world_model.specs.Texts.{genesis_text, refused_text}
use Rattle.world_model.specs.Turns.{first_config, first_world, turn_in, turn_of}
use Rattle.world_model.specs.Worlds.{Outcome}
use Rattle.bft_node.specs.Lodgings.{Lodging}
use Rattle.world_run.specs.Going.{ByMoves, Plays, Says}
use Rattle.world_run.specs.Lines.{PlaysLine, decides}
use Rattle.world_run.specs.Mapped.{Model, world_of}
use Rattle.world_run.specs.Moves.{AreMoves, Move, outcomes_of}
use Rattle.world_run.specs.Sound.{KeepsNodes, NoneArmed}
use Rattle.world_run.specs.declared.world.World.{World}
use Rattle.world_run.proofs.MoveLemmas.{alike_self}
use Rattle.world_run.proofs.SaysLemmas.{by_quieter, plays_after}

-- IN A WORLD

-- what a command of a world did
abbrev pub LineBy : Lodging → Lodging → World → World → Command → Option Ending → Type 0
LineBy at next w new command ending =
    ByMoves (decides command) at next w new (λ v to. Turned (turn_in core_setting w.outside.number v command) (string_bytes w.outside.text) (string_bytes new.outside.text) to ending)

-- it played its turn
pub line_played : (result : Result (Option Ending) NoMemory) (at next : Lodging) (w new : World) (command shown : Command) → command ≡ shown
    → IfOk result (Plays at next w new (λ v. turn_in core_setting w.outside.number v shown)) → IfOk result (LineBy at next w new command)
line_played result at next w new command shown is plays =
    subst (λ (c : Command). IfOk result (LineBy at next w new c)) (sym is)
    (IfOk-weaker result (Plays at next w new (λ v. turn_in core_setting w.outside.number v shown)) (LineBy at next w new shown)
    (λ ending by. by_quieter (Unit {0}) (decides shown) at next w new
    (λ v to. Turned (turn_in core_setting w.outside.number v shown) (string_bytes w.outside.text) (string_bytes new.outside.text) to ending) (λ quiet. tt) by)
    plays)

-- or said it, and touched no node
pub line_said : (result : Result (Option Ending) NoMemory) (at : Lodging) (w new : World) (command shown : Command) → command ≡ shown → OnOk result (KeepsNodes w new)
    → IfOk result (Says w new (λ v. turn_in core_setting w.outside.number v shown)) → IfOk result (LineBy at at w new command)
line_said result at w new command shown is keeps says =
    line_played result at at w new command shown is (plays_after result at w new (λ (v : Model). turn_in core_setting w.outside.number v shown) keeps says)

-- a turn of a world is one of its stage
pub staged_turn : (number : ℕ) (command : Command) (w next : Model) (before after : List ℕ) (ending : Option Ending) → Turned (turn_in core_setting number w command) before after next ending
    → Turned (stage_turn core_setting (Goes w) number command) before after (Goes next) ending
unfolding stage_turn turn_of
staged_turn number command w next before after None turned =
    rw turned.next (record { printed = turned.printed ∙ ap (λ (text : List ℕ). before ++ text) (sym (append-nil _)); next = refl })
staged_turn number command w next before after (Some ending) turned = rw turned.next (record { printed = turned.printed; next = refl })

-- the line of a world that gets its number and lends its text
pub line_staged : (at next : Lodging) (v w new last : World) (number : ℕ) (command : Command) (before begin end after : List ℕ) (ending : Option Ending)
    → ((later : List Outcome) → world_of at w later ≡ world_of at v later) → (NoneArmed v → NoneArmed w)
    → ((later : List Outcome) → world_of next new later ≡ world_of next last later) → (NoneArmed new → NoneArmed last) → begin ≡ before → end ≡ after
    → ByMoves (decides command) at next w new (λ x to. Turned (turn_in core_setting number x command) begin end to ending)
    → PlaysLine at next (Some v) (Some last) command (λ stage. stage_turn core_setting stage number command) before after ending
line_staged at next v w new last number command before begin end after ending first armed then unarmed same also by =
    record {
      config = w.config;
      moves = by.moves;
      made = by.made;
      turned = λ later.
          let outcomes = outcomes_of by.moves ++ later in
          let turned : Turned (turn_in core_setting number (world_of at v outcomes) command) before after (world_of next last later) ending = rw (first outcomes, then later, same, also) at (by.so later) in
          staged_turn number command (world_of at v outcomes) (world_of next last later) before after ending turned;
      decided = λ quiet none. let left = by.decided quiet (armed none) in (left.0, unarmed left.1);
    }

-- BEFORE THERE IS ONE

opened_turn : (number count bound : ℕ) (members byzantine : List ℕ) (outcomes : List Outcome) (w : Model) (before after : List ℕ) → count ≡ how_many_in byzantine members → bound ≡ fault_bound (length members)
    → count ≤ bound → w ≡ first_world core_setting outcomes (first_config members) byzantine → after ≡ before ++ genesis_text number
    → Turned (stage_turn core_setting (Waits outcomes) number (Genesis members byzantine)) before after (Goes w) None
unfolding stage_turn turn_of
opened_turn number count bound members byzantine outcomes w before after counted bounded few is printed =
    let within : ltb bound count ≡ false = grind (arith, nat_tests) in
    rw (is, ← counted, ← bounded, within) (record { printed = printed; next = refl })

-- a genesis makes the world by moves that take no outcome
pub line_opened : (at next : Lodging) (number count bound : ℕ) (members byzantine : List ℕ) (w : World) (moves : List Move) (before after : List ℕ) → count ≡ how_many_in byzantine members
    → bound ≡ fault_bound (length members) → count ≤ bound → AreMoves (first_config members) at next moves → outcomes_of moves ≡ [] → NoneArmed w
    → ((later : List Outcome) → world_of next w later ≡ first_world core_setting later (first_config members) byzantine) → after ≡ before ++ genesis_text number
    → PlaysLine at next None (Some w) (Genesis members byzantine) (λ stage. stage_turn core_setting stage number (Genesis members byzantine)) before after None
line_opened at next number count bound members byzantine w moves before after counted bounded few made none unarmed is printed =
    record {
      config = first_config members;
      moves = moves;
      made = made;
      turned = λ later.
          subst (λ (first : List Outcome). Turned (stage_turn core_setting (Waits (first ++ later)) number (Genesis members byzantine)) before after (Goes (world_of next w later)) None) (sym none)
          (opened_turn number count bound members byzantine later (world_of next w later) before after counted bounded few (is later) printed);
      decided = λ quiet before. (none, unarmed);
    }

overrun_turn : (number count bound : ℕ) (members byzantine : List ℕ) (outcomes : List Outcome) (before after : List ℕ) → count ≡ how_many_in byzantine members → bound ≡ fault_bound (length members) → bound < count
    → after ≡ before ++ too_many_faulty_text number 0 count bound
    → Turned (stage_turn core_setting (Waits outcomes) number (Genesis members byzantine)) before after (Waits outcomes) (Some (TooManyFaulty number 0 count bound))
unfolding stage_turn turn_of
overrun_turn number count bound members byzantine outcomes before after counted bounded many printed =
    let over : ltb bound count ≡ true = grind (arith, nat_tests) in
    rw (← counted, ← bounded, over) (record { printed = printed; next = refl })

-- more are Byzantine than may be
pub line_overrun : (at : Lodging) (c : Config) (number count bound : ℕ) (members byzantine : List ℕ) (before after : List ℕ) → count ≡ how_many_in byzantine members → bound ≡ fault_bound (length members) → bound < count
    → after ≡ before ++ too_many_faulty_text number 0 count bound
    → PlaysLine at at None None (Genesis members byzantine) (λ stage. stage_turn core_setting stage number (Genesis members byzantine)) before after (Some (TooManyFaulty number 0 count bound))
line_overrun at c number count bound members byzantine before after counted bounded many printed =
    record {
      config = c;
      moves = [];
      made = alike_self at;
      turned = λ later. overrun_turn number count bound members byzantine later before after counted bounded many printed;
      decided = λ quiet before. (refl, tt);
    }

refused_turn : (number : ℕ) (command : Command) (outcomes : List Outcome) (before after : List ℕ) → ((members byzantine : List ℕ) → command ≡ Genesis members byzantine → ⊥)
    → after ≡ before ++ refused_text number (codes "no world") → Turned (stage_turn core_setting (Waits outcomes) number command) before after (Waits outcomes) None
unfolding stage_turn turn_of
refused_turn number (Genesis members byzantine) outcomes before after other printed = absurd (other members byzantine refl)
refused_turn number (Submit node client serial payload) outcomes before after other printed = record { printed = printed; next = refl }
refused_turn number (Raw node bytes) outcomes before after other printed = record { printed = printed; next = refl }
refused_turn number (Show node block) outcomes before after other printed = record { printed = printed; next = refl }
refused_turn number (Tick node count) outcomes before after other printed = record { printed = printed; next = refl }
refused_turn number (Deliver ranges) outcomes before after other printed = record { printed = printed; next = refl }
refused_turn number (Flush only) outcomes before after other printed = record { printed = printed; next = refl }
refused_turn number (Propose from to view client serial payload) outcomes before after other printed = record { printed = printed; next = refl }
refused_turn number (Vote from to kind view k) outcomes before after other printed = record { printed = printed; next = refl }
refused_turn number (Lie from to bytes) outcomes before after other printed = record { printed = printed; next = refl }
refused_turn number (Seal id bytes) outcomes before after other printed = record { printed = printed; next = refl }
refused_turn number (Stop id image) outcomes before after other printed = record { printed = printed; next = refl }
refused_turn number (StopAt id call image) outcomes before after other printed = record { printed = printed; next = refl }
refused_turn number (Start id) outcomes before after other printed = record { printed = printed; next = refl }

-- any other line
pub line_refused : (at : Lodging) (c : Config) (number : ℕ) (command : Command) (before after : List ℕ) → ((members byzantine : List ℕ) → command ≡ Genesis members byzantine → ⊥)
    → after ≡ before ++ refused_text number (codes "no world") → PlaysLine at at None None command (λ stage. stage_turn core_setting stage number command) before after None
line_refused at c number command before after other printed =
    record {
      config = c;
      moves = [];
      made = alike_self at;
      turned = λ later. refused_turn number command later before after other printed;
      decided = λ quiet before. (refl, tt);
    }
