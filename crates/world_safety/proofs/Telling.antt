-- The histories of a script's worlds tell its text.
use Rattle.std.proofs.Common.{
  ◌≡◌,
  ℕ,
  ◌+◌,
  Bool,
  true,
  false,
  List,
  [],
  ◌∷◌,
  ◌++◌,
  length,
  map,
  reverse,
  cond,
  refl,
  sym,
  subst,
  ap,
  ap₂,
  ◌∙◌,
  Option,
  Some,
  None,
  Result,
  Ok,
  Err,
}
use Rattle.std.specs.Prelude.{◌==◌, codes, nat_lt}
use Rattle.std.proofs.lemmas.Bool.{eqb-true, ltb-true}
use Rattle.std.proofs.lemmas.List.{append-nil, append_assoc, map-append}
use Rattle.ord_types.specs.Members.{fault_bound, how_many_in, is_in}
use Rattle.ord_types.specs.Spelling.{request_text}
use Rattle.safety_model.specs.Facts.{History}
use Rattle.line_flow.specs.Lines.{lines}
use Rattle.script.specs.Grammar.{meaning}
use Rattle.script.specs.declared.command.Command.{Command}
use Rattle.script.specs.declared.command.Command.TheVariants.{
  Genesis,
  Submit,
  Raw,
  Show,
  Tick,
  Deliver,
  Flush,
  Propose,
  Vote,
  Lie,
  Seal,
  Stop,
  StopAt,
  Start,
}
use Rattle.script.specs.declared.command.Meaning.{Meaning}
use Rattle.script.specs.declared.command.Meaning.TheVariants.{Nothing, Means, Wrong}
use Rattle.script.specs.declared.command.Stop.TheVariants as stop_of
use Rattle.script_play.specs.declared.ending.Ending.{Ending}
use Rattle.script_play.specs.declared.ending.Ending.TheVariants.{TooManyFaulty}
use Rattle.script_play.specs.Texts.{too_many_faulty_text}
use Rattle.script_play.specs.Runs.{Run, limit_turn, line_turn, max_line, max_lines, run, said, went}
use Rattle.script_play.specs.Turns.{Turn}
use Rattle.script_play.specs.Worlds.{worlds_after}
use Rattle.node_model.specs.Keeping.{PastNode}
use Rattle.world_model.specs.Histories.{past_setting}
use Rattle.world_model.specs.Texts.{genesis_text, limit_text}
use Rattle.world_model.specs.Turns.{
  absence,
  at_found,
  at_node,
  at_stopped,
  closing_of,
  first_config,
  first_world,
  genesis_turn,
  goes_on,
  most_flushed,
  ordinary,
  refuses,
  says,
  show_turn,
  some_world,
  start_turn,
  stop_at_turn,
  stop_turn,
  submit_turn,
  then_on,
  ticks,
  turn_in,
  turn_of,
}
use Rattle.world_model.specs.Worlds.{Node, Outcome, node_at}
use Rattle.world_safety.specs.Telling.{
  AreParts,
  AreStops,
  BeginWith,
  EveryTextIsTold,
  IsPartOf,
  IsSo,
  NoCore,
  NodeRuns,
  NodeStopped,
  NoWorld,
  Part,
  SecondGenesis,
  UnknownNode,
  Went,
  end_text,
  events_of,
  events_text,
  facts_of,
  histories_after,
  last_of,
  node_in,
  part_text,
  parts_text,
  reply_text,
  told_in,
}
use Rattle.world_safety.specs.Telling as it
use Rattle.world_safety.proofs.LyingTells.{lie_tells, propose_tells, seal_tells, vote_tells}
use Rattle.world_safety.proofs.Tells.{
  GoesTo,
  IsAt,
  Tells,
  deliver_tells,
  flush_tells,
  found_test,
  histories-append,
  histories-last,
  last-append,
  last-map,
  map_same,
  IsEarly,
  IsNetworkLimit,
  in_script,
  in_world,
  replies,
  show_tells,
  start_tells,
  stop_at_tells,
  stop_tells,
  submit_tells,
  ticks_tell,
  told_some,
}
use Rattle.world_safety.specs.Within.{
  PastWorld,
  after_start,
  after_stop,
  after_stop_at,
  after_submit,
  in_ticks,
  where_node,
  where_stopped,
  worlds_in,
  worlds_in_line,
  worlds_in_lines,
  worlds_in_turn,
  worlds_said,
}

module _ (outcomes : List Outcome) (number : ℕ) where
  -- A COMMAND
  -- a line about an id without a node
  absent_tells : (m : Meaning) (w : PastWorld) (id : ℕ)
      → Tells (in_world m) number w [] (refuses number (absence w id) w)
  absent_tells m w id = go (is_in id w.config.members)
    where
      go : (t : Bool) → Tells (in_world m) number w []
          (refuses number (cond t (codes "no core") (codes "unknown node")) w)
      go true =
          replies number (in_world m) w (refuses number (codes "no core") w) (it.Refused NoCore) refl refl tt
      go false = replies number (in_world m) w (refuses number (codes "unknown node") w)
          (it.Refused UnknownNode) refl refl tt

  -- about a node that runs, and about a stopped one
  -- what is found
  found_at : (m : Meaning) (w : PastWorld) (id : ℕ) (node : Node PastNode) (t : Bool) → node_in m ≡ Some id
      → node_at id w.nodes ≡ Some node → node.runs ≡ t → (node_in m ≡ Some node.id) × IsAt w node t
  found_at m w id node t about is up =
      let named : node.id ≡ id = eqb-true node.id id (found_test (λ node. node.id == id) w.nodes node is) in (
        subst (λ id. node_in m ≡ Some id) (sym named) about,
        record {
          at =
              subst (λ id. node_at id w.nodes ≡ Some node) (sym named) is;
          up = up;
        },
      )

  node_tells : (m : Meaning) (w : PastWorld) (id : ℕ) (within : Node PastNode → List PastWorld)
      (turn : Node PastNode → Turn PastWorld) → node_in m ≡ Some id
      → ((node : Node PastNode) → node_in m ≡ Some node.id → IsAt w node true
      → Tells (in_world m) number w (within node) (turn node))
      → Tells (in_world m) number w (where_node (node_at id w.nodes) within) (at_node number w id turn)
  node_tells m w id within turn about each = go (node_at id w.nodes) refl
    where
      if_runs : (node : Node PastNode) → node_at id w.nodes ≡ Some node → (t : Bool) → node.runs ≡ t
          → Tells (in_world m) number w (cond t (within node) [])
          (cond t (turn node) (refuses number (codes "stopped") w))
      if_runs node is true up = let found = found_at m w id node true about is up in each node found.0 found.1
      if_runs node is false up = replies number (in_world m) w (refuses number (codes "stopped") w)
          (it.Refused NodeStopped) refl refl tt

      go : (o : Option (Node PastNode)) → node_at id w.nodes ≡ o
          → Tells (in_world m) number w (where_node o within)
          (at_found number w id o (λ node. cond node.runs (turn node) (refuses number (codes "stopped") w)))
      go None is = absent_tells m w id
      go (Some node) is = if_runs node is node.runs refl

  still_tells : (m : Meaning) (w : PastWorld) (id : ℕ) (within : Node PastNode → List PastWorld)
      (turn : Node PastNode → Turn PastWorld) → node_in m ≡ Some id
      → ((node : Node PastNode) → node_in m ≡ Some node.id → IsAt w node false
      → Tells (in_world m) number w (within node) (turn node))
      → Tells (in_world m) number w (where_stopped (node_at id w.nodes) within) (at_stopped number w id turn)
  still_tells m w id within turn about each = go (node_at id w.nodes) refl
    where
      if_runs : (node : Node PastNode) → node_at id w.nodes ≡ Some node → (t : Bool) → node.runs ≡ t
          → Tells (in_world m) number w (cond t [] (within node))
          (cond t (refuses number (codes "running") w) (turn node))
      if_runs node is true up = replies number (in_world m) w (refuses number (codes "running") w)
          (it.Refused NodeRuns) refl refl tt
      if_runs node is false up =
          let found = found_at m w id node false about is up in each node found.0 found.1

      go : (o : Option (Node PastNode)) → node_at id w.nodes ≡ o
          → Tells (in_world m) number w (where_stopped o within)
          (at_found number w id o (λ node. cond node.runs (refuses number (codes "running") w) (turn node)))
      go None is = absent_tells m w id
      go (Some node) is = if_runs node is node.runs refl

  -- a block is shown where the node is known, and runs
  show_line : (m : Meaning) (w : PastWorld) (id block : ℕ) → m ≡ Means (Show id block)
      → Tells (in_world m) number w [] (at_node number w id (λ node. show_turn number w node block))
  show_line m w id block asked = go (node_at id w.nodes) refl
    where
      shown : (node : Node PastNode) → node_at id w.nodes ≡ Some node
          → Tells (in_world m) number w [] (show_turn number w node block)
      shown node is =
          let named : node.id ≡ id = eqb-true node.id id (found_test (λ node. node.id == id) w.nodes node
          is) in
          show_tells number m w node block (subst (λ id. m ≡ Means (Show id block)) (sym named) asked)
          (subst (λ id. node_at id w.nodes ≡ Some node) (sym named) is)

      if_runs : (node : Node PastNode) → node_at id w.nodes ≡ Some node → (t : Bool)
          → Tells (in_world m) number w [] (cond t (show_turn number w node block)
          (refuses number (codes "stopped") w))
      if_runs node is true = shown node is
      if_runs node is false = replies number (in_world m) w (refuses number (codes "stopped") w)
          (it.Refused NodeStopped) refl refl tt

      go : (o : Option (Node PastNode)) → node_at id w.nodes ≡ o
          → Tells (in_world m) number w []
          (at_found number w id o (λ node. cond node.runs (show_turn number w node block)
          (refuses number (codes "stopped") w)))
      go None is = absent_tells m w id
      go (Some node) is = if_runs node is node.runs

  pub command_tells : (w : PastWorld) (command : Command) → Tells (in_world (Means command)) number w
      (worlds_in number w command) (turn_in past_setting number w command)
  command_tells w (Genesis members byzantine) =
      replies number (in_world (Means (Genesis members byzantine))) w
      (refuses number (codes "second genesis") w) (it.Refused SecondGenesis) refl refl tt
  command_tells w (Submit id client serial payload) =
      let bytes = request_text (ordinary client serial payload) in
      let m = Means (Submit id client serial payload) in
      node_tells m w id (λ node. after_submit w node bytes ∷ [])
      (λ node. submit_turn number (codes "submit") w node bytes) refl
      (λ node about is. submit_tells number m (codes "submit") w node bytes about is)
  command_tells w (Raw id bytes) =
      node_tells (Means (Raw id bytes)) w id (λ node. after_submit w node bytes ∷ [])
      (λ node. submit_turn number (codes "raw") w node bytes) refl (λ node about is. submit_tells number
      (Means (Raw id bytes)) (codes "raw") w node bytes about is)
  command_tells w (Show id block) = show_line (Means (Show id block)) w id block refl
  command_tells w (Tick id count) =
      node_tells (Means (Tick id count)) w id (λ node. in_ticks number id count w)
      (λ node. ticks past_setting number id count w) refl
      (λ node about is. ticks_tell number (Means (Tick id count)) id count w refl)
  command_tells w (Deliver ranges) = deliver_tells number (Means (Deliver ranges)) ranges 0 w
  command_tells w (Flush only) = flush_tells number (Means (Flush only)) only most_flushed 0 w
  command_tells w (Stop id image) =
      node_tells (Means (Stop id image)) w id (λ node. after_stop w node ∷ [])
      (λ node. stop_turn past_setting number w node) refl
      (λ node about is. stop_tells number (Means (Stop id image)) w node)
  command_tells w (StopAt id call image) =
      node_tells (Means (StopAt id call image)) w id (λ node. after_stop_at w node ∷ [])
      (λ node. stop_at_turn number w node) refl (λ node about is. stop_at_tells number
      (Means (StopAt id call image)) w node about is)
  command_tells w (Start id) =
      still_tells (Means (Start id)) w id (λ node. after_start w node ∷ [])
      (λ node. start_turn number w node) refl (λ node about is. start_tells number (Means (Start id)) w node
      about is)
  command_tells w (Propose from to view client serial payload) =
      propose_tells number (Means (Propose from to view client serial payload)) w from to view
      (ordinary client serial payload) refl
  command_tells w (Vote from to kind view k) =
      vote_tells number (Means (Vote from to kind view k)) w from to kind view k refl
  command_tells w (Lie from to bytes) = lie_tells number (Means (Lie from to bytes)) w from to bytes refl
  command_tells w (Seal id bytes) = seal_tells number (Means (Seal id bytes)) w id bytes refl

  -- WHERE THERE MAY BE NO WORLD YET
  some_tells : (m : Meaning) (w : PastWorld) (within : List PastWorld) (turn : Turn PastWorld)
      → Tells (in_world m) number w within turn → Tells (in_script m) number (Some w) (map Some within)
      (goes_on turn some_world)
  some_tells m w within turn tells = go turn.printed turn.next tells.printed tells.next
    where
      so : IsSo m (last_of (Some w) (map Some within)) tells.reply
      so = subst (λ o. IsSo m o tells.reply) (sym (last-map Some w within)) tells.so

      stops : AreStops (map (λ (o : Option PastWorld). o) (map Some within)) tells.events
      stops = subst (λ here. AreStops here tells.events) (sym (map_same (map Some within))) tells.stops

      go : (printed : List ℕ) (r : Result PastWorld Ending) → printed ≡ events_text number tells.events
          ++ reply_text number tells.reply → GoesTo IsNetworkLimit r (last_of w within)
          → Tells (in_script m) number (Some w) (map Some within) (then_on printed r some_world)
      go printed (Ok next) is to =
          record {
            events = tells.events;
            reply = tells.reply;
            histories = told_some within ∙ tells.histories;
            stops = stops;
            so = so;
            printed = append-nil printed ∙ is;
            next = ap (λ (v : PastWorld). Some v) to ∙ sym (last-map Some w within);
          }
      go printed (Err ending) is to = record {
        events = tells.events;
        reply = tells.reply;
        histories =
            told_some within ∙ tells.histories;
        stops =
            stops;
        so = so;
        printed = is;
        next = λ o. ap (λ e. end_text e o) to;
      }

  none_tells : (m : Meaning) → Tells (in_script m) number None [] (refuses number (codes "no world") None)
  none_tells m = replies number (in_script m) None (refuses number (codes "no world") None)
      (it.Refused NoWorld) refl refl tt

  -- too many Byzantine members end the run
  genesis_tells : (members byzantine : List ℕ) → Tells (in_script (Means (Genesis members byzantine)))
      number None (worlds_in_turn outcomes None number (Genesis members byzantine))
      (genesis_turn past_setting outcomes number members byzantine)
  genesis_tells members byzantine = go (nat_lt bound count) refl
    where
      count : ℕ
      count = how_many_in byzantine members

      bound : ℕ
      bound = fault_bound (length members)

      first : PastWorld
      first = first_world past_setting outcomes (first_config members) byzantine

      go : (t : Bool) → nat_lt bound count ≡ t
          → Tells (in_script (Means (Genesis members byzantine))) number None (cond t [] (Some first ∷ []))
          (cond t (record {
            printed = too_many_faulty_text number 0 count bound;
            next =
                Err (TooManyFaulty number 0 count bound);
          }) (says (genesis_text number) (Some first)))
      go true above = record {
        events = [];
        reply = it.Faulty 0 count bound;
        histories = refl;
        stops = tt;
        so = ltb-true bound count above;
        printed = refl;
        next = λ o. refl;
      }
      go false few = record {
        events = Went [] ∷ [];
        reply = it.Begun;
        histories = refl;
        stops = (tt, tt);
        so = tt;
        printed = refl;
        next = refl;
      }

  turn_tells : (o : Option PastWorld) (command : Command) → Tells (in_script (Means command)) number o
      (worlds_in_turn outcomes o number command) (turn_of past_setting outcomes o number command)
  unfolding turn_of
  turn_tells None (Genesis members byzantine) = genesis_tells members byzantine
  turn_tells None (Submit id client serial payload) = none_tells (Means (Submit id client serial payload))
  turn_tells None (Raw id bytes) = none_tells (Means (Raw id bytes))
  turn_tells None (Show id block) = none_tells (Means (Show id block))
  turn_tells None (Tick id count) = none_tells (Means (Tick id count))
  turn_tells None (Deliver ranges) = none_tells (Means (Deliver ranges))
  turn_tells None (Flush only) = none_tells (Means (Flush only))
  turn_tells None (Stop id image) = none_tells (Means (Stop id image))
  turn_tells None (StopAt id call image) = none_tells (Means (StopAt id call image))
  turn_tells None (Start id) = none_tells (Means (Start id))
  turn_tells None (Propose from to view client serial payload) =
      none_tells (Means (Propose from to view client serial payload))
  turn_tells None (Vote from to kind view k) = none_tells (Means (Vote from to kind view k))
  turn_tells None (Lie from to bytes) = none_tells (Means (Lie from to bytes))
  turn_tells None (Seal id bytes) = none_tells (Means (Seal id bytes))
  turn_tells (Some w) command = some_tells (Means command) w (worlds_in number w command)
      (turn_in past_setting number w command) (command_tells w command)

  -- A LINE
  said_tells : (o : Option PastWorld) (m : Meaning)
      → Tells (in_script m) number o (worlds_said outcomes o number m)
      (said (turn_of past_setting outcomes) o number m)
  said_tells o Nothing = replies number (in_script Nothing) o
      (said (turn_of past_setting outcomes) o number Nothing) it.Silent refl refl tt
  said_tells o (Means command) = turn_tells o command
  said_tells o (Wrong (stop_of.Malformed place)) =
      replies number (in_script (Wrong (stop_of.Malformed place))) o
      (said (turn_of past_setting outcomes) o number (Wrong (stop_of.Malformed place))) (it.Malformed place)
      refl (λ o. refl) tt
  said_tells o (Wrong stop_of.NotBuilt) = replies number (in_script (Wrong stop_of.NotBuilt)) o
      (said (turn_of past_setting outcomes) o number (Wrong stop_of.NotBuilt)) it.NotBuilt refl (λ o. refl) tt

  limit_tells : (m : Meaning) (o : Option PastWorld) (limit : ℕ)
      → Tells (in_script m) number o [] (limit_turn number limit)
  unfolding limit_text
  limit_tells m o limit =
      replies number (in_script m) o (limit_turn number limit) (it.Limited limit) refl (λ o. refl) tt

  pub line_tells : (o : Option PastWorld) (line : List ℕ) → Tells (in_script (meaning line)) number o
      (worlds_in_line outcomes o number line) (line_turn (turn_of past_setting outcomes) o number line)
  unfolding line_turn worlds_in_line
  line_tells o line = go (nat_lt max_lines number) (nat_lt max_line (length line))
    where
      go : (t u : Bool)
          → Tells (in_script (meaning line)) number o
          (cond t [] (cond u [] (worlds_said outcomes o number (meaning line))))
          (cond t (limit_turn number max_lines) (cond u (limit_turn number max_line)
          (said (turn_of past_setting outcomes) o number (meaning line))))
      go true u = limit_tells (meaning line) o max_lines
      go false true = limit_tells (meaning line) o max_line
      go false false = said_tells o (meaning line)

-- A SCRIPT

-- the parts of these lines, of which this is said
record LinesTell (Are : List Part → Type 0) (o : Option PastWorld) (number : ℕ)
    (within : List (Option PastWorld)) (r : Run) : Type 0 where
  parts : List Part
  each : Are parts
  histories : map told_in within ≡ histories_after (told_in o) (events_of parts)
  text : r.text ≡ parts_text number parts ++ end_text r.ending (last_of o within)

-- a line's turn, and the run from the world after it
line_then : (m : Meaning) (o : Option PastWorld) (number : ℕ) (here : List (Option PastWorld))
    (turn : Turn (Option PastWorld)) (within : Option PastWorld → List (Option PastWorld))
    (Are : Option PastWorld → List Part → Type 0)
    (rest : Option PastWorld → Run) → Tells (in_script m) number o here turn
    → ((next : Option PastWorld) → LinesTell (Are next) next (number + 1) (within next) (rest next))
    → LinesTell (BeginWith (IsPartOf m o here) turn.next Are) o number
    (here ++ worlds_after turn.next within) (went turn.printed turn.next rest)
line_then m o number here turn within Are rest tells more = go turn.printed turn.next tells.printed tells.next
  where
    part : Part
    part = record { events = tells.events; reply = tells.reply }

    own : IsPartOf m o here part
    own = record {
      histories = tells.histories;
      stops = subst (λ here. AreStops here tells.events)
          (map_same here) tells.stops;
      so = tells.so;
    }

    -- the history where the line ends
    reached : told_in (last_of o here) ≡ last_of (told_in o) (histories_after (told_in o) part.events)
    reached = sym (last-map told_in o here) ∙ ap (last_of (told_in o)) tells.histories

    go : (printed : List ℕ) (r : Result (Option PastWorld) Ending) → printed ≡ part_text number part
        → GoesTo IsEarly r (last_of o here)
        → LinesTell (BeginWith (IsPartOf m o here) r Are) o number (here ++ worlds_after r within)
        (went printed r rest)
    go printed (Ok next) is to =
        let later = more next in
        let h = told_in o in
        record {
          parts = part ∷ later.parts;
          each = (own, later.each);
          histories =
              map-append told_in here (within next)
              ∙ ap₂ (λ (a b : List History). a ++ b) tells.histories (later.histories
              ∙ ap (λ (h : History). histories_after h (events_of later.parts)) (ap told_in to ∙ reached))
              ∙ sym (histories-append h part.events (events_of later.parts));
          text =
              ap₂ (λ (a b : List ℕ). a ++ b) is
              (later.text ∙ ap (λ (v : Option PastWorld). parts_text (number + 1) later.parts
              ++ end_text (rest next).ending v) (ap (λ (v : Option PastWorld). last_of v (within next)) to
              ∙ sym (last-append o here (within next))))
              ∙ sym (append_assoc (part_text number part) (parts_text (number + 1) later.parts)
              (end_text (rest next).ending (last_of o (here ++ within next))));
        }
    go printed (Err ending) is to =
        record {
          parts = part ∷ [];
          each = (own, refl);
          histories = ap (map told_in) (append-nil here) ∙ tells.histories
              ∙ ap (histories_after (told_in o)) (sym (append-nil part.events));
          text =
              is ∙ sym (append-nil (part_text number part)) ∙ ap₂ (λ (a b : List ℕ). a ++ b)
              (sym (append-nil (part_text number part))) (sym (to (last_of o (here ++ []))));
        }

lines_tell : (outcomes : List Outcome) (ls : List (List ℕ)) (o : Option PastWorld) (number : ℕ)
    → LinesTell (AreParts outcomes ls o number) o number (worlds_in_lines outcomes ls o number)
    (run (turn_of past_setting outcomes) (closing_of past_setting) ls o number)
unfolding run worlds_in_lines AreParts
lines_tell outcomes [] o number = record { parts = []; each = refl; histories = refl; text = refl }
lines_tell outcomes (line ∷ more) o number =
    line_then (meaning line) o number (worlds_in_line outcomes o number line)
    (line_turn (turn_of past_setting outcomes) o number line) (λ next. worlds_in_lines outcomes more next
    (number + 1)) (λ next. AreParts outcomes more next (number + 1))
    (λ next. run (turn_of past_setting outcomes) (closing_of past_setting) more next (number + 1))
    (line_tells outcomes number o line) (λ next. lines_tell outcomes more next (number + 1))

pub every_text_told : EveryTextIsTold
every_text_told outcomes script =
    let tell = lines_tell outcomes (lines script) None 1 in
    let within = worlds_in_lines outcomes (lines script) None 1 in
    record {
      parts = tell.parts;
      each = tell.each;
      histories = ap (λ hs. [] ∷ hs) tell.histories;
      last =
          sym (last-map told_in None within) ∙ ap (last_of []) tell.histories
          ∙ histories-last [] (events_of tell.parts) ∙ append-nil (reverse (facts_of (events_of tell.parts)));
      text = tell.text;
    }
