-- All worlds that a script goes through: the one after each event of each line, that past the network's
-- limit and those in which a node is stopped included. What becomes of the events of armed nodes is a list
-- of outcomes.
use Rattle.std.specs.Prelude.{
  ℕ,
  zero,
  suc,
  ◌+◌,
  ◌-◌,
  true,
  ◌&&◌,
  ◌==◌,
  nat_lt,
  not,
  List,
  [],
  ◌∷◌,
  ◌++◌,
  drop,
  length,
  map,
  position,
  slice_get,
  Option,
  Some,
  None,
  if◌then◌else◌,
}
use Rattle.std.specs.List.{AllByRecursion, Contains}
use Rattle.ord_types.specs.Members.{fault_bound, how_many_in, is_in}
use Rattle.ord_types.specs.Spelling.{request_text}
use Rattle.safety_model.specs.Blocks.{Request}
use Rattle.safety_model.specs.Facts.{History}
use Rattle.line_flow.specs.Lines.{lines}
use Rattle.script.specs.Grammar.{meaning}
use Rattle.script.specs.declared.command.Command.{Command}
use Rattle.script.specs.declared.command.Command.TheVariants.{
  Genesis,
  Submit,
  Raw,
  Show,
  Tick,
  Deliver,
  Flush,
  Propose,
  Vote,
  Lie,
  Seal,
  Stop,
  StopAt,
  Start,
}
use Rattle.script.specs.declared.command.VoteKind.{VoteKind}
use Rattle.script.specs.declared.command.VoteKind.TheVariants.{Prepare, Commit}
use Rattle.script.specs.declared.command.Meaning.{Meaning}
use Rattle.script.specs.declared.command.Meaning.TheVariants.{Nothing, Means, Wrong}
use Rattle.script.specs.declared.command.Range.{Range}
use Rattle.script_play.specs.Runs.{line_turn, max_line, max_lines}
use Rattle.script_play.specs.Worlds.{worlds_after}
use Rattle.bft_wire.specs.Reading.{message_in}
use Rattle.bft_wire.specs.Spelling.{message_text}
use Rattle.node_model.specs.Keeping.{PastNode, past_place}
use Rattle.view_model.specs.Letters.{PrePrepare}
use Rattle.node_model.specs.declared.event.Event.{Event}
use Rattle.world_model.specs.Histories.{past_setting, worlds_of}
use Rattle.world_model.specs.Turns.{
  delivery,
  first_config,
  first_outcome,
  first_world,
  is_running,
  most_flushed,
  ordinary,
  submitted,
  tick_at,
  turn_of,
}
use Rattle.world_model.specs.Liars.{
  commit_for,
  is_raft_if_any,
  longest,
  prepare_for,
  proposal_of,
  proposed_in,
  sig_at,
  statement_for,
  with_sent,
  with_signed,
}
use Rattle.world_model.specs.Worlds.{
  Entry,
  GoesOn,
  Node,
  Outcome,
  Stops,
  World,
  entry,
  is_waiting,
  letter_from,
  making,
  marked,
  node_at,
  node_started,
  outcome_in,
  running_at,
  tick_of,
  with_node,
  world_after,
  world_stopped,
  world_stopped_in,
}

abbrev pub PastWorld : Type 0
PastWorld = World PastNode History

-- AN EVENT leaves this world, whether the network is then within its limit or past it, or one in which its
-- node is stopped

abbrev pub after_event_by : PastWorld → Node PastNode → Event → Outcome → PastWorld
after_event_by w node event GoesOn = world_after past_setting w node (making past_setting w node event)
after_event_by w node event (Stops cut) = world_stopped_in past_setting w node event cut

-- the first outcome is taken
abbrev pub after_outcome : PastWorld → PastWorld
after_outcome w = record w { outcomes = drop 1 w.outcomes }

-- an armed node takes one, which stops it only where it has a deed
abbrev pub after_event : PastWorld → Node PastNode → Event → PastWorld
after_event w node event =
    if node.armed
    then after_event_by (after_outcome w) node event
    (outcome_in (making past_setting w node event) (first_outcome w.outcomes))
    else after_event_by w node event GoesOn

-- TICK

abbrev pub after_tick : PastWorld → Node PastNode → PastWorld
after_tick w node = after_event w node (tick_of past_setting.keeping node)

-- the world after a tick of a node that runs, then the rest
abbrev pub in_tick : ℕ → PastWorld → Option (Node PastNode) → (PastWorld → List PastWorld) → List PastWorld
in_tick number w None rest = rest w
in_tick number w (Some node) rest =
    after_tick w node ∷ worlds_after (tick_at past_setting number w (Some node)).next rest

-- one after each of n ticks, as far as they come, as long as the node runs
unfoldable pub in_ticks : ℕ → ℕ → ℕ → PastWorld → List PastWorld
in_ticks number id zero w = []
in_ticks number id (suc n) w = in_tick number w (running_at id w.nodes) (λ next. in_ticks number id n next)

-- DELIVER

abbrev pub after_letter : ℕ → Entry → PastWorld → Option (Node PastNode) → PastWorld
after_letter k e w None = w
after_letter k e w (Some node) = after_event (marked k e w) node (letter_from e)

-- the entry at place k, counted from 0, has come to its receiver, if it has one that runs
abbrev pub after_delivery : ℕ → Entry → PastWorld → PastWorld
after_delivery k e w = after_letter k e w (running_at e.to w.nodes)

-- none where the receiver was stopped
abbrev pub unless_cut : ℕ → PastWorld → PastWorld → List PastWorld → List PastWorld
unless_cut id before after worlds = if is_running id before && not (is_running id after) then [] else worlds

-- one after each of n entries from number k on, then the rest
unfoldable pub in_deliveries : ℕ → ℕ → ℕ → PastWorld → (PastWorld → List PastWorld) → List PastWorld
in_deliveries number zero k w rest = rest w
in_deliveries number (suc n) k w rest =
    elim (entry k w) [
      | None ↦ []
      | Some e ↦ after_delivery (k - 1) e w ∷ worlds_after (delivery past_setting number (k - 1) e w).next
          (λ next. unless_cut e.to w next (in_deliveries number n (k + 1) next rest))
    ]

unfoldable pub in_deliver : ℕ → List Range → PastWorld → List PastWorld
in_deliver number [] w = []
in_deliver number (range ∷ ranges) w =
    in_deliveries number (range.last + 1 - range.first) range.first w (λ next. in_deliver number ranges next)

-- FLUSH

abbrev pub in_flushes : ℕ → PastWorld → Option ℕ → (PastWorld → List PastWorld) → List PastWorld
in_flushes number w None rest = []
in_flushes number w (Some k) rest =
    elim (slice_get w.network k) [
      | None ↦ []
      | Some e ↦ after_delivery k e w
          ∷ worlds_after (delivery past_setting number k e w).next rest
    ]

-- one after each of at most n entries, each time the least that waits
unfoldable pub in_flush : ℕ → Option (List ℕ) → ℕ → PastWorld → List PastWorld
in_flush number only zero w = []
in_flush number only (suc n) w =
    in_flushes number w (position (is_waiting w.nodes only) w.network) (λ next. in_flush number only n next)

-- SUBMIT and RAW: bytes come to the pool of a node

abbrev pub after_submit : PastWorld → Node PastNode → List ℕ → PastWorld
after_submit w node bytes = record w { nodes = with_node (submitted node bytes) w.nodes }

-- STOP, STOP AT A CALL, START

abbrev pub after_stop : PastWorld → Node PastNode → PastWorld
after_stop w node = world_stopped past_setting w node []

abbrev pub after_stop_at : PastWorld → Node PastNode → PastWorld
after_stop_at w node = record w { nodes = with_node (record node { armed = true }) w.nodes }

abbrev pub after_start : PastWorld → Node PastNode → PastWorld
after_start w node = record w { nodes = with_node (node_started node) w.nodes }

-- WHAT A BYZANTINE MEMBER DOES: it sends, and it signs

-- a line of a member of the world that is Byzantine, to another of the world
abbrev pub where_liar : PastWorld → ℕ → ℕ → List PastWorld → List PastWorld
where_liar w from to worlds =
    if is_in from w.config.members && is_in to w.config.members && is_in from w.byzantine then worlds else []

abbrev pub where_signer : PastWorld → ℕ → List PastWorld → List PastWorld
where_signer w id worlds = if id == 0 then worlds else where_liar w id id worlds

abbrev pub after_propose : PastWorld → ℕ → ℕ → ℕ → Request → Option (Node PastNode) → List PastWorld
after_propose w from to v r None = []
after_propose w from to v r (Some node) =
    with_sent w from to (message_text (proposal_of (past_place node.state) v r)) ∷ []

abbrev pub after_vote : PastWorld → ℕ → ℕ → VoteKind → ℕ → PrePrepare → PastWorld
after_vote w from to Prepare v m = with_sent w from to (message_text (prepare_for m v))
after_vote w from to Commit v m =
    with_sent (with_signed w from (statement_for m v)) from to
    (message_text (commit_for m v (sig_at from (length w.seals))))

abbrev pub after_vote_if : PastWorld → ℕ → ℕ → VoteKind → ℕ → Option PrePrepare → List PastWorld
after_vote_if w from to kind v None = []
after_vote_if w from to kind v (Some m) = after_vote w from to kind v m ∷ []

abbrev pub after_vote_on : PastWorld → ℕ → ℕ → VoteKind → ℕ → Option Entry → List PastWorld
after_vote_on w from to kind v None = []
after_vote_on w from to kind v (Some e) = after_vote_if w from to kind v (proposed_in e.bytes)

abbrev pub after_lie : PastWorld → ℕ → ℕ → List ℕ → List PastWorld
after_lie w from to bytes = if is_raft_if_any (message_in bytes) then [] else with_sent w from to bytes ∷ []

-- A COMMAND

-- a line about a node that is nowhere in the world has no event, nor has one about a stopped node, but to
-- start it
abbrev pub where_node : Option (Node PastNode) → (Node PastNode → List PastWorld) → List PastWorld
where_node None worlds = []
where_node (Some node) worlds = if node.runs then worlds node else []

abbrev pub where_stopped : Option (Node PastNode) → (Node PastNode → List PastWorld) → List PastWorld
where_stopped None worlds = []
where_stopped (Some node) worlds = if node.runs then [] else worlds node

abbrev pub worlds_in : ℕ → PastWorld → Command → List PastWorld
worlds_in number w (Genesis members byzantine) = []
worlds_in number w (Submit id client serial payload) =
    where_node (node_at id w.nodes)
    (λ node. after_submit w node (request_text (ordinary client serial payload)) ∷ [])
worlds_in number w (Raw id bytes) = where_node (node_at id w.nodes) (λ node. after_submit w node bytes ∷ [])
worlds_in number w (Show id block) = []
worlds_in number w (Tick id count) = where_node (node_at id w.nodes) (λ node. in_ticks number id count w)
worlds_in number w (Deliver ranges) = in_deliver number ranges w
worlds_in number w (Flush only) = in_flush number only most_flushed w
worlds_in number w (Stop id image) = where_node (node_at id w.nodes) (λ node. after_stop w node ∷ [])
worlds_in number w (StopAt id call image) =
    where_node (node_at id w.nodes) (λ node. after_stop_at w node ∷ [])
worlds_in number w (Start id) = where_stopped (node_at id w.nodes) (λ node. after_start w node ∷ [])
worlds_in number w (Propose from to view client serial payload) =
    where_liar w from to (after_propose w from to view (ordinary client serial payload) (longest w.nodes))
worlds_in number w (Vote from to kind view k) =
    where_liar w from to (after_vote_on w from to kind view (entry k w))
worlds_in number w (Lie from to bytes) = where_liar w from to (after_lie w from to bytes)
worlds_in number w (Seal id bytes) = where_signer w id (with_signed w id bytes ∷ [])

-- where there may be no world yet
abbrev pub worlds_in_turn : List Outcome → Option PastWorld → ℕ → Command → List (Option PastWorld)
worlds_in_turn outcomes None number (Genesis members byzantine) =
    if nat_lt (fault_bound (length members)) (how_many_in byzantine members) then []
    else Some (first_world past_setting outcomes (first_config members) byzantine) ∷ []
worlds_in_turn outcomes None number _ = []
worlds_in_turn outcomes (Some w) number command = map Some (worlds_in number w command)

-- A LINE

abbrev pub worlds_said : List Outcome → Option PastWorld → ℕ → Meaning → List (Option PastWorld)
worlds_said outcomes o number Nothing = []
worlds_said outcomes o number (Means command) = worlds_in_turn outcomes o number command
worlds_said outcomes o number (Wrong stop) = []

unfoldable pub worlds_in_line : List Outcome → Option PastWorld → ℕ → List ℕ → List (Option PastWorld)
worlds_in_line outcomes o number line =
    if nat_lt max_lines number then []
    else (if nat_lt max_line (length line) then []
    else worlds_said outcomes o number (meaning line))

-- A SCRIPT

-- the world after each event of these lines, of which the first has this number
unfoldable pub worlds_in_lines : List Outcome → List (List ℕ) → Option PastWorld → ℕ → List (Option PastWorld)
worlds_in_lines outcomes [] o number = []
worlds_in_lines outcomes (line ∷ more) o number =
    worlds_in_line outcomes o number line
    ++ worlds_after (line_turn (turn_of past_setting outcomes) o number line).next
    (λ next. worlds_in_lines outcomes more next (number + 1))

-- none at first, and then the world after each event
abbrev pub all_worlds_of : List Outcome → List ℕ → List (Option PastWorld)
all_worlds_of outcomes script = None ∷ worlds_in_lines outcomes (lines script) None 1

-- those before the lines, and the last one, are among them
abbrev pub WorldsAreAmongAll : Type 0
WorldsAreAmongAll = (outcomes : List Outcome) (script : List ℕ)
    → AllByRecursion (Contains (all_worlds_of outcomes script)) (worlds_of outcomes script)
