-- What each line of a script prints, and the world after it.
use Rattle.std.specs.Prelude.{
  ℕ,
  zero,
  suc,
  ◌+◌,
  ◌-◌,
  Bool,
  true,
  false,
  nat_lt,
  not,
  List,
  [],
  ◌∷◌,
  ◌++◌,
  length,
  map,
  filter,
  drop,
  ◌&&◌,
  codes,
  position,
  slice_get,
  Option,
  Some,
  None,
  is_some,
  Err,
  if◌then◌else◌,
}
use Rattle.std.specs.List.{flat_map}
use Rattle.ord_types.specs.declared.values.Mode.TheVariants.{Normal}
use Rattle.ord_types.specs.declared.values.Kind.TheVariants.{Bft}
use Rattle.ord_types.specs.Members.{fault_bound, how_many_in, is_in}
use Rattle.ord_types.specs.declared.values.Proof.{Proof}
use Rattle.ord_types.specs.declared.values.Proof.TheVariants as proof_of
use Rattle.ord_types.specs.Genesis.{genesis_block}
use Rattle.ord_types.specs.Spelling.{request_text}
use Rattle.safety_model.specs.Blocks.{Block, Config}
use Rattle.script.specs.declared.command.Command.{Command}
use Rattle.script.specs.declared.command.Command.TheVariants.{
  Genesis,
  Submit,
  Raw,
  Show,
  Tick,
  Deliver,
  Flush,
  Propose,
  Vote,
  Lie,
  Seal,
  Stop,
  StopAt,
  Start,
}
use Rattle.script.specs.declared.command.Range.{Range}
use Rattle.script_play.specs.declared.ending.Ending.TheVariants.{TooManyFaulty}
use Rattle.script_play.specs.Texts.{too_many_faulty_text}
use Rattle.script_play.specs.Turns.{Turn}
use Rattle.node_model.specs.declared.event.Event.{Event}
use Rattle.node_model.specs.Entries.{Entry as Happened, facts_of}
use Rattle.world_model.specs.Pools.{answer, pool_after}
use Rattle.world_model.specs.Worlds.{
  Keeping,
  Setting,
  World,
  Node,
  Entry,
  Outcome,
  GoesOn,
  Stops,
  node_at,
  node_started,
  running_at,
  with_node,
  making,
  outcome_in,
  world_after,
  world_stopped,
  world_stopped_in,
  tick_of,
  entry,
  letter_from,
  marked,
  is_waiting,
}
pub use Rattle.world_model.specs.Says.{goes_on, most_entries, ordinary, refuses, says, then_on, within_limit}
use Rattle.world_model.specs.Liars.{as_liar, as_signer, lie_turn, propose_turn, seal_turn, vote_turn}
use Rattle.world_model.specs.Texts.{
  genesis_text,
  tick_text,
  deliver_text,
  flush_text,
  answer_text,
  byzantine_text,
  closed_text,
  fact_text,
  show_text,
  sent_text,
  start_text,
  stop_at_text,
  stopped_text,
  closing_line,
}

-- AN EVENT prints its blocks; the network has its limit

abbrev pub event_goes : {S T : Type 0} → Setting S T → ℕ → World S T → Node S → Event → Turn (World S T)
event_goes setting number w node event =
    let made : List Happened = making setting w node event in
    within_limit number (flat_map (fact_text number) (facts_of made)) (world_after setting w node made)

-- one in which the node is stopped prints that alone
abbrev pub event_by : {S T : Type 0} → Setting S T → ℕ → World S T → Node S → Event → Outcome
    → Turn (World S T)
event_by setting number w node event GoesOn = event_goes setting number w node event
event_by setting number w node event (Stops cut) =
    says (stopped_text number node.id) (world_stopped_in setting w node event cut)

-- the next of the outcomes is that of this event
abbrev pub first_outcome : List Outcome → Outcome
first_outcome [] = GoesOn
first_outcome (outcome ∷ more) = outcome

abbrev pub with_later : {S T : Type 0} → World S T → World S T
with_later w = record w { outcomes = drop 1 w.outcomes }

-- An armed node takes an outcome, also where it has no deed and so goes on.
unfoldable pub event_turn : {S T : Type 0} → Setting S T → ℕ → World S T → Node S → Event → Turn (World S T)
event_turn setting number w node event =
    if node.armed
    then event_by setting number (with_later w) node event
    (outcome_in (making setting w node event) (first_outcome w.outcomes))
    else event_goes setting number w node event

-- the node runs
abbrev pub is_running : {S T : Type 0} → ℕ → World S T → Bool
is_running id w = is_some (running_at id w.nodes)

-- TICK: a line in which the node is stopped ends there

abbrev pub tick_at : {S T : Type 0} → Setting S T → ℕ → World S T → Option (Node S) → Turn (World S T)
tick_at setting number w None = says [] w
tick_at setting number w (Some node) = event_turn setting number w node (tick_of setting.keeping node)

unfoldable pub ticks : {S T : Type 0} → Setting S T → ℕ → ℕ → ℕ → World S T → Turn (World S T)
ticks setting number id zero w = says (if is_running id w then tick_text number id else []) w
ticks setting number id (suc n) w =
    goes_on (tick_at setting number w (running_at id w.nodes)) (λ next. ticks setting number id n next)

-- DELIVER

-- the entry at place k, counted from 0, comes to its receiver; where it has none, it is lost, and
-- has not come
abbrev pub delivery_to : {S T : Type 0} → Setting S T → ℕ → ℕ → Entry → World S T → Option (Node S)
    → Turn (World S T)
delivery_to setting number k e w None = says [] w
delivery_to setting number k e w (Some node) = event_turn setting number (marked k e w) node (letter_from e)

abbrev pub delivery : {S T : Type 0} → Setting S T → ℕ → ℕ → Entry → World S T → Turn (World S T)
delivery setting number k e w = delivery_to setting number k e w (running_at e.to w.nodes)

-- a lost one isn't counted
abbrev pub counted : {S : Type 0} → Entry → List (Node S) → ℕ → ℕ
counted e nodes count = if is_some (running_at e.to nodes) then count + 1 else count

-- a line in which the receiver is stopped ends there
abbrev pub unless_stopped : {S T : Type 0} → ℕ → World S T → World S T → Turn (World S T) → Turn (World S T)
unless_stopped id before after turn =
    if is_running id before && not (is_running id after) then says [] after else turn

-- n entries from number k on, then the rest with the count
unfoldable pub deliveries : {S T : Type 0} → Setting S T → ℕ → ℕ → ℕ → ℕ → World S T
    → (ℕ → World S T → Turn (World S T)) → Turn (World S T)
deliveries setting number zero k count w rest = rest count w
deliveries setting number (suc n) k count w rest =
    elim (entry k w) [
      | None ↦ refuses number (codes "no entry") w
      | Some e ↦ goes_on (delivery setting number (k - 1) e w)
          (λ next. unless_stopped e.to w next
          (deliveries setting number n (k + 1) (counted e w.nodes count) next rest))
    ]

unfoldable pub deliver_turn : {S T : Type 0} → Setting S T → ℕ → List Range → ℕ → World S T → Turn (World S T)
deliver_turn setting number [] count w = says (deliver_text number count) w
deliver_turn setting number (range ∷ ranges) count w =
    deliveries setting number (range.last + 1 - range.first) range.first count w
    (λ more next. deliver_turn setting number ranges more next)

-- FLUSH: at most 10,000 entries, each time the least that waits; it goes on where a receiver is stopped, and
-- counts that entry

abbrev pub most_flushed : ℕ
most_flushed = 10000

abbrev pub flushes : {S T : Type 0} → Setting S T → ℕ → World S T → Option ℕ → Turn (World S T)
    → (World S T → Turn (World S T)) → Turn (World S T)
flushes setting number w None done rest = done
flushes setting number w (Some k) done rest =
    elim (slice_get w.network k) [ None ↦ done | Some e ↦ goes_on (delivery setting number k e w) rest ]

unfoldable pub flush_turn : {S T : Type 0} → Setting S T → ℕ → Option (List ℕ) → ℕ → ℕ → World S T
    → Turn (World S T)
flush_turn setting number only zero count w = says (flush_text number count) w
flush_turn setting number only (suc n) count w =
    flushes setting number w (position (is_waiting w.nodes only) w.network) (says (flush_text number count) w)
    (λ next. flush_turn setting number only n (count + 1) next)

-- SUBMIT

-- bytes come to the pool of a node

abbrev pub submitted : {S : Type 0} → Node S → List ℕ → Node S
submitted node bytes = record node { pool = pool_after node.pool bytes }

abbrev pub submit_turn : {S T : Type 0} → ℕ → List ℕ → World S T → Node S → List ℕ → Turn (World S T)
submit_turn number word w node bytes =
    says (answer_text number word node.id (answer node.pool bytes))
    (record w { nodes = with_node (submitted node bytes) w.nodes })

-- SHOW

abbrev pub shows : {S T : Type 0} → ℕ → World S T → Node S → Option (Block × Proof) → Turn (World S T)
shows number w node None = refuses number (codes "no block") w
shows number w node (Some stored) = says (show_text number node.id stored.0 stored.1) w

-- the block of this number in the node's ledger
abbrev pub show_turn : {S T : Type 0} → ℕ → World S T → Node S → ℕ → Turn (World S T)
show_turn number w node block = shows number w node (slice_get node.ledger block)

-- GENESIS

abbrev pub first_config : List ℕ → Config
first_config members =
    record {
      number = 0;
      kind = Bft;
      mode = Normal;
      members = members;
      batch = record { count = 1; preferred = 524288; absolute = 1048576; wait = 10 };
      rotation = 0;
    }

abbrev pub first_node : {S : Type 0} → Keeping S → Config → ℕ → Node S
first_node keeping c id =
    record {
      id = id;
      state = keeping.opens c id;
      pool = [];
      ledger = (genesis_block c, proof_of.Raft) ∷ [];
      runs = true;
      armed = false;
    }

-- a Byzantine member has no node
abbrev pub first_world : {S T : Type 0} → Setting S T → List Outcome → Config → List ℕ → World S T
first_world setting outcomes c byzantine =
    record {
      config = c;
      byzantine = byzantine;
      nodes = map (first_node setting.keeping c) (filter (λ id. not (is_in id byzantine)) c.members);
      network = [];
      seals = [];
      told = setting.silent;
      outcomes = outcomes;
    }

-- a genesis with more Byzantine members than the bound of its configuration ends the run
abbrev pub genesis_turn : {S T : Type 0} → Setting S T → List Outcome → ℕ → List ℕ → List ℕ
    → Turn (Option (World S T))
genesis_turn setting outcomes number members byzantine =
    let count = how_many_in byzantine members in
    let bound = fault_bound (length members) in
    if nat_lt bound count
    then record {
      printed = too_many_faulty_text number 0 count bound;
      next = Err (TooManyFaulty number 0 count bound);
    }
    else says (genesis_text number) (Some (first_world setting outcomes (first_config members) byzantine))

-- A COMMAND

-- a line about a node that is nowhere in the world is refused, and so is one about a Byzantine member
abbrev pub absence : {S T : Type 0} → World S T → ℕ → List ℕ
absence w id = if is_in id w.config.members then codes "no core" else codes "unknown node"

abbrev pub at_found : {S T : Type 0} → ℕ → World S T → ℕ → Option (Node S) → (Node S → Turn (World S T))
    → Turn (World S T)
at_found number w id None turn = refuses number (absence w id) w
at_found number w id (Some node) turn = turn node

-- a line about a node that runs, and one about a stopped node
abbrev pub at_node : {S T : Type 0} → ℕ → World S T → ℕ → (Node S → Turn (World S T)) → Turn (World S T)
at_node number w id turn =
    at_found number w id (node_at id w.nodes)
    (λ node. if node.runs then turn node else refuses number (codes "stopped") w)

abbrev pub at_stopped : {S T : Type 0} → ℕ → World S T → ℕ → (Node S → Turn (World S T)) → Turn (World S T)
at_stopped number w id turn =
    at_found number w id (node_at id w.nodes)
    (λ node. if node.runs then refuses number (codes "running") w else turn node)

-- STOP, STOP AT A CALL, START: between two events a stop loses nothing but the pool and the votes
-- that were kept

abbrev pub stop_turn : {S T : Type 0} → Setting S T → ℕ → World S T → Node S → Turn (World S T)
stop_turn setting number w node = says (stopped_text number node.id) (world_stopped setting w node [])

abbrev pub stop_at_turn : {S T : Type 0} → ℕ → World S T → Node S → Turn (World S T)
stop_at_turn number w node =
    says (stop_at_text number node.id) (record w { nodes = with_node (record node { armed = true }) w.nodes })

abbrev pub start_turn : {S T : Type 0} → ℕ → World S T → Node S → Turn (World S T)
start_turn number w node =
    says (start_text number node.id) (record w { nodes = with_node (node_started node) w.nodes })

abbrev pub turn_in : {S T : Type 0} → Setting S T → ℕ → World S T → Command → Turn (World S T)
turn_in setting number w (Genesis members byzantine) = refuses number (codes "second genesis") w
turn_in setting number w (Submit id client serial payload) =
    at_node number w id
    (λ node. submit_turn number (codes "submit") w node (request_text (ordinary client serial payload)))
turn_in setting number w (Raw id bytes) =
    at_node number w id (λ node. submit_turn number (codes "raw") w node bytes)
turn_in setting number w (Show id block) = at_node number w id (λ node. show_turn number w node block)
turn_in setting number w (Tick id count) = at_node number w id (λ node. ticks setting number id count w)
turn_in setting number w (Deliver ranges) = deliver_turn setting number ranges 0 w
turn_in setting number w (Flush only) = flush_turn setting number only most_flushed 0 w
turn_in setting number w (Stop id image) = at_node number w id (λ node. stop_turn setting number w node)
turn_in setting number w (StopAt id call image) = at_node number w id (λ node. stop_at_turn number w node)
turn_in setting number w (Start id) = at_stopped number w id (λ node. start_turn number w node)
turn_in setting number w (Propose from to view client serial payload) =
    as_liar number w from to (propose_turn setting number w from to view (ordinary client serial payload))
turn_in setting number w (Vote from to kind view k) =
    as_liar number w from to (vote_turn number w from to kind view (entry k w))
turn_in setting number w (Lie from to bytes) = as_liar number w from to (lie_turn number w from to bytes)
turn_in setting number w (Seal id bytes) = as_signer number w id (seal_turn number w id bytes)

abbrev pub some_world : {S T : Type 0} → World S T → Turn (Option (World S T))
some_world w = says [] (Some w)

-- the turn of a line, where there may be no world yet
unfoldable pub turn_of : {S T : Type 0} → Setting S T → List Outcome → Option (World S T) → ℕ → Command
    → Turn (Option (World S T))
turn_of setting outcomes None number (Genesis members byzantine) =
    genesis_turn setting outcomes number members byzantine
turn_of setting outcomes None number _ = refuses number (codes "no world") None
turn_of setting outcomes (Some w) number command = goes_on (turn_in setting number w command) some_world

-- the closing line of a member
abbrev pub closing_of_member : {S T : Type 0} → Setting S T → ℕ → Option (Node S) → List ℕ
closing_of_member setting id None = byzantine_text id
closing_of_member setting id (Some node) =
    if node.runs then closing_line setting.keeping.look node else closed_text id

-- the closing lines, by the members' order
unfoldable pub closing_of : {S T : Type 0} → Setting S T → Option (World S T) → List ℕ
closing_of setting None = sent_text 0
closing_of setting (Some w) =
    flat_map (λ id. closing_of_member setting id (node_at id w.nodes)) w.config.members
    ++ sent_text (length w.network)
