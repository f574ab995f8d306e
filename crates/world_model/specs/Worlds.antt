-- The world of a script, and what an event changes in it.
use Rattle.std.specs.Prelude.{
  ℕ,
  zero,
  suc,
  Bool,
  true,
  false,
  ◌&&◌,
  ◌==◌,
  nat_lt,
  not,
  List,
  [],
  ◌∷◌,
  ◌++◌,
  length,
  map,
  take,
  slice_get,
  slice_set,
  Option,
  Some,
  None,
  is_some,
  if◌then◌else◌,
}
use Rattle.std.specs.Int.{w64, to_be_bytes}
use Rattle.std.specs.List.{flat_map, find}
use Rattle.ord_types.specs.Members.{is_in}
use Rattle.ord_types.specs.declared.values.Proof.{Proof}
use Rattle.safety_model.specs.Blocks.{Block, Config, Request}
use Rattle.safety_model.specs.declared.fact.Fact.{Fact}
use Rattle.signer_edge.specs.declared.seals.Seal.{Seal}
use Rattle.signer_edge.specs.Seals.{is_sealed}
use Rattle.bft_wire.specs.Spelling.{message_text}
use Rattle.view_model.specs.Acts.{may_propose}
use Rattle.node_model.specs.Cores.{Core}
use Rattle.node_model.specs.declared.event.Event.{Event}
use Rattle.node_model.specs.declared.event.Event.TheVariants.{FromMember, Tick}
use Rattle.node_model.specs.Entries.{
  Entry as Happened,
  Opened,
  Post,
  deeds_of,
  facts_of,
  posts_of,
  statements_of,
  stored_of,
}
use Rattle.node_model.specs.Steps.{Keys, step}
use Rattle.world_model.specs.Pools.{offer, settled}

-- How a node's state is kept: what it is as it stands, a node of this id on the first block of a
-- configuration, and one with some entries more, the first of them first.
pub record Keeping (S : Type 0) : Type 0 where
  pub look : S → Core
  pub opens : Config → ℕ → S
  pub takes : List Happened → S → S

-- how the nodes' states are kept, and what is told of all facts in order
pub record Setting (S T : Type 0) : Type 0 where
  pub keeping : Keeping S
  pub silent : T
  pub hears : List Fact → T → T

-- What becomes of an event of a node whose disk is armed to stop at a later call: the call isn't reached in
-- it, or it is, and then so many of the step's entries, in order, are what was made durable and signed.
pub data Outcome : Type 0 where
  GoesOn : Outcome
  Stops : ℕ → Outcome

-- A disk stops at a call, and only what is made durable calls it: an event without a deed goes on, whatever
-- is said of it.
abbrev pub outcome_in : List Happened → Outcome → Outcome
outcome_in made outcome = if nat_lt 0 (length (deeds_of made)) then outcome else GoesOn

-- Its ledger has each block with what stands behind it, from block 0 on. It runs, or is stopped; it is armed
-- where its disk is to stop at a later call.
pub record Node (S : Type 0) : Type 0 where
  pub id : ℕ
  pub state : S
  pub pool : List Request
  pub ledger : List (Block × Proof)
  pub runs : Bool
  pub armed : Bool

-- the bytes of a message that was sent, and whether they have come to their receiver yet
pub record Entry : Type 0 where
  pub from : ℕ
  pub to : ℕ
  pub bytes : List ℕ
  pub came : Bool

-- Its members are those of the first configuration. A Byzantine one has no node. Nodes stand by rising id;
-- entries and seals in the order in which they were made.
pub record World (S T : Type 0) : Type 0 where
  pub config : Config
  pub byzantine : List ℕ
  pub nodes : List (Node S)
  pub network : List Entry
  pub seals : List Seal
  pub told : T
  -- what becomes of later events of armed nodes, in order
  pub outcomes : List Outcome

-- SEALS

abbrev pub seals_of : ℕ → List (List ℕ) → List Seal
seals_of i statements = map (λ statement. record { signer = i; statement = statement }) statements

-- the keys of a node's step: the box as the step found it, and what the step added. A signature is the place
-- of its seal.
abbrev pub keys_of : List Seal → ℕ → Keys
keys_of box i =
    record {
      accepts = λ statements. is_sealed (box ++ seals_of i statements);
      signs = λ statements. record {
        signer = i;
        bytes = to_be_bytes w64 (length (box ++ seals_of i statements));
      };
    }

-- NODES

abbrev pub node_at : {S : Type 0} → ℕ → List (Node S) → Option (Node S)
node_at id nodes = find (λ node. node.id == id) nodes

-- with this node in place of the one of its id
abbrev pub with_node : {S : Type 0} → Node S → List (Node S) → List (Node S)
with_node new [] = []
with_node new (node ∷ nodes) = if node.id == new.id then new ∷ nodes else node ∷ with_node new nodes

-- the requests of the blocks that these entries deliver
abbrev pub requests_of : List Happened → List Request
requests_of made = flat_map (λ (stored : Block × Proof). stored.0.requests) (stored_of made)

-- a Tick brings the pool's offer, where the node may propose
abbrev pub offer_to : {S : Type 0} → Keeping S → Node S → List Request
offer_to keeping node =
    let core : Core = keeping.look node.state in
    if may_propose core.place core.view then offer node.pool else []

abbrev pub tick_of : {S : Type 0} → Keeping S → Node S → Event
tick_of keeping node = Tick (offer_to keeping node)

-- AN EVENT: the entries of the node's step

abbrev pub making : {S T : Type 0} → Setting S T → World S T → Node S → Event → List Happened
making setting w node event = step (keys_of w.seals node.id) (setting.keeping.look node.state) event

abbrev pub node_after : {S : Type 0} → Keeping S → Node S → List Happened → Node S
node_after keeping node made =
    record {
      id = node.id;
      state = keeping.takes made node.state;
      pool = settled (requests_of made) node.pool;
      ledger = node.ledger ++ stored_of made;
      runs = true;
      armed = node.armed;
    }

abbrev pub sent_by : ℕ → List Post → List Entry
sent_by i posts =
    map (λ (post : Post). record {
      from = i;
      to = post.to;
      bytes = message_text post.message;
      came = false;
    }) posts

abbrev pub world_after : {S T : Type 0} → Setting S T → World S T → Node S → List Happened → World S T
world_after setting w node made =
    record {
      config = w.config;
      byzantine = w.byzantine;
      nodes = with_node (node_after setting.keeping node made) w.nodes;
      network = w.network ++ sent_by node.id (posts_of made);
      seals = w.seals ++ seals_of node.id (statements_of made);
      told = setting.hears (facts_of made) w.told;
      outcomes = w.outcomes;
    }

-- A NODE THAT IS STOPPED sends nothing. What it made durable and signed is that of a front of its step. It is
-- opened on what its disk has; its pool is lost.

abbrev pub node_stopped : {S : Type 0} → Keeping S → Node S → List Happened → Node S
node_stopped keeping node made =
    record {
      id = node.id;
      state = keeping.takes (made ++ Opened ∷ []) node.state;
      pool = [];
      ledger = node.ledger ++ stored_of made;
      runs = false;
      armed = false;
    }

abbrev pub world_stopped : {S T : Type 0} → Setting S T → World S T → Node S → List Happened → World S T
world_stopped setting w node made =
    record {
      config = w.config;
      byzantine = w.byzantine;
      nodes = with_node (node_stopped setting.keeping node made) w.nodes;
      network = w.network;
      seals = w.seals ++ seals_of node.id (statements_of made);
      told = setting.hears (facts_of made) w.told;
      outcomes = w.outcomes;
    }

-- after so many entries of the event, at most
abbrev pub world_stopped_in : {S T : Type 0} → Setting S T → World S T → Node S → Event → ℕ → World S T
world_stopped_in setting w node event cut =
    world_stopped setting w node (take cut (making setting w node event))

-- it is opened again
abbrev pub node_started : {S : Type 0} → Node S → Node S
node_started node = record node { runs = true }

-- ENTRIES are numbered from 1

abbrev pub entry : {S T : Type 0} → ℕ → World S T → Option Entry
entry zero w = None
entry (suc k) w = slice_get w.network k

abbrev pub letter_from : Entry → Event
letter_from e = FromMember e.from e.bytes

-- the entry at place k, counted from 0, has come
abbrev pub marked : {S T : Type 0} → ℕ → Entry → World S T → World S T
marked k e w = record w { network = slice_set w.network k (record e { came = true }) }

-- sender and receiver are named
abbrev pub is_named : Option (List ℕ) → Entry → Bool
is_named None e = true
is_named (Some ids) e = is_in e.from ids && is_in e.to ids

-- the node of this id, where there is one that runs: a Byzantine member has none
abbrev pub running : {S : Type 0} → Option (Node S) → Option (Node S)
running None = None
running (Some node) = if node.runs then Some node else None

abbrev pub running_at : {S : Type 0} → ℕ → List (Node S) → Option (Node S)
running_at id nodes = running (node_at id nodes)

-- it has not come yet, and its receiver runs
abbrev pub is_waiting : {S : Type 0} → List (Node S) → Option (List ℕ) → Entry → Bool
is_waiting nodes only e = not e.came && is_named only e && is_some (running_at e.to nodes)
