-- The text of a script is told by the histories of its worlds: the block lines are those of the facts that
-- happened, line by line.
use Rattle.std.specs.Prelude.{
  ◌≡◌,
  ℕ,
  ◌+◌,
  ◌<◌,
  true,
  false,
  ◌&&◌,
  List,
  [],
  ◌∷◌,
  ◌++◌,
  codes,
  length,
  map,
  reverse,
  slice_get,
  Option,
  Some,
  None,
  Result,
  Ok,
  Err,
  IsTrue,
  ⊤,
}
use Rattle.std.specs.List.{AllByRecursion, flat_map}
use Rattle.ord_types.specs.Members.{is_in}
use Rattle.safety_model.specs.Blocks.{Block}
use Rattle.safety_model.specs.Facts.{History, Proof}
use Rattle.safety_model.specs.declared.fact.Fact.{Fact}
use Rattle.signer_edge.specs.declared.seals.Seal.{Seal}
use Rattle.line_flow.specs.Lines.{lines}
use Rattle.script.specs.Grammar.{meaning}
use Rattle.script.specs.declared.command.Command.TheVariants as command_of
use Rattle.script.specs.declared.command.Meaning.{Meaning}
use Rattle.script.specs.declared.command.Meaning.TheVariants.{Means}
use Rattle.script_play.specs.declared.ending.Ending.{Ending}
use Rattle.script_play.specs.declared.ending.Ending.TheVariants.{Done}
use Rattle.script_play.specs.Runs.{line_turn}
use Rattle.script_play.specs.Texts.{malformed_text, not_built_text, too_many_faulty_text}
use Rattle.world_model.specs.Histories.{past_setting, run_of}
use Rattle.world_model.specs.Pools as pool
use Rattle.world_model.specs.Texts.{
  answer_text,
  deliver_text,
  fact_text,
  flush_text,
  genesis_text,
  lied_text,
  limit_text,
  refused_text,
  seal_text,
  show_text,
  start_text,
  stop_at_text,
  stopped_text,
  tick_text,
}
use Rattle.world_model.specs.Turns.{closing_of, is_running, turn_of}
use Rattle.world_model.specs.Worlds.{Entry, Node, Outcome, entry, node_at}
use Rattle.node_model.specs.Keeping.{PastNode}
use Rattle.world_safety.specs.Safe.{IsSafe, signs_anything}
use Rattle.world_safety.specs.Within.{PastWorld, all_worlds_of, worlds_in_line}

-- HISTORIES

abbrev pub told_in : Option PastWorld → History
told_in None = []
told_in (Some w) = w.told

-- what happened in an event
pub data Happened : Type 0 where
  -- it went through, with these facts
  Went : List Fact → Happened
  -- the node of this id was stopped in it, and these facts were kept
  Stopped : ℕ → List Fact → Happened

abbrev pub facts_in : Happened → List Fact
facts_in (Went facts) = facts
facts_in (Stopped id facts) = facts

-- the history after each event; the newest fact stands first
abbrev pub histories_after : History → List Happened → List History
histories_after h [] = []
histories_after h (event ∷ events) =
    (reverse (facts_in event) ++ h) ∷ histories_after (reverse (facts_in event) ++ h) events

-- the last of x and of those after it
abbrev pub last_of : {X : Type 0} → X → List X → X
last_of x [] = x
last_of x (y ∷ ys) = last_of y ys

-- THE TEXT OF A LINE

pub data Refusal : Type 0 where
  NoWorld : Refusal
  SecondGenesis : Refusal
  UnknownNode : Refusal
  NoCore : Refusal
  NotByzantine : Refusal
  NoEntry : Refusal
  NoBlock : Refusal
  RaftMessage : Refusal
  -- the node is stopped, or it runs
  NodeStopped : Refusal
  NodeRuns : Refusal

abbrev pub reason : Refusal → List ℕ
reason NoWorld = codes "no world"
reason SecondGenesis = codes "second genesis"
reason UnknownNode = codes "unknown node"
reason NoCore = codes "no core"
reason NotByzantine = codes "not byzantine"
reason NoEntry = codes "no entry"
reason NoBlock = codes "no block"
reason RaftMessage = codes "raft message"
reason NodeStopped = codes "stopped"
reason NodeRuns = codes "running"

-- what is said of a line in the end, behind the lines of its events
pub data Reply : Type 0 where
  -- an empty line, or a comment
  Silent : Reply
  Begun : Reply
  -- the line's first word, the node, and its pool's answer
  Answered : List ℕ → ℕ → pool.Answer → Reply
  -- the node, and what stands in its ledger
  Shown : ℕ → Block → Proof → Reply
  -- the node
  Ticked : ℕ → Reply
  -- how many entries came
  Came : ℕ → Reply
  Flushed : ℕ → Reply
  -- the line's first word, and the number of the entry that a Byzantine member sent
  Lied : List ℕ → ℕ → Reply
  -- the place of the seal
  Sealed : ℕ → Reply
  -- a node that was stopped in the line, which ends so: nothing more is said
  Cut : ℕ → Reply
  -- the node whose disk is armed to stop at a call, and the one that was started
  Pending : ℕ → Reply
  Started : ℕ → Reply
  Refused : Refusal → Reply
  -- the limit that was reached
  Limited : ℕ → Reply
  -- the number of the configuration, how many of its members are Byzantine, and how many may be
  Faulty : ℕ → ℕ → ℕ → Reply
  -- the place of the first byte that isn't in the grammar
  Malformed : ℕ → Reply
  NotBuilt : Reply

abbrev pub reply_text : ℕ → Reply → List ℕ
reply_text number Silent = []
reply_text number Begun = genesis_text number
reply_text number (Answered word node answer) = answer_text number word node answer
reply_text number (Shown node b proof) = show_text number node b proof
reply_text number (Ticked node) = tick_text number node
reply_text number (Came count) = deliver_text number count
reply_text number (Flushed count) = flush_text number count
reply_text number (Lied word sent) = lied_text number word sent
reply_text number (Sealed place) = seal_text number place
reply_text number (Cut node) = []
reply_text number (Pending node) = stop_at_text number node
reply_text number (Started node) = start_text number node
reply_text number (Refused refusal) = refused_text number (reason refusal)
reply_text number (Limited limit) = limit_text number limit
reply_text number (Faulty config count bound) = too_many_faulty_text number config count bound
reply_text number (Malformed place) = malformed_text number place
reply_text number NotBuilt = not_built_text number

-- WHAT A REPLY TELLS of a world

-- who sends to whom in the line of a Byzantine member
abbrev pub route_in : Meaning → Option (ℕ × ℕ)
route_in (Means (command_of.Propose from to view client serial payload)) = Some (from, to)
route_in (Means (command_of.Vote from to kind view k)) = Some (from, to)
route_in (Means (command_of.Lie from to bytes)) = Some (from, to)
route_in _ = None

-- the node that a line is about
abbrev pub node_in : Meaning → Option ℕ
node_in (Means (command_of.Submit id client serial payload)) = Some id
node_in (Means (command_of.Raw id bytes)) = Some id
node_in (Means (command_of.Show id block)) = Some id
node_in (Means (command_of.Tick id count)) = Some id
node_in (Means (command_of.Stop id image)) = Some id
node_in (Means (command_of.StopAt id call image)) = Some id
node_in (Means (command_of.Start id)) = Some id
node_in _ = None

-- the line shows the block at this place of the ledger of the world's node of this id
pub record IsStored (m : Meaning) (w : PastWorld) (id : ℕ) (b : Block) (proof : Proof) : Type 0 where
  pub node : Node PastNode
  pub at : node_at id w.nodes ≡ Some node
  pub place : ℕ
  pub stands : slice_get node.ledger place ≡ Some (b, proof)
  pub asked : m ≡ Means (command_of.Show id place)

-- the last entry of the network has this number, and is of the line's own sender, a Byzantine member, to
-- its receiver
pub record IsLastSent (m : Meaning) (w : PastWorld) (number : ℕ) : Type 0 where
  pub last : Entry
  pub at : entry number w ≡ Some last
  pub count : length w.network ≡ number
  pub route : route_in m ≡ Some (last.from, last.to)
  pub by : IsTrue (is_in last.from w.config.members && is_in last.from w.byzantine)

-- the last seal of the box has this place, and is the line's own, of one who may sign anything
pub record IsLastSeal (m : Meaning) (w : PastWorld) (place : ℕ) : Type 0 where
  pub last : Seal
  pub at : slice_get w.seals place ≡ Some last
  pub count : length w.seals ≡ place + 1
  pub asked : m ≡ Means (command_of.Seal last.signer last.statement)
  pub by : IsTrue (signs_anything w.config.members w.byzantine last.signer)

-- there is a world, and this is so of it
abbrev pub HasWorld : (PastWorld → Type 0) → Option PastWorld → Type 0
HasWorld Is None = ⊥
HasWorld Is (Some w) = Is w

-- the line is about this node, which runs there
abbrev pub IsUp : Meaning → ℕ → Option PastWorld → Type 0
IsUp m id o = (node_in m ≡ Some id) × HasWorld (λ w. is_running id w ≡ true) o

-- no node of this id runs there
abbrev pub IsStill : ℕ → Option PastWorld → Type 0
IsStill id o = HasWorld (λ w. is_running id w ≡ false) o

-- what a reply tells is so, where its line means this, and this is the last world of the line
abbrev pub IsSo : Meaning → Option PastWorld → Reply → Type 0
IsSo m o (Answered word id answer) = IsUp m id o
IsSo m o (Ticked id) = IsUp m id o
IsSo m o (Pending id) = IsUp m id o
IsSo m o (Started id) = IsUp m id o
IsSo m o (Shown id b proof) = HasWorld (λ w. IsStored m w id b proof) o
IsSo m o (Lied word sent) = HasWorld (λ w. IsLastSent m w sent) o
IsSo m o (Sealed place) = HasWorld (λ w. IsLastSeal m w place) o
IsSo m o (Cut id) = IsStill id o
IsSo m o (Faulty config count bound) = bound < count
IsSo m o _ = ⊤

-- THE PARTS OF A TEXT

-- the events of a line, and its reply
pub record Part : Type 0 where
  pub events : List Happened
  pub reply : Reply

-- the block lines of an event that went through, and of one in which a node was stopped that alone
abbrev pub event_text : ℕ → Happened → List ℕ
event_text number (Went facts) = flat_map (fact_text number) facts
event_text number (Stopped id facts) = stopped_text number id

abbrev pub events_text : ℕ → List Happened → List ℕ
events_text number events = flat_map (event_text number) events

abbrev pub part_text : ℕ → Part → List ℕ
part_text number part = events_text number part.events ++ reply_text number part.reply

-- a node that was stopped in an event doesn't run in the world after it
abbrev pub IsStopIn : Option PastWorld → Happened → Type 0
IsStopIn o (Went facts) = ⊤
IsStopIn o (Stopped id facts) = IsStill id o

-- so it is with each event and the world after it
abbrev pub AreStops : List (Option PastWorld) → List Happened → Type 0
AreStops [] events = ⊤
AreStops (o ∷ here) [] = ⊤
AreStops (o ∷ here) (event ∷ events) = IsStopIn o event × AreStops here events

-- These are the worlds of a line that means this and began with this world: they have the histories of its
-- events, in each the node that its event stopped doesn't run, and what the line's reply tells is so in the
-- last of them, or in the one with which it began where it has none.
pub record IsPartOf (m : Meaning) (o : Option PastWorld) (here : List (Option PastWorld))
    (part : Part) : Type 0 where
  pub histories : map told_in here ≡ histories_after (told_in o) part.events
  pub stops : AreStops here part.events
  pub so : IsSo m (last_of o here) part.reply

-- the parts behind a turn: none where it ended the run
abbrev pub AreLater : Result (Option PastWorld) Ending → (Option PastWorld → List Part → Type 0) → List Part
    → Type 0
AreLater (Ok next) rest parts = rest next parts
AreLater (Err ending) rest parts = parts ≡ []

-- a first part, and those behind the turn
abbrev pub BeginWith : (Part → Type 0) → Result (Option PastWorld) Ending
    → (Option PastWorld → List Part → Type 0) → List Part → Type 0
BeginWith First next rest [] = ⊥
BeginWith First next rest (part ∷ parts) = First part × AreLater next rest parts

-- one part for each of these lines, up to the one that ends the run
unfoldable pub AreParts : List Outcome → List (List ℕ) → Option PastWorld → ℕ → List Part → Type 0
AreParts outcomes [] o number parts = parts ≡ []
AreParts outcomes (line ∷ more) o number parts =
    BeginWith (IsPartOf (meaning line) o (worlds_in_line outcomes o number line))
    (line_turn (turn_of past_setting outcomes) o number line).next
    (λ next parts. AreParts outcomes more next (number + 1) parts) parts

-- THE TEXT OF A SCRIPT

-- one part for each line, of which the first has this number
abbrev pub parts_text : ℕ → List Part → List ℕ
parts_text number [] = []
parts_text number (part ∷ parts) = part_text number part ++ parts_text (number + 1) parts

abbrev pub events_of : List Part → List Happened
events_of parts = flat_map (λ (part : Part). part.events) parts

-- in their order
abbrev pub facts_of : List Happened → List Fact
facts_of events = flat_map facts_in events

-- the closing lines, where the script was played to its end
abbrev pub end_text : Ending → Option PastWorld → List ℕ
end_text Done o = closing_of past_setting o
end_text _ o = []

-- There is one world for each event, whose history grew by the facts of that event, so that the last
-- world's history has them all. The text has the block lines of the facts of the events that went through,
-- in their order, and no others; each event in which a node was stopped has one line that tells this.
-- Beside them stand only the replies to the lines, and the closing lines of the last world. Each line has a
-- part of its own, whose reply is so in the last of its worlds.
pub record IsTold (outcomes : List Outcome) (script : List ℕ) : Type 0 where
  pub parts : List Part
  pub histories : map told_in (all_worlds_of outcomes script) ≡ [] ∷ histories_after [] (events_of parts)
  pub last : told_in (last_of None (all_worlds_of outcomes script)) ≡ reverse (facts_of (events_of parts))
  pub each : AreParts outcomes (lines script) None 1 parts
  pub text : (run_of outcomes script).text ≡ parts_text 1 parts ++ end_text (run_of outcomes script).ending
      (last_of None (all_worlds_of outcomes script))

-- all worlds of every script are safe, not only those between its lines, for every list of outcomes
abbrev pub AllWorldsAreSafe : Type 0
AllWorldsAreSafe =
    (outcomes : List Outcome) (script : List ℕ) → AllByRecursion IsSafe (all_worlds_of outcomes script)

-- and their histories tell the script's text
abbrev pub EveryTextIsTold : Type 0
EveryTextIsTold = (outcomes : List Outcome) (script : List ℕ) → IsTold outcomes script
