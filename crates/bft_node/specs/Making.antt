-- How far a step of a node is: the entries that it has made, in the code and by its definition.
use Rattle.std.specs.Prelude.{
  ◌≡◌,
  ℕ,
  ◌≤◌,
  Bool,
  List,
  [],
  ◌∷◌,
  ◌++◌,
  length,
  take,
  map,
  Option,
  Some,
  None,
  Result,
  Ok,
  Err,
  IsTrue,
}
use Rattle.ord_types.specs.declared.values.Config.{Config}
use Rattle.ord_types.specs.declared.values.Place.{Place}
use Rattle.gate_log.specs.Disk.{State, now}
use Rattle.gate_log.specs.Runs.{Throughout}
use Rattle.safety_model.specs.declared.fact.Fact.{Fact}
use Rattle.signer_edge.specs.Accepts.{Accepts as Acceptance}
use Rattle.signer_edge.specs.Signing.{KeepsAccepted}
use Rattle.block_ledger.specs.Chains.{IsChain, Entry as Stored}
use Rattle.bft_wire.specs.Spelling.{message_text}
use Rattle.bft_wire.specs.declared.message.Message.{Message}
use Rattle.chan_config.specs.Blocks.{change_in}
use Rattle.view_model.specs.declared.act.Act.{Act}
use Rattle.view_model.specs.declared.act.Act.TheVariants as act_of
use Rattle.view_model.specs.Acts.{View}
use Rattle.view_model.specs.Answers.{after_act}
use Rattle.node_model.specs.Cores.{Core, after_entries}
use Rattle.node_model.specs.Entries as entries
use Rattle.node_model.specs.Entries.{Entry, deeds_of, facts_of, others, posts_of, statements_of, stored_of}
use Rattle.node_model.specs.Steps.{Duty, Accept, Prepare, Deliver, Keys, duty}
use Rattle.bft_node.specs.Crashes.{Image, IsCrash, Opens, Within}
use Rattle.bft_node.specs.Held.{Held, with_deeds}
use Rattle.bft_node.specs.NodeFaults.{HasLimit}
use Rattle.bft_node.specs.Running.{as_found, place_of}
use Rattle.bft_node.specs.Stores.{config_of, held_of}
use Rattle.bft_node.specs.declared.live.Done.{Done}
use Rattle.bft_node.specs.declared.live.Out.{Out}
use Rattle.bft_node.specs.declared.live.Post.{Post}
use Rattle.bft_node.specs.declared.live.Running.{Running}
use Rattle.bft_node.specs.declared.node_fault.NodeFault.{NodeFault}

-- WHAT IS SENT AND TOLD

-- the bytes of a message, and their receiver
pub record Sent : Type 0 where
  pub to : ℕ
  pub bytes : List ℕ

abbrev pub sent_of : Post → Sent
sent_of post = record { to = post.to; bytes = post.message.value }

abbrev pub text_of : entries.Post → Sent
text_of post = record { to = post.to; bytes = message_text post.message }

-- the bytes that a list of entries sends
abbrev pub sends_of : List Entry → List Sent
sends_of made = map text_of (posts_of made)

-- what these messages to all others send
abbrev pub sent_to_others : Running → List Message → List Sent
sent_to_others r messages =
    sends_of (map (λ m. entries.Sent (others (place_of r).config.members r.id) m) messages)

-- of a delivered block the ids of its requests, and the configuration that it brings
abbrev pub done_of : Stored → Done
done_of stored = record { ids = map (λ r. r.id) stored.0.requests; next = change_in stored.0.requests }

-- those that a list of entries delivers
abbrev pub done_in : List Entry → List Done
done_in made = map done_of (stored_of made)

-- SO FAR: a step so far is the list of entries that it has made

-- what stood before a step and was accepted then, and the keys of the definition
pub record Before : Type 0 where
  pub id : ℕ
  pub config : Config
  pub keys : Keys
  pub core : Core
  pub first : Acceptance
  pub held : Held
  pub moments : List State

-- the node as these entries leave it
abbrev pub core_in : Before → List Entry → Core
core_in b made = after_entries made b.core

abbrev pub place_in : Before → List Entry → Place
place_in b made = (core_in b made).place

abbrev pub view_in : Before → List Entry → View
view_in b made = (core_in b made).view

-- what is accepted after them
abbrev pub accepts_in : Before → List Entry → Acceptance
accepts_in b made = b.keys.accepts (statements_of made)

-- the blocks held were a chain by what was accepted
abbrev pub BeganOnChain : Before → Type 0
BeganOnChain b = IsChain b.first b.config b.held.blocks

-- what is outside a node: what its keys accept, the disk, and what the step told
pub record Around : Type 0 where
  pub accepts : Acceptance
  pub tells : Bool
  pub moments : List State
  pub facts : List Fact
  pub sends : List Sent
  pub done : List Done

abbrev pub around : Acceptance → Bool → List State → Out → Around
around accepts tells moments out =
    record {
      accepts = accepts;
      tells = tells;
      moments = moments;
      facts = out.facts;
      sends = map sent_of out.sends;
      done = out.done;
    }

-- At each moment every crash opens to what a front of the step's deeds leaves, for every judge who accepts at
-- least this.
abbrev pub GoesWithin : Before → List Entry → Acceptance → Bool → List State → Type 0
GoesWithin b made accepts tells moments =
    BeganOnChain b → (judge : Acceptance) → KeepsAccepted accepts judge → IsTrue tells
    → Throughout (Within judge b.config (deeds_of made) b.held) b.moments moments

-- The node and what is outside it stand as these entries leave them, and the view has taken the act that it
-- told.
pub record Makes (b : Before) (made : List Entry) (told : Act) (r : Running) (a : Around) : Type 0 where
  pub id : r.id ≡ b.id
  pub config : config_of r.store ≡ b.config
  pub place : place_of r ≡ place_in b made
  pub view : r.view ≡ after_act told (view_in b made)
  pub me : (view_in b made).me ≡ b.id
  pub found : as_found r.found ≡ (core_in b made).found
  pub held : held_of r.store ≡ with_deeds (deeds_of made) b.held
  pub facts : a.facts ≡ facts_of made
  pub sends : a.sends ≡ sends_of made
  pub done : a.done ≡ done_in made
  pub accepts : accepts_in b made ≡ a.accepts
  pub chain : BeganOnChain b → IsChain a.accepts b.config (held_of r.store).blocks
  pub went : GoesWithin b made a.accepts a.tells a.moments

-- a list begins with these
abbrev pub IsFront : {A : Type 0} → List A → List A → Type 0
IsFront {A} xs ys = (rest : List A) × (xs ++ rest ≡ ys)

-- A STEP THAT WAS GIVEN UP

-- It opens to what a front of these entries leaves, and the statements that were signed are those of the same
-- front.
pub record OpensMade (accepts : Acceptance) (c : Config) (made : List Entry) (held : Held)
    (signed : List (List ℕ)) (image : Image) : Type 0 where
  pub cut : ℕ
  pub some : cut ≤ length made
  pub opens : Opens accepts c image (with_deeds (deeds_of (take cut made)) held)
  pub signatures : signed ≡ statements_of (take cut made)

-- Every crash of what is left opens so, for every judge who accepts at least this.
abbrev pub LeavesMade : Before → List Entry → List (List ℕ) → Acceptance → Bool → List State → Type 0
LeavesMade b made signed accepts tells moments =
    BeganOnChain b → (judge : Acceptance) → KeepsAccepted accepts judge → IsTrue tells
    → (image : Image) → IsCrash (now moments) image → OpensMade judge b.config made b.held signed image

-- A step that is to make these entries was given up, with these statements signed, and this accepted after
-- them: nothing else was done.
pub record IsStopped (b : Before) (made : List Entry) (signed : List (List ℕ)) (accepts : Acceptance)
    (tells : Bool) (moments : List State) (fault : NodeFault) : Type 0 where
  pub went : GoesWithin b made accepts tells moments
  pub left : LeavesMade b made signed accepts tells moments
  pub signed_first : IsFront signed (statements_of made)
  pub limit : HasLimit tells b.held (deeds_of made) fault

-- what follows for an Ok, and what for any failure
abbrev pub GoesOn : {T E : Type 0} → Result T E → (T → Type 0) → (E → Type 0) → Type 0
GoesOn (Ok x) P Q = P x
GoesOn (Err fault) P Q = Q fault

-- WHAT IS DUE

-- the duty that an answer tells, if it tells one
abbrev pub duty_in : Act → Option Duty
duty_in (act_of.Accept b) = Some (Accept b)
duty_in (act_of.Prepare d) = Some (Prepare d)
duty_in (act_of.Deliver b cert) = Some (Deliver b cert)
duty_in act_of.Kept = None
duty_in (act_of.Nothing r) = None

-- the told act is the one that is due
abbrev pub IsDue : Before → List Entry → Act → Type 0
IsDue b made told = duty_in told ≡ duty (accepts_in b made) (core_in b made)

-- the step has made these entries, and the told act is the one that is due
pub record Tells (b : Before) (made : List Entry) (told : Act) (r : Running) (a : Around) : Type 0 where
  pub makes : Makes b made told r a
  pub due : IsDue b made told

-- this is what stands before a step
pub record Begins (b : Before) (r : Running) (a : Around) : Type 0 where
  pub id : r.id ≡ b.id
  pub config : config_of r.store ≡ b.config
  pub core : record { place = place_of r; view = r.view; found = as_found r.found } ≡ b.core
  pub held : held_of r.store ≡ b.held
  pub facts : a.facts ≡ []
  pub sends : a.sends ≡ []
  pub done : a.done ≡ []
  pub accepts : b.keys.accepts [] ≡ a.accepts
  pub first : b.first ≡ a.accepts
  pub moments : a.moments ≡ b.moments
