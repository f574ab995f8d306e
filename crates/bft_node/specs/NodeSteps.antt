-- What a step of a node answers and leaves.
use Rattle.std.specs.Prelude.{◌≡◌, ◌≤◌, ◌++◌, Bool, List, [], None, length, map, IsTrue, ℕ, Result, Ok, Err}
use Rattle.gate_log.specs.Disk.{State, now}
use Rattle.gate_log.specs.Runs.{Throughout}
use Rattle.signer_edge.specs.Accepts.{Accepts as Acceptance}
use Rattle.signer_edge.specs.Signing.{KeepsAccepted}
use Rattle.node_model.specs.Cores.{after_entries}
use Rattle.node_model.specs.Entries.{Entry, deeds_of, facts_of, statements_of, stored_of}
use Rattle.node_model.specs.declared.event.Event.{Event}
use Rattle.node_model.specs.Steps.{Keys, duty, step}
use Rattle.block_ledger.specs.Chains.{IsChain}
use Rattle.bft_node.specs.Crashes.{Image, IsCrash, Within}
use Rattle.bft_node.specs.Held.{with_deeds}
use Rattle.bft_node.specs.Making.{IsFront, OpensMade, done_in, sends_of, sent_of}
use Rattle.bft_node.specs.NodeFaults.{HasLimit}
use Rattle.bft_node.specs.Recovering.{Holds, KeepsFront, KeepsSigned}
use Rattle.bft_node.specs.Running.{chain_of, state_of}
use Rattle.bft_node.specs.Signings.{Grows, KeysFit, Signing, keys_after, statements_in}
use Rattle.bft_node.specs.Stores.{config_of, held_of}
use Rattle.bft_node.specs.declared.node_fault.NodeFault.{NodeFault}
use Rattle.bft_node.specs.declared.live.Out.{Out}
use Rattle.bft_node.specs.declared.live.Running.{Running}

-- the step of the definition from where a node stands
abbrev pub step_from : Keys → Running → Event → List Entry
step_from keys r event = step keys (state_of r) event

-- The whole of what a step tells, signs and leaves is the definition's, and after it nothing is due.
pub record IsStep (keys : Keys) (old new : Running) (made : List Entry) (signed : List (List ℕ)) (out : Out)
    : Type 0 where
  pub state : state_of new ≡ after_entries made (state_of old)
  pub held : held_of new.store ≡ with_deeds (deeds_of made) (held_of old.store)
  pub chain : chain_of new ≡ chain_of old ++ stored_of made
  pub facts : out.facts ≡ facts_of made
  pub sends : map sent_of out.sends ≡ sends_of made
  pub done : out.done ≡ done_in made
  pub signed_all : signed ≡ statements_of made
  pub nothing_due : duty (keys.accepts signed) (state_of new) ≡ None

-- What a step answers. One that was given up has signed the first of the step's statements.
abbrev pub Steps : Keys → Running → Running → List Entry → List (List ℕ) → Result Out NodeFault → Type 0
Steps keys old new made signed (Ok out) = IsStep keys old new made signed out
Steps keys old new made signed (Err fault) = IsFront signed (statements_of made)

-- WHAT A CRASH OPENS TO, exactly: of any node whose blocks were a chain by what was accepted, and for every judge
-- who accepts at least what the keys did at the end

-- At each moment every crash opens to what a front of the step's deeds leaves of what was held.
abbrev pub OpensWithin : Running → List Entry → Acceptance → Acceptance → List State → List State → Type 0
OpensWithin old made first accepts before after =
    IsChain first (config_of old.store) (chain_of old) → (judge : Acceptance) → KeepsAccepted accepts judge
    → Throughout (Within judge (config_of old.store) (deeds_of made) (held_of old.store)) before after

-- And every crash after the step, whatever it answered, opens to what a front of its entries leaves of which the
-- signatures are those that were made.
abbrev pub OpensSigned : Running → List Entry → List (List ℕ) → Acceptance → Acceptance → List State → Type 0
OpensSigned old made signed first accepts after =
    IsChain first (config_of old.store) (chain_of old) → (judge : Acceptance) → KeepsAccepted accepts judge
    → (image : Image) → IsCrash (now after) image
    → OpensMade judge (config_of old.store) made (held_of old.store) signed image

-- the blocks are a chain after a step that was done, as they were before it
abbrev pub StaysChain : Running → Running → Acceptance → Acceptance → Result Out NodeFault → Type 0
StaysChain old new first accepts (Ok out) =
    IsChain first (config_of old.store) (chain_of old) → IsChain accepts (config_of old.store) (chain_of new)
StaysChain old new first accepts (Err fault) = Unit {0}

-- WHAT A CRASH KEEPS, in the node's own terms: of a node that held what it did

-- Where the node held what it did: at each moment every crash keeps it with a front of the step's entries,
-- for every judge who accepts at least what the keys did at the end.
abbrev pub StepsWithin : Running → List Entry → Acceptance → Acceptance → List State → List State → Type 0
StepsWithin old made first accepts before after =
    Holds first old (now before) → (judge : Acceptance) → KeepsAccepted accepts judge
    → Throughout (λ state. (image : Image) → IsCrash state image → KeepsFront judge old made image) before after

-- And every crash after the step, whatever it answered, keeps a front of its entries of which the signatures
-- are those that were made.
abbrev pub StepsLeave : Running → List Entry → List (List ℕ) → Acceptance → Acceptance → List State
    → List State → Type 0
StepsLeave old made signed first accepts before after =
    Holds first old (now before) → (judge : Acceptance) → KeepsAccepted accepts judge
    → (image : Image) → IsCrash (now after) image → KeepsSigned judge old made signed image

-- after a step that was done the node holds all of it
abbrev pub StepsHold : Running → Running → Acceptance → Acceptance → List State → List State
    → Result Out NodeFault → Type 0
StepsHold old new first accepts before after (Ok out) =
    Holds first old (now before) → Holds accepts new (now after)
StepsHold old new first accepts before after (Err fault) = Unit {0}

-- The number or the length that a step needed, where that is told. One that was done needed no block of a
-- number above 2^62 - 1: the blocks are numbered from 0, so the next one has their count as its number.
abbrev pub StepsLimit : Running → Running → List Entry → Bool → Result Out NodeFault → Type 0
StepsLimit old new made tells (Ok out) = length (chain_of new) ≤ 4611686018427387903
StepsLimit old new made tells (Err fault) = HasLimit tells (held_of old.store) (deeds_of made) fault

-- WHAT A STEP DOES: its answer, and what it leaves at each moment and at its end. What is said of crashes is
-- said of a disk that tells its content.
pub record TakesStep (keys : Keys) (old new : Running) (event : Event) (signed : List (List ℕ))
    (first accepts : Acceptance) (result : Result Out NodeFault) (tells : Bool) (before after : List State)
    : Type 0 where
  pub steps : Steps keys old new (step_from keys old event) signed result
  pub chain : StaysChain old new first accepts result
  pub opens_within : IsTrue tells → OpensWithin old (step_from keys old event) first accepts before after
  pub opens_signed : IsTrue tells → OpensSigned old (step_from keys old event) signed first accepts after
  pub within : IsTrue tells → StepsWithin old (step_from keys old event) first accepts before after
  pub leaves : IsTrue tells → StepsLeave old (step_from keys old event) signed first accepts before after
  pub holds : IsTrue tells → StepsHold old new first accepts before after result
  pub limit : StepsLimit old new (step_from keys old event) tells result

-- So it is by any keys of the definition that say what these did and answered, where what they accepted stays
-- so.
abbrev pub TakesBy : {K : Type 0} → (K → Acceptance) → K → Running → Running → Event → Result Out NodeFault
    → Bool → List State → List State → List (Signing K) → Type 0
TakesBy accepts keys old new event result tells before after signings =
    (model : Keys) → KeysFit accepts model [] keys signings → Grows accepts keys signings
    → TakesStep model old new event (statements_in signings) (accepts keys)
    (accepts (keys_after keys signings)) result tells before after
