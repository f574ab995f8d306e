-- What a call of a running node does in a step: it makes a rule of the step so far.
use Rattle.std.specs.Prelude.{◌≡◌, ℕ, Bool, false, is_some, List, [], ◌++◌, Option, Some, None, Result}
use Rattle.gate_log.specs.Disk.{State}
use Rattle.signer_edge.specs.Accepts.{Accepts as Acceptance}
use Rattle.view_model.specs.Acts.{View}
use Rattle.view_model.specs.Answers.{after_act}
use Rattle.view_model.specs.Pending.{still_at}
use Rattle.view_model.specs.declared.act.Act.{Act}
use Rattle.view_model.specs.declared.act.Act.TheVariants as act_of
use Rattle.node_model.specs.Cores.{Core, Found, after_entries}
use Rattle.node_model.specs.Entries.{Entry, statements_of}
use Rattle.node_model.specs.declared.event.Event.{Event}
use Rattle.node_model.specs.Laws.{IsPlaced}
use Rattle.node_model.specs.Steps.{
  Duty,
  Keys,
  Rule,
  current,
  does,
  duty,
  repeats_found,
  step,
}
use Rattle.bft_node.specs.Making.{
  Around,
  Before,
  Begins,
  GoesOn,
  IsStopped,
  Makes,
  Tells,
  around,
  core_in,
  duty_in,
}
use Rattle.bft_node.specs.Running.{IsReady, place_of}
use Rattle.bft_node.specs.Signings.{Grows, KeysFit, Signing, keys_after, statements_in}
use Rattle.bft_node.specs.declared.live.Out.{Out}
use Rattle.bft_node.specs.declared.live.Running.{Running}
use Rattle.bft_node.specs.declared.node_fault.NodeFault.{NodeFault}

-- where a call begins or ends: the node, its keys, whether its disk tells, the disk's moments, and what the
-- step told
pub record Stage (K : Type 0) : Type 0 where
  pub node : Running
  pub keys : K
  pub tells : Bool
  pub moments : List State
  pub out : Out

abbrev pub stage : {K : Type 0} → Running → K → Bool → List State → Out → Stage K
stage node keys tells moments out =
    record { node = node; keys = keys; tells = tells; moments = moments; out = out }

abbrev pub outside : {K : Type 0} → (K → Acceptance) → Stage K → Around
outside accepts s = around (accepts s.keys) s.tells s.moments s.out

-- what a step so far is after a rule
abbrev pub after_rule : Rule → Before → List Entry → List Entry
after_rule rule b made = made ++ rule (statements_of made) (core_in b made)

-- WHERE A STEP STANDS, before a call and after its answer

abbrev pub Phase : Type 1
Phase = Before → List Entry → Running → Around → Type 0

-- nothing is told that is still to be done
abbrev pub Quiet : Phase
Quiet b made r a = Makes b made act_of.Kept r a

-- this act was told, whether or not it is the one that is due
abbrev pub Taken : Act → Phase
Taken told b made r a = Makes b made told r a

-- the act that is due was told
abbrev pub Telling : Act → Phase
Telling told b made r a = Tells b made told r a

-- A CALL MAKES A RULE of each step so far that stands so, and leaves it so; or it was given up while it made
-- it. The keys of the definition say what these signed.
abbrev pub MakesRule : {K T : Type 0} → (K → Acceptance) → (Keys → Rule) → Result T NodeFault → Phase
    → (T → Phase) → Stage K → Stage K → List (Signing K) → Type 0
MakesRule accepts rule result starts ends old new signings =
    (b : Before) (made : List Entry) → KeysFit accepts b.keys (statements_of made) old.keys signings
    → Grows accepts old.keys signings → starts b made old.node (outside accepts old)
    → GoesOn result
    (λ x. ends x b (after_rule (rule b.keys) b made) new.node (outside accepts new)
    × (statements_of (after_rule (rule b.keys) b made)
    ≡ statements_of made ++ statements_in signings))
    (IsStopped b (after_rule (rule b.keys) b made) (statements_of made ++ statements_in signings)
    (accepts (keys_after old.keys signings)) old.tells new.moments)

-- the same of a call that writes nothing, over any disk on which the node is ready
abbrev pub MakesUnwritten : {K : Type 0} → (K → Acceptance) → (Keys → Rule) → Result (Unit {0}) NodeFault
    → Running → K → Out → Running → K → Out → List (Signing K) → Type 0
MakesUnwritten accepts rule result old keys out new now last signings =
    (tells : Bool) (moments : List State) → IsReady tells moments old
    → MakesRule accepts rule result Quiet (λ _. Quiet) (stage old keys tells moments out)
    (stage new now tells moments last) signings

-- one that signs nothing
abbrev pub AddsRule : {T : Type 0} → Acceptance → (Keys → Rule) → Result T NodeFault → Phase → (T → Phase)
    → Stage (Unit {0}) → Stage (Unit {0}) → Type 0
AddsRule accepts rule result starts ends old new =
    (b : Before) (made : List Entry) → starts b made old.node (outside (λ _. accepts) old)
    → GoesOn result (λ x. ends x b (after_rule (rule b.keys) b made) new.node (outside (λ _. accepts) new))
    (IsStopped b (after_rule (rule b.keys) b made) (statements_of made) accepts old.tells new.moments)

-- A call makes the step of an event, from what stood before it.
abbrev pub MakesStep : {K T : Type 0} → (K → Acceptance) → Event → Result T NodeFault → Stage K → Stage K
    → List (Signing K) → Type 0
MakesStep accepts event result old new signings =
    (b : Before) → KeysFit accepts b.keys [] old.keys signings → Grows accepts old.keys signings
    → Begins b old.node (outside accepts old)
    → GoesOn result
    (λ x. Makes b (step b.keys b.core event) act_of.Kept new.node (outside accepts new)
    × (statements_of (step b.keys b.core event) ≡ statements_in signings))
    (IsStopped b (step b.keys b.core event) (statements_in signings)
    (accepts (keys_after old.keys signings)) old.tells new.moments)

-- WHAT IS TOLD

-- the act is told that is due in this state, and the view has taken it
pub record TellsDue (accepts : Acceptance) (c : Core) (told : Act) (old new : Running) : Type 0 where
  pub id : new.id ≡ old.id
  pub store : new.store ≡ old.store
  pub found : new.found ≡ old.found
  pub view : new.view ≡ after_act told c.view
  pub due : duty_in told ≡ duty accepts c

-- a node stands in this state, and its view has taken the told act
pub record StandsIn (c : Core) (told : Act) (r : Running) : Type 0 where
  pub place : place_of r ≡ c.place
  pub view : r.view ≡ after_act told c.view
  pub placed : IsPlaced c

-- the told act is the one that is due where the node stands
pub record IsToldDue (accepts : Acceptance) (told : Act) (r : Running) : Type 0 where
  pub core : Core
  pub stands : StandsIn core told r
  pub due : duty_in told ≡ duty accepts core

-- a duty was done from wherever the node stood, and the act is told that is due then
pub record DoesOne (accepts : Acceptance) (d : Duty) (next : Act) (new : Running) (c : Core) : Type 0 where
  pub keys : Keys
  pub signed : List (List ℕ)
  pub stands : StandsIn (after_entries (does keys d signed c) c) next new
  pub due : duty_in next ≡ duty accepts (after_entries (does keys d signed c) c)

abbrev pub DoesDuty : Acceptance → Duty → Act → Act → Running → Running → Type 0
DoesDuty accepts d told next old new = (c : Core) → StandsIn c told old → DoesOne accepts d next new c

-- the view before the told act was taken
abbrev pub untold : Act → View → View
untold (act_of.Accept b) w = record w { accepted = None }
untold (act_of.Prepare d) w = record w { is_prepared = false }
untold (act_of.Deliver b cert) w = w
untold act_of.Kept w = w
untold (act_of.Nothing r) w = w

-- how much can still be due, the told act among it
abbrev pub still_with : Act → Running → ℕ
still_with told r = still_at (place_of r) (untold told r.view)

-- an answer tells an act that is to be done
abbrev pub tells_act : Act → Bool
tells_act told = is_some (duty_in told)

-- THE RULES of an act and of what was found

abbrev pub does_told : Keys → Option Duty → Rule
does_told keys None signed c = []
does_told keys (Some d) signed c = does keys d signed c

abbrev pub does_duty : Duty → Keys → Rule
does_duty d keys = does keys d

-- the told act
abbrev pub does_act : Act → Keys → Rule
does_act told keys = does_told keys (duty_in told)

-- what the opening found, where it is current
abbrev pub repeats_current : Option Found → Keys → Rule
repeats_current found keys signed c = repeats_found keys (current c.place c.view found) signed c
