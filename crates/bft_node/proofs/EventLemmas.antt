-- What comes to a node, and the step of the definition that begins with it.
use Rattle.std.proofs.Common.{
  ◌≡◌,
  ℕ,
  Bool,
  ◌==◌,
  List,
  [],
  ◌∷◌,
  ◌++◌,
  Option,
  Some,
  None,
  option_map,
  option_and_then,
  Result,
  Ok,
  Err,
  OnOk,
  OnErr,
  inl,
  inr,
  refl,
  sym,
  ap,
  subst,
  ◌∙◌,
}
use Rattle.std.proofs.lemmas.Bool.{cases_Bool, eq-eqb, ne_eqb}
use Rattle.std.proofs.lemmas.List.{append-nil}
use Rattle.ord_types.specs.Grammar.{IsNumber}
use Rattle.ord_types.specs.declared.values.Block.{Block}
use Rattle.ord_types.specs.declared.values.Place.{Place}
use Rattle.gate_log.specs.Disk.{State}
use Rattle.signer_edge.specs.Accepts.{Accepts}
use Rattle.safety_model.specs.Blocks.{Request}
use Rattle.bft_wire.specs.declared.reason.Reason.{Reason}
use Rattle.bft_wire.specs.Reading.{message_in}
use Rattle.bft_wire.specs.declared.message.Message.{Message}
use Rattle.bft_wire.specs.declared.message.Message.TheVariants as wire
use Rattle.block_ledger.specs.Chains.{IsChain}
use Rattle.block_ledger.specs.Places.{place_after}
use Rattle.view_model.specs.declared.act.Act.{Act}
use Rattle.view_model.specs.declared.act.Act.TheVariants as act_of
use Rattle.view_model.specs.declared.letter.Letter.{Letter}
use Rattle.view_model.specs.declared.letter.VoteMessage.{VoteMessage}
use Rattle.view_model.specs.declared.letter.VoteMessage.TheVariants as vote_of
use Rattle.view_model.specs.Acts.{View, accept_act, proposed}
use Rattle.view_model.specs.Answers.{
  accepts_nothing,
  act_or,
  after_act,
  after_due,
  after_prepare,
  after_propose,
  after_vote,
  at_place,
  due_answer,
  is_new,
  kept_after,
  prepare_answer,
  propose_answer,
  reason_or,
  vote_answer,
}
use Rattle.view_model.specs.Letters.{Commit, PrePrepare, Prepare, letter_in, vote_in}
use Rattle.node_model.specs.Cores.{Core, Found, after_event, after_letter}
use Rattle.node_model.specs.Entries.{Came, Entry, letter_brought, statements_of}
use Rattle.node_model.specs.declared.event.Event.{Event}
use Rattle.node_model.specs.declared.event.Event.TheVariants.{FromMember, Tick}
use Rattle.node_model.specs.Steps.{
  all_due,
  comes,
  duty,
  own_rule,
  preprepare_message,
  prepare_message,
  proposes,
  step,
}
use Rattle.node_model.specs.Laws.{IsPlaced}
use Rattle.node_model.proofs.EndLemmas.{all_placed}
use Rattle.view_core.specs.Places.{StandsAt}
use Rattle.bft_node.specs.Calls.{TellsDue, after_rule, repeats_current}
use Rattle.bft_node.specs.Held.{Held}
use Rattle.bft_node.specs.Making.{
  Around,
  Before,
  Begins,
  Makes,
  Tells,
  accepts_in,
  core_in,
  duty_in,
  place_in,
  view_in,
}
use Rattle.bft_node.specs.NodeFaults.{TouchesNoDisk}
use Rattle.bft_node.specs.Outcomes.{StaysSound}
use Rattle.bft_node.specs.Running.{IsReady, IsSound, as_found, place_of, state_of}
use Rattle.bft_node.specs.Stores.{config_of, held_of}
use Rattle.bft_node.specs.declared.live.Running.{Running}
use Rattle.bft_node.specs.declared.node_fault.NodeFault.{NodeFault}
use Rattle.bft_node.specs.declared.node_fault.NodeFault.TheVariants as node_of
use Rattle.bft_node.specs.declared.store.Store.{Store}
use Rattle.bft_node.proofs.MakingLemmas.{makes_as, makes_view, statements-append}
use Rattle.bft_node.proofs.ToldLemmas.{duty-same}
use Rattle.bft_node.proofs.ViewLemmas.{
  StandsAt-after_act,
  StandsAt-kept_after,
  at_place-at,
  due-prepared,
  duty_in-vote_answer,
  left-kept,
  left-prepared,
  me-after_act,
  me-kept_after,
}

-- A VIEW THAT CHANGED

pub view-after_act : (act : Act) (w : View) → (after_act act w).view ≡ w.view
view-after_act (act_of.Accept b) w = refl
view-after_act (act_of.Prepare d) w = refl
view-after_act (act_of.Deliver b cert) w = refl
view-after_act act_of.Kept w = refl
view-after_act (act_of.Nothing r) w = refl

pub view-kept_after : (accepts : Accepts) (place : Place) (w : View) (letter : Letter) → (kept_after accepts place w letter).view ≡ w.view
view-kept_after accepts place w letter =
    elim (cases_Bool (is_new accepts place w letter)) [ inl e ↦ rw e | inr e ↦ rw e ]

-- of the same member, where it stood, in the same view
pub record IsViewOf (r : Running) (w : View) : Type 0 where
  pub me : w.me ≡ r.view.me
  pub at : StandsAt (place_of r) w
  pub view : w.view ≡ r.view.view

pub same_view : (r : Running) → IsSound r → IsViewOf r r.view
same_view r s = record { me = refl; at = s.at; view = refl }

pub act_view : (r : Running) (act : Act) (w : View) → IsViewOf r w → IsViewOf r (after_act act w)
act_view r act w h = record { me = me-after_act act w ∙ h.me; at = StandsAt-after_act (place_of r) act w h.at; view = view-after_act act w ∙ h.view }

pub kept_view_of : (r : Running) (accepts : Accepts) (w : View) (letter : Letter) → IsViewOf r w → IsViewOf r (kept_after accepts (place_of r) w letter)
kept_view_of r accepts w letter h =
    record {
      me = me-kept_after accepts (place_of r) w letter ∙ h.me;
      at = StandsAt-kept_after accepts (place_of r) w letter h.at;
      view = view-kept_after accepts (place_of r) w letter ∙ h.view;
    }

abbrev pub with_view : Running → View → Running
with_view r w = record r { view = w }

pub view_sound : (r : Running) (w : View) → IsSound r → IsViewOf r w → IsSound (with_view r w)
view_sound r w s h =
    record {
      me = h.me ∙ s.me;
      place = s.place;
      at = h.at;
      config = s.config;
      view = subst (λ n. IsNumber n) (sym h.view) s.view;
    }

pub view_ready : (r : Running) (w : View) → IsViewOf r w → (tells : Bool) (moments : List State) → IsReady tells moments r → IsReady tells moments (with_view r w)
view_ready r w h tells moments ready = record { sound = view_sound r w ready.sound h; kept = ready.kept }

pub view_stays : (r : Running) (w : View) → IsSound r → IsViewOf r w → StaysSound r (with_view r w)
view_stays r w s h =
    record { same = record { id = refl; config = refl }; sound = view_sound r w s h; ready = view_ready r w h }

pub whatever : {T E : Type 0} (r : Result T E) (P Q R : Type 0) → OnOk r P → OnErr r Q → (P → R) → (Q → R) → R
whatever (Ok x) P Q R p q f g = f p
whatever (Err e) P Q R p q f g = g q

-- what a vote leaves, whatever is answered
pub vote_view : {T E : Type 0} (result : Result T E) (r : Running) (accepts : Accepts) (p : Place) (letter : Letter) (left : View) → IsSound r → p ≡ place_of r
    → OnOk result (left ≡ after_vote accepts p r.view letter) → OnErr result (left ≡ at_place p r.view) → IsViewOf r left
vote_view result r accepts p letter left s here ok err =
    let at = at_place-at (place_of r) r.view s.at in
    let kept : View = kept_after accepts (place_of r) r.view letter in
    whatever result (left ≡ after_vote accepts p r.view letter) (left ≡ at_place p r.view) (IsViewOf r left) ok err
    (λ e. subst (IsViewOf r)
    (sym (e ∙ ap (λ q. after_vote accepts q r.view letter) here ∙ ap (λ v. after_act (vote_answer accepts (place_of r) v letter) (kept_after accepts (place_of r) v letter)) at))
    (act_view r (vote_answer accepts (place_of r) r.view letter) kept (kept_view_of r accepts r.view letter (same_view r s))))
    (λ e. subst (IsViewOf r) (sym (e ∙ ap (λ q. at_place q r.view) here ∙ at)) (same_view r s))

-- what is left where the act that is due was asked for, whatever is answered
pub due_view : {T E : Type 0} (result : Result T E) (r : Running) (accepts : Accepts) (p : Place) (left : View)
    → IsSound r → p ≡ place_of r → OnOk result (left ≡ after_due accepts p r.view)
    → OnErr result (left ≡ at_place p r.view) → IsViewOf r left
due_view result r accepts p left s here ok err =
    let at = at_place-at (place_of r) r.view s.at in
    whatever result (left ≡ after_due accepts p r.view) (left ≡ at_place p r.view) (IsViewOf r left) ok err
    (λ e. subst (IsViewOf r)
    (sym (e ∙ ap (λ q. after_due accepts q r.view) here
    ∙ ap (λ v. after_act (due_answer accepts (place_of r) v) v) at))
    (act_view r (due_answer accepts (place_of r) r.view) r.view (same_view r s)))
    (λ e. subst (IsViewOf r) (sym (e ∙ ap (λ q. at_place q r.view) here ∙ at)) (same_view r s))

-- WHERE A STEP BEGINS

-- the state of a node that heard an event
abbrev pub heard : Event → Accepts → Running → Core
heard event accepts r = after_event event accepts (state_of r)

me-after_letter : (o : Option Letter) (accepts : Accepts) (p : Place) (w : View) → (after_letter o accepts p w).me ≡ w.me
me-after_letter None accepts p w = refl
me-after_letter (Some letter) accepts p w =
    elim (cases_Bool (letter.from == w.me)) [
      | inl e ↦ rw e refl
      | inr e ↦ rw e (me-kept_after accepts p w letter)
    ]

-- as in the step of the definition
heard_as : (b : Before) (r : Running) (a : Around) (event : Event) → Begins b r a
    → heard event a.accepts r ≡ core_in b (comes b.keys event [] b.core)
heard_as b r a event h =
    ap (λ (k : Accepts). heard event k r) (sym h.accepts)
    ∙ ap (λ (c : Core). after_event event (b.keys.accepts []) c) h.core

pub begun : (b : Before) (r new : Running) (a : Around) (event : Event) (told : Act) → Begins b r a → r.view.me ≡ r.id
    → new.id ≡ r.id → new.store ≡ r.store → as_found new.found ≡ (heard event a.accepts r).found
    → new.view ≡ after_act told (heard event a.accepts r).view → Makes b (comes b.keys event [] b.core) told new a
begun b r new a event told h mine id store found view =
    let e = heard_as b r a event h in
    let first : IsChain b.first b.config b.held.blocks → IsChain a.accepts b.config (held_of r.store).blocks = λ began.
    subst (λ (x : Held). IsChain a.accepts b.config x.blocks) (sym h.held)
    (subst (λ (k : Accepts). IsChain k b.config b.held.blocks) h.first began) in
    record {
      id = id ∙ h.id;
      config = ap config_of store ∙ h.config;
      place = ap (λ (s : Store). place_after (config_of s) (held_of s).blocks) store ∙ ap (λ (c : Core). c.place) e;
      view = view ∙ ap (λ (c : Core). after_act told c.view) e;
      me = ap (λ (c : Core). c.view.me) (sym e)
          ∙ me-after_letter (letter_brought event) a.accepts (place_of r) r.view ∙ mine ∙ h.id;
      found = found ∙ ap (λ (c : Core). c.found) e;
      held = ap held_of store ∙ h.held;
      facts = h.facts;
      sends = h.sends;
      done = h.done;
      accepts = h.accepts;
      chain = λ began. subst (λ (s : Store). IsChain a.accepts b.config (held_of s).blocks) (sym store) (first began);
      went = λ began judge keeps told. record { added = []; is = h.moments; each = tt };
    }

-- what it holds of its view is of its place
pub heard_placed : (event : Event) (accepts : Accepts) (r : Running) → StandsAt (place_of r) r.view
    → IsPlaced (heard event accepts r)
heard_placed event accepts r at = all_placed (Came event accepts ∷ []) (state_of r) at.height

-- with the act that is due then
pub begun_told : (b : Before) (r new : Running) (a : Around) (from : ℕ) (bytes : List ℕ) (told : Act) (accepts : Accepts)
    → accepts ≡ a.accepts → Begins b r a → r.view.me ≡ r.id
    → TellsDue accepts (heard (FromMember from bytes) accepts r) told r new
    → Tells b (comes b.keys (FromMember from bytes) [] b.core) told new a
begun_told b r new a from bytes told accepts is h mine t =
    let event : Event = FromMember from bytes in
    let same = ap (λ (k : Accepts). heard event k r) is in
    let e = same ∙ heard_as b r a event h in
    record {
      makes = begun b r new a event told h mine t.id t.store (ap as_found t.found)
          (t.view ∙ ap (λ (c : Core). after_act told c.view) same);
      due = t.due ∙ ap (λ (k : Accepts). duty k (heard event accepts r)) (is ∙ sym h.accepts)
          ∙ ap (λ (c : Core). duty (b.keys.accepts []) c) e;
    }

-- a message that came, and nothing was told yet
pub message_begun : (b : Before) (r : Running) (a : Around) (from : ℕ) (bytes : List ℕ) → Begins b r a
    → r.view.me ≡ r.id
    → Makes b (comes b.keys (FromMember from bytes) [] b.core) act_of.Kept
    (record r { view = (heard (FromMember from bytes) a.accepts r).view }) a
message_begun b r a from bytes h mine =
    begun b r (record r { view = (heard (FromMember from bytes) a.accepts r).view }) a (FromMember from bytes) act_of.Kept h
    mine refl refl refl refl

-- a tick takes what was found
pub tick_begun : (b : Before) (r : Running) (a : Around) (offer : List Request) → Begins b r a → r.view.me ≡ r.id
    → Makes b (comes b.keys (Tick offer) [] b.core) act_of.Kept (record r { found = None }) a
tick_begun b r a offer h mine =
    begun b r (record r { found = None }) a (Tick offer) act_of.Kept h mine refl refl refl refl

-- THE STEP OF THE DEFINITION

pub message_step : (b : Before) (from : ℕ) (bytes : List ℕ)
    → after_rule (all_due b.keys) b (comes b.keys (FromMember from bytes) [] b.core)
    ≡ step b.keys b.core (FromMember from bytes)
unfolding step
message_step b from bytes = refl

abbrev pub ticked : Before → Running → List Request → List Entry
ticked b r offer =
    after_rule (repeats_current (as_found r.found) b.keys) b (comes b.keys (Tick offer) [] b.core)

abbrev pub offered_in : Before → Running → List Request → List Entry
offered_in b r offer = after_rule (own_rule (Tick offer)) b (ticked b r offer)

abbrev ticks_with : Before → List Request → Option Found → List Entry
ticks_with b offer found =
    after_rule (all_due b.keys) b (after_rule (own_rule (Tick offer)) b
    (after_rule (repeats_current found b.keys) b (comes b.keys (Tick offer) [] b.core)))

ticks_are : (b : Before) (offer : List Request) → ticks_with b offer b.core.found ≡ step b.keys b.core (Tick offer)
unfolding step
ticks_are b offer = refl

pub tick_step : (b : Before) (r : Running) (a : Around) (offer : List Request) → Begins b r a
    → after_rule (all_due b.keys) b (offered_in b r offer) ≡ step b.keys b.core (Tick offer)
tick_step b r a offer h =
    ap (λ (f : Option Found). ticks_with b offer f) (ap (λ (c : Core). c.found) h.core) ∙ ticks_are b offer

-- nothing is signed for a proposal
proposal_said : (made : List Entry) (o : Option Block) (c : Core) → statements_of (made ++ proposes o c) ≡ statements_of made
proposal_said made None c = ap (λ (l : List Entry). statements_of l) (append-nil made)
proposal_said made (Some block) c = statements-append made (proposes (Some block) c) ∙ append-nil (statements_of made)

pub proposes_said : (b : Before) (made : List Entry) (offer : List Request)
    → statements_of (after_rule (own_rule (Tick offer)) b made) ≡ statements_of made
proposes_said b made offer =
    proposal_said made (proposed (place_in b made) (view_in b made) offer) (core_in b made)

-- A LETTER

abbrev pub letter_of : ℕ → VoteMessage → Letter
letter_of from message = record { from = from; message = message }

-- what is no vote message brings nothing
pub not_vote : (message : Message) → ((x : PrePrepare) → message ≡ wire.PrePrepare x → ⊥) → ((x : Prepare) → message ≡ wire.Prepare x → ⊥) → ((x : Commit) → message ≡ wire.Commit x → ⊥) → vote_in message ≡ None
not_vote (wire.PrePrepare x) p q r = absurd (p x refl)
not_vote (wire.Prepare x) p q r = absurd (q x refl)
not_vote (wire.Commit x) p q r = absurd (r x refl)
not_vote _ p q r = refl

pub no_message : (from : ℕ) (bytes : List ℕ) → message_in bytes ≡ None → letter_in from bytes ≡ None
no_message from bytes e = ap (λ o. option_map (letter_of from) (option_and_then vote_in o)) e

pub no_letter : (from : ℕ) (bytes : List ℕ) (message : Message) → message_in bytes ≡ Some message → vote_in message ≡ None → letter_in from bytes ≡ None
no_letter from bytes message e none = ap (λ o. option_map (letter_of from) (option_and_then vote_in o)) e ∙ ap (λ o. option_map (letter_of from) o) none

pub a_letter : (from : ℕ) (bytes : List ℕ) (message : Message) (vote : VoteMessage) → message_in bytes ≡ Some message → vote_in message ≡ Some vote → letter_in from bytes ≡ Some (letter_of from vote)
a_letter from bytes message vote e is = ap (λ o. option_map (letter_of from) (option_and_then vote_in o)) e ∙ ap (λ o. option_map (letter_of from) o) is

-- what a node hears: nothing from bytes that spell no vote
pub hears_none : (r : Running) (accepts : Accepts) (from : ℕ) (bytes : List ℕ) → letter_in from bytes ≡ None
    → (heard (FromMember from bytes) accepts r).view ≡ r.view
hears_none r accepts from bytes e = ap (λ o. after_letter o accepts (place_of r) r.view) e

own_letter : (from : ℕ) (o : Option VoteMessage) (accepts : Accepts) (p : Place) (w : View) → from ≡ w.me
    → after_letter (option_map (letter_of from) o) accepts p w ≡ w
own_letter from None accepts p w e = refl
own_letter from (Some vote) accepts p w e = rw (eq-eqb from w.me e) refl

-- nor in the own name
pub hears_own : (r : Running) (accepts : Accepts) (from : ℕ) (bytes : List ℕ) → from ≡ r.view.me
    → (heard (FromMember from bytes) accepts r).view ≡ r.view
hears_own r accepts from bytes e =
    own_letter from (option_and_then vote_in (message_in bytes)) accepts (place_of r) r.view e

other_letter : (letter : Letter) (accepts : Accepts) (p : Place) (w : View) → (letter.from ≡ w.me → ⊥)
    → after_letter (Some letter) accepts p w ≡ kept_after accepts p w letter
other_letter letter accepts p w other = rw (ne_eqb letter.from w.me other) refl

pub hears_other : (r : Running) (accepts : Accepts) (from : ℕ) (bytes : List ℕ) (vote : VoteMessage)
    → letter_in from bytes ≡ Some (letter_of from vote) → (from ≡ r.view.me → ⊥)
    → (heard (FromMember from bytes) accepts r).view ≡ kept_after accepts (place_of r) r.view (letter_of from vote)
hears_other r accepts from bytes vote e other =
    ap (λ o. after_letter o accepts (place_of r) r.view) e
    ∙ other_letter (letter_of from vote) accepts (place_of r) r.view other

-- WHAT IS TOLD

-- of what a view tells that was asked again, where it stands as the event leaves it
pub asked_again : (r mid new : Running) (accepts : Accepts) (event : Event) (told : Act) → mid.id ≡ r.id
    → mid.store ≡ r.store → mid.found ≡ r.found → (heard event accepts r).view ≡ mid.view
    → TellsDue accepts (state_of mid) told mid new → TellsDue accepts (heard event accepts r) told r new
asked_again r mid new accepts event told id store found e t =
    record {
      id = t.id ∙ id;
      store = t.store ∙ store;
      found = t.found ∙ found;
      view = t.view ∙ ap (λ (w : View). after_act told w) (sym e);
      due = t.due ∙ duty-same accepts accepts (state_of mid) (heard event accepts r) refl
          (ap (λ (s : Store). place_after (config_of s) (held_of s).blocks) store) (sym e);
    }

-- a proposal or a Commit of another member
pub vote_told : (r : Running) (left : View) (from : ℕ) (bytes : List ℕ) (message : Message) (vote : VoteMessage)
    (told : Act) (accepts : Accepts) (p : Place) → IsSound r → (from ≡ r.id → ⊥) → p ≡ place_of r
    → told ≡ vote_answer accepts p (at_place p r.view) (letter_of from vote)
    → left ≡ after_vote accepts p r.view (letter_of from vote) → message_in bytes ≡ Some message
    → vote_in message ≡ Some vote
    → TellsDue accepts (heard (FromMember from bytes) accepts r) told r (with_view r left)
vote_told r left from bytes message vote told accepts p s other here answer after spelt voted =
    let letter : Letter = letter_of from vote in
    let at = at_place-at (place_of r) r.view s.at in
    let kept : View = kept_after accepts (place_of r) r.view letter in
    let told_here : told ≡ vote_answer accepts (place_of r) r.view letter =
    answer ∙ ap (λ q. vote_answer accepts q (at_place q r.view) letter) here
    ∙ ap (λ v. vote_answer accepts (place_of r) v letter) at in
    let left_here : left ≡ after_act told kept =
    after ∙ ap (λ q. after_vote accepts q r.view letter) here
    ∙ ap (λ v. after_act (vote_answer accepts (place_of r) v letter) (kept_after accepts (place_of r) v letter)) at
    ∙ ap (λ t. after_act t kept) (sym told_here) in
    let came = hears_other r accepts from bytes vote (a_letter from bytes message vote spelt voted)
    (λ e. other (e ∙ s.me)) in
    record {
      id = refl;
      store = refl;
      found = refl;
      view = left_here ∙ ap (λ (w : View). after_act told w) (sym came);
      due = ap duty_in told_here ∙ duty_in-vote_answer accepts (state_of r) letter
          ∙ duty-same accepts accepts (record (state_of r) { view = kept }) (heard (FromMember from bytes) accepts r) refl
          refl (sym came);
    }

-- A PREPARE of another member

module _ (r : Running) (left : View) (from : ℕ) (message : Prepare) (told : Act) (p : Place)
    (s : IsSound r) (other : from ≡ r.id → ⊥) (here : p ≡ place_of r) (answer : told ≡ prepare_answer p (at_place p r.view) (letter_of from (vote_of.Prepare message)))
    (after : left ≡ after_prepare p r.view (letter_of from (vote_of.Prepare message))) where
  answer_here : told ≡ prepare_answer (place_of r) (at_place (place_of r) r.view) (letter_of from (vote_of.Prepare message))
  answer_here = answer ∙ ap (λ q. prepare_answer q (at_place q r.view) (letter_of from (vote_of.Prepare message))) here

  after_here : left ≡ after_prepare (place_of r) r.view (letter_of from (vote_of.Prepare message))
  after_here = after ∙ ap (λ q. after_prepare q r.view (letter_of from (vote_of.Prepare message))) here

  pub prepare_view : IsViewOf r left
  prepare_view =
      let letter : Letter = letter_of from (vote_of.Prepare message) in
      let kept : View = kept_after accepts_nothing (place_of r) r.view letter in
      let moved = ap (λ v. after_act (prepare_answer (place_of r) v letter) (kept_after accepts_nothing (place_of r) v letter)) (at_place-at (place_of r) r.view s.at) in
      subst (IsViewOf r) (sym (after_here ∙ moved)) (act_view r (prepare_answer (place_of r) r.view letter) kept (kept_view_of r accepts_nothing r.view letter (same_view r s)))

  module _ (accepts : Accepts) (bytes : List ℕ) (spelt : message_in bytes ≡ Some (wire.Prepare message)) where
    abbrev kept : View
    kept = kept_after accepts (place_of r) r.view (letter_of from (vote_of.Prepare message))

    prepare_came : (heard (FromMember from bytes) accepts r).view ≡ kept
    prepare_came =
        hears_other r accepts from bytes (vote_of.Prepare message)
        (a_letter from bytes (wire.Prepare message) (vote_of.Prepare message) spelt refl) (λ e. other (e ∙ s.me))

    pub prepare_told : (digest : List ℕ) → told ≡ act_of.Prepare digest
        → TellsDue accepts (heard (FromMember from bytes) accepts r) (act_of.Prepare digest) r (with_view r left)
    prepare_told digest e =
        record {
          id = refl;
          store = refl;
          found = refl;
          view = left-prepared accepts (place_of r) r.view from message told left s.at answer_here after_here digest e
              ∙ ap (λ (w : View). after_act (act_of.Prepare digest) w) (sym prepare_came);
          due = due-prepared accepts (place_of r) r.view from message told left s.at answer_here after_here digest e
              (as_found r.found)
              ∙ duty-same accepts accepts (record (state_of r) { view = kept })
              (heard (FromMember from bytes) accepts r) refl refl (sym prepare_came);
        }

    pub prepare_kept : ((digest : List ℕ) → told ≡ act_of.Prepare digest → ⊥)
        → (heard (FromMember from bytes) accepts r).view ≡ left
    prepare_kept none =
        prepare_came
        ∙ sym (left-kept accepts (place_of r) r.view from message told left s.at answer_here after_here none)

-- want of memory is no limit
pub no_memory : (fault : NodeFault) → fault ≡ node_of.NoMemory → TouchesNoDisk fault
no_memory fault e = subst TouchesNoDisk (sym e) tt

-- A PROPOSAL

offer_taken : (o : Option Block) (reasons : Option Reason) (last : Reason) (block : Block) → act_or (accept_act o) (reason_or reasons last) ≡ act_of.Accept block → o ≡ Some block
offer_taken (Some x) reasons last block e = cc
offer_taken None None last block e = cc
offer_taken None (Some reason) last block e = cc

offer_left : (o : Option Block) (reasons : Option Reason) (last : Reason) (w : View) → ((x : Block) → act_or (accept_act o) (reason_or reasons last) ≡ act_of.Accept x → ⊥)
    → (o ≡ None) × (after_act (act_or (accept_act o) (reason_or reasons last)) w ≡ w)
offer_left (Some x) reasons last w h = absurd (h x refl)
offer_left None None last w h = (refl, refl)
offer_left None (Some reason) last w h = (refl, refl)

-- what a proposal leaves, whatever is answered
pub propose_view : {T E : Type 0} (result : Result T E) (r : Running) (p : Place) (offer : List Request) (left : View) → IsSound r → p ≡ place_of r
    → OnOk result (left ≡ after_propose p r.view offer) → OnErr result (left ≡ at_place p r.view) → IsViewOf r left
propose_view result r p offer left s here ok err =
    let at = at_place-at (place_of r) r.view s.at in
    whatever result (left ≡ after_propose p r.view offer) (left ≡ at_place p r.view) (IsViewOf r left) ok err
    (λ e. subst (IsViewOf r)
    (sym (e ∙ ap (λ q. after_propose q r.view offer) here ∙ ap (λ v. after_act (propose_answer (place_of r) v offer) v) at))
    (act_view r (propose_answer (place_of r) r.view offer) r.view (same_view r s)))
    (λ e. subst (IsViewOf r) (sym (e ∙ ap (λ q. at_place q r.view) here ∙ at)) (same_view r s))

module _ (b : Before) (made : List Entry) (r : Running) (a : Around) (h : Makes b made act_of.Kept r a) (s : IsSound r)
    (offer : List Request) (left : View) (told : Act) (p : Place) (here : p ≡ place_of r)
    (answer : told ≡ propose_answer p (at_place p r.view) offer) (after : left ≡ after_propose p r.view offer) where
  answers : told ≡ propose_answer (place_of r) r.view offer
  answers =
      answer ∙ ap (λ q. propose_answer q (at_place q r.view) offer) here
      ∙ ap (λ v. propose_answer (place_of r) v offer) (at_place-at (place_of r) r.view s.at)

  leaves : left ≡ after_act told r.view
  leaves =
      after ∙ ap (λ q. after_propose q r.view offer) here
      ∙ ap (λ v. after_act (propose_answer (place_of r) v offer) v) (at_place-at (place_of r) r.view s.at)
      ∙ ap (λ t. after_act t r.view) (sym answers)

  offered : proposed (place_of r) r.view offer ≡ proposed (place_in b made) (view_in b made) offer
  offered = ap (λ q. proposed q r.view offer) h.place ∙ ap (λ v. proposed (place_in b made) v offer) h.view

  module _ (block : Block) (is : told ≡ act_of.Accept block) where
    pub proposed_makes : Makes b made (act_of.Accept block) (with_view r left) a
    proposed_makes =
        makes_view b made act_of.Kept (act_of.Accept block) r (with_view r left) a h refl refl refl
        (leaves ∙ ap (λ t. after_act t r.view) is ∙ ap (λ v. after_act (act_of.Accept block) v) h.view)

    pub proposed_as : after_rule (λ signed c. proposes (Some block) c) b made ≡ after_rule (own_rule (Tick offer)) b made
    proposed_as =
        sym (ap (λ o. made ++ proposes o (core_in b made))
        (sym offered ∙ offer_taken (proposed (place_of r) r.view offer) _ _ block (sym answers ∙ is)))

  module _ (none : (x : Block) → told ≡ act_of.Accept x → ⊥) where
    kept_offer : (proposed (place_of r) r.view offer ≡ None)
        × (after_act (propose_answer (place_of r) r.view offer) r.view ≡ r.view)
    kept_offer = offer_left (proposed (place_of r) r.view offer) _ _ r.view (λ x e. none x (answers ∙ e))

    pub unproposed_makes : Makes b (after_rule (own_rule (Tick offer)) b made) act_of.Kept (with_view r left) a
    unproposed_makes =
        let same = ap (λ o. made ++ proposes o (core_in b made)) (sym offered ∙ kept_offer.0) ∙ append-nil made in
        makes_as b made (after_rule (own_rule (Tick offer)) b made) act_of.Kept (with_view r left) a (sym same)
        (makes_view b made act_of.Kept act_of.Kept r (with_view r left) a h refl refl refl
        (leaves ∙ ap (λ t. after_act t r.view) answers ∙ kept_offer.1 ∙ h.view))

-- the proposal goes before the Prepare
abbrev pub proposal_texts : Block → Place → View → List Message
proposal_texts block p w = preprepare_message p w block ∷ prepare_message p w block ∷ []
