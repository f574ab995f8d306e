-- A step so far, one front of its entries after another.
use Rattle.std.proofs.Common.{
  ◌≡◌,
  ℕ,
  zero,
  suc,
  ◌+◌,
  ◌≤◌,
  Bool,
  List,
  [],
  ◌∷◌,
  ◌++◌,
  length,
  take,
  map,
  slice_get,
  Some,
  Result,
  Ok,
  Err,
  IfOk,
  OnOk,
  IsTrue,
  IsErrAnd,
  refl,
  sym,
  ap,
  subst,
  ◌∙◌,
  arith,
  append_assoc,
  length-append,
}
use Rattle.std.specs.List.{flat_map}
use Rattle.std.proofs.Math.Seq.{take-append_seam, take-length}
use Rattle.std.proofs.lemmas.List.{append-nil, map-append, take-append-le}
use Rattle.std.proofs.lemmas.List.Concat.{flat_map-append}
use Rattle.std.proofs.lemmas.Option.{slice_get_within}
use Rattle.gate_log.specs.Disk.{State, now}
use Rattle.gate_log.specs.Runs.{Throughout}
use Rattle.safety_model.specs.declared.fact.Fact.{Fact}
use Rattle.ord_types.specs.declared.values.Config.{Config}
use Rattle.ord_types.specs.declared.values.Place.{Place}
use Rattle.signer_edge.specs.Accepts.{Accepts}
use Rattle.signer_edge.specs.Signing.{KeepsAccepted}
use Rattle.block_ledger.specs.Chains.{IsChain, Entry as Stored}
use Rattle.block_ledger.specs.Places.{place_after}
use Rattle.block_ledger.proofs.Linking.{chain_stays}
use Rattle.view_model.specs.declared.act.Act.{Act}
use Rattle.view_model.specs.declared.act.Act.TheVariants as act_of
use Rattle.view_model.specs.Acts.{View}
use Rattle.view_model.specs.Answers.{after_act}
use Rattle.node_model.specs.Cores.{Core, Found, after_entries}
use Rattle.node_model.specs.Entries.{
  Deed,
  Entry,
  deeds_in,
  deeds_of,
  facts_in,
  facts_of,
  posts_in,
  posts_of,
  statements_in,
  statements_of,
  stored_in,
  stored_of,
}
use Rattle.node_model.proofs.RuleLemmas.{after_append}
use Rattle.bft_node.specs.Crashes.{Image, IsCrash, Opens, Within}
use Rattle.bft_node.specs.Held.{Held, with_deed, with_deeds}
use Rattle.bft_node.specs.Making.{
  Around,
  Before,
  GoesOn,
  GoesWithin,
  IsFront,
  IsStopped,
  LeavesMade,
  Makes,
  OpensMade,
  Sent,
  Tells,
  around,
  core_in,
  done_in,
  done_of,
  place_in,
  sends_of,
  text_of,
  view_in,
}
use Rattle.bft_node.specs.NodeFaults.{HasLimit, NeedsLimit, NeedsMore, TouchesNoDisk}
use Rattle.bft_node.specs.Running.{as_found, place_of}
use Rattle.bft_node.specs.Stores.{IsKept, config_of, held_of}
use Rattle.bft_node.specs.declared.live.Done.{Done}
use Rattle.bft_node.specs.declared.live.Out.{Out}
use Rattle.bft_node.specs.declared.live.Running.{Running}
use Rattle.bft_node.specs.declared.node_fault.NodeFault.{NodeFault}
use Rattle.bft_node.specs.declared.node_fault.NodeFault.TheVariants as node_of
use Rattle.bft_node.specs.declared.store.Store.{Store}
use Rattle.bft_node.proofs.Running.{runs_within, store_opens}

pub IfOk-with : {T E : Type 0} (r : Result T E) (P S : T → Type 0) (Q : Type 0) → ((x : T) → P x → Q → S x)
    → IfOk r P → OnOk r Q → IfOk r S
IfOk-with (Ok x) P S Q f p q = f x p q
IfOk-with (Err e) P S Q f p q = tt

-- LISTS

abbrev pub front_of : {A : Type 0} (xs : List A) → IsFront xs xs
front_of xs = ([], append-nil xs)

abbrev pub front_then : {A : Type 0} (xs ys zs : List A) → IsFront xs ys → IsFront ys zs → IsFront xs zs
front_then xs ys zs f g = (f.0 ++ g.0, sym (append_assoc xs f.0 g.0) ∙ ap (λ l. l ++ g.0) f.1 ∙ g.1)

pub with_deeds-append : (xs ys : List Deed) (held : Held)
    → with_deeds (xs ++ ys) held ≡ with_deeds ys (with_deeds xs held)
with_deeds-append [] ys held = refl
with_deeds-append (x ∷ xs) ys held = with_deeds-append xs ys (with_deed x held)

-- THE PIECES of one list of entries and another

pub deeds-append : (made more : List Entry) → deeds_of (made ++ more) ≡ deeds_of made ++ deeds_of more
deeds-append made more = flat_map-append deeds_in made more

pub statements-append : (made more : List Entry)
    → statements_of (made ++ more) ≡ statements_of made ++ statements_of more
statements-append made more = flat_map-append statements_in made more

facts-append : (made more : List Entry) → facts_of (made ++ more) ≡ facts_of made ++ facts_of more
facts-append made more = flat_map-append facts_in made more

pub sends-append : (made more : List Entry) → sends_of (made ++ more) ≡ sends_of made ++ sends_of more
sends-append made more =
    ap (λ l. map text_of l) (flat_map-append posts_in made more) ∙ map-append text_of (posts_of made) (posts_of more)

done-append : (made more : List Entry) → done_in (made ++ more) ≡ done_in made ++ done_in more
done-append made more =
    ap (λ l. map done_of l) (flat_map-append stored_in made more)
    ∙ map-append done_of (stored_of made) (stored_of more)

pub core-append : (b : Before) (made more : List Entry)
    → core_in b (made ++ more) ≡ after_entries more (core_in b made)
core-append b made more = after_append made more b.core

-- WITHIN A STEP

-- within what is made so far is within what is made further
pub goes_within : (b : Before) (made more : List Entry) (accepts : Accepts) (tells : Bool) (moments : List State)
    → GoesWithin b made accepts tells moments → GoesWithin b (made ++ more) accepts tells moments
goes_within b made more accepts tells moments went = λ began judge keeps told.
    subst (λ ds. Throughout (Within judge b.config ds b.held) b.moments moments) (sym (deeds-append made more))
    (runs_within judge b.config (deeds_of made) (deeds_of more) b.held b.moments moments (went began judge keeps told))

-- more may be accepted
pub goes_accepting : (b : Before) (made : List Entry) (old new : Accepts) (tells : Bool) (moments : List State)
    → KeepsAccepted old new → GoesWithin b made old tells moments → GoesWithin b made new tells moments
goes_accepting b made old new tells moments more went = λ began judge keeps told.
    went began judge (λ statement sig h. keeps statement sig (more statement sig h)) told

-- WHAT A STEP THAT WAS GIVEN UP LEAVES

opens_more : (judge : Accepts) (c : Config) (made more : List Entry) (held : Held) (signed : List (List ℕ))
    (image : Image) → OpensMade judge c made held signed image → OpensMade judge c (made ++ more) held signed image
opens_more judge c made more held signed image o =
    let same = take-append-le o.cut made more o.some in
    record {
      cut = o.cut;
      some = omega (arith, o.some, length-append made more);
      opens = subst (λ (l : List Entry). Opens judge c image (with_deeds (deeds_of l) held)) (sym same) o.opens;
      signatures = o.signatures ∙ ap (λ (l : List Entry). statements_of l) (sym same);
    }

leaves_more : (b : Before) (made more : List Entry) (signed : List (List ℕ)) (accepts : Accepts) (tells : Bool)
    (moments : List State) → LeavesMade b made signed accepts tells moments
    → LeavesMade b (made ++ more) signed accepts tells moments
leaves_more b made more signed accepts tells moments left = λ began judge keeps told image crash.
    opens_more judge b.config made more b.held signed image (left began judge keeps told image crash)

-- a kept store opens to the deeds that it holds, whatever was signed since
pub kept_opens : (b : Before) (store : Store) (made : List Entry) (accepts judge : Accepts) (state : State)
    → config_of store ≡ b.config → held_of store ≡ with_deeds (deeds_of made) b.held → IsKept store state
    → IsChain accepts b.config (held_of store).blocks → KeepsAccepted accepts judge → (image : Image)
    → IsCrash state image → OpensMade judge b.config made b.held (statements_of made) image
kept_opens b store made accepts judge state config held kept chain keeps image crash =
    let here : IsChain judge (config_of store) (held_of store).blocks =
    subst (λ (c : Config). IsChain judge c (held_of store).blocks) (sym config)
    (chain_stays accepts judge b.config (held_of store).blocks keeps chain) in
    let opens : Opens judge b.config image (held_of store) =
    subst (λ (c : Config). Opens judge c image (held_of store)) config
    (store_opens judge store state kept here image crash) in
    let all = sym (take-length made) in
    record {
      cut = length made;
      some = omega arith;
      opens = subst (λ (x : Held). Opens judge b.config image x)
          (held ∙ ap (λ (l : List Entry). with_deeds (deeds_of l) b.held) all) opens;
      signatures = ap (λ (l : List Entry). statements_of l) all;
    }

-- A FAULT'S LIMIT

-- a call that makes nothing durable
pub unlimited : (tells : Bool) (held : Held) (deeds : List Deed) (fault : NodeFault) → TouchesNoDisk fault
    → HasLimit tells held deeds fault
unlimited tells held deeds node_of.Closed h = tt
unlimited tells held deeds (node_of.Limit n) h = absurd h
unlimited tells held deeds node_of.NoMemory h = tt
unlimited tells held deeds node_of.Disk h = absurd h
unlimited tells held deeds node_of.Sign h = tt

get-append : {A : Type 0} (xs ys : List A) (k : ℕ) (x : A) → slice_get xs k ≡ Some x
    → slice_get (xs ++ ys) k ≡ Some x
get-append [] ys k x e = absurd (cc)
get-append (y ∷ xs) ys zero x e = e
get-append (y ∷ xs) ys (suc k) x e = get-append xs ys k x e

get-seam : {A : Type 0} (xs ys : List A) (x : A) → slice_get (xs ++ x ∷ ys) (length xs) ≡ Some x
get-seam [] ys x = refl
get-seam (y ∷ xs) ys x = get-seam xs ys x

-- of a step that has made more
limit_more : (tells : Bool) (held : Held) (deeds more : List Deed) (fault : NodeFault)
    → HasLimit tells held deeds fault → HasLimit tells held (deeds ++ more) fault
limit_more tells held deeds more node_of.Closed h = tt
limit_more tells held deeds more (node_of.Limit n) h =
    let below : h.0 ≤ length deeds = omega (arith, slice_get_within deeds h.0 h.1 h.2) in (
      h.0,
      h.1,
      get-append deeds more h.0 h.1 h.2,
      subst (λ (l : List Deed). NeedsMore tells n h.1 (with_deeds l held))
          (sym (take-append-le h.0 deeds more below)) h.3,
    )
limit_more tells held deeds more node_of.NoMemory h = tt
limit_more tells held deeds more node_of.Disk h = omega (arith, length-append deeds more, h)
limit_more tells held deeds more node_of.Sign h = tt

-- of the deed that is to come
pub limit_of : (tells : Bool) (held there : Held) (deeds : List Deed) (deed : Deed) (fault : NodeFault)
    → there ≡ with_deeds deeds held → NeedsLimit tells deed there fault
    → HasLimit tells held (deeds ++ deed ∷ []) fault
limit_of tells held there deeds deed node_of.Closed e h = tt
limit_of tells held there deeds deed (node_of.Limit n) e h = (
  length deeds,
  deed,
  get-seam deeds [] deed,
  subst (λ (x : Held). NeedsMore tells n deed x)
      (e ∙ ap (λ (l : List Deed). with_deeds l held) (sym (take-append_seam deeds (deed ∷ [])))) h,
)
limit_of tells held there deeds deed node_of.NoMemory e h = tt
limit_of tells held there deeds deed node_of.Disk e h = omega (arith, length-append deeds (deed ∷ []))
limit_of tells held there deeds deed node_of.Sign e h = tt

-- A STEP THAT WAS GIVEN UP

-- of a step that is to make more
pub stopped_more : (b : Before) (made more : List Entry) (signed : List (List ℕ)) (accepts : Accepts) (tells : Bool)
    (moments : List State) (fault : NodeFault) → IsStopped b made signed accepts tells moments fault
    → IsStopped b (made ++ more) signed accepts tells moments fault
stopped_more b made more signed accepts tells moments fault s =
    record {
      went = goes_within b made more accepts tells moments s.went;
      left = leaves_more b made more signed accepts tells moments s.left;
      signed_first = front_then signed (statements_of made) (statements_of (made ++ more)) s.signed_first
          (statements_of more, sym (statements-append made more));
      limit = subst (λ (ds : List Deed). HasLimit tells b.held ds fault) (sym (deeds-append made more))
          (limit_more tells b.held (deeds_of made) (deeds_of more) fault s.limit);
    }

-- Given up in a call that makes nothing durable, with these signatures made and this accepted after them. The
-- store is kept.
pub stopped_signed : (b : Before) (made signs : List Entry) (told : Act) (r : Running) (a : Around) (accepts : Accepts)
    (fault : NodeFault) → deeds_of signs ≡ [] → Makes b made told r a → (IsTrue a.tells → IsKept r.store (now a.moments))
    → KeepsAccepted a.accepts accepts → TouchesNoDisk fault
    → IsStopped b (made ++ signs) (statements_of (made ++ signs)) accepts a.tells a.moments fault
stopped_signed b made signs told r a accepts fault none h kept grows no_disk =
    let same : deeds_of made ≡ deeds_of (made ++ signs) =
    sym (deeds-append made signs ∙ ap (λ (l : List Deed). deeds_of made ++ l) none ∙ append-nil (deeds_of made)) in
    record {
      went = goes_accepting b (made ++ signs) a.accepts accepts a.tells a.moments grows
          (goes_within b made signs a.accepts a.tells a.moments h.went);
      left = λ began judge keeps t image crash.
          kept_opens b r.store (made ++ signs) a.accepts judge (now a.moments) h.config
          (h.held ∙ ap (λ (l : List Deed). with_deeds l b.held) same) (kept t) (h.chain began)
          (λ statement sig e. keeps statement sig (grows statement sig e)) image crash;
      signed_first = front_of (statements_of (made ++ signs));
      limit = unlimited a.tells b.held (deeds_of (made ++ signs)) fault no_disk;
    }

-- the same, where nothing was signed
pub stopped_here : (b : Before) (made : List Entry) (told : Act) (r : Running) (a : Around) (fault : NodeFault)
    → Makes b made told r a → (IsTrue a.tells → IsKept r.store (now a.moments)) → TouchesNoDisk fault
    → IsStopped b made (statements_of made) a.accepts a.tells a.moments fault
stopped_here b made told r a fault h kept no_disk =
    subst (λ (l : List Entry). IsStopped b l (statements_of l) a.accepts a.tells a.moments fault)
    (append-nil made) (stopped_signed b made [] told r a a.accepts fault refl h kept (λ statement sig e. e) no_disk)

pub stopped : (b : Before) (made more : List Entry) (told : Act) (r : Running) (a : Around) (fault : NodeFault)
    → Makes b made told r a → (IsTrue a.tells → IsKept r.store (now a.moments)) → TouchesNoDisk fault
    → IsStopped b (made ++ more) (statements_of made) a.accepts a.tells a.moments fault
stopped b made more told r a fault h kept no_disk =
    stopped_more b made more (statements_of made) a.accepts a.tells a.moments fault
    (stopped_here b made told r a fault h kept no_disk)

-- WHAT IS MADE FURTHER

-- from one front of a step to the next
pub record Moves (b : Before) (made more : List Entry) (next : Act) (r new : Running) (a z : Around) : Type 0 where
  pub id : new.id ≡ r.id
  pub config : config_of new.store ≡ config_of r.store
  pub place : place_of new ≡ (after_entries more (core_in b made)).place
  pub view : new.view ≡ after_act next (after_entries more (core_in b made)).view
  pub me : (after_entries more (core_in b made)).view.me ≡ (view_in b made).me
  pub found : as_found new.found ≡ (after_entries more (core_in b made)).found
  pub held : held_of new.store ≡ with_deeds (deeds_of more) (held_of r.store)
  pub facts : z.facts ≡ a.facts ++ facts_of more
  pub sends : z.sends ≡ a.sends ++ sends_of more
  pub done : z.done ≡ a.done ++ done_in more
  pub accepts : b.keys.accepts (statements_of made ++ statements_of more) ≡ z.accepts
  pub chain : IsChain a.accepts b.config (held_of r.store).blocks → IsChain z.accepts b.config (held_of new.store).blocks
  pub went : GoesWithin b (made ++ more) z.accepts z.tells z.moments

pub makes_more : (b : Before) (made more : List Entry) (told next : Act) (r new : Running) (a z : Around)
    → Makes b made told r a → Moves b made more next r new a z → Makes b (made ++ more) next new z
makes_more b made more told next r new a z h m =
    let e = sym (core-append b made more) in
    record {
      id = m.id ∙ h.id;
      config = m.config ∙ h.config;
      place = m.place ∙ ap (λ (c : Core). c.place) e;
      view = m.view ∙ ap (λ (c : Core). after_act next c.view) e;
      me = ap (λ (c : Core). c.view.me) (sym e) ∙ m.me ∙ h.me;
      found = m.found ∙ ap (λ (c : Core). c.found) e;
      held = m.held ∙ ap (λ (x : Held). with_deeds (deeds_of more) x) h.held
          ∙ sym (with_deeds-append (deeds_of made) (deeds_of more) b.held)
          ∙ ap (λ (l : List Deed). with_deeds l b.held) (sym (deeds-append made more));
      facts = m.facts ∙ ap (λ (l : List Fact). l ++ facts_of more) h.facts ∙ sym (facts-append made more);
      sends = m.sends ∙ ap (λ (l : List Sent). l ++ sends_of more) h.sends ∙ sym (sends-append made more);
      done = m.done ∙ ap (λ (l : List Done). l ++ done_in more) h.done ∙ sym (done-append made more);
      accepts = ap (λ (l : List (List ℕ)). b.keys.accepts l) (statements-append made more) ∙ m.accepts;
      chain = λ began. m.chain (h.chain began);
      went = m.went;
    }

-- the same but for the view
pub makes_view : (b : Before) (made : List Entry) (told next : Act) (r new : Running) (a : Around)
    → Makes b made told r a → new.id ≡ r.id → new.store ≡ r.store → new.found ≡ r.found
    → new.view ≡ after_act next (view_in b made) → Makes b made next new a
makes_view b made told next r new a h id store found view =
    record {
      id = id ∙ h.id;
      config = ap config_of store ∙ h.config;
      place = ap (λ (s : Store). place_after (config_of s) (held_of s).blocks) store ∙ h.place;
      view = view;
      me = h.me;
      found = ap as_found found ∙ h.found;
      held = ap held_of store ∙ h.held;
      facts = h.facts;
      sends = h.sends;
      done = h.done;
      accepts = h.accepts;
      chain = λ began. subst (λ (s : Store). IsChain a.accepts b.config (held_of s).blocks) (sym store) (h.chain began);
      went = h.went;
    }

-- the entries by another name
pub makes_as : (b : Before) (one two : List Entry) (told : Act) (r : Running) (a : Around) → one ≡ two
    → Makes b one told r a → Makes b two told r a
makes_as b one two told r a same h = subst (λ (l : List Entry). Makes b l told r a) same h

-- what the disk tells by another name
pub makes_tells : (b : Before) (made : List Entry) (told : Act) (r : Running) (accepts : Accepts) (t u : Bool)
    (moments : List State) (out : Out) → u ≡ t → Makes b made told r (around accepts t moments out)
    → Makes b made told r (around accepts u moments out)
makes_tells b made told r accepts t u moments out same h =
    subst (λ (v : Bool). Makes b made told r (around accepts v moments out)) (sym same) h

-- A CALL THAT WAS GIVEN UP

pub given_up : {T E : Type 0} (r : Result T E) (R : E → Type 0) (P : T → Type 0) (Q : E → Type 0) → IsErrAnd r R
    → ((fault : E) → R fault → Q fault) → GoesOn r P Q
given_up (Ok x) R P Q h q = absurd h
given_up (Err e) R P Q h q = q e h

-- what follows further for an Ok, and what for a failure
pub goes_on : {T E : Type 0} (r : Result T E) (P S : T → Type 0) (Q U : E → Type 0) → GoesOn r P Q
    → ((x : T) → P x → S x) → ((fault : E) → Q fault → U fault) → GoesOn r S U
goes_on (Ok x) P S Q U h f g = f x h
goes_on (Err e) P S Q U h f g = g e h

-- what was given up by other names
pub stopped_by : (b : Before) (one two : List Entry) (signed all : List (List ℕ)) (old new : Accepts) (t u : Bool)
    (moments : List State) (one_fault fault : NodeFault) → two ≡ one → all ≡ signed → new ≡ old → u ≡ t
    → fault ≡ one_fault → IsStopped b one signed old t moments one_fault → IsStopped b two all new u moments fault
stopped_by b one two signed all old new t u moments one_fault fault step statements accepts tells same s =
    subst (λ (l : List Entry). IsStopped b l all new u moments fault) (sym step)
    (subst (λ (l : List (List ℕ)). IsStopped b one l new u moments fault) (sym statements)
    (subst (λ (a : Accepts). IsStopped b one signed a u moments fault) (sym accepts)
    (subst (λ (v : Bool). IsStopped b one signed old v moments fault) (sym tells)
    (subst (λ (e : NodeFault). IsStopped b one signed old t moments e) (sym same) s))))

-- the signed statements alone
pub stopped_said : (b : Before) (made : List Entry) (signed : List (List ℕ)) (accepts : Accepts) (tells : Bool)
    (moments : List State) (fault : NodeFault) (all : List (List ℕ)) → signed ≡ all
    → IsStopped b made signed accepts tells moments fault → IsStopped b made all accepts tells moments fault
stopped_said b made signed accepts tells moments fault all same s =
    subst (λ (l : List (List ℕ)). IsStopped b made l accepts tells moments fault) same s
