-- What a step of a node comes to, from how far it was made.
use Rattle.std.proofs.Common.{
  ◌≡◌,
  ℕ,
  Bool,
  List,
  [],
  ◌++◌,
  length,
  take,
  map,
  Option,
  None,
  Result,
  Ok,
  Err,
  IsErrAnd,
  IsTrue,
  refl,
  sym,
  ◌∙◌,
  ap,
  ap₂,
  subst,
  arith,
}
use Rattle.std.proofs.lemmas.List.{take_all}
use Rattle.ord_types.specs.declared.values.Config.{Config}
use Rattle.ord_types.specs.declared.values.Place.{Place}
use Rattle.gate_log.specs.Disk.{State, now}
use Rattle.gate_log.specs.Runs.{Throughout}
use Rattle.signer_edge.specs.Accepts.{Accepts as Acceptance}
use Rattle.signer_edge.specs.Signing.{KeepsAccepted}
use Rattle.block_ledger.specs.Chains.{IsChain}
use Rattle.block_ledger.proofs.Linking.{chain_stays}
use Rattle.block_ledger.proofs.Placing.{height_of_place}
use Rattle.view_model.specs.declared.act.Act.TheVariants as act_of
use Rattle.view_model.specs.Acts.{View}
use Rattle.node_model.specs.Cores.{Core, Found, after_entries}
use Rattle.node_model.specs.Entries.{Deed, Entry, deeds_of, statements_of}
use Rattle.node_model.specs.Laws.{IsPlaced}
use Rattle.node_model.specs.declared.event.Event.{Event}
use Rattle.node_model.specs.Steps.{Keys, duty, step}
use Rattle.node_model.proofs.EndLemmas.{step_ends}
use Rattle.view_core.specs.Places.{IsPlace}
use Rattle.bft_node.specs.Crashes.{Image, IsCrash, Opens}
use Rattle.bft_node.specs.Held.{Held, with_deeds}
use Rattle.bft_node.specs.Making.{Before, Begins, IsStopped, Makes, around, sent_of}
use Rattle.bft_node.specs.NodeFaults.{HasLimit}
use Rattle.bft_node.specs.NodeSteps.{StepsLeave, StepsWithin, TakesStep, step_from}
use Rattle.bft_node.specs.Recovering.{Holds, KeepsSigned}
use Rattle.bft_node.specs.Running.{as_found, place_of, state_of}
use Rattle.bft_node.specs.Standing.{Stands}
use Rattle.bft_node.specs.Stores.{IsKept, config_of, held_of}
use Rattle.bft_node.specs.declared.live.Out.{Out}
use Rattle.bft_node.specs.declared.live.Running.{Running}
use Rattle.bft_node.specs.declared.node_fault.NodeFault.{NodeFault}
use Rattle.bft_node.proofs.GoingOn.{steps_keep_standing}
use Rattle.bft_node.proofs.Recoverings.{blocks_with, front_keeps, went_keeps}
use Rattle.bft_node.proofs.Running.{store_opens}

-- what stands before a step by these keys
abbrev pub before_of : Keys → Running → Acceptance → List State → Before
before_of model old first before =
    record {
      id = old.id;
      config = config_of old.store;
      keys = model;
      core = state_of old;
      first = first;
      held = held_of old.store;
      moments = before;
    }

pub begins_so : (model : Keys) (old : Running) (first : Acceptance) (tells : Bool) (before : List State) (out : Out)
    → model.accepts [] ≡ first → out.facts ≡ [] → out.sends ≡ [] → out.done ≡ []
    → Begins (before_of model old first before) old (around first tells before out)
begins_so model old first tells before out accepts facts sends done =
    record {
      id = refl;
      config = refl;
      core = refl;
      held = refl;
      facts = facts;
      sends = ap (λ l. map sent_of l) sends;
      done = done;
      accepts = accepts;
      first = refl;
      moments = refl;
    }

abbrev core_with : Place → View → Option Found → Core
core_with place view found = record { place = place; view = view; found = found }

same_core : (p q : Place) (w v : View) (f g : Option Found) → p ≡ q → w ≡ v → f ≡ g
    → core_with p w f ≡ core_with q v g
same_core p q w v f g place view found =
    ap (λ x. core_with x w f) place ∙ ap (λ x. core_with q x f) view ∙ ap (λ x. core_with q v x) found

module _ (model : Keys) (old new : Running) (event : Event) (signed : List (List ℕ)) (first accepts : Acceptance)
    (tells : Bool) (before after : List State) where
  abbrev b : Before
  b = before_of model old first before

  abbrev made : List Entry
  made = step_from model old event

  abbrev c : Config
  c = config_of old.store

  whole : take (length made) made ≡ made
  whole = take_all (length made) made (omega arith)

  -- A STEP THAT WAS DONE

  module _ (out : Out) (h : Makes b made act_of.Kept new (around accepts tells after out)) where
    state_is : state_of new ≡ after_entries made (state_of old)
    state_is =
        same_core (place_of new) (after_entries made (state_of old)).place new.view (after_entries made (state_of old)).view
        (as_found new.found) (after_entries made (state_of old)).found h.place h.view h.found

    chain_is : IsChain first c (held_of old.store).blocks → (judge : Acceptance) → KeepsAccepted accepts judge
        → IsChain judge (config_of new.store) (held_of new.store).blocks
    chain_is chain judge keeps =
        subst (λ (k : Config). IsChain judge k (held_of new.store).blocks) (sym h.config)
        (chain_stays accepts judge c (held_of new.store).blocks keeps (h.chain chain))

    all_opens : IsKept new.store (now after) → IsChain first c (held_of old.store).blocks → (judge : Acceptance)
        → KeepsAccepted accepts judge → (image : Image) → IsCrash (now after) image
        → Opens judge c image (with_deeds (deeds_of (take (length made) made)) (held_of old.store))
    all_opens kept chain judge keeps image crash =
        subst (λ (l : List Entry). Opens judge c image (with_deeds (deeds_of l) (held_of old.store))) (sym whole)
        (subst (λ (held : Held). Opens judge c image held) h.held
        (subst (λ (k : Config). Opens judge k image (held_of new.store)) h.config
        (store_opens judge new.store (now after) kept (chain_is chain judge keeps) image crash)))

    all_kept : (IsTrue tells → IsKept new.store (now after)) → statements_of made ≡ signed
        → IsTrue tells → StepsLeave old made signed first accepts before after
    all_kept kept all t holds judge keeps image crash =
        record {
          front = record {
            cut = length made;
            some = omega arith;
            keeps = front_keeps judge old model event holds.stands (length made) image
                (all_opens (kept t) holds.chain judge keeps image crash);
          };
          signed = sym all ∙ ap statements_of (sym whole);
        }

    all_stands : Holds first old (now before)
        → Stands (config_of new.store) new.id (held_of new.store) (state_of new)
    all_stands holds =
        let standing : Stands c old.id (with_deeds (deeds_of made) (held_of old.store)) (after_entries made (state_of old)) =
        subst (λ (l : List Entry). Stands c old.id (with_deeds (deeds_of l) (held_of old.store))
        (after_entries l (state_of old))) whole
        (steps_keep_standing c old.id (held_of old.store) model (state_of old) event (length made) holds.stands) in
        subst (λ (k : Config). Stands k new.id (held_of new.store) (state_of new)) (sym h.config)
        (subst (λ i. Stands c i (held_of new.store) (state_of new)) (sym h.id)
        (subst (λ (held : Held). Stands c old.id held (state_of new)) (sym h.held)
        (subst (λ (core : Core). Stands c old.id (with_deeds (deeds_of made) (held_of old.store)) core) (sym state_is)
        standing)))

    none_due : statements_of made ≡ signed → IsPlaced (state_of old)
        → duty (model.accepts signed) (state_of new) ≡ None
    none_due all placed =
        ap₂ (λ (l : List (List ℕ)) (core : Core). duty (model.accepts l) core) (sym all) state_is
        ∙ step_ends model (state_of old) event placed

    pub takes_ok : statements_of made ≡ signed → IsPlaced (state_of old) → IsPlace (place_of new)
        → (IsTrue tells → IsKept new.store (now after))
        → TakesStep model old new event signed first accepts (Ok out) tells before after
    takes_ok all placed place kept =
        record {
          steps = record {
            state = state_is;
            held = h.held;
            chain = ap (λ (held : Held). held.blocks) h.held ∙ blocks_with made (held_of old.store);
            facts = h.facts;
            sends = h.sends;
            done = h.done;
            signed_all = sym all;
            nothing_due = none_due all placed;
          };
          chain = h.chain;
          opens_within = λ t chain judge keeps. h.went chain judge keeps t;
          opens_signed = λ t chain judge keeps image crash.
              record {
                cut = length made;
                some = omega arith;
                opens = all_opens (kept t) chain judge keeps image crash;
                signatures = sym all ∙ ap statements_of (sym whole);
              };
          within = λ t holds judge keeps.
              went_keeps judge old model event holds.stands before after (h.went holds.chain judge keeps t);
          leaves = all_kept kept all;
          holds = λ t holds.
              record {
                chain = subst (λ (k : Config). IsChain accepts k (held_of new.store).blocks) (sym h.config)
                    (h.chain holds.chain);
                stands = all_stands holds;
                kept = kept t;
              };
          limit = omega (arith, height_of_place (config_of new.store) (held_of new.store).blocks, place.height);
        }

  -- A STEP THAT WAS GIVEN UP

  pub takes_err : (result : Result Out NodeFault) (fault : NodeFault) → IsErrAnd result (λ x. x ≡ fault)
      → IsStopped b made signed accepts tells after fault
      → TakesStep model old new event signed first accepts result tells before after
  takes_err (Ok out) fault is h = absurd is
  takes_err (Err x) fault is h =
      record {
        steps = h.signed_first;
        chain = tt;
        opens_within = λ t chain judge keeps. h.went chain judge keeps t;
        opens_signed = λ t chain judge keeps image crash. h.left chain judge keeps t image crash;
        within = λ t holds judge keeps.
            went_keeps judge old model event holds.stands before after (h.went holds.chain judge keeps t);
        leaves = λ t holds judge keeps image crash.
            let left = h.left holds.chain judge keeps t image crash in
            record {
              front = record {
                cut = left.cut;
                some = left.some;
                keeps = front_keeps judge old model event holds.stands left.cut image left.opens;
              };
              signed = left.signatures;
            };
        holds = λ t. tt;
        limit = subst (HasLimit tells (held_of old.store) (deeds_of made)) (sym is) h.limit;
      }

-- what is accepted and what the disk tells by other names
pub takes_as : (model : Keys) (old new : Running) (event : Event) (signed : List (List ℕ))
    (first one two : Acceptance) (result : Result Out NodeFault) (t u : Bool) (before after : List State)
    → one ≡ two → t ≡ u → TakesStep model old new event signed first one result t before after
    → TakesStep model old new event signed first two result u before after
takes_as model old new event signed first one two result t u before after accepts tells h =
    subst (λ (v : Bool). TakesStep model old new event signed first two result v before after) tells
    (subst (λ (k : Acceptance). TakesStep model old new event signed first k result t before after) accepts h)
