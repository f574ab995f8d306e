-- What a step makes is allowed, act by act, and each moment of it is one of a run in which the node stands.
use Rattle.std.proofs.Common.{
  ◌≡◌,
  ℕ,
  zero,
  suc,
  Bool,
  true,
  false,
  cond,
  ◌&&◌,
  List,
  [],
  ◌∷◌,
  ◌++◌,
  map,
  refl,
  sym,
  subst,
  ap,
  Option,
  Some,
  None,
  arith,
}
use Rattle.std.specs.Prelude.{◌==◌, nat_le, not}
use Rattle.std.specs.List.{All, AllByRecursion}
use Rattle.std.proofs.lemmas.Bool.{and_parts, eq-eqb, eqb-true, le-leb, or_left, or_right}
use Rattle.ord_types.specs.Grammar.{HasRequestSpelling, IsDigest, IsNumber}
use Rattle.ord_types.specs.Hashes.{block_hash}
use Rattle.ord_types.specs.Members.{is_in}
use Rattle.ord_types.specs.declared.values.Cert.{Cert}
use Rattle.ord_types.specs.declared.values.Proof.TheVariants as proof_of
use Rattle.safety_model.specs.Blocks.{Block, Config, Request}
use Rattle.safety_model.specs.Facts.{History, has, is_accepted, is_prepared}
use Rattle.safety_model.specs.Rules.{Allowed, bound_of, faulty}
use Rattle.safety_model.specs.State.{Setup, config_of, delivered, height, view}
use Rattle.safety_model.specs.declared.fact.Fact.TheVariants.{Accepted, Prepared, Delivered}
use Rattle.safety_model.proofs.Chains.{config_stays}
use Rattle.safety_model.proofs.FactTests.{accepted_itself, prepared_itself}
use Rattle.bft_wire.specs.Messages.{HasMessageSpelling}
use Rattle.bft_wire.specs.declared.message.Message.{Message}
use Rattle.bft_wire.specs.declared.message.Message.TheVariants as message_of
use Rattle.view_model.specs.Leading.{Place, leader}
use Rattle.view_model.specs.Acts.{
  View,
  acceptance_due,
  delivery_due,
  is_inside_view,
  is_voting,
  preparation_due,
  proposed,
}
use Rattle.node_model.specs.declared.event.Event.{Event}
use Rattle.node_model.specs.Cores.{Core, Found, after_entries}
use Rattle.node_model.specs.Entries.{Did, Entry, Past, facts_of, is_tick, offer_in, others, statements_of}
use Rattle.node_model.specs.Keeping.{place_by_facts, view_of}
use Rattle.node_model.specs.Steps.{
  Accept,
  Deliver,
  Duty,
  Keys,
  Prepare,
  Rule,
  ◌then_do◌,
  acceptance,
  accept_duty,
  all_due,
  at_most,
  comes,
  commit_message,
  commits,
  commits_if,
  current,
  deliver_duty,
  does,
  duties,
  duty,
  first_some,
  for_duty,
  is_current,
  most_duties,
  own_rule,
  preparation,
  prepare_duty,
  prepare_message,
  preprepare_message,
  proposes,
  proposes_of,
  repeated_votes,
  repeats,
  repeats_found,
  step,
  then_on,
  to_all,
}
use Rattle.world_safety.specs.Fits.{DeliveredFits, FitsAt}
use Rattle.world_safety.specs.Resting.{has_ground}
use Rattle.world_safety.specs.AllowedSteps.{IsBounded, IsGoodEvent, SignsFit}
use Rattle.world_safety.proofs.Accepting.{acceptances_allowed, proposals_allowed}
use Rattle.world_safety.proofs.Delivering.{deliveries_allowed, delivery_is, delivery_spelled, some_same}
use Rattle.world_safety.proofs.Fitting.{PlaceFits, acceptance_fits, proposal_fits}
use Rattle.world_safety.proofs.Ids.{all_members}
use Rattle.world_safety.proofs.Lists.{all_within}
use Rattle.world_safety.proofs.StepMoments.{
  AreMade,
  IsMade,
  Moment,
  Now,
  after_all,
  later_moment,
  made_append,
  see,
  seen_later,
}
use Rattle.world_safety.proofs.Nodes.{accepted_is, stands, stands_last}
use Rattle.world_safety.proofs.Placing.{genesis_first, place_fits}
use Rattle.world_safety.proofs.Preparing.{due_is, preparations_allowed}
use Rattle.world_safety.proofs.Reopening.{IsFound, found_is}
use Rattle.world_safety.proofs.Sending.{commit_fits, hash_fits, prepare_fits, preprepare_fits}
use Rattle.world_safety.proofs.Standing.{Bounded, Stands}

-- a node that isn't Byzantine, where no more members are than the bound allows
pub node_bounded : (su : Setup) (h : History) (i : ℕ) → IsBounded su → is_in i su.byzantine ≡ false
    → Bounded su h i
node_bounded su h i bounded correct =
    let stays : config_of su i h ≡ su.config = config_stays su.config (delivered i h) in
    let few : nat_le (faulty su.byzantine su.config) (bound_of su.config) ≡ true = le-leb _ _ bounded.few in
    record {
      correct = or_right _ _ (ap not correct);
      bound = or_right _ _
          (subst (λ (c : Config). nat_le (faulty su.byzantine c) (bound_of c) ≡ true) (sym stays) few);
    }

-- a message that node i sends rests on a fact, and has a spelling
record IsGoodMessage (h : History) (i : ℕ) (message : Message) : Type 0 where
  ground : has_ground h i message ≡ true
  spelled : HasMessageSpelling message

-- WHAT WAS FOUND, where the node still stands there

current_is : (place : Place) (w : View) (o : Option Found) (f : Found) → current place w o ≡ Some f
    → (o ≡ Some f) × (is_current place w f ≡ true)
current_is place w None f is = absurd (cc)
current_is place w (Some g) f is = go (is_current place w g) refl is
  where
    go : (t : Bool) → is_current place w g ≡ t → cond t (Some g) None ≡ Some f
        → (Some g ≡ Some f) × (is_current place w f ≡ true)
    go true stands at =
        let same : g ≡ f = some_same at in (at, subst (λ f. is_current place w f ≡ true) same stands)
    go false stands at = absurd (cc)

found_here : (h : History) (i : ℕ) (place : Place) (w : View) (f : Found) → IsFound h i f
    → is_current place w f ≡ true
    → IsFound h i (record {
      config = place.config.number;
      view = w.view;
      height = place.height;
      block = f.block;
      is_prepared = f.is_prepared;
    })
found_here h i place w f is stands =
    let p = and_parts (is_voting place w && is_inside_view w && (f.config == place.config.number)
    && (f.view == w.view)) (f.height == place.height) stands in
    let q = and_parts (is_voting place w && is_inside_view w && (f.config == place.config.number))
    (f.view == w.view) p.0 in
    let r = and_parts (is_voting place w && is_inside_view w) (f.config == place.config.number) q.0 in
    let at : ℕ → ℕ → ℕ → Found = λ e v s.
    record { config = e; view = v; height = s; block = f.block; is_prepared = f.is_prepared } in
    let a : IsFound h i (at place.config.number f.view f.height) =
    subst (λ e. IsFound h i (at e f.view f.height)) (eqb-true f.config place.config.number r.1) is in
    let b : IsFound h i (at place.config.number w.view f.height) =
    subst (λ v. IsFound h i (at place.config.number v f.height)) (eqb-true f.view w.view q.1) a in
    subst (λ s. IsFound h i (at place.config.number w.view s)) (eqb-true f.height place.height p.1) b

-- the first that is due is due of its rank
first_due : (P : Duty → Type 0) (os : List (Option Duty))
    → AllByRecursion (λ o. (d : Duty) → o ≡ Some d → P d) os → (d : Duty) → first_some os ≡ Some d → P d
first_due P [] all d is = absurd (cc)
first_due P (None ∷ os) all d is = first_due P os all.1 d is
first_due P (Some first ∷ os) all d is = all.0 d is

module _ (su : Setup) (i : ℕ) (bounded : IsBounded su) (correct : is_in i su.byzantine ≡ false) (keys : Keys)
    (signs : SignsFit keys) where
  abbrev at : Now → Core
  at s = see su i s

  abbrev Made : List (List ℕ) → Now → List Entry → Type 0
  Made signed s made = AreMade su i keys signed s made

  members_at : (s : Now) → (at s).place.config.members ≡ su.config.members
  unfolding place_by_facts
  members_at s = ap (λ (c : Config). c.members) (config_stays su.config (delivered i (facts_of s.past)))

  -- the node's place fits
  fits_at : (s : Now) → Moment su i s → PlaceFits (at s).place (at s).view.view
  unfolding view_of
  fits_at s is = place_fits su s.told i s.past bounded is.node is.run is.fit

  stands_at : (s : Now) → Moment su i s → Stands su s.told i (at s).place (at s).view
  stands_at s is = stands su s.told i s.past is.node

  bounded_at : (s : Now) → Bounded su s.told i
  bounded_at s = node_bounded su s.told i bounded correct

  -- MESSAGES to all others

  receivers_fit : (c : Core) → c.place.config.members ≡ su.config.members
      → AllByRecursion (λ to. is_in to su.config.members ≡ true) (others c.place.config.members c.view.me)
  receivers_fit c same =
      all_within (λ to. is_in to su.config.members ≡ true) (λ to. not (to == c.view.me))
      c.place.config.members
      (subst (λ all. AllByRecursion (λ to. is_in to all ≡ true) c.place.config.members) same
      (all_members c.place.config.members))

  sent_made : (signed : List (List ℕ)) (s : Now) (c : Core) → c.place.config.members ≡ su.config.members
      → (message : Message) → IsGoodMessage s.told i message → IsMade su i keys signed s (to_all c message)
  sent_made signed s c same message good =
      record {
        fits = tt;
        allowed = record {
          mine = tt;
          allowed = tt;
          good = record { ground = good.ground; spelled = good.spelled; to = receivers_fit c same };
        };
        stays = refl;
        by_keys = tt;
        due = tt;
      }

  sends_then : (signed : List (List ℕ)) (s : Now) (c : Core) → c.place.config.members ≡ su.config.members
      → (messages : List Message) → AllByRecursion (IsGoodMessage s.told i) messages → (more : List Entry)
      → ((past : Past) → Made signed (record { told = s.told; past = past }) more)
      → Made signed s (map (to_all c) messages ++ more)
  sends_then signed s c same [] good more then = then s.past
  sends_then signed s c same (message ∷ messages) good more then = (
    sent_made signed s c same message good.0,
    sends_then signed (record { told = s.told; past = to_all c message ∷ s.past }) c same messages good.1
        more then,
  )

  -- A COMMIT of what was prepared

  commits_made : (signed : List (List ℕ)) (s : Now) (c : Core) (d : List ℕ)
      → c.place.config.members ≡ su.config.members → PlaceFits c.place c.view.view → IsNumber c.place.height
      → IsDigest d → has (is_prepared i c.place.config.number c.view.view c.place.height d) s.told ≡ true
      → Made signed s (commits keys signed c d)
  commits_made signed s c d same here number digest prepared =
      let fits = commit_fits c.place c.view d (keys.signs signed) here number digest (signs signed) in (
        record {
          fits = tt;
          allowed = record { mine = tt; allowed = tt; good = (prepared, fits) };
          stays = refl;
          by_keys = refl;
          due = tt;
        },
        (
          sent_made _ _ c same (message_of.Commit (commit_message c.place c.view d (keys.signs signed)))
              (record { ground = prepared; spelled = fits }),
          tt,
        ),
      )

  -- ACCEPT, with a PrePrepare of the block, or with nothing before

  accepts_made : (signed : List (List ℕ)) (s : Now) → Moment su i s → (b : Block)
      → Allowed su s.told (Accepted i (at s).place.config.number (at s).view.view (at s).place.height
      (block_hash b))
      → FitsAt (at s).place.height b → (first : List Message)
      → AllByRecursion (IsGoodMessage
      (Accepted i (at s).place.config.number (at s).view.view (at s).place.height (block_hash b) ∷ s.told)
      i) first
      → Made signed s (Did (acceptance (at s).place (at s).view b)
      ∷ (map (to_all (at s)) first ++ to_all (at s) (prepare_message (at s).place (at s).view b) ∷ []))
  unfolding view_of
  accepts_made signed s is b ok fits first good =
      let place = (at s).place in
      let w = (at s).view in
      let f = Accepted i place.config.number w.view place.height (block_hash b) in
      let last : IsGoodMessage (f ∷ s.told) i (prepare_message place w b) =
      record {
        ground = or_left _ _ (accepted_itself i place.config.number w.view place.height (block_hash b));
        spelled = prepare_fits place w b (fits_at s is) fits.number;
      } in (
        record {
          fits = refl;
          allowed = record { mine = (eq-eqb i i refl, tt); allowed = (ok, tt); good = fits };
          stays = refl;
          by_keys = tt;
          due = tt;
        },
        sends_then signed (record { told = f ∷ s.told; past = Did (acceptance place w b) ∷ s.past }) (at s)
            (members_at s) first good (to_all (at s) (prepare_message place w b) ∷ [])
            (λ past. (sent_made signed _ (at s) (members_at s) (prepare_message place w b) last, tt)),
      )

  accept_made : (signed : List (List ℕ)) (s : Now) → Moment su i s → (o : Option Block)
      → acceptance_due (keys.accepts signed) (at s).place (at s).view ≡ o
      → (d : Duty) → accept_duty o ≡ Some d → Made signed s (does keys d signed (at s))
  accept_made signed s is None due d at_d = absurd (cc)
  accept_made signed s is (Some b) due d at_d =
      let by = stands_at s is in
      let same : Accept b ≡ d = some_same at_d in
      subst (λ d. Made signed s (does keys d signed (at s))) same
      (accepts_made signed s is b
      (acceptances_allowed su s.told i (at s).place (at s).view (keys.accepts signed) b by (bounded_at s) due)
      (acceptance_fits (keys.accepts signed) su s.told i (at s).place (at s).view b by (fits_at s is) due)
      [] tt)

  -- PREPARE

  -- what is prepared was accepted, so it fits
  prepared_fits : (s : Now) → Moment su i s → (d : List ℕ) → preparation_due (at s).place (at s).view ≡ Some d
      → IsNumber (at s).place.height × IsDigest d
  unfolding view_of place_by_facts
  prepared_fits s is d due =
      let now = due_is (at s).place (at s).view d due in
      let g = facts_of s.past in
      let e = (config_of su i g).number in
      let fits = (accepted_is su s.told i s.past is.node e (view i e g) (height i g) now.block
      now.accepted).fits in
      (fits.number, subst IsDigest now.digest (hash_fits now.block))

  prepares_made : (signed : List (List ℕ)) (s : Now) → Moment su i s → (d : List ℕ)
      → preparation_due (at s).place (at s).view ≡ Some d
      → Made signed s (Did (preparation (at s).place (at s).view d) ∷ commits keys signed (at s) d)
  unfolding view_of
  prepares_made signed s is d due =
      let place = (at s).place in
      let w = (at s).view in
      let f = Prepared i place.config.number w.view place.height d in
      let fits = prepared_fits s is d due in
      let ok : Allowed su s.told f = preparations_allowed su s.told i place w d (stands_at s is)
      (bounded_at s) due in (
        record {
          fits = refl;
          allowed = record { mine = (eq-eqb i i refl, tt); allowed = (ok, tt); good = tt };
          stays = refl;
          by_keys = tt;
          due = tt;
        },
        commits_made signed (record { told = f ∷ s.told; past = Did (preparation place w d) ∷ s.past })
            (at s) d
            (members_at s) (fits_at s is) fits.0 fits.1
            (or_left _ _ (prepared_itself i place.config.number w.view place.height d)),
      )

  prepare_made : (signed : List (List ℕ)) (s : Now) → Moment su i s → (o : Option (List ℕ))
      → preparation_due (at s).place (at s).view ≡ o
      → (d : Duty) → prepare_duty o ≡ Some d → Made signed s (does keys d signed (at s))
  prepare_made signed s is None due d at_d = absurd (cc)
  prepare_made signed s is (Some h) due d at_d =
      let same : Prepare h ≡ d = some_same at_d in
      subst (λ d. Made signed s (does keys d signed (at s))) same (prepares_made signed s is h due)

  -- DELIVER

  -- what is delivered was accepted, so it fits, and so does its certificate
  delivered_fits : (s : Now) → Moment su i s → (b : Block) (cert : Cert)
      → delivery_due (at s).place (at s).view ≡ Some (b, cert) → DeliveredFits b (proof_of.Bft cert)
  unfolding view_of place_by_facts
  delivered_fits s is b cert due =
      let place = (at s).place in
      let w = (at s).view in
      let g = facts_of s.past in
      let e = (config_of su i g).number in
      let k = height i g in
      let both = delivery_is place w b cert due in
      let number : b.header.number ≡ k = both.1 in
      let fits : FitsAt k b = (accepted_is su s.told i s.past is.node e (view i e g) k b both.0).fits in
      let here = fits_at s is in
      let first = here.view in
      record {
        block = subst (λ k. FitsAt k b) (sym number) fits;
        behind = delivery_spelled su s.told i place w b cert (stands_at s is) (omega arith) here.members due;
      }

  delivers_made : (signed : List (List ℕ)) (s : Now) → Moment su i s → (b : Block) (cert : Cert)
      → delivery_due (at s).place (at s).view ≡ Some (b, cert)
      → Made signed s (does keys (Deliver b cert) signed (at s))
  unfolding view_of
  delivers_made signed s is b cert due =
      let last = stands_last su s.told i s.past is.node is.run bounded.genesis (genesis_first su bounded) in
      let ok : Allowed su s.told (Delivered i b (proof_of.Bft cert)) =
      deliveries_allowed su s.told i (at s).place (at s).view b cert (stands_at s is) last (bounded_at s)
      due in (
        record {
          fits = refl;
          allowed = record {
            mine = (eq-eqb i i refl, tt);
            allowed = (ok, tt);
            good = delivered_fits s is b cert due;
          };
          stays = refl;
          by_keys = tt;
          due = record { cert = cert; bft = refl; due = due };
        },
        tt,
      )

  deliver_made : (signed : List (List ℕ)) (s : Now) → Moment su i s → (o : Option (Block × Cert))
      → delivery_due (at s).place (at s).view ≡ o
      → (d : Duty) → deliver_duty o ≡ Some d → Made signed s (does keys d signed (at s))
  deliver_made signed s is None due d at_d = absurd (cc)
  deliver_made signed s is (Some x) due d at_d =
      let same : Deliver x.0 x.1 ≡ d = some_same at_d in
      subst (λ d. Made signed s (does keys d signed (at s))) same (delivers_made signed s is x.0 x.1 due)

  -- ALL THAT IS DUE: one line for each rank

  does_made : (signed : List (List ℕ)) (s : Now) → Moment su i s → (d : Duty)
      → duty (keys.accepts signed) (at s) ≡ Some d → Made signed s (does keys d signed (at s))
  does_made signed s is d due =
      first_due (λ d. Made signed s (does keys d signed (at s))) (duties (keys.accepts signed) (at s)) (
        accept_made signed s is (acceptance_due (keys.accepts signed) (at s).place (at s).view) refl,
        (
          prepare_made signed s is (preparation_due (at s).place (at s).view) refl,
          (deliver_made signed s is (delivery_due (at s).place (at s).view) refl, tt),
        ),
      ) d due

  -- a rule, behind what was made
  then_made : (rule : Rule) (signed : List (List ℕ)) (s : Now) (made : List Entry) → Moment su i s
      → Made signed s made
      → ((later : Now) → Moment su i later → later ≡ after_all made s
      → Made (signed ++ statements_of made) later (rule (signed ++ statements_of made) (at later)))
      → Made signed s (then_on rule signed (at s) made)
  then_made rule signed s made is all more =
      let later = after_all made s in
      let here = later_moment su i keys signed s made all is in
      made_append su i keys signed s made (rule (signed ++ statements_of made) (after_entries made (at s)))
      all
      (subst (λ c. Made (signed ++ statements_of made) later (rule (signed ++ statements_of made) c))
      (seen_later su i keys signed s made all is) (more later here refl))

  duty_made : (rest : Rule) → ((signed : List (List ℕ)) (s : Now) → Moment su i s
      → Made signed s (rest signed (at s)))
      → (signed : List (List ℕ)) (s : Now) → Moment su i s → (o : Option Duty)
      → duty (keys.accepts signed) (at s) ≡ o → Made signed s (for_duty keys rest o signed (at s))
  duty_made rest more signed s is None due = tt
  duty_made rest more signed s is (Some d) due =
      then_made rest signed s (does keys d signed (at s)) is (does_made signed s is d due)
      (λ later here same. more (signed ++ statements_of (does keys d signed (at s))) later here)

  at_most_made : (n : ℕ) (signed : List (List ℕ)) (s : Now) → Moment su i s
      → Made signed s (at_most keys n signed (at s))
  at_most_made zero signed s is = tt
  at_most_made (suc n) signed s is =
      duty_made (at_most keys n) (at_most_made n) signed s is (duty (keys.accepts signed) (at s)) refl

  -- THE EVENT'S OWN RULE

  proposes_made : (signed : List (List ℕ)) (s : Now) → Moment su i s → (offer : List Request)
      → All HasRequestSpelling offer → (o : Option Block) → proposed (at s).place (at s).view offer ≡ o
      → Made signed s (proposes o (at s))
  proposes_made signed s is offer small None at_o = tt
  proposes_made signed s is offer small (Some b) at_o =
      let place = (at s).place in
      let w = (at s).view in
      let fits : FitsAt place.height b = proposal_fits place w offer b (fits_at s is) small at_o in
      accepts_made signed s is b
      (proposals_allowed su s.told i place w offer b (stands_at s is) (bounded_at s) at_o) fits
      (preprepare_message place w b ∷ []) (
        record {
          ground = or_left _ _ (accepted_itself i place.config.number w.view place.height (block_hash b));
          spelled = preprepare_fits place w b (fits_at s is) fits;
        },
        tt,
      )

  offered_made : (signed : List (List ℕ)) (s : Now) → Moment su i s → (o : Option (List Request))
      → ((offer : List Request) → o ≡ Some offer → All HasRequestSpelling offer)
      → Made signed s (proposes_of o (at s))
  offered_made signed s is None small = tt
  offered_made signed s is (Some offer) small =
      proposes_made signed s is offer (small offer refl) (proposed (at s).place (at s).view offer) refl

  -- WHAT IS SENT AGAIN at the first tick

  votes_good : (s : Now) → Moment su i s → (b : Block)
      → has (is_accepted i (at s).place.config.number (at s).view.view (at s).place.height (block_hash b))
      s.told
      ≡ true
      → FitsAt (at s).place.height b
      → AllByRecursion (IsGoodMessage s.told i) (repeated_votes (at s).place (at s).view b)
  votes_good s is b accepted fit = go (leader (at s).place (at s).view.view == (at s).view.me) first last
    where
      first : IsGoodMessage s.told i (preprepare_message (at s).place (at s).view b)
      first =
          record {
            ground = accepted;
            spelled = preprepare_fits (at s).place (at s).view b (fits_at s is) fit;
          }

      last : IsGoodMessage s.told i (prepare_message (at s).place (at s).view b)
      last =
          record {
            ground = accepted;
            spelled = prepare_fits (at s).place (at s).view b (fits_at s is) fit.number;
          }

      go : (t : Bool) → IsGoodMessage s.told i (preprepare_message (at s).place (at s).view b)
          → IsGoodMessage s.told i (prepare_message (at s).place (at s).view b)
          → AllByRecursion (IsGoodMessage s.told i)
          (cond t (preprepare_message (at s).place (at s).view b ∷ []) []
          ++ prepare_message (at s).place (at s).view b ∷ [])
      go true first last = (first, (last, tt))
      go false first last = (last, tt)

  again_made : (signed : List (List ℕ)) (s : Now) → Moment su i s → (f : Found) → IsFound s.told i f
      → is_current (at s).place (at s).view f ≡ true
      → Made signed s (repeats_found keys (Some f) signed (at s))
  again_made signed s is f found stands =
      let here = found_here s.told i (at s).place (at s).view f found stands in
      sends_then signed s (at s) (members_at s) (repeated_votes (at s).place (at s).view f.block)
      (votes_good s is f.block here.accepted here.fits)
      (commits_if f.is_prepared keys signed (at s) (block_hash f.block))
      (λ past. go past f.is_prepared here.prepared)
    where
      number : IsNumber (at s).place.height
      number = (found_here s.told i (at s).place (at s).view f found stands).fits.number

      go : (past : Past) (t : Bool)
          → (t ≡ true → has (is_prepared i (at s).place.config.number (at s).view.view (at s).place.height
          (block_hash f.block)) s.told ≡ true)
          → Made signed (record { told = s.told; past = past })
          (commits_if t keys signed (at s) (block_hash f.block))
      go past true prepared =
          commits_made signed (record { told = s.told; past = past }) (at s) (block_hash f.block)
          (members_at s)
          (fits_at s is) number (hash_fits f.block) (prepared refl)
      go past false prepared = tt

  current_made : (signed : List (List ℕ)) (s : Now) → Moment su i s → (found : Option Found)
      → ((f : Found) → found ≡ Some f → IsFound s.told i f)
      → (o : Option Found) → current (at s).place (at s).view found ≡ o
      → Made signed s (repeats_found keys o signed (at s))
  current_made signed s is found each None at_o = tt
  current_made signed s is found each (Some f) at_o =
      let both = current_is (at s).place (at s).view found f at_o in
      again_made signed s is f (each f both.0) both.1

  repeats_made : (signed : List (List ℕ)) (s : Now) → Moment su i s → (found : Option Found) (event : Event)
      → ((f : Found) → found ≡ Some f → IsFound s.told i f)
      → Made signed s (repeats keys found event signed (at s))
  repeats_made signed s is found event each = go (is_tick event)
    where
      go : (t : Bool)
          → Made signed s (repeats_found keys (cond t (current (at s).place (at s).view found) None) signed
          (at s))
      go true = current_made signed s is found each (current (at s).place (at s).view found) refl
      go false = tt

  -- A STEP of the node

  comes_made : (s : Now) (event : Event) → IsGoodEvent su s.told event
      → Made [] s (comes keys event [] (at s))
  comes_made s event good = (
    record {
      fits = tt;
      allowed = record { mine = tt; allowed = tt; good = good };
      stays = refl;
      by_keys = refl;
      due = tt;
    },
    tt,
  )

  pub step_made : (s : Now) (event : Event) → Moment su i s → IsGoodEvent su s.told event
      → Made [] s (step keys (at s) event)
  unfolding step
  step_made s event is good =
      let found = (at s).found in
      let came = comes keys event [] (at s) in
      let again = (comes keys event then_do repeats keys found event) [] (at s) in
      let ruled = (comes keys event then_do repeats keys found event then_do own_rule event) [] (at s) in
      let came_is = comes_made s event good in
      let again_is : Made [] s again = then_made (repeats keys found event) [] s came is came_is
      (λ later here same. repeats_made (statements_of came) later here found event
      (λ f at_f. subst (λ (later : Now). IsFound later.told i f) (sym same)
      (found_is su s.told i s.past is.run is.node f at_f))) in
      let ruled_is : Made [] s ruled = then_made (own_rule event) [] s again is again_is
      (λ later here same. offered_made (statements_of again) later here (offer_in event) good.offer) in
      then_made (all_due keys) [] s ruled is ruled_is
      (λ later here same. at_most_made (most_duties (at later)) (statements_of ruled) later here)
