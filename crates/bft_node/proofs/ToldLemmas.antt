-- The act that is due is told, and how much can still be due.
use Rattle.std.proofs.Common.{◌≡◌, ℕ, ◌<◌, Bool, false, List, [], Option, Some, None, refl, sym, ap, subst, ◌∙◌, arith}
use Rattle.ord_types.specs.declared.values.Block.{Block}
use Rattle.ord_types.specs.declared.values.Cert.{Cert}
use Rattle.ord_types.specs.declared.values.Place.{Place}
use Rattle.ord_types.specs.declared.values.Proof.TheVariants.{Bft}
use Rattle.ord_types.specs.declared.values.Sig.{Sig}
use Rattle.chan_config.specs.Places.{next_place}
use Rattle.signer_edge.specs.Accepts.{Accepts}
use Rattle.block_ledger.specs.Places.{place_after}
use Rattle.view_model.specs.declared.act.Act.{Act}
use Rattle.view_model.specs.declared.act.Act.TheVariants as act_of
use Rattle.view_model.specs.Acts.{View}
use Rattle.view_model.specs.Answers.{after_act, after_due, at_place, due_answer}
use Rattle.view_model.specs.Pending.{still_at}
use Rattle.node_model.specs.Cores.{Core, Found, after_deed, after_entries}
use Rattle.node_model.specs.Entries.{Entry}
use Rattle.node_model.specs.Laws.{IsPlaced, still}
use Rattle.node_model.specs.Steps as duty_of
use Rattle.node_model.specs.Steps.{Duty, Keys, does, duty, preparation}
use Rattle.node_model.proofs.DueLemmas.{falls}
use Rattle.node_model.proofs.EndLemmas.{all_placed}
use Rattle.view_core.specs.Places.{StandsAt}
use Rattle.bft_node.specs.Calls.{DoesDuty, DoesOne, IsToldDue, StandsIn, TellsDue, still_with, tells_act, untold}
use Rattle.bft_node.specs.Commits.{Commits}
use Rattle.bft_node.specs.Making.{Around, Before, Makes, Tells, accepts_in, core_in, duty_in, view_in}
use Rattle.bft_node.specs.Running.{place_of, state_of}
use Rattle.bft_node.specs.Signings.{Signing}
use Rattle.bft_node.specs.Stores.{config_of, held_of}
use Rattle.bft_node.specs.declared.live.Out.{Out}
use Rattle.bft_node.specs.declared.live.Running.{Running}
use Rattle.bft_node.specs.declared.store.Store.{Store}
use Rattle.bft_node.proofs.CommitLemmas.{commit_due, commit_place, commit_view}
use Rattle.bft_node.proofs.MakingLemmas.{makes_view}
use Rattle.bft_node.proofs.ViewLemmas.{at_place-at, duty_in-due_answer, told_unaccepted, told_unprepared}

-- what is due, by place and view alone
pub duty-same : (a c : Accepts) (x y : Core) → a ≡ c → x.place ≡ y.place → x.view ≡ y.view → duty a x ≡ duty c y
duty-same a c x y e f g =
    ap (λ (k : Accepts). duty k x) e
    ∙ ap (λ (p : Place). duty c (record { place = p; view = x.view; found = y.found })) f
    ∙ ap (λ (w : View). duty c (record { place = y.place; view = w; found = y.found })) g

-- what the view tells and leaves, where it stands at the place
module _ (r : Running) (accepts : Accepts) (told : Act) (p : Place) (left : View) (here : p ≡ place_of r)
    (at : StandsAt (place_of r) r.view) (answer : told ≡ due_answer accepts p (at_place p r.view))
    (after : left ≡ after_due accepts p r.view) where
  answer_here : told ≡ due_answer accepts (place_of r) r.view
  answer_here =
      answer ∙ ap (λ q. due_answer accepts q (at_place q r.view)) here
      ∙ ap (λ v. due_answer accepts (place_of r) v) (at_place-at (place_of r) r.view at)

  after_here : left ≡ after_act told r.view
  after_here =
      after ∙ ap (λ q. after_due accepts q r.view) here
      ∙ ap (λ v. after_act (due_answer accepts (place_of r) v) v) (at_place-at (place_of r) r.view at)
      ∙ ap (λ x. after_act x r.view) (sym answer_here)

  pub due_told : TellsDue accepts (state_of r) told r (record r { view = left })
  due_told =
      record {
        id = refl;
        store = refl;
        found = refl;
        view = after_here;
        due = ap duty_in answer_here ∙ duty_in-due_answer accepts (state_of r);
      }

-- in a step so far
pub tells_made : (b : Before) (made : List Entry) (r new : Running) (a : Around) (accepts : Accepts) (told : Act)
    → accepts ≡ a.accepts → Makes b made act_of.Kept r a → TellsDue accepts (state_of r) told r new
    → Tells b made told new a
tells_made b made r new a accepts told is h t =
    record {
      makes = makes_view b made act_of.Kept told r new a h t.id t.store t.found
          (t.view ∙ ap (λ v. after_act told v) h.view);
      due = t.due ∙ duty-same accepts (accepts_in b made) (state_of r) (core_in b made) (is ∙ sym h.accepts) h.place
          h.view;
    }

same_store : (r new : Running) → new.store ≡ r.store → place_of new ≡ place_of r
same_store r new e = ap (λ (s : Store). place_after (config_of s) (held_of s).blocks) e

-- what was told is due
pub told_stands : (accepts : Accepts) (c : Core) (told : Act) (old new : Running) → place_of old ≡ c.place → IsPlaced c
    → TellsDue accepts c told old new → StandsIn c told new
told_stands accepts c told old new here placed t =
    record { place = same_store old new t.store ∙ here; view = t.view; placed = placed }

pub told_due : (accepts : Accepts) (c : Core) (told : Act) (old new : Running) → place_of old ≡ c.place → IsPlaced c
    → TellsDue accepts c told old new → IsToldDue accepts told new
told_due accepts c told old new here placed t =
    record { core = c; stands = told_stands accepts c told old new here placed t; due = t.due }

-- where a node stands that tells nothing
pub told_due_here : (accepts : Accepts) (told : Act) (old new : Running) → StandsAt (place_of old) old.view
    → TellsDue accepts (state_of old) told old new → IsToldDue accepts told new
told_due_here accepts told old new at t = told_due accepts (state_of old) told old new refl at.height t

-- HOW MUCH CAN STILL BE DUE

untold_same : (accepts : Accepts) (c : Core) (told : Act) → duty_in told ≡ duty accepts c
    → untold told (after_act told c.view) ≡ c.view
untold_same accepts c (act_of.Accept b) e =
    ap (λ (o : Option Block). let w : View = record c.view { accepted = o } in w) (sym (told_unaccepted accepts c b e))
untold_same accepts c (act_of.Prepare d) e =
    ap (λ (o : Bool). let w : View = record c.view { is_prepared = o } in w) (sym (told_unprepared accepts c d e))
untold_same accepts c (act_of.Deliver b cert) e = refl
untold_same accepts c act_of.Kept e = refl
untold_same accepts c (act_of.Nothing r) e = refl

still_is : (accepts : Accepts) (c : Core) (told : Act) (r : Running) → StandsIn c told r
    → duty_in told ≡ duty accepts c → still_with told r ≡ still c
still_is accepts c told r s due =
    ap (λ (p : Place). still_at p (untold told r.view)) s.place
    ∙ ap (λ (w : View). still_at c.place (untold told w)) s.view
    ∙ ap (λ (w : View). still_at c.place w) (untold_same accepts c told due)

-- a duty that is done makes it less
pub fewer_still : (was now : Accepts) (d : Duty) (told next : Act) (old new : Running) (c : Core) → StandsIn c told old
    → duty_in told ≡ duty was c → duty_in told ≡ Some d → DoesOne now d next new c
    → still_with next new < still_with told old
fewer_still was now d told next old new c s due is does_one =
    let before = still_is was c told old s due in
    let after = still_is now _ next new does_one.stands does_one.due in
    let less = falls was does_one.keys does_one.signed c d s.placed (sym due ∙ is) in
    omega (arith, before, after, less)

pub does_due : (now : Accepts) (d : Duty) (next : Act) (new : Running) (c : Core) → DoesOne now d next new c
    → IsToldDue now next new
does_due now d next new c does_one =
    record {
      core = after_entries (does does_one.keys d does_one.signed c) c;
      stands = does_one.stands;
      due = does_one.due;
    }

-- A DUTY THAT WAS DONE, and the act that is told then

-- the node stands as the duty leaves it, and then tells
pub does_next : (accepts : Accepts) (d : Duty) (next : Act) (mid new : Running) (c : Core) (keys : Keys)
    (signed : List (List ℕ)) → place_of mid ≡ (after_entries (does keys d signed c) c).place
    → mid.view ≡ (after_entries (does keys d signed c) c).view → IsPlaced c
    → TellsDue accepts (state_of mid) next mid new → DoesOne accepts d next new c
does_next accepts d next mid new c keys signed place view placed t =
    let done : Core = after_entries (does keys d signed c) c in
    record {
      keys = keys;
      signed = signed;
      stands = record {
        place = same_store mid new t.store ∙ place;
        view = t.view ∙ ap (λ (w : View). after_act next w) view;
        placed = all_placed (does keys d signed c) c placed;
      };
      due = t.due ∙ duty-same accepts accepts (state_of mid) done refl place view;
    }

-- keys that say the same at each moment
abbrev pub same_keys : Accepts → Sig → Keys
same_keys accepts sig = record { accepts = λ signed. accepts; signs = λ signed. sig }

abbrev no_sig : Sig
no_sig = record { signer = 0; bytes = [] }

-- an acceptance
pub accepts_next : (accepts : Accepts) (block : Block) (next : Act) (r mid new : Running) → place_of mid ≡ place_of r
    → mid.view ≡ r.view → TellsDue accepts (state_of mid) next mid new
    → DoesDuty accepts (duty_of.Accept block) (act_of.Accept block) next r new
accepts_next accepts block next r mid new place view t = λ c s.
    does_next accepts (duty_of.Accept block) next mid new c (same_keys accepts no_sig) [] (place ∙ s.place) (view ∙ s.view)
    s.placed t

-- a delivery
pub delivers_next : (accepts : Accepts) (block : Block) (cert : Cert) (next : Act) (r mid new : Running)
    → place_of mid ≡ next_place (place_of r) (block, Bft cert)
    → mid.view ≡ at_place (next_place (place_of r) (block, Bft cert)) r.view
    → TellsDue accepts (state_of mid) next mid new
    → DoesDuty accepts (duty_of.Deliver block cert) (act_of.Deliver block cert) next r new
delivers_next accepts block cert next r mid new place view t = λ c s.
    let there = ap (λ (p : Place). next_place p (block, Bft cert)) s.place in
    does_next accepts (duty_of.Deliver block cert) next mid new c (same_keys accepts no_sig) [] (place ∙ there)
    (view ∙ ap (λ (p : Place). at_place p r.view) there
    ∙ ap (λ (w : View). at_place (next_place c.place (block, Bft cert)) w) s.view) s.placed t

-- a preparation, with its Commit
pub prepares_next : {K : Type 0} (accepts : Accepts) (digest : List ℕ) (next : Act) (r mid new : Running) (last : K)
    (signings : List (Signing K)) (before after : Out) → place_of mid ≡ place_of r → mid.view ≡ r.view
    → mid.id ≡ mid.view.me → StandsAt (place_of mid) mid.view
    → Commits digest next mid new accepts last signings before after
    → DoesDuty accepts (duty_of.Prepare digest) (act_of.Prepare digest) next r new
prepares_next accepts digest next r mid new last signings before after place view me at m = λ c s.
    let prepared : Core = after_deed (preparation c.place c.view digest) c in
    let keys : Keys = same_keys accepts m.sig in
    let here = place ∙ s.place in
    let seen = view ∙ s.view in
    let id = me ∙ ap (λ (w : View). w.me) seen in
    record {
      keys = keys;
      signed = [];
      stands = record {
        place = commit_place keys [] prepared digest next mid new accepts last signings before after here seen id at m refl
            refl;
        view = commit_view keys [] prepared digest next mid new accepts last signings before after here seen id at m refl
            refl;
        placed = all_placed (does keys (duty_of.Prepare digest) [] c) c s.placed;
      };
      due = commit_due keys [] prepared digest next mid new accepts last signings before after here seen id at m refl refl;
    }
