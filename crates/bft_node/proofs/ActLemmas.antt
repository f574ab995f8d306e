-- What an act of a node adds to the step so far.
use Rattle.std.proofs.Common.{
  ◌≡◌,
  ℕ,
  Bool,
  List,
  [],
  ◌∷◌,
  ◌++◌,
  map,
  ◌==◌,
  IsTrue,
  IfErr,
  Result,
  inl,
  inr,
  arith,
  refl,
  sym,
  ap,
  subst,
  ◌∙◌,
  append_assoc,
}
use Rattle.std.proofs.lemmas.Bool.{cases_Bool}
use Rattle.std.proofs.lemmas.List.{append-nil}
use Rattle.ord_types.specs.Grammar.{IsNumber}
use Rattle.ord_types.specs.declared.values.Block.{Block}
use Rattle.ord_types.specs.declared.values.Cert.{Cert}
use Rattle.ord_types.specs.declared.values.Place.{Place}
use Rattle.ord_types.specs.declared.values.Proof.{Proof}
use Rattle.ord_types.specs.declared.values.Proof.TheVariants.{Bft}
use Rattle.gate_log.specs.Disk.{State, now}
use Rattle.chan_config.specs.Blocks.{change_in}
use Rattle.chan_config.specs.Places.{next_place}
use Rattle.signer_edge.specs.Accepts.{Accepts}
use Rattle.bft_wire.specs.declared.message.Message.{Message}
use Rattle.block_ledger.specs.Chains.{IsChain}
use Rattle.view_model.specs.declared.act.Act.{Act}
use Rattle.view_model.specs.declared.act.Act.TheVariants as act_of
use Rattle.view_model.specs.Acts.{View}
use Rattle.view_model.specs.declared.letter.Letter.{Letter}
use Rattle.view_model.specs.Answers.{
  after_act,
  after_vote,
  at_place,
  is_new,
  is_same_config,
  kept_after,
  vote_answer,
}
use Rattle.node_model.specs.Cores.{Core, after_deed}
use Rattle.node_model.specs.Entries.{Deed, Delivers, Did, Entry, statements_of}
use Rattle.node_model.specs.Steps as duty_of
use Rattle.node_model.specs.Steps.{
  Keys,
  acceptance,
  commits,
  does,
  prepare_message,
  preparation,
  to_all,
}
use Rattle.view_core.specs.Places.{IsPlace, StandsAt}
use Rattle.bft_node.specs.Commits.{Commits, SignsAtMost, statement_at}
use Rattle.bft_node.specs.Held.{Held}
use Rattle.bft_node.specs.Keeping.{Keeps, KeepsWithin, StandsStill}
use Rattle.bft_node.specs.Making.{
  Before,
  GoesOn,
  IsStopped,
  Makes,
  Tells,
  around,
  core_in,
  place_in,
  sent_of,
  sent_to_others,
  view_in,
}
use Rattle.bft_node.specs.NodeFaults.{NeedsLimit, TouchesNoDisk}
use Rattle.bft_node.specs.Running.{IsSound, place_of}
use Rattle.bft_node.specs.Signings.{Grows, KeysFit, Signing, keys_after, statements_in}
use Rattle.bft_node.specs.Stores.{IsKept, config_of, held_of}
use Rattle.bft_node.specs.declared.live.Out.{Out}
use Rattle.bft_node.specs.declared.live.Running.{Running}
use Rattle.bft_node.specs.declared.node_fault.NodeFault.{NodeFault}
use Rattle.bft_node.proofs.CommitLemmas.{
  commit_said,
  commit_stopped,
  commit_tells,
  goes_on_with,
  made_sent,
  with_commit,
}
use Rattle.bft_node.proofs.KeepingLemmas.{kept_stopped, made_kept, same_place}
use Rattle.bft_node.proofs.MakingLemmas.{core-append, makes_as, statements-append, stopped, stopped_by, stopped_here, stopped_more}
use Rattle.bft_node.proofs.PlaceLemmas.{delivered_place}
use Rattle.bft_node.proofs.ViewLemmas.{
  StandsAt-after_act,
  StandsAt-at_place,
  StandsAt-kept_after,
  me-after_act,
  me-at_place,
  me-kept_after,
}

-- AN ACCEPTANCE, and what is sent with it

-- what the node sends for a block where it stands, whatever it accepted
abbrev pub Texts : Type 0
Texts = Place → View → List Message

abbrev pub IsBlind : Block → Texts → Type 0
IsBlind block texts = (p : Place) (w : View) → texts p (after_act (act_of.Accept block) w) ≡ texts p w

-- the acceptance and these messages
abbrev pub accepts_with : Block → Texts → Core → List Entry
accepts_with block texts c = Did (acceptance c.place c.view block) ∷ map (to_all c) (texts c.place c.view)

-- where the deed is of a copy of the block
pub of_copy : (deed : Block → Deed) (x block : Block) (r : Running) (accepts : Accepts) (tells : Bool)
    (moments after : List State) → x ≡ block → KeepsWithin (deed x) r accepts tells moments after
    → KeepsWithin (deed block) r accepts tells moments after
of_copy deed x block r accepts tells moments after same within =
    subst (λ (y : Block). KeepsWithin (deed y) r accepts tells moments after) same within

-- a deed and what follows it
behind : (made : List Entry) (deed : Entry) (more : List Entry) → (made ++ deed ∷ []) ++ more ≡ made ++ deed ∷ more
behind made deed more = append_assoc made (deed ∷ []) more

module _ (b : Before) (made : List Entry) (block : Block) (texts : Texts) (blind : IsBlind block texts) (r : Running)
    (accepts : Accepts) (tells : Bool) (moments after : List State) (out : Out)
    (h : Makes b made (act_of.Accept block) r (around accepts tells moments out))
    (within : KeepsWithin (acceptance (place_of r) r.view block) r accepts tells moments after) where
  abbrev core : Core
  core = core_in b made

  abbrev next : Deed
  next = acceptance core.place core.view block

  accepted_deed : acceptance (place_of r) r.view block ≡ next
  accepted_deed =
      ap (λ (w : View). acceptance (place_of r) w block) h.view ∙ ap (λ (p : Place). acceptance p core.view block) h.place

  -- given up while it was written
  pub accepted_stopped : (IsTrue tells → IsKept r.store (now moments)) → (fault : NodeFault)
      → NeedsLimit tells (acceptance (place_of r) r.view block) (held_of r.store) fault
      → IsStopped b (made ++ accepts_with block texts core) (statements_of made) accepts tells after fault
  accepted_stopped kept fault needs =
      let here = kept_stopped b made (act_of.Accept block) r accepts tells moments after out
      (acceptance (place_of r) r.view block) next accepted_deed h within kept fault needs in
      let more = map (to_all core) (texts core.place core.view) in
      subst (λ (l : List Entry). IsStopped b l (statements_of made) accepts tells after fault)
      (behind made (Did next) more)
      (stopped_more b (made ++ Did next ∷ []) more (statements_of made) accepts tells after fault here)

  module _ (new : Running) (told last : Out) (k : Keeps (acceptance (place_of r) r.view block) r new out told) where
    new_place : place_of new ≡ core.place
    new_place = same_place r new k.still.config (ap (λ (x : Held). x.blocks) k.held) ∙ h.place

    new_view : new.view ≡ after_act (act_of.Accept block) core.view
    new_view = k.still.view ∙ h.view

    -- it is kept
    pub accepted_made : Makes b (made ++ Did next ∷ []) act_of.Kept new (around accepts tells after told)
    accepted_made =
        made_kept b made (act_of.Accept block) r accepts tells moments after out
        (acceptance (place_of r) r.view block) next accepted_deed h within new new told k refl refl refl new_place new_view
        refl refl
        (λ chain. subst (λ (x : Held). IsChain accepts (config_of r.store) x.blocks) (sym k.held) chain)

    -- given up after that
    pub accepted_given_up : (IsTrue tells → IsKept new.store (now after)) → (fault : NodeFault) → TouchesNoDisk fault
        → IsStopped b (made ++ accepts_with block texts core) (statements_of made) accepts tells after fault
    accepted_given_up kept fault no_disk =
        let more = map (to_all core) (texts core.place core.view) in
        let here = stopped b (made ++ Did next ∷ []) more act_of.Kept new (around accepts tells after told) fault
        accepted_made kept no_disk in
        let none = statements-append made (Did next ∷ []) ∙ append-nil (statements_of made) in
        subst (λ (l : List Entry). IsStopped b l (statements_of made) accepts tells after fault)
        (behind made (Did next) more)
        (subst (λ (l : List (List ℕ)). IsStopped b ((made ++ Did next ∷ []) ++ more) l accepts tells after fault) none here)

    -- the same entries
    accepted_as : (made ++ Did next ∷ []) ++ map (to_all (core_in b (made ++ Did next ∷ []))) (texts (place_of new) new.view)
        ≡ made ++ accepts_with block texts core
    accepted_as =
        behind made (Did next) (map (to_all (core_in b (made ++ Did next ∷ []))) (texts (place_of new) new.view))
        ∙ ap (λ (x : Core). made ++ Did next ∷ map (to_all x) (texts (place_of new) new.view))
        (core-append b made (Did next ∷ []))
        ∙ ap (λ (p : Place). made ++ Did next ∷ map (to_all core) (texts p new.view)) new_place
        ∙ ap (λ (w : View). made ++ Did next ∷ map (to_all core) (texts core.place w)) new_view
        ∙ ap (λ (l : List Message). made ++ Did next ∷ map (to_all core) l) (blind core.place core.view)

    -- and the messages are sent
    pub accepted_sent : last.facts ≡ told.facts → last.done ≡ told.done
        → map sent_of last.sends ≡ map sent_of told.sends ++ sent_to_others new (texts (place_of new) new.view)
        → Makes b (made ++ accepts_with block texts core) act_of.Kept new (around accepts tells after last)
    accepted_sent facts done sends =
        makes_as b _ (made ++ accepts_with block texts core) act_of.Kept new (around accepts tells after last) accepted_as
        (made_sent b (made ++ Did next ∷ []) act_of.Kept new accepts tells after told last
        (texts (place_of new) new.view) accepted_made facts done sends)

-- the Prepare alone
abbrev pub prepare_text : Block → Texts
prepare_text block p w = prepare_message p w block ∷ []

-- A PREPARATION

module _ (b : Before) (made : List Entry) (digest : List ℕ) (r : Running) (accepts : Accepts) (tells : Bool)
    (moments after : List State) (out : Out)
    (h : Makes b made (act_of.Prepare digest) r (around accepts tells moments out))
    (within : KeepsWithin (preparation (place_of r) r.view digest) r accepts tells moments after) where
  abbrev prepared_core : Core
  prepared_core = core_in b made

  abbrev prepared_deed_is : Deed
  prepared_deed_is = preparation prepared_core.place prepared_core.view digest

  prepared_deed : preparation (place_of r) r.view digest ≡ prepared_deed_is
  prepared_deed =
      ap (λ (w : View). preparation (place_of r) w digest) h.view
      ∙ ap (λ (p : Place). preparation p prepared_core.view digest) h.place

  pub prepared_stopped : (IsTrue tells → IsKept r.store (now moments)) → (fault : NodeFault)
      → NeedsLimit tells (preparation (place_of r) r.view digest) (held_of r.store) fault
      → IsStopped b (made ++ does b.keys (duty_of.Prepare digest) (statements_of made) prepared_core) (statements_of made) accepts
      tells after fault
  prepared_stopped kept fault needs =
      let here = kept_stopped b made (act_of.Prepare digest) r accepts tells moments after out
      (preparation (place_of r) r.view digest) prepared_deed_is prepared_deed h within kept fault needs in
      let more = commits b.keys (statements_of made) prepared_core digest in
      subst (λ (l : List Entry). IsStopped b l (statements_of made) accepts tells after fault)
      (behind made (Did prepared_deed_is) more)
      (stopped_more b (made ++ Did prepared_deed_is ∷ []) more (statements_of made) accepts tells after fault here)

  -- nothing more was signed
  pub prepared_said : statements_of (made ++ Did prepared_deed_is ∷ []) ≡ statements_of made
  prepared_said = statements-append made (Did prepared_deed_is ∷ []) ∙ append-nil (statements_of made)

  -- the same entries
  pub prepared_as : (made ++ Did prepared_deed_is ∷ [])
      ++ commits b.keys (statements_of (made ++ Did prepared_deed_is ∷ [])) (core_in b (made ++ Did prepared_deed_is ∷ [])) digest
      ≡ made ++ does b.keys (duty_of.Prepare digest) (statements_of made) prepared_core
  prepared_as =
      behind made (Did prepared_deed_is)
      (commits b.keys (statements_of (made ++ Did prepared_deed_is ∷ [])) (core_in b (made ++ Did prepared_deed_is ∷ [])) digest)
      ∙ ap (λ (x : Core). made ++ Did prepared_deed_is ∷ commits b.keys (statements_of (made ++ Did prepared_deed_is ∷ [])) x digest)
      (core-append b made (Did prepared_deed_is ∷ []))
      ∙ ap (λ (l : List (List ℕ)). made ++ Did prepared_deed_is ∷ commits b.keys l prepared_core digest) prepared_said

  module _ (new : Running) (told : Out) (k : Keeps (preparation (place_of r) r.view digest) r new out told) where
    -- it is kept
    pub prepared_made : Makes b (made ++ Did prepared_deed_is ∷ []) act_of.Kept new (around accepts tells after told)
    prepared_made =
        made_kept b made (act_of.Prepare digest) r accepts tells moments after out
        (preparation (place_of r) r.view digest) prepared_deed_is prepared_deed h within new new told k refl refl refl
        (same_place r new k.still.config (ap (λ (x : Held). x.blocks) k.held) ∙ h.place) (k.still.view ∙ h.view) refl refl
        (λ chain. subst (λ (x : Held). IsChain accepts (config_of r.store) x.blocks) (sym k.held) chain)

-- and its Commit, whatever is answered
module _ {K : Type 0} (acc : K → Accepts) (b : Before) (made : List Entry) (digest : List ℕ) (r : Running) (old : K)
    (tells : Bool) (moments after : List State) (out : Out)
    (h : Makes b made (act_of.Prepare digest) r (around (acc old) tells moments out))
    (within : KeepsWithin (preparation (place_of r) r.view digest) r (acc old) tells moments after) (mid : Running)
    (told_out : Out) (k : Keeps (preparation (place_of r) r.view digest) r mid out told_out)
    (signings : List (Signing K)) (fit : KeysFit acc b.keys (statements_of made) old signings)
    (grows : Grows acc old signings) where
  abbrev one : List Entry
  one = made ++ Did (preparation (place_in b made) (view_in b made) digest) ∷ []

  abbrev all : List Entry
  all = made ++ does b.keys (duty_of.Prepare digest) (statements_of made) (core_in b made)

  here : Makes b one act_of.Kept mid (around (acc old) tells after told_out)
  here = prepared_made b made digest r (acc old) tells moments after out h within mid told_out k

  same : with_commit b digest one ≡ all
  same = prepared_as b made digest r (acc old) tells moments after out h within

  none : statements_of one ≡ statements_of made
  none = prepared_said b made digest r (acc old) tells moments after out h within

  fits_one : KeysFit acc b.keys (statements_of one) old signings
  fits_one = subst (λ (l : List (List ℕ)). KeysFit acc b.keys l old signings) (sym none) fit

  pub prepared_goes : (result : Result Act NodeFault) (last : K) (new : Running) (last_out : Out)
      → (IsTrue tells → IsKept mid.store (now after)) → StandsAt (place_of mid) mid.view
      → IfErr result TouchesNoDisk
      → GoesOn result (λ told. Commits digest told mid new (acc last) last signings told_out last_out)
      (λ fault. SignsAtMost (statement_at mid digest) signings)
      → GoesOn result
      (λ told. Tells b all told new (around (acc last) tells after last_out)
      × (statements_of all ≡ statements_of made ++ statements_in signings))
      (IsStopped b all (statements_of made ++ statements_in signings) (acc (keys_after old signings)) tells after)
  prepared_goes result last new last_out kept at no_disk commits =
      goes_on_with result _ _ _ _ _ commits no_disk
      (λ told m. (
        subst (λ (l : List Entry). Tells b l told new (around (acc last) tells after last_out)) same
            (commit_tells acc b one digest mid old tells after told_out here signings grows told new last last_out at m
            fits_one),
        ap (λ (l : List Entry). statements_of l) (sym same)
            ∙ commit_said acc b one digest mid old tells after told_out here signings grows told new last last_out at m
            fits_one ∙ ap (λ (l : List (List ℕ)). l ++ statements_in signings) none,
      ))
      (λ fault touches most.
      stopped_by b (with_commit b digest one) all (statements_of one ++ statements_in signings)
      (statements_of made ++ statements_in signings) (acc (keys_after old signings)) (acc (keys_after old signings)) tells
      tells after fault fault (sym same) (ap (λ (l : List (List ℕ)). l ++ statements_in signings) (sym none)) refl refl
      refl
      (commit_stopped acc b one digest mid old tells after told_out here signings grows kept most fault touches))

-- A DELIVERY

module _ (b : Before) (made : List Entry) (block : Block) (cert : Cert) (r : Running) (accepts : Accepts) (tells : Bool)
    (moments after : List State) (out : Out)
    (h : Makes b made (act_of.Deliver block cert) r (around accepts tells moments out))
    (within : KeepsWithin (Delivers r.view.me block (Bft cert)) r accepts tells moments after) where
  abbrev delivered_core : Core
  delivered_core = core_in b made

  abbrev delivered_deed_is : Deed
  delivered_deed_is = Delivers delivered_core.view.me block (Bft cert)

  delivered_deed : Delivers r.view.me block (Bft cert) ≡ delivered_deed_is
  delivered_deed = ap (λ (w : View). Delivers w.me block (Bft cert)) h.view

  pub delivered_stopped : (IsTrue tells → IsKept r.store (now moments)) → (fault : NodeFault)
      → NeedsLimit tells (Delivers r.view.me block (Bft cert)) (held_of r.store) fault
      → IsStopped b (made ++ Did delivered_deed_is ∷ []) (statements_of made) accepts tells after fault
  delivered_stopped kept fault needs =
      kept_stopped b made (act_of.Deliver block cert) r accepts tells moments after out
      (Delivers r.view.me block (Bft cert)) delivered_deed_is delivered_deed h within kept fault needs

  module _ (mid new : Running) (told : Out) (k : Keeps (Delivers r.view.me block (Bft cert)) r mid out told)
      (id : new.id ≡ mid.id) (store : new.store ≡ mid.store) (found : new.found ≡ mid.found)
      (view : new.view ≡ at_place (place_of mid) mid.view)
      (chain : IsChain accepts (config_of r.store) (held_of r.store).blocks
      → IsChain accepts (config_of r.store) (held_of mid.store).blocks) where
    mid_stands : place_of mid ≡ next_place delivered_core.place (block, Bft cert)
    mid_stands =
        delivered_place r mid block (Bft cert) k.still.config (ap (λ (x : Held). x.blocks) k.held)
        ∙ ap (λ (p : Place). next_place p (block, Bft cert)) h.place

    pub delivered_made : Makes b (made ++ Did delivered_deed_is ∷ []) act_of.Kept new (around accepts tells after told)
    delivered_made =
        made_kept b made (act_of.Deliver block cert) r accepts tells moments after out
        (Delivers r.view.me block (Bft cert)) delivered_deed_is delivered_deed h within mid new told k id store found mid_stands
        (view ∙ ap (λ (p : Place). at_place p mid.view) mid_stands
        ∙ ap (λ (w : View). at_place (next_place delivered_core.place (block, Bft cert)) w) (k.still.view ∙ h.view))
        (me-at_place (next_place delivered_core.place (block, Bft cert)) delivered_core.view) refl chain

    -- given up after that
    pub delivered_given_up : (IsTrue tells → IsKept new.store (now after)) → (fault : NodeFault) → TouchesNoDisk fault
        → IsStopped b (made ++ Did delivered_deed_is ∷ []) (statements_of made) accepts tells after fault
    delivered_given_up kept fault no_disk =
        let none = statements-append made (Did delivered_deed_is ∷ []) ∙ append-nil (statements_of made) in
        subst (λ (l : List (List ℕ)). IsStopped b (made ++ Did delivered_deed_is ∷ []) l accepts tells after fault) none
        (stopped_here b (made ++ Did delivered_deed_is ∷ []) act_of.Kept new (around accepts tells after told) fault delivered_made kept
        no_disk)

-- the view keeps its number at another place, or begins at 0
number-at_place : (place : Place) (w : View) → IsNumber w.view → IsNumber (at_place place w).view
number-at_place place w lt =
    elim (cases_Bool (is_same_config place w)) [
      | inr e ↦ rw e (omega arith)
      | inl e ↦ elim (cases_Bool (w.height == place.height)) [ inl h ↦ rw (e, h) lt | inr h ↦ rw (e, h) lt ]
    ]

-- the place's configuration stays as it is behind a block
config_stays : (p : Place) (b : Block) (proof : Proof) → IsNumber p.config.number
    → IsNumber (next_place p (b, proof)).config.number
unfolding next_place change_in
config_stays p b proof h = h

pub delivered_sound : (r new : Running) (v : View) (block : Block) (proof : Proof) → IsSound r → StandsStill r new
    → place_of new ≡ next_place (place_of r) (block, proof) → IsPlace (place_of new)
    → v ≡ at_place (place_of new) new.view → IsSound (record new { view = v })
delivered_sound r new v block proof s still moved stands view =
    record {
      me = ap (λ (w : View). w.me) view ∙ me-at_place (place_of new) new.view ∙ ap (λ (w : View). w.me) still.view ∙ s.me ∙ sym still.id;
      place = stands;
      at = subst (λ (w : View). StandsAt (place_of new) w) (sym view) (StandsAt-at_place (place_of new) new.view);
      config = subst (λ (p : Place). IsNumber p.config.number) (sym moved)
          (config_stays (place_of r) block proof s.config);
      view = subst (λ (w : View). IsNumber w.view) (sym view) (number-at_place (place_of new) new.view (subst (λ (w : View). IsNumber w.view) (sym still.view) s.view));
    }
