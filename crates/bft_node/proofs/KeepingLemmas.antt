-- A deed that is made durable and told, in a step so far.
use Rattle.std.proofs.Common.{◌≡◌, ℕ, zero, suc, ◌+◌, ◌≤◌, Bool, List, [], ◌∷◌, ◌++◌, length, take, map, inl, Option, Result, Ok, Err, IsSome, IfErr, IsErrAnd, IsTrue, refl, sym, ap, subst, ◌∙◌, arith, length-append}
use Rattle.std.proofs.Math.Seq.{take-append_seam, take-length}
use Rattle.std.proofs.lemmas.List.{append-nil}
use Rattle.ord_types.specs.Grammar.{IsNumber}
use Rattle.ord_types.specs.Hashes.{block_hash}
use Rattle.ord_types.specs.declared.values.Block.{Block}
use Rattle.ord_types.specs.declared.values.Config.{Config}
use Rattle.ord_types.specs.declared.values.Place.{Place}
use Rattle.gate_log.specs.Disk.{State, now}
use Rattle.gate_log.specs.Runs.{Throughout}
use Rattle.gate_log.proofs.Going.{last_of}
use Rattle.safety_model.specs.declared.fact.Fact.{Fact}
use Rattle.safety_model.specs.declared.fact.Fact.TheVariants.{Accepted}
use Rattle.signer_edge.specs.Accepts.{Accepts as Accepting}
use Rattle.signer_edge.specs.Signing.{KeepsAccepted}
use Rattle.block_ledger.specs.Chains.{IsChain, Entry as Stored}
use Rattle.block_ledger.specs.Places.{place_after}
use Rattle.block_ledger.proofs.Linking.{chain_stays}
use Rattle.view_model.specs.declared.act.Act.{Act}
use Rattle.view_model.specs.declared.act.Act.TheVariants as act_of
use Rattle.view_model.specs.Acts.{View}
use Rattle.node_model.specs.Cores.{after_deed}
use Rattle.node_model.specs.Entries.{
  Accepts,
  Deed,
  Did,
  Entry,
  Prepares,
  deeds_of,
  fact_of,
  statements_of,
  stored_by,
}
use Rattle.node_model.specs.Steps.{acceptance, preparation}
use Rattle.view_core.specs.Places.{IsPlace, StandsAt}
use Rattle.bft_node.specs.Crashes.{Image, IsCrash, Opens, Within}
use Rattle.bft_node.specs.Held.{Held, with_deed, with_deeds}
use Rattle.bft_node.specs.Keeping.{Keeps, KeepsWithin}
use Rattle.bft_node.specs.Making.{
  Before,
  GoesWithin,
  IsStopped,
  LeavesMade,
  Makes,
  OpensMade,
  around,
  core_in,
  done_of,
  sent_of,
  view_in,
}
use Rattle.bft_node.specs.Running.{IsSound, as_found, place_of}
use Rattle.bft_node.specs.NodeFaults.{HasLimit, NeedsLimit, store_fault, write_limit}
use Rattle.bft_node.specs.Stores.{IsKept, WriteAnswers, config_of, held_of}
use Rattle.bft_node.specs.declared.live.Done.{Done}
use Rattle.bft_node.specs.declared.live.Out.{Out}
use Rattle.bft_node.specs.declared.live.Running.{Running}
use Rattle.bft_node.specs.declared.fault.StoreFault.{StoreFault}
use Rattle.bft_node.specs.declared.fault.StoreFault.TheVariants as store_of
use Rattle.bft_node.specs.declared.node_fault.NodeFault.{NodeFault}
use Rattle.bft_node.specs.declared.store.Store.{Store}
use Rattle.bft_node.proofs.Running.{runs_go_on, store_opens}
use Rattle.bft_node.proofs.MakingLemmas.{deeds-append, limit_of, makes_more, statements-append, with_deeds-append}

-- WHERE A NODE STANDS

pub same_preparation : (r : Running) (i v : ℕ) (p : Place) (d : List ℕ) → i ≡ r.view.me → p ≡ place_of r → v ≡ r.view.view → Prepares i p.config.number v p.height d ≡ preparation (place_of r) r.view d
same_preparation r i v p d me here view =
    ap (λ j. Prepares j p.config.number v p.height d) me ∙ ap (λ (q : Place). Prepares r.view.me q.config.number v q.height d) here
    ∙ ap (λ n. Prepares r.view.me (place_of r).config.number n (place_of r).height d) view

pub same_acceptance : (r : Running) (i v : ℕ) (p : Place) (b : Block) → i ≡ r.view.me → p ≡ place_of r → v ≡ r.view.view → Accepts i p.config.number v p.height b ≡ acceptance (place_of r) r.view b
same_acceptance r i v p b me here view =
    ap (λ j. Accepts j p.config.number v p.height b) me ∙ ap (λ (q : Place). Accepts r.view.me q.config.number v q.height b) here
    ∙ ap (λ n. Accepts r.view.me (place_of r).config.number n (place_of r).height b) view

pub accepted_fact : (r : Running) (i v : ℕ) (p : Place) (b : Block) (d : List ℕ) → i ≡ r.view.me → p ≡ place_of r → v ≡ r.view.view → d ≡ block_hash b → Accepted i p.config.number v p.height d ≡ fact_of (acceptance (place_of r) r.view b)
accepted_fact r i v p b d me here view hash =
    ap (λ h. Accepted i p.config.number v p.height h) hash ∙ ap fact_of (same_acceptance r i v p b me here view)

pub same_place : (r new : Running) → config_of new.store ≡ config_of r.store → (held_of new.store).blocks ≡ (held_of r.store).blocks → place_of new ≡ place_of r
same_place r new config blocks = ap (λ (c : Config). place_after c (held_of new.store).blocks) config ∙ ap (λ (l : List Stored). place_after (config_of r.store) l) blocks

pub still_sound : (r new : Running) → new.id ≡ r.id → new.view ≡ r.view → place_of new ≡ place_of r → IsSound r → IsSound new
still_sound r new id view place s =
    record {
      me = ap (λ (w : View). w.me) view ∙ s.me ∙ sym id;
      place = subst IsPlace (sym place) s.place;
      at = subst (λ (w : View). StandsAt (place_of new) w) (sym view) (subst (λ (p : Place). StandsAt p r.view) (sym place) s.at);
      config = subst (λ (p : Place). IsNumber p.config.number) (sym place) s.config;
      view = subst (λ (w : View). IsNumber w.view) (sym view) s.view;
    }

-- for a judge who accepts at least as much, from what holds for each who finds a chain
pub keeps_within : (deed : Deed) (r : Running) (tells : Bool) (before after : List State)
    → ((judge : Accepting) → IsTrue tells → IsChain judge (config_of r.store) (held_of r.store).blocks → Throughout (Within judge (config_of r.store) (deed ∷ []) (held_of r.store)) before after)
    → (accepts : Accepting) → KeepsWithin deed r accepts tells before after
keeps_within deed r tells before after went accepts judge keeps chain told =
    went judge told (chain_stays accepts judge (config_of r.store) (held_of r.store).blocks keeps chain)

-- A WRITE THAT NEEDS MORE THAN MAY BE

-- why the write of a deed failed
write_needs : (tells : Bool) (state : State) (store : Store) (deed : Deed) (limit : Option ℕ) (before later : ℕ) (fault : StoreFault) → (IsTrue tells → IsKept store state) → write_limit store deed ≡ limit → WriteAnswers limit before later (Err fault)
    → NeedsLimit tells deed (held_of store) (store_fault fault)
write_needs tells state store deed limit before later (store_of.Limit n) kept same answers =
    let some : IsSome (write_limit store deed) = subst IsSome (sym (same ∙ answers)) refl in
    inl (refl, (store, refl, some, λ t. (state, kept t)))
write_needs tells state store deed limit before later store_of.NoMemory kept same answers = tt
write_needs tells state store deed limit before later store_of.Disk kept same answers = tt

pub needs_limit : (tells : Bool) (state : State) (store : Store) (deed : Deed) (limit : Option ℕ) (before later : ℕ) (fault : StoreFault) (result : Result (Unit {0}) NodeFault) → (IsTrue tells → IsKept store state) → write_limit store deed ≡ limit
    → WriteAnswers limit before later (Err fault) → IsErrAnd result (λ told. told ≡ store_fault fault) → IfErr result (NeedsLimit tells deed (held_of store))
needs_limit tells state store deed limit before later fault (Ok x) kept same answers told = tt
needs_limit tells state store deed limit before later fault (Err e) kept same answers told =
    subst (NeedsLimit tells deed (held_of store)) (sym told) (write_needs tells state store deed limit before later fault kept same answers)

-- A WRITE THAT WAS GIVEN UP

-- every crash at the end opens to what was held, with the deed or without
last_within : (judge : Accepting) (store : Store) (deed : Deed) (before after : List State) → IsKept store (now before)
    → IsChain judge (config_of store) (held_of store).blocks
    → Throughout (Within judge (config_of store) (deed ∷ []) (held_of store)) before after
    → Within judge (config_of store) (deed ∷ []) (held_of store) (now after)
last_within judge store deed before after kept chain went =
    last_of (Within judge (config_of store) (deed ∷ []) (held_of store)) before after
    (λ image crash. record {
      done = 0;
      some = omega arith;
      opens = store_opens judge store (now before) kept chain image crash;
    }) went

-- with the deed or without, as entries
opens_upto : (judge : Accepting) (c : Config) (made : List Entry) (next : Deed) (held : Held) (image : Image) (done : ℕ)
    → done ≤ 1 → Opens judge c image (with_deeds (take done (next ∷ [])) (with_deeds (deeds_of made) held))
    → OpensMade judge c (made ++ Did next ∷ []) held (statements_of made) image
opens_upto judge c made next held image zero few opens =
    let same = sym (take-append_seam made (Did next ∷ [])) in
    record {
      cut = length made;
      some = omega (arith, length-append made (Did next ∷ []));
      opens = subst (λ (l : List Entry). Opens judge c image (with_deeds (deeds_of l) held)) same opens;
      signatures = ap (λ (l : List Entry). statements_of l) same;
    }
opens_upto judge c made next held image (suc n) few opens =
    let one : suc n ≡ 1 = omega (arith, few) in
    let all : List Entry = made ++ Did next ∷ [] in
    let same = sym (take-length all) in
    let by_one : Opens judge c image (with_deeds (next ∷ []) (with_deeds (deeds_of made) held)) =
    subst (λ k. Opens judge c image (with_deeds (take k (next ∷ [])) (with_deeds (deeds_of made) held))) one opens in
    let deeds : with_deeds (next ∷ []) (with_deeds (deeds_of made) held) ≡ with_deeds (deeds_of all) held =
    sym (with_deeds-append (deeds_of made) (next ∷ []) held)
    ∙ ap (λ (l : List Deed). with_deeds l held) (sym (deeds-append made (Did next ∷ []))) in
    let none : statements_of made ≡ statements_of all =
    sym (statements-append made (Did next ∷ []) ∙ append-nil (statements_of made)) in
    record {
      cut = length all;
      some = omega arith;
      opens = subst (λ (l : List Entry). Opens judge c image (with_deeds (deeds_of l) held)) same
          (subst (λ (x : Held). Opens judge c image x) deeds by_one);
      signatures = none ∙ ap (λ (l : List Entry). statements_of l) same;
    }

-- IN A STEP SO FAR, where the deed is the definition's

module _ (b : Before) (made : List Entry) (told : Act) (r : Running) (accepts : Accepting) (tells : Bool)
    (moments after : List State) (out : Out) (deed next : Deed) (same : deed ≡ next)
    (h : Makes b made told r (around accepts tells moments out))
    (within : KeepsWithin deed r accepts tells moments after) where
  here_chain : IsChain b.first b.config b.held.blocks → IsChain accepts (config_of r.store) (held_of r.store).blocks
  here_chain began =
      subst (λ (c : Config). IsChain accepts c (held_of r.store).blocks) (sym h.config) (h.chain began)

  kept_went : GoesWithin b (made ++ Did next ∷ []) accepts tells after
  kept_went began judge keeps t =
      let here = within judge keeps (here_chain began) t in
      let by_config =
      subst (λ (c : Config). Throughout (Within judge c (deed ∷ []) (held_of r.store)) moments after) h.config here in
      let by_deed = subst (λ (d : Deed). Throughout (Within judge b.config (d ∷ []) (held_of r.store)) moments after) same
      by_config in
      let by_held = subst (λ (x : Held). Throughout (Within judge b.config (next ∷ []) x) moments after) h.held by_deed in
      subst (λ (l : List Deed). Throughout (Within judge b.config l b.held) b.moments after)
      (sym (deeds-append made (Did next ∷ [])))
      (runs_go_on judge b.config (deeds_of made) (next ∷ []) b.held b.moments moments after
      (h.went began judge keeps t) by_held)

  kept_left : (IsTrue tells → IsKept r.store (now moments))
      → LeavesMade b (made ++ Did next ∷ []) (statements_of made) accepts tells after
  kept_left kept began judge keeps t image crash =
      let chain = here_chain began in
      let found = last_within judge r.store deed moments after (kept t)
      (chain_stays accepts judge (config_of r.store) (held_of r.store).blocks keeps chain)
      (within judge keeps chain t) image crash in
      let upto = found.done in
      let by_config = subst (λ (c : Config). Opens judge c image (with_deeds (take upto (deed ∷ [])) (held_of r.store)))
      h.config found.opens in
      let by_deed = subst (λ (d : Deed). Opens judge b.config image (with_deeds (take upto (d ∷ [])) (held_of r.store)))
      same by_config in
      let by_held = subst (λ (x : Held). Opens judge b.config image (with_deeds (take upto (next ∷ [])) x)) h.held
      by_deed in
      opens_upto judge b.config made next b.held image upto found.some by_held

  -- given up while the deed was written
  pub kept_stopped : (IsTrue tells → IsKept r.store (now moments)) → (fault : NodeFault)
      → NeedsLimit tells deed (held_of r.store) fault
      → IsStopped b (made ++ Did next ∷ []) (statements_of made) accepts tells after fault
  kept_stopped kept fault needs =
      record {
        went = kept_went;
        left = kept_left kept;
        signed_first = (statements_of (Did next ∷ []), sym (statements-append made (Did next ∷ [])));
        limit = subst (λ (l : List Deed). HasLimit tells b.held l fault) (sym (deeds-append made (Did next ∷ [])))
            (limit_of tells b.held (held_of r.store) (deeds_of made) next fault h.held
            (subst (λ (d : Deed). NeedsLimit tells d (held_of r.store) fault) same needs));
      }

  -- it was kept and told, and the view went on
  pub made_kept : (mid new : Running) (last : Out) → Keeps deed r mid out last → new.id ≡ mid.id
      → new.store ≡ mid.store → new.found ≡ mid.found → place_of mid ≡ (after_deed next (core_in b made)).place
      → new.view ≡ (after_deed next (core_in b made)).view
      → (after_deed next (core_in b made)).view.me ≡ (view_in b made).me
      → (after_deed next (core_in b made)).found ≡ (core_in b made).found
      → (IsChain accepts (config_of r.store) (held_of r.store).blocks
      → IsChain accepts (config_of r.store) (held_of mid.store).blocks)
      → Makes b (made ++ Did next ∷ []) act_of.Kept new (around accepts tells after last)
  made_kept mid new last k id store found place view me still chain =
      makes_more b made (Did next ∷ []) told act_of.Kept r new (around accepts tells moments out)
      (around accepts tells after last) h
      (record {
        id = id ∙ k.still.id;
        config = ap config_of store ∙ k.still.config;
        place = ap (λ (s : Store). place_after (config_of s) (held_of s).blocks) store ∙ place;
        view = view;
        me = me;
        found = ap as_found found ∙ ap as_found k.still.found ∙ h.found ∙ sym still;
        held = ap held_of store ∙ k.held ∙ ap (λ (d : Deed). with_deed d (held_of r.store)) same;
        facts = k.facts ∙ ap (λ (d : Deed). out.facts ++ fact_of d ∷ []) same;
        sends = ap (λ l. map sent_of l) k.sends ∙ sym (append-nil (map sent_of out.sends));
        done = k.done ∙ ap (λ (d : Deed). out.done ++ map done_of (stored_by d)) same
            ∙ ap (λ (l : List Stored). out.done ++ map done_of l) (sym (append-nil (stored_by next)));
        accepts = ap (λ (l : List (List ℕ)). b.keys.accepts l) (append-nil (statements_of made)) ∙ h.accepts;
        chain = λ held. subst (λ (s : Store). IsChain accepts b.config (held_of s).blocks) (sym store)
            (subst (λ (c : Config). IsChain accepts c (held_of mid.store).blocks) h.config
            (chain (subst (λ (c : Config). IsChain accepts c (held_of r.store).blocks) (sym h.config) held)));
        went = kept_went;
      })
