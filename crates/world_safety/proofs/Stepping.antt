-- All that a step makes is allowed, also where it is stopped, and the node stands after it.
use Rattle.std.proofs.Common.{
  ◌≡◌,
  ℕ,
  List,
  [],
  ◌∷◌,
  ◌++◌,
  reverse,
  take,
  refl,
  sym,
  subst,
  ap,
  ap₂,
  false,
  ◌∙◌,
}
use Rattle.std.specs.List.{AllByRecursion}
use Rattle.ord_types.specs.Members.{is_in}
use Rattle.safety_model.specs.Facts.{History}
use Rattle.safety_model.specs.Rules.{IsRun}
use Rattle.safety_model.specs.State.{Setup}
use Rattle.ord_types.specs.declared.values.Config.{Config}
use Rattle.node_model.specs.declared.event.Event.{Event}
use Rattle.node_model.specs.Cores.{after_entries}
use Rattle.node_model.specs.Entries.{Entry, Opened, Past, facts_of}
use Rattle.node_model.specs.Keeping.{PastNode, core_of_past, with_entries, with_entry}
use Rattle.node_model.specs.Laws.{AllFit, NothingAhead}
use Rattle.node_model.specs.Steps.{Keys, step}
use Rattle.node_model.proofs.BridgeLemmas.{all_go}
use Rattle.world_safety.specs.Fits.{FactFits}
use Rattle.world_safety.specs.AllowedSteps.{
  IsAllowedStep,
  IsBounded,
  IsGoodEvent,
  MayStep,
  NodeStands,
  SignsFit,
  StandsIn,
  past_step,
}
use Rattle.world_safety.proofs.StepRules.{step_made}
use Rattle.world_safety.proofs.StepMoments.{
  AreMade,
  Moment,
  Now,
  after_all,
  after_one,
  later_moment,
  made_allowed,
  made_front,
  node_in,
  told_all,
}
use Rattle.world_safety.proofs.Nodes.{reopened}

-- THE NODE behind entries

pub with_config : (made : List Entry) (n : PastNode) → (with_entries made n).config ≡ n.config
with_config [] n = refl
with_config (entry ∷ made) n = with_config made (with_entry entry n)

pub with_id : (made : List Entry) (n : PastNode) → (with_entries made n).id ≡ n.id
with_id [] n = refl
with_id (entry ∷ made) n = with_id made (with_entry entry n)

pub with_past : (made : List Entry) (s : Now) (n : PastNode) → s.past ≡ n.past
    → (after_all made s).past ≡ (with_entries made n).past
with_past [] s n same = same
with_past (entry ∷ made) s n same =
    with_past made (after_one entry s) (with_entry entry n) (ap (λ (past : Past). entry ∷ past) same)

pub with_more : (made : List Entry) (entry : Entry) (n : PastNode)
    → with_entries (made ++ entry ∷ []) n ≡ with_entry entry (with_entries made n)
with_more [] entry n = refl
with_more (one ∷ made) entry n = with_more made entry (with_entry one n)

-- it stands in a run
pub moment_stands : (su : Setup) (h : History) (i : ℕ) (n : PastNode) (made : List Entry)
    → n.config ≡ su.config
    → n.id ≡ i → Moment su i (after_all made (record { told = h; past = n.past }))
    → StandsIn su (reverse (facts_of made) ++ h) i (with_entries made n)
moment_stands su h i n made config id is =
    let s : Now = record { told = h; past = n.past } in
    let told = told_all made s in
    record {
      config = with_config made n ∙ config;
      id = with_id made n ∙ id;
      run = subst (IsRun su) told is.run;
      fit = subst (AllByRecursion FactFits) told is.fit;
      node = subst (NodeStands su (reverse (facts_of made) ++ h) i) (with_past made s n refl)
          (subst (λ (g : History). NodeStands su g i (after_all made s).past) told is.node);
    }

pub stands_opened : (su : Setup) (h : History) (i : ℕ) (n : PastNode) → StandsIn su h i n
    → StandsIn su h i (with_entry Opened n)
stands_opened su h i n is =
    record {
      config = is.config;
      id = is.id;
      run = is.run;
      fit = is.fit;
      node = reopened su h i n.past is.node;
    }

-- A STEP

pub moment_of : (su : Setup) (h : History) (i : ℕ) (n : PastNode) → StandsIn su h i n
    → Moment su i (record { told = h; past = n.past })
moment_of su h i n is = record { run = is.run; fit = is.fit; node = is.node }

-- what a node of this id makes, which is correct, in a run where no more members lie than the bound allows
pub stands_made : (su : Setup) (h : History) (i : ℕ) (keys : Keys) (n : PastNode) (event : Event)
    → IsBounded su
    → is_in i su.byzantine ≡ false → SignsFit keys → StandsIn su h i n → IsGoodEvent su h event
    → AreMade su i keys [] (record { told = h; past = n.past }) (past_step keys n event)
stands_made su h i keys n event bounded correct signs is good =
    let s : Now = record { told = h; past = n.past } in
    let same : node_in su i n.past ≡ n =
    ap₂ (λ (c : Config) (j : ℕ). record { config = c; id = j; past = n.past }) (sym is.config) (sym is.id) in
    subst (λ (m : PastNode). AreMade su i keys [] s (step keys (core_of_past m) event)) same
    (step_made su i bounded correct keys signs s event (moment_of su h i n is) good)

may_made : (su : Setup) (h : History) (keys : Keys) (n : PastNode) (event : Event) → MayStep su h keys n event
    → AreMade su n.id keys [] (record { told = h; past = n.past }) (past_step keys n event)
may_made su h keys n event may =
    stands_made su h n.id keys n event may.bounded may.correct may.signs may.node may.brings

-- wherever it is stopped
pub front_stands : (su : Setup) (h : History) (keys : Keys) (n : PastNode) (event : Event) (cut : ℕ)
    → MayStep su h keys n event
    → StandsIn su (reverse (facts_of (take cut (past_step keys n event))) ++ h) n.id
    (with_entries (take cut (past_step keys n event)) n)
front_stands su h keys n event cut may =
    let s : Now = record { told = h; past = n.past } in
    let front = take cut (past_step keys n event) in
    moment_stands su h n.id n front may.node.config refl
    (later_moment su n.id keys [] s front
    (made_front su n.id cut keys [] s (past_step keys n event) (may_made su h keys n event may))
    (moment_of su h n.id n may.node))

-- THE LAWS

pub steps_allowed : (su : Setup) (h : History) (keys : Keys) (n : PastNode) (event : Event)
    → MayStep su h keys n event → IsAllowedStep su n.id h (past_step keys n event)
steps_allowed su h keys n event may =
    made_allowed su n.id keys [] (record { told = h; past = n.past }) (past_step keys n event)
    (may_made su h keys n event may)

pub steps_in_place_allowed : (su : Setup) (h : History) (keys : Keys) (n : PastNode) (before : List Entry)
    (event : Event) → NothingAhead n → AllFit before (core_of_past n)
    → MayStep su h keys (with_entries before n) event
    → IsAllowedStep su n.id h (step keys (after_entries before (core_of_past n)) event)
steps_in_place_allowed su h keys n before event ahead fit may =
    subst (λ i. IsAllowedStep su i h (step keys (after_entries before (core_of_past n)) event))
    (with_id before n)
    (subst (λ c. IsAllowedStep su (with_entries before n).id h (step keys c event))
    (all_go before n fit ahead).same
    (steps_allowed su h keys (with_entries before n) event may))

pub nodes_after_steps : (su : Setup) (h : History) (keys : Keys) (n : PastNode) (event : Event)
    → MayStep su h keys n event
    → StandsIn su (reverse (facts_of (past_step keys n event)) ++ h) n.id
    (with_entries (past_step keys n event) n)
nodes_after_steps su h keys n event may =
    let s : Now = record { told = h; past = n.past } in
    let made = past_step keys n event in
    moment_stands su h n.id n made may.node.config refl
    (later_moment su n.id keys [] s made (may_made su h keys n event may) (moment_of su h n.id n may.node))

pub nodes_after_stops : (su : Setup) (h : History) (keys : Keys) (n : PastNode) (event : Event) (cut : ℕ)
    → MayStep su h keys n event
    → StandsIn su (reverse (facts_of (take cut (past_step keys n event))) ++ h) n.id
    (with_entries (take cut (past_step keys n event) ++ Opened ∷ []) n)
nodes_after_stops su h keys n event cut may =
    let front = take cut (past_step keys n event) in
    let g = reverse (facts_of front) ++ h in
    subst (StandsIn su g n.id) (sym (with_more front Opened n))
    (stands_opened su g n.id (with_entries front n) (front_stands su h keys n event cut may))
