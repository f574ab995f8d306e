-- Every event keeps a world in which the nodes' facts are a run and the messages rest on them.
use Rattle.std.proofs.Common.{
  ◌≡◌,
  ℕ,
  zero,
  suc,
  ◌+◌,
  ◌<◌,
  ◌≤◌,
  Bool,
  true,
  false,
  List,
  [],
  ◌∷◌,
  ◌++◌,
  reverse,
  cond,
  refl,
  sym,
  subst,
  ap,
  ◌∙◌,
  inl,
  inr,
  Some,
  set,
  arith,
}
use Rattle.std.specs.Prelude.{◌==◌, ◌⊎◌, filter, not, slice_get}
use Rattle.std.specs.List.{All, AllByRecursion, find, flat_map}
use Rattle.std.proofs.lemmas.Bool.{eq-eqb, eqb-true, false_from_ne_true, or_cases, or_left, or_right}
use Rattle.ord_types.specs.Grammar.{Ascend, HasRequestSpelling}
use Rattle.ord_types.specs.Members.{is_in}
use Rattle.ord_types.specs.declared.values.Proof.TheVariants as proof_of
use Rattle.safety_model.specs.Facts.{History}
use Rattle.safety_model.specs.declared.fact.Fact.{Fact}
use Rattle.safety_model.specs.State.{Setup}
use Rattle.safety_model.specs.Rules.{IsRun, actor}
use Rattle.script.specs.Commands.{AreIds}
use Rattle.signer_edge.specs.Seals.{is_sealed}
use Rattle.signer_edge.specs.Signing.{KeepsAccepted}
use Rattle.signer_edge.specs.declared.seals.Seal.{Seal}
use Rattle.signer_edge.proofs.SealFacts.{is_sealed-grown}
use Rattle.node_model.specs.Entries.{Past}
use Rattle.node_model.specs.Keeping.{PastNode}
use Rattle.world_model.specs.Worlds.{Entry, Node, Outcome, World, entry, seals_of, with_node}
use Rattle.world_safety.specs.Certified.{IsCertifiedFact}
use Rattle.world_safety.specs.Resting.{IsPreparedStatement}
use Rattle.world_safety.specs.Safe.{IsAllowedSeal, ids_of, setup_of, stored, stored_with}
use Rattle.world_safety.specs.AllowedSteps.{IsBounded, NodeStands}
use Rattle.world_safety.proofs.Lists.{all_append, all_map, all_mapped, all_reverse, all_within}
use Rattle.world_safety.specs.Fits.{FactFits}
use Rattle.world_safety.proofs.Own.{own_others}
use Rattle.world_safety.proofs.Backing.{seal_over}
use Rattle.world_safety.proofs.Nodes.{other_did}
use Rattle.world_safety.proofs.Reading.{EntryIn}
use Rattle.world_safety.proofs.Sealing.{IsSealedPast, facts_certified, past_sealed}

-- the members that aren't Byzantine
abbrev pub correct_in : Setup → List ℕ
correct_in su = filter (λ id. not (is_in id su.byzantine)) su.config.members

abbrev pub IsSealIn : Setup → History → Seal → Type 0
IsSealIn su h seal = IsAllowedSeal su.config.members su.byzantine (correct_in su) h seal

-- a node of the world, where these are all facts, and this is the box of seals
pub record NodeIn (su : Setup) (h : History) (box : List Seal) (node : Node PastNode) : Type 0 where
  pub config : node.state.config ≡ su.config
  pub id : node.state.id ≡ node.id
  pub correct : is_in node.id (correct_in su) ≡ true
  pub stands : NodeStands su h node.id node.state.past
  pub pool : All HasRequestSpelling node.pool
  pub stored : node.ledger ≡ stored su node.id h
  pub sealed : IsSealedPast su.config node.id (is_sealed box) node.state.past

-- no two ids are equal
abbrev pub Apart : List ℕ → Type 0
Apart [] = Unit {0}
Apart (x ∷ xs) = AllByRecursion (λ y. (y == x) ≡ false) xs × Apart xs

pub record GoodWorld (su : Setup) (w : World PastNode History) : Type 0 where
  pub first : su ≡ setup_of w
  pub ids : AreIds su.config.members
  pub bounded : IsBounded su
  pub run : IsRun su w.told
  pub fit : AllByRecursion FactFits w.told
  pub members : ids_of w.nodes ≡ correct_in su
  pub actors : AllByRecursion (λ f. is_in (actor f) (correct_in su) ≡ true) w.told
  pub nodes : AllByRecursion (NodeIn su w.told w.seals) w.nodes
  pub network : AllByRecursion (EntryIn su w.told) w.network
  pub certified : AllByRecursion (IsCertifiedFact (is_sealed w.seals) su.config) w.told
  pub sealed : AllByRecursion (IsSealIn su w.told) w.seals

-- MEMBERS IN ASCENDING ORDER ARE APART

pub above : (x least : ℕ) (xs : List ℕ) → x < least → Ascend least xs
    → AllByRecursion (λ y. (y == x) ≡ false) xs
above x least [] low up = tt
above x least (y ∷ ys) low up =
    let from : least ≤ y = up.0 in (
      false_from_ne_true (y == x) (λ is. let same = eqb-true y x is in omega arith),
      above x (y + 1) ys
          (omega arith) up.1,
    )

ascending_apart : (least : ℕ) (xs : List ℕ) → Ascend least xs → Apart xs
ascending_apart least [] up = tt
ascending_apart least (x ∷ xs) up = (above x (x + 1) xs (omega arith) up.1, ascending_apart (x + 1) xs up.1)

apart_within : (test : ℕ → Bool) (xs : List ℕ) → Apart xs → Apart (filter test xs)
apart_within test [] apart = tt
apart_within test (x ∷ xs) apart = go (test x) (apart_within test xs apart.1)
  where
    go : (t : Bool) → Apart (filter test xs) → Apart (cond t (x ∷ filter test xs) (filter test xs))
    go true rest = (all_within (λ y. (y == x) ≡ false) test xs apart.0, rest)
    go false rest = rest

pub nodes_apart : (su : Setup) (w : World PastNode History) → GoodWorld su w → Apart (ids_of w.nodes)
nodes_apart su w good = subst Apart (sym good.members) (apart_within (λ id. not (is_in id su.byzantine))
    su.config.members (ascending_apart 1 su.config.members good.bounded.members.ascending))

-- CORRECT MEMBERS are members, and not Byzantine

within_test : (test : ℕ → Bool) (i : ℕ) (xs : List ℕ) → is_in i (filter test xs) ≡ true
    → (is_in i xs ≡ true) × (test i ≡ true)
within_test test i [] is = absurd (cc)
within_test test i (x ∷ xs) is = go (test x) refl is (within_test test i xs)
  where
    here : test x ≡ true → ((x == i) ≡ true) ⊎ (is_in i (filter test xs) ≡ true)
        → (is_in i (filter test xs) ≡ true → (is_in i xs ≡ true) × (test i ≡ true))
        → (is_in i (x ∷ xs) ≡ true) × (test i ≡ true)
    here passes (inl y) rest = (or_left _ _ y, subst (λ i. test i ≡ true) (eqb-true x i y) passes)
    here passes (inr n) rest = let both = rest n in (or_right _ _ both.0, both.1)

    go : (t : Bool) → test x ≡ t → is_in i (cond t (x ∷ filter test xs) (filter test xs)) ≡ true
        → (is_in i (filter test xs) ≡ true → (is_in i xs ≡ true) × (test i ≡ true))
        → (is_in i (x ∷ xs) ≡ true) × (test i ≡ true)
    go true passes at rest = here passes (or_cases (x == i) (is_in i (filter test xs)) at) rest
    go false passes at rest = let both = rest at in (or_right _ _ both.0, both.1)

not_true : (b : Bool) → not b ≡ true → b ≡ false
not_true true is = absurd (cc)
not_true false is = refl

-- what a correct member is
pub record IsCorrect (su : Setup) (i : ℕ) : Type 0 where
  pub member : is_in i su.config.members ≡ true
  pub honest : is_in i su.byzantine ≡ false

pub correct_is : (su : Setup) (i : ℕ) → is_in i (correct_in su) ≡ true → IsCorrect su i
correct_is su i is = let both = within_test (λ id. not (is_in id su.byzantine)) i su.config.members is in
    record { member = both.0; honest = not_true (is_in i su.byzantine) both.1 }

-- FACTS OF ONE NODE, one after the other

not_mine : (i j : ℕ) (f : Fact) → (actor f == i) ≡ true → (j == i) ≡ false → (actor f == j) ≡ false
not_mine i j f mine other =
    false_from_ne_true (actor f == j) (λ y. let same : actor f ≡ j = eqb-true (actor f) j y in
    let yes : (j == i) ≡ true = eq-eqb j i (sym same ∙ eqb-true (actor f) i mine) in cc)

other_over : (su : Setup) (h : History) (i j : ℕ) (past : Past) (fs : List Fact)
    → AllByRecursion (λ f. (actor f == i) ≡ true) fs → (j == i) ≡ false → NodeStands su h j past
    → NodeStands su (fs ++ h) j past
other_over su h i j past [] all other st = st
other_over su h i j past (f ∷ fs) all other st =
    other_did su (fs ++ h) j past f (not_mine i j f all.0 other) (other_over su h i j past fs all.1 other st)

-- they change nothing in the ledger of another
stored_others : (su : Setup) (i j : ℕ) (fs : List Fact) (h : History)
    → AllByRecursion (λ f. (actor f == i) ≡ true) fs → (j == i) ≡ false → stored su j (fs ++ h)
    ≡ stored su j h
stored_others su i j fs h all other =
    ap (λ (facts : History). (su.genesis, proof_of.Raft) ∷ flat_map stored_with (reverse facts))
    (own_others j fs h (all_map (λ f. (actor f == i) ≡ true) (λ f. (actor f == j) ≡ false)
    (λ f is. not_mine i j f is other) fs all))

-- A NODE IN PLACE OF THE ONE OF ITS ID

pub with_ids : (new : Node PastNode) (nodes : List (Node PastNode)) → ids_of (with_node new nodes)
    ≡ ids_of nodes
with_ids new [] = refl
with_ids new (node ∷ nodes) = go (node.id == new.id) refl (with_ids new nodes)
  where
    go : (t : Bool) → (node.id == new.id) ≡ t → ids_of (with_node new nodes) ≡ ids_of nodes
        → ids_of (cond t (new ∷ nodes) (node ∷ with_node new nodes)) ≡ node.id ∷ ids_of nodes
    go true is rest = ap (λ id. id ∷ ids_of nodes) (sym (eqb-true node.id new.id is))
    go false is rest = ap (λ ids. node.id ∷ ids) rest

keep_rest : (P Q : Node PastNode → Type 0) (id : ℕ) → ((other : Node PastNode) → (other.id == id) ≡ false
    → P other → Q other)
    → (nodes : List (Node PastNode)) → AllByRecursion (λ y. (y == id) ≡ false) (ids_of nodes)
    → AllByRecursion P nodes → AllByRecursion Q nodes
keep_rest P Q id keep [] apart all = tt
keep_rest P Q id keep (node ∷ nodes) apart all =
    (keep node apart.0 all.0, keep_rest P Q id keep nodes apart.1 all.1)

pub with_new : (P Q : Node PastNode → Type 0) (new : Node PastNode)
    → ((other : Node PastNode) → (other.id == new.id) ≡ false → P other → Q other) → Q new
    → (nodes : List (Node PastNode)) → Apart (ids_of nodes) → AllByRecursion P nodes
    → AllByRecursion Q (with_node new nodes)
with_new P Q new keep good [] apart all = tt
with_new P Q new keep good (node ∷ nodes) apart all =
    go (node.id == new.id) refl (with_new P Q new keep good nodes apart.1 all.1)
  where
    go : (t : Bool) → (node.id == new.id) ≡ t → AllByRecursion Q (with_node new nodes)
        → AllByRecursion Q (cond t (new ∷ nodes) (node ∷ with_node new nodes))
    go true is rest = (
      good,
      keep_rest P Q new.id keep nodes
          (subst (λ id. AllByRecursion (λ y. (y == id) ≡ false) (ids_of nodes)) (eqb-true node.id new.id is)
          apart.0) all.1,
    )
    go false is rest = (keep node is all.0, rest)

-- A NODE GOES ON: one of its id stands in its place, which did these facts and signed these statements, and
-- this is the network then
pub record GoesOn (su : Setup) (w : World PastNode History) (new : Node PastNode) (facts : List Fact)
    (network : List Entry) (signed : List (List ℕ)) : Type 0 where
  pub correct : is_in new.id (correct_in su) ≡ true
  pub run : IsRun su (reverse facts ++ w.told)
  pub fit : AllByRecursion FactFits (reverse facts ++ w.told)
  pub mine : AllByRecursion (λ f. (actor f == new.id) ≡ true) facts
  pub node : NodeIn su (reverse facts ++ w.told) (w.seals ++ seals_of new.id signed) new
  pub sent : AllByRecursion (EntryIn su (reverse facts ++ w.told)) network
  pub prepared : AllByRecursion (IsPreparedStatement (reverse facts ++ w.told) new.id) signed
  pub certified : AllByRecursion (IsCertifiedFact (is_sealed (w.seals ++ seals_of new.id signed)) su.config)
      facts

abbrev pub gone_on : World PastNode History → Node PastNode → List Fact → List Entry → List (List ℕ)
    → World PastNode History
gone_on w new facts network signed =
    record {
      config = w.config;
      byzantine = w.byzantine;
      nodes = with_node new w.nodes;
      network = network;
      seals = w.seals ++ seals_of new.id signed;
      told = reverse facts ++ w.told;
      outcomes = w.outcomes;
    }

pub goes_on_good : (su : Setup) (w : World PastNode History) (new : Node PastNode) (facts : List Fact)
    (network : List Entry) (signed : List (List ℕ)) → GoodWorld su w
    → GoesOn su w new facts network signed → GoodWorld su (gone_on w new facts network signed)
goes_on_good su w new facts network signed good is =
    let h = w.told in
    let i = new.id in
    let g = reverse facts ++ h in
    let box = w.seals ++ seals_of i signed in
    let grown : KeepsAccepted (is_sealed w.seals) (is_sealed box) =
    is_sealed-grown w.seals (seals_of i signed) in
    let acts : AllByRecursion (λ f. (actor f == i) ≡ true) (reverse facts) =
    all_reverse (λ f. (actor f == i) ≡ true) facts is.mine in
    let sealed_by = all_mapped (IsSealIn su g) (λ (statement : List ℕ). record {
      signer = i;
      statement =
          statement;
    }) signed
    (all_map (IsPreparedStatement g i) (λ (statement : List ℕ). IsSealIn su g
    (record { signer = i; statement = statement })) (λ statement prepared. inr (is.correct, prepared))
    signed is.prepared) in
    record {
      first = good.first;
      ids = good.ids;
      bounded = good.bounded;
      run = is.run;
      fit = is.fit;
      members = with_ids new w.nodes ∙ good.members;
      actors = all_append (λ f. is_in (actor f) (correct_in su) ≡ true) (reverse facts) h
          (all_map (λ f. (actor f == i) ≡ true) (λ f. is_in (actor f) (correct_in su) ≡ true)
          (λ f mine. subst (λ id. is_in id (correct_in su) ≡ true) (sym (eqb-true (actor f) i mine))
          is.correct) (reverse facts) acts) good.actors;
      nodes = with_new (NodeIn su h w.seals) (NodeIn su g box) new
          (λ other not_it before. record {
            config = before.config;
            id = before.id;
            correct = before.correct;
            stands = other_over su h i other.id other.state.past (reverse facts) acts not_it before.stands;
            pool = before.pool;
            stored = before.stored ∙ sym (stored_others su i other.id (reverse facts) h acts not_it);
            sealed = past_sealed (is_sealed w.seals) (is_sealed box) grown su.config other.id
                other.state.past before.sealed;
          })
          is.node w.nodes (nodes_apart su w good) good.nodes;
      network = is.sent;
      certified = all_append (IsCertifiedFact (is_sealed box) su.config) (reverse facts) h
          (all_reverse (IsCertifiedFact (is_sealed box) su.config) facts is.certified)
          (facts_certified (is_sealed w.seals) (is_sealed box) grown su.config h good.certified);
      sealed = all_append (IsSealIn su g) w.seals (seals_of i signed)
          (all_map (IsSealIn su h) (IsSealIn su g) (seal_over su.config.members su.byzantine (correct_in su)
          h (reverse facts)) w.seals good.sealed) sealed_by;
    }

-- another node of the same id, which did nothing
pub renewed_good : (su : Setup) (w : World PastNode History) (new : Node PastNode) → GoodWorld su w
    → NodeIn su w.told w.seals new → GoodWorld su (record w { nodes = with_node new w.nodes })
renewed_good su w new good is =
    record {
      first = good.first;
      ids = good.ids;
      bounded = good.bounded;
      run = good.run;
      fit = good.fit;
      members = with_ids new w.nodes ∙ good.members;
      actors = good.actors;
      nodes = with_new (NodeIn su w.told w.seals) (NodeIn su w.told w.seals) new
          (λ other not_it before. before) is w.nodes (nodes_apart su w good) good.nodes;
      network = good.network;
      certified = good.certified;
      sealed = good.sealed;
    }

-- other outcomes of what is to come
pub later_good : (su : Setup) (w : World PastNode History) (outcomes : List Outcome) → GoodWorld su w
    → GoodWorld su (record w { outcomes = outcomes })
later_good su w outcomes good =
    record {
      first = good.first;
      ids = good.ids;
      bounded = good.bounded;
      run = good.run;
      fit = good.fit;
      members = good.members;
      actors = good.actors;
      nodes = good.nodes;
      network = good.network;
      certified = good.certified;
      sealed = good.sealed;
    }

-- WHAT IS FOUND

pub found_node : (P : Node PastNode → Type 0) (test : Node PastNode → Bool) (nodes : List (Node PastNode))
    (node : Node PastNode) → AllByRecursion P nodes → find test nodes ≡ Some node → P node
found_node P test [] node all is = absurd (cc)
found_node P test (x ∷ xs) node all is = go (test x) is (found_node P test xs node all.1)
  where
    go : (t : Bool) → cond t (Some x) (find test xs) ≡ Some node → (find test xs ≡ Some node → P node)
        → P node
    go true is rest = let same : x ≡ node = cc in subst P same all.0
    go false is rest = rest is

pub found_entry : (P : Entry → Type 0) (network : List Entry) (k : ℕ) (e : Entry) → AllByRecursion P network
    → slice_get network k ≡ Some e → P e
found_entry P [] k e all is = absurd (cc)
found_entry P (x ∷ xs) zero e all is = let same : x ≡ e = cc in subst P same all.0
found_entry P (x ∷ xs) (suc k) e all is = found_entry P xs k e all.1 is

pub all_set : (P : Entry → Type 0) (network : List Entry) (k : ℕ) (e : Entry) → AllByRecursion P network
    → P e → AllByRecursion P (set network k e)
all_set P [] k e all good = tt
all_set P (x ∷ xs) zero e all good = (good, all.1)
all_set P (x ∷ xs) (suc k) e all good = (all.0, all_set P xs k e all.1 good)

pub entry_in : (su : Setup) (k : ℕ) (e : Entry) (w : World PastNode History) → GoodWorld su w → entry k w
    ≡ Some e → EntryIn su w.told e
entry_in su zero e w good is = absurd (cc)
entry_in su (suc k) e w good is = found_entry (EntryIn su w.told) w.network k e good.network is
