-- Every event keeps a good world, also one in which its node is stopped.
use Rattle.std.proofs.Common.{
  ◌≡◌,
  ℕ,
  Bool,
  true,
  false,
  List,
  [],
  ◌∷◌,
  ◌++◌,
  cond,
  reverse,
  take,
  refl,
  sym,
  subst,
  ap,
  ◌∙◌,
}
use Rattle.std.specs.Prelude.{◌==◌, not}
use Rattle.std.specs.List.{AllByRecursion}
use Rattle.std.proofs.lemmas.List.Elements.{All-filter, All-nil}
use Rattle.ord_types.specs.Grammar.{HasRequestSpelling, IsWord}
use Rattle.ord_types.specs.Members.{is_in}
use Rattle.ord_types.specs.declared.values.Proof.{Proof}
use Rattle.safety_model.specs.Blocks.{Block}
use Rattle.safety_model.specs.Facts.{History}
use Rattle.safety_model.specs.State.{Setup}
use Rattle.safety_model.specs.Rules.{actor}
use Rattle.signer_edge.specs.Seals.{is_sealed}
use Rattle.bft_wire.specs.Spelling.{message_text}
use Rattle.node_model.specs.declared.event.Event.{Event}
use Rattle.node_model.specs.Entries.{
  Came,
  Commits,
  Did,
  Entry,
  Opened,
  Post,
  Sent,
  Signed,
  facts_in,
  facts_of,
  posts_in,
  posts_of,
  statements_in,
  statements_of,
  stored_of,
}
use Rattle.node_model.specs.Keeping.{PastNode, with_entries, with_entry}
use Rattle.world_model.specs.Histories.{past_keeping, past_setting}
use Rattle.world_model.specs.Pools.{has_id}
use Rattle.world_model.specs.Turns.{first_outcome}
use Rattle.world_model.specs.Worlds.{
  GoesOn,
  Node,
  Outcome,
  Stops,
  World,
  keys_of,
  making,
  node_after,
  node_stopped,
  outcome_in,
  requests_of,
  seals_of,
  sent_by,
  world_after,
  world_stopped,
  world_stopped_in,
}
use Rattle.world_safety.specs.Resting.{IsPreparedStatement}
use Rattle.world_safety.specs.Safe.{stored}
use Rattle.world_safety.specs.Within.{after_event, after_event_by, after_outcome}
use Rattle.world_safety.specs.AllowedSteps.{IsAllowedStep, IsGoodEntry, IsGoodEvent, StandsIn}
use Rattle.world_safety.proofs.Ids.{member_has}
use Rattle.world_safety.proofs.Lists.{all_append, all_flat, all_map, all_mapped, all_reverse}
use Rattle.world_safety.proofs.StepMoments.{AreMade, Now, later_moment, made_allowed, made_front}
use Rattle.world_safety.proofs.Own.{made_stored, stored_more}
use Rattle.world_safety.proofs.Reading.{EntryIn, entry_over, posted_in, seals_fit}
use Rattle.world_safety.proofs.Sealing.{AllSealed, IsSealedPast, box_grows, step_sealed}
use Rattle.world_safety.proofs.Stepping.{
  moment_of,
  moment_stands,
  stands_made,
  stands_opened,
  with_more,
  with_past,
}
use Rattle.world_safety.proofs.GoodWorlds.{GoodWorld, NodeIn, correct_is, goes_on_good, later_good}

-- the moment at which an event of a node comes
abbrev pub now : World PastNode History → Node PastNode → Now
now w node = record { told = w.told; past = node.state.past }

-- it made these entries, with the box of seals of the world
abbrev pub HasMade : Setup → World PastNode History → Node PastNode → List Entry → Type 0
HasMade su w node made = AreMade su node.id (keys_of w.seals node.id) [] (now w node) made

-- a node of a good world stands in a run
node_stands : (su : Setup) (w : World PastNode History) (node : Node PastNode) → GoodWorld su w
    → NodeIn su w.told w.seals node → StandsIn su w.told node.id node.state
node_stands su w node good is =
    record { config = is.config; id = is.id; run = good.run; fit = good.fit; node = is.stands }

-- its step
has_made : (su : Setup) (w : World PastNode History) (node : Node PastNode) (event : Event) → GoodWorld su w
    → NodeIn su w.told w.seals node → IsGoodEvent su w.told event
    → HasMade su w node (making past_setting w node event)
has_made su w node event good is brought =
    let i = node.id in
    let correct = correct_is su i is.correct in
    let word : IsWord i = member_has IsWord i su.config.members good.bounded.members.words correct.member in
    stands_made su w.told i (keys_of w.seals i) node.state event good.bounded correct.honest
    (seals_fit w.seals i word) (node_stands su w node good is) brought

-- WHAT WAS MADE, by the history with its facts

allowed_mine : (su : Setup) (i : ℕ) (h : History) (made : List Entry) → IsAllowedStep su i h made
    → AllByRecursion (λ f. (actor f == i) ≡ true) (facts_of made)
allowed_mine su i h [] all = tt
allowed_mine su i h (entry ∷ made) all =
    all_append (λ f. (actor f == i) ≡ true) (facts_in entry) (facts_of made) all.0.mine
    (allowed_mine su i (facts_in entry ++ h) made all.1)

-- what holds of each entry of a past holds of those that were added last, and of those before
record BothParts (P : Entry → Type 0) (new old : List Entry) : Type 0 where
  made : AllByRecursion P new
  past : AllByRecursion P old

both_parts : (P : Entry → Type 0) (entries : List Entry) (n : PastNode)
    → AllByRecursion P (with_entries entries n).past → BothParts P entries n.past
both_parts P [] n all = record { made = tt; past = all }
both_parts P (entry ∷ entries) n all =
    let rest = both_parts P entries (with_entry entry n) all in
    record { made = (rest.past.0, rest.made); past = rest.past.1 }

abbrev IsPosted : Setup → History → ℕ → Post → Type 0
IsPosted su h i post =
    EntryIn su h (record { from = i; to = post.to; bytes = message_text post.message; came = false })

entry_posted : (su : Setup) (h : History) (i : ℕ) → is_in i su.config.members ≡ true → (entry : Entry)
    → IsGoodEntry su h i entry → AllByRecursion (IsPosted su h i) (posts_in entry)
entry_posted su h i member Opened good = tt
entry_posted su h i member (Came event accepts) good = tt
entry_posted su h i member (Did deed) good = tt
entry_posted su h i member (Signed pledge accepts) good = tt
entry_posted su h i member (Sent receivers message) good =
    all_mapped (IsPosted su h i) (λ to. record { to = to; message = message }) receivers
    (all_map (λ to. is_in to su.config.members ≡ true)
    (λ to. IsPosted su h i (record { to = to; message = message }))
    (λ to receiver. posted_in su h i to message member receiver good.ground good.spelled) receivers good.to)

entry_prepared : (su : Setup) (h : History) (i : ℕ) (entry : Entry) → IsGoodEntry su h i entry
    → AllByRecursion (IsPreparedStatement h i) (statements_in entry)
entry_prepared su h i Opened good = tt
entry_prepared su h i (Came event accepts) good = tt
entry_prepared su h i (Did deed) good = tt
entry_prepared su h i (Signed (Commits m) accepts) good = (
  record {
    config = m.config;
    view = m.view;
    number = m.number;
    digest = m.digest;
    config_fits = good.1.config;
    view_fits = good.1.view;
    number_fits = good.1.number;
    digest_fits = good.1.digest;
    text = refl;
    prepared = good.0;
  },
  tt,
)
entry_prepared su h i (Sent receivers message) good = tt

-- what the world then has
record HasWent (su : Setup) (w : World PastNode History) (node : Node PastNode) (made : List Entry) : Type 0
  where
    mine : AllByRecursion (λ f. (actor f == node.id) ≡ true) (facts_of made)
    stands : StandsIn su (reverse (facts_of made) ++ w.told) node.id (with_entries made node.state)
    stored : node.ledger ++ stored_of made ≡ stored su node.id (reverse (facts_of made) ++ w.told)
    posted : AllByRecursion (EntryIn su (reverse (facts_of made) ++ w.told)) (sent_by node.id (posts_of made))
    prepared : AllByRecursion (IsPreparedStatement (reverse (facts_of made) ++ w.told) node.id)
        (statements_of made)
    sealed : AllSealed su node.id (keys_of w.seals node.id) (box_grows w.seals node.id) [] (now w node) made

has_went : (su : Setup) (w : World PastNode History) (node : Node PastNode) (made : List Entry)
    → GoodWorld su w
    → NodeIn su w.told w.seals node → HasMade su w node made → HasWent su w node made
has_went su w node made good is all =
    let i = node.id in
    let h = w.told in
    let keys = keys_of w.seals i in
    let facts = facts_of made in
    let g = reverse facts ++ h in
    let before = node_stands su w node good is in
    let stands : StandsIn su g i (with_entries made node.state) =
    moment_stands su h i node.state made is.config is.id
    (later_moment su i keys [] (now w node) made all (moment_of su h i node.state before)) in
    let each = (both_parts (IsGoodEntry su g i) made node.state stands.node.entries).made in
    let mine = allowed_mine su i h made (made_allowed su i keys [] (now w node) made all) in
    let member = (correct_is su i is.correct).member in
    record {
      mine = mine;
      stands = stands;
      stored = ap (λ (entries : List (Block × Proof)). entries ++ stored_of made) is.stored
          ∙ ap (λ (more : List (Block × Proof)). stored su i h ++ more) (sym (made_stored made))
          ∙ sym (stored_more su i facts h (all_reverse (λ f. (actor f == i) ≡ true) facts mine));
      posted = all_mapped (EntryIn su g)
          (λ (post : Post). record {
            from = i;
            to = post.to;
            bytes = message_text post.message;
            came =
                false;
          })
          (posts_of made)
          (all_flat (IsPosted su g i) posts_in made
          (all_map (IsGoodEntry su g i) (λ entry. AllByRecursion (IsPosted su g i) (posts_in entry))
          (entry_posted su g i member) made each));
      prepared = all_flat (IsPreparedStatement g i) statements_in made
          (all_map (IsGoodEntry su g i) (λ entry. AllByRecursion (IsPreparedStatement g i)
          (statements_in entry))
          (entry_prepared su g i) made each);
      sealed = step_sealed su w.seals i (now w node) made all is.sealed;
    }

-- AN EVENT THAT GOES THROUGH

went_keeps : (su : Setup) (w : World PastNode History) (node : Node PastNode) (event : Event) → GoodWorld su w
    → NodeIn su w.told w.seals node → IsGoodEvent su w.told event
    → GoodWorld su (world_after past_setting w node (making past_setting w node event))
went_keeps su w node event good is brought =
    let i = node.id in
    let h = w.told in
    let made = making past_setting w node event in
    let facts = facts_of made in
    let g = reverse facts ++ h in
    let box = w.seals ++ seals_of i (statements_of made) in
    let went = has_went su w node made good is (has_made su w node event good is brought) in
    goes_on_good su w (node_after past_keeping node made) facts (w.network ++ sent_by i (posts_of made))
    (statements_of made) good
    (record {
      correct = is.correct;
      run = went.stands.run;
      fit = went.stands.fit;
      mine = went.mine;
      node = record {
        config = went.stands.config;
        id = went.stands.id;
        correct = is.correct;
        stands = went.stands.node;
        pool = All-filter (λ r. not (has_id r.id (requests_of made))) HasRequestSpelling node.pool is.pool;
        stored = went.stored;
        sealed =
            subst (IsSealedPast su.config i (is_sealed box)) (with_past made (now w node) node.state refl)
            went.sealed.past;
      };
      sent = all_append (EntryIn su g) w.network (sent_by i (posts_of made))
          (all_map (EntryIn su h) (EntryIn su g) (entry_over su h (reverse facts)) w.network good.network)
          went.posted;
      prepared = went.prepared;
      certified = went.sealed.facts;
    })

-- A STOP behind these entries

stopped_keeps : (su : Setup) (w : World PastNode History) (node : Node PastNode) (made : List Entry)
    → GoodWorld su w → NodeIn su w.told w.seals node → HasMade su w node made
    → GoodWorld su (world_stopped past_setting w node made)
stopped_keeps su w node made good is all =
    let i = node.id in
    let h = w.told in
    let facts = facts_of made in
    let g = reverse facts ++ h in
    let box = w.seals ++ seals_of i (statements_of made) in
    let went = has_went su w node made good is all in
    let opened = stands_opened su g i (with_entries made node.state) went.stands in
    let same = sym (with_more made Opened node.state) in
    let stands : StandsIn su g i (with_entries (made ++ Opened ∷ []) node.state) =
    subst (StandsIn su g i) same opened in
    goes_on_good su w (node_stopped past_keeping node made) facts w.network (statements_of made) good
    (record {
      correct = is.correct;
      run = stands.run;
      fit = stands.fit;
      mine = went.mine;
      node = record {
        config = stands.config;
        id = stands.id;
        correct = is.correct;
        stands = stands.node;
        pool = All-nil HasRequestSpelling;
        stored = went.stored;
        sealed = subst (λ (n : PastNode). IsSealedPast su.config i (is_sealed box) n.past) same tt;
      };
      sent = all_map (EntryIn su h) (EntryIn su g) (entry_over su h (reverse facts)) w.network good.network;
      prepared = went.prepared;
      certified = went.sealed.facts;
    })

-- between two events
pub stop_keeps : (su : Setup) (w : World PastNode History) (node : Node PastNode) → GoodWorld su w
    → NodeIn su w.told w.seals node → GoodWorld su (world_stopped past_setting w node [])
stop_keeps su w node good is = stopped_keeps su w node [] good is tt

-- AN EVENT IN WHICH THE NODE IS STOPPED

cut_keeps : (su : Setup) (w : World PastNode History) (node : Node PastNode) (event : Event) (cut : ℕ)
    → GoodWorld su w → NodeIn su w.told w.seals node → IsGoodEvent su w.told event
    → GoodWorld su (world_stopped_in past_setting w node event cut)
cut_keeps su w node event cut good is brought =
    let made = making past_setting w node event in
    stopped_keeps su w node (take cut made) good is
    (made_front su node.id cut (keys_of w.seals node.id) [] (now w node) made
    (has_made su w node event good is brought))

-- AN EVENT

event_by_keeps : (su : Setup) (w : World PastNode History) (node : Node PastNode) (event : Event)
    (outcome : Outcome) → GoodWorld su w → NodeIn su w.told w.seals node → IsGoodEvent su w.told event
    → GoodWorld su (after_event_by w node event outcome)
event_by_keeps su w node event GoesOn good is brought = went_keeps su w node event good is brought
event_by_keeps su w node event (Stops cut) good is brought = cut_keeps su w node event cut good is brought

pub event_keeps : (su : Setup) (w : World PastNode History) (node : Node PastNode) (event : Event)
    → GoodWorld su w → NodeIn su w.told w.seals node → IsGoodEvent su w.told event
    → GoodWorld su (after_event w node event)
event_keeps su w node event good is brought = go node.armed
  where
    outcome : Outcome
    outcome = outcome_in (making past_setting w node event) (first_outcome w.outcomes)

    go : (t : Bool) → GoodWorld su
        (cond t (after_event_by (after_outcome w) node event outcome)
        (after_event_by w node event GoesOn))
    go true = event_by_keeps su (after_outcome w) node event outcome
        (later_good su w (after_outcome w).outcomes good) is brought
    go false = event_by_keeps su w node event GoesOn good is brought
