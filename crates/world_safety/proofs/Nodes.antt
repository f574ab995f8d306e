-- What a node is by the list of all facts, and that its acts keep it.
use Rattle.std.proofs.Common.{
  ◌≡◌,
  ℕ,
  Bool,
  true,
  false,
  ◌||◌,
  ◌&&◌,
  List,
  [],
  ◌∷◌,
  ◌++◌,
  cond,
  refl,
  sym,
  subst,
  ap,
  ◌∙◌,
  inl,
  inr,
  Option,
  Some,
  None,
  reverse,
}
use Rattle.std.specs.Prelude.{◌==◌, not, filter}
use Rattle.std.specs.List.{AllByRecursion, list_any}
use Rattle.std.specs.Str.{bytes_eq}
use Rattle.std.proofs.lemmas.Bool.{or_cases, or_left, or_parts, or_right, and_parts, and_from, eqb-true}
use Rattle.ord_types.specs.Hashes.{block_hash}
use Rattle.ord_types.specs.Members.{is_in, is_raft}
use Rattle.safety_model.specs.Blocks.{Block, Config, config_at}
use Rattle.safety_model.specs.Facts.{History, has, is_accepted, is_accepted_at, is_prepared}
use Rattle.safety_model.specs.declared.fact.Fact.{Fact}
use Rattle.safety_model.specs.declared.fact.Fact.TheVariants.{Accepted}
use Rattle.safety_model.specs.State.{
  Setup,
  block_or,
  changes_view,
  config_of,
  delivered,
  height,
  is_inside,
  last_delivered,
  left,
  tip,
  view,
}
use Rattle.safety_model.specs.Rules.{IsRun, actor}
use Rattle.safety_model.specs.Safety.{BeginsWithGenesis}
use Rattle.safety_model.proofs.FactTests.{bytes_eq_refl}
use Rattle.safety_model.proofs.Deliveries.{tip_number}
use Rattle.safety_model.proofs.StateFacts.{first_view, moves_actor, never_against}
use Rattle.signer_edge.specs.Accepts.{Accepts}
use Rattle.bft_wire.specs.declared.message.Message.{Message}
use Rattle.bft_wire.specs.declared.message.Message.TheVariants as wire
use Rattle.view_model.specs.declared.letter.VoteMessage.TheVariants as message_of
use Rattle.view_model.specs.declared.letter.Letter.{Letter}
use Rattle.view_model.specs.declared.letter.VoteMessage.{VoteMessage}
use Rattle.view_model.specs.Letters.{config_in, on_wire, same_slot, view_in}
use Rattle.view_model.specs.Answers.{is_near, is_signed}
use Rattle.node_model.specs.declared.event.Event.{Event}
use Rattle.node_model.specs.Entries.{
  Accepts as Accepting,
  Came,
  Commits,
  Deed,
  Delivers,
  Did,
  Enters,
  Entry,
  Leaves,
  Opened,
  Past,
  Pledge,
  Prepares,
  Sent,
  Signed,
  block_of,
  fact_of,
  facts_in,
  facts_of,
  letter_brought,
}
use Rattle.node_model.specs.Keeping.{
  accepted_block,
  firsts,
  is_of_view,
  is_timely,
  kept,
  letter_of,
  of_another,
  own_letters,
  place_by_facts,
  timely,
  view_of,
}
use Rattle.world_safety.specs.Resting.{has_ground, own}
use Rattle.world_safety.specs.AllowedSteps.{
  IsBrought,
  IsGoodEntry,
  IsGoodEvent,
  IsGoodPledge,
  NodeStands,
  rests,
}
use Rattle.world_safety.proofs.Standing.{IsKeptWell, Stands, StandsLast, names}
use Rattle.world_safety.specs.Fits.{DeedFits, FitsAt, MessageFits}
use Rattle.world_safety.proofs.Lists.{all_append, all_filter, all_map, all_reverse}
use Rattle.world_safety.proofs.Own.{config_own, height_own, left_own, own_mine, own_other, tip_own, view_own}

-- a letter rests on a fact, names its sender, and has a spelling
pub record IsGoodLetter (su : Setup) (h : History) (letter : Letter) : Type 0 where
  pub rests : rests su h letter ≡ true
  pub named : names letter.from letter.message ≡ true
  pub fits : MessageFits letter.message

-- FACTS ARE ONLY ADDED

pub ground_more : (h : History) (f : Fact) (from : ℕ) (m : Message) → has_ground h from m ≡ true
    → has_ground (f ∷ h) from m ≡ true
ground_more h f from (wire.PrePrepare m) is = or_right _ _ is
ground_more h f from (wire.Prepare m) is = or_right _ _ is
ground_more h f from (wire.Commit m) is = or_right _ _ is
ground_more h f from (wire.ViewChange m) is = absurd (cc)
ground_more h f from (wire.ViewData m) is = absurd (cc)
ground_more h f from (wire.NewView m) is = absurd (cc)
ground_more h f from (wire.HeartBeat m) is = absurd (cc)
ground_more h f from (wire.HeartBeatReply m) is = absurd (cc)
ground_more h f from (wire.Forward m) is = absurd (cc)
ground_more h f from (wire.BlockAsk m) is = absurd (cc)
ground_more h f from (wire.BlockReply m) is = absurd (cc)
ground_more h f from (wire.HeaderAsk m) is = absurd (cc)
ground_more h f from (wire.HeaderReply m) is = absurd (cc)
ground_more h f from (wire.RaftVote m) is = absurd (cc)
ground_more h f from (wire.RaftVoteReply m) is = absurd (cc)
ground_more h f from (wire.RaftAppend m) is = absurd (cc)
ground_more h f from (wire.RaftAppendReply m) is = absurd (cc)
ground_more h f from (wire.RaftBlock m) is = absurd (cc)

ground_over : (h : History) (fs : List Fact) (from : ℕ) (m : Message) → has_ground h from m ≡ true
    → has_ground (fs ++ h) from m ≡ true
ground_over h [] from m is = is
ground_over h (f ∷ fs) from m is = ground_more (fs ++ h) f from m (ground_over h fs from m is)

-- of a Byzantine member, or resting on a fact
pub rests_over : (byzantine : List ℕ) (h : History) (fs : List Fact) (from : ℕ) (m : Message)
    → (is_in from byzantine || has_ground h from m) ≡ true
    → (is_in from byzantine || has_ground (fs ++ h) from m) ≡ true
rests_over byzantine h fs from m is =
    elim (or_cases (is_in from byzantine) (has_ground h from m) is) [
      | inl y ↦ or_left _ _ y
      | inr n ↦ or_right _ _ (ground_over h fs from m n)
    ]

event_over : (su : Setup) (h : History) (fs : List Fact) (event : Event) → IsGoodEvent su h event
    → IsGoodEvent su (fs ++ h) event
event_over su h fs event good =
    record {
      offer = good.offer;
      letter = λ letter at. record {
        rests = rests_over su.byzantine h fs letter.from (on_wire letter.message)
            (good.letter letter at).rests;
        fits = (good.letter letter at).fits;
      };
    }

pub has_over : (kind : Fact → Bool) (fs h : History) → has kind h ≡ true → has kind (fs ++ h) ≡ true
has_over kind [] h is = is
has_over kind (f ∷ fs) h is = or_right _ _ (has_over kind fs h is)

pledge_over : (h : History) (fs : List Fact) (i : ℕ) (pledge : Pledge) → IsGoodPledge h i pledge
    → IsGoodPledge (fs ++ h) i pledge
pledge_over h fs i (Commits m) good =
    (has_over (is_prepared i m.config m.view m.number m.digest) fs h good.0, good.1)

pub entry_over : (su : Setup) (h : History) (i : ℕ) (fs : List Fact) (entry : Entry)
    → IsGoodEntry su h i entry
    → IsGoodEntry su (fs ++ h) i entry
entry_over su h i fs Opened good = tt
entry_over su h i fs (Came event accepts) good = event_over su h fs event good
entry_over su h i fs (Did deed) good = good
entry_over su h i fs (Signed pledge accepts) good = pledge_over h fs i pledge good
entry_over su h i fs (Sent receivers message) good =
    record { ground = ground_over h fs i message good.ground; spelled = good.spelled; to = good.to }

entries_over : (su : Setup) (h : History) (i : ℕ) (fs : List Fact) (past : Past)
    → AllByRecursion (IsGoodEntry su h i) past → AllByRecursion (IsGoodEntry su (fs ++ h) i) past
entries_over su h i fs past all =
    all_map (IsGoodEntry su h i) (IsGoodEntry su (fs ++ h) i) (entry_over su h i fs) past all

-- a fact of another node is no acceptance of this one
other_accepts : (i e v s : ℕ) (f : Fact) → (actor f == i) ≡ false → is_accepted_at i e v s f ≡ false
other_accepts i e v s (Accepted j e' v' s' d) h = rw h refl
other_accepts i e v s f h = refl

or_false : (a b : Bool) → a ≡ false → b ≡ false → (a || b) ≡ false
or_false false false x y = refl
or_false true b x y = absurd (cc)
or_false false true x y = absurd (cc)

-- another node does something
pub other_did : (su : Setup) (h : History) (i : ℕ) (past : Past) (f : Fact) → (actor f == i) ≡ false
    → NodeStands su h i past → NodeStands su (f ∷ h) i past
other_did su h i past f other st =
    record {
      own = own_other i f h other ∙ st.own;
      still = or_false _ _ (moves_actor i f other) st.still;
      entries = entries_over su h i (f ∷ []) past st.entries;
    }

-- ONE ENTRY MORE

none_over : (kind : Fact → Bool) (fs h : History) → has kind fs ≡ false → has kind h ≡ false
    → has kind (fs ++ h) ≡ false
none_over kind [] h here none = none
none_over kind (f ∷ fs) h here none =
    let p = or_parts (kind f) (has kind fs) here in
    or_false _ _ p.0 (none_over kind fs h p.1 none)

-- by which it neither leaves nor enters a view
pub entry_more : (su : Setup) (h : History) (i : ℕ) (past : Past) (entry : Entry)
    → AllByRecursion (λ f. (actor f == i) ≡ true) (facts_in entry)
    → has (changes_view i) (facts_in entry) ≡ false → IsGoodEntry su (facts_in entry ++ h) i entry
    → NodeStands su h i past → NodeStands su (facts_in entry ++ h) i (entry ∷ past)
entry_more su h i past entry mine stays good st =
    record {
      own = own_mine i (facts_in entry) h mine ∙ ap (λ (g : History). facts_in entry ++ g) st.own;
      still = none_over (changes_view i) (facts_in entry) h stays st.still;
      entries = (good, entries_over su h i (facts_in entry) past st.entries);
    }

-- IT KEEPS LETTERS

signed_names : (accepts : Accepts) (from : ℕ) (m : VoteMessage) → is_signed accepts from m ≡ true
    → names from m ≡ true
signed_names accepts from (message_of.PrePrepare m) is = refl
signed_names accepts from (message_of.Prepare m) is = refl
signed_names accepts from (message_of.Commit m) is = (and_parts (m.sig.signer == from) _ is).0

timely_names : (first : Config) (i : ℕ) (h : History) (accepts : Accepts) (letter : Letter)
    → is_timely first i h accepts letter ≡ true → names letter.from letter.message ≡ true
timely_names first i h accepts letter is =
    let c = config_at first (delivered i h) in
    let p = and_parts (is_in letter.from c.members && not (is_raft c)
    && (config_in letter.message == c.number)
    && is_inside i c.number (view_in letter.message) h && is_near (height i h) letter)
    (is_signed accepts letter.from letter.message) is in
    signed_names accepts letter.from letter.message p.1

timely_good : (su : Setup) (h : History) (i : ℕ) (g : History) (accepts : Accepts) (letters : List Letter)
    → AllByRecursion (IsBrought su h) letters
    → AllByRecursion (IsGoodLetter su h) (filter (is_timely su.config i g accepts) letters)
timely_good su h i g accepts letters all =
    all_map (λ letter. IsBrought su h letter × (is_timely su.config i g accepts letter ≡ true))
    (IsGoodLetter su h)
    (λ letter both. record {
      rests = both.0.rests;
      named = timely_names su.config i g accepts letter both.1;
      fits = both.0.fits;
    }) (filter (is_timely su.config i g accepts) letters)
    (all_filter (IsBrought su h) (is_timely su.config i g accepts) letters all)

letters_brought : (su : Setup) (h : History) (i : ℕ) (event : Event) → IsGoodEvent su h event
    → AllByRecursion (IsBrought su h) (letter_of i event)
letters_brought su h i event good = go (letter_brought event) refl
  where
    unless : (t : Bool) (letter : Letter) → IsBrought su h letter
        → AllByRecursion (IsBrought su h) (cond t [] (letter ∷ []))
    unless true letter is = tt
    unless false letter is = (is, tt)

    go : (o : Option Letter) → letter_brought event ≡ o → AllByRecursion (IsBrought su h) (of_another i o)
    go None is = tt
    go (Some letter) is = unless (letter.from == i) letter (good.letter letter is)

letters_pledged : (su : Setup) (h : History) (i : ℕ) (pledge : Pledge) → IsGoodPledge h i pledge
    → AllByRecursion (IsBrought su h) (own_letters i pledge)
letters_pledged su h i (Commits m) good = (record { rests = or_right _ _ good.0; fits = good.1 }, tt)

-- it is opened again: it keeps no letter
pub reopened : (su : Setup) (h : History) (i : ℕ) (past : Past) → NodeStands su h i past
    → NodeStands su h i (Opened ∷ past)
reopened su h i past st = record { own = st.own; still = st.still; entries = (tt, st.entries) }

-- it is opened on the first block
pub opened : (su : Setup) (i : ℕ) → NodeStands su [] i (Opened ∷ [])
opened su i = record { own = refl; still = refl; entries = (tt, tt) }

-- SO ITS LETTERS ARE GOOD

letters_good : (su : Setup) (h : History) (i : ℕ) (past : Past) → AllByRecursion (IsGoodEntry su h i) past
    → AllByRecursion (IsGoodLetter su h) (timely su.config i past)
letters_good su h i [] all = tt
letters_good su h i (Opened ∷ past) all = tt
letters_good su h i (Came event accepts ∷ past) all =
    all_append (IsGoodLetter su h) (filter (is_timely su.config i (facts_of past) accepts)
    (letter_of i event))
    (timely su.config i past)
    (timely_good su h i (facts_of past) accepts (letter_of i event) (letters_brought su h i event all.0))
    (letters_good su h i past all.1)
letters_good su h i (Did deed ∷ past) all = letters_good su h i past all.1
letters_good su h i (Signed pledge accepts ∷ past) all =
    all_append (IsGoodLetter su h) (filter (is_timely su.config i (facts_of past) accepts)
    (own_letters i pledge))
    (timely su.config i past)
    (timely_good su h i (facts_of past) accepts (own_letters i pledge) (letters_pledged su h i pledge all.0))
    (letters_good su h i past all.1)
letters_good su h i (Sent receivers message ∷ past) all = letters_good su h i past all.1

-- THE BLOCK THAT IT ACCEPTED has the digest of its acceptance

-- an acceptance by these facts, of a block that fits
pub record IsAccepted (h : History) (i e v s : ℕ) (b : Block) : Type 0 where
  pub accepted : has (is_accepted i e v s (block_hash b)) h ≡ true
  pub fits : FitsAt s b

pub accepted_more : (h : History) (fs : List Fact) (i e v s : ℕ) (b : Block) → IsAccepted h i e v s b
    → IsAccepted (fs ++ h) i e v s b
accepted_more h fs i e v s b is =
    record { accepted = has_over (is_accepted i e v s (block_hash b)) fs h is.accepted; fits = is.fits }

accepted_here : (h : History) (i e v s : ℕ) (deed : Deed) (b : Block) → DeedFits deed
    → is_accepted_at i e v s (fact_of deed) ≡ true → block_of deed ≡ Some b
    → IsAccepted (fact_of deed ∷ h) i e v s b
accepted_here h i e v s (Accepting j e' v' s' c) b fits is at =
    let same : c ≡ b = cc in
    let number : s' ≡ s = eqb-true s' s (and_parts ((j == i) && (e' == e) && (v' == v)) (s' == s) is).1 in
    record {
      accepted = or_left _ _ (and_from _ _ is
          (subst (λ (c : Block). bytes_eq (block_hash c) (block_hash b) ≡ true) (sym same)
          (bytes_eq_refl (block_hash b))));
      fits = subst (λ s. FitsAt s b) number (subst (FitsAt s') same fits);
    }
accepted_here h i e v s (Prepares j e' v' s' d) b fits is at = absurd (cc)
accepted_here h i e v s (Delivers j c proof) b fits is at = absurd (cc)
accepted_here h i e v s (Leaves j e' v') b fits is at = absurd (cc)
accepted_here h i e v s (Enters j e' v' x choice) b fits is at = absurd (cc)

pub accepted_in : (su : Setup) (h : History) (i e v s : ℕ) (b : Block) (past : Past)
    → AllByRecursion (IsGoodEntry su h i) past → accepted_block i e v s past ≡ Some b
    → IsAccepted (facts_of past) i e v s b
accepted_in su h i e v s b [] all at = absurd (cc)
accepted_in su h i e v s b (Opened ∷ past) all at = accepted_in su h i e v s b past all.1 at
accepted_in su h i e v s b (Came event accepts ∷ past) all at = accepted_in su h i e v s b past all.1 at
accepted_in su h i e v s b (Did deed ∷ past) all at =
    go (is_accepted_at i e v s (fact_of deed)) refl at (accepted_in su h i e v s b past all.1)
  where
    go : (t : Bool) → is_accepted_at i e v s (fact_of deed) ≡ t
        → cond t (block_of deed) (accepted_block i e v s past) ≡ Some b
        → (accepted_block i e v s past ≡ Some b → IsAccepted (facts_of past) i e v s b)
        → IsAccepted (fact_of deed ∷ facts_of past) i e v s b
    go true is at rest = accepted_here (facts_of past) i e v s deed b all.0 is at
    go false is at rest = accepted_more (facts_of past) (fact_of deed ∷ []) i e v s b (rest at)
accepted_in su h i e v s b (Signed pledge accepts ∷ past) all at =
    accepted_more (facts_of past) (facts_in (Signed pledge accepts)) i e v s b
    (accepted_in su h i e v s b past all.1 at)
accepted_in su h i e v s b (Sent receivers message ∷ past) all at = accepted_in su h i e v s b past all.1 at

-- where it names none, it accepted nothing
accepts_some : (i e v s : ℕ) (deed : Deed) → block_of deed ≡ None → is_accepted_at i e v s (fact_of deed)
    ≡ false
accepts_some i e v s (Accepting j e' v' s' b) at = absurd (cc)
accepts_some i e v s (Prepares j e' v' s' d) at = refl
accepts_some i e v s (Delivers j c proof) at = refl
accepts_some i e v s (Leaves j e' v') at = refl
accepts_some i e v s (Enters j e' v' x choice) at = refl

-- nor by what it signed
pledged_none : (i e v s : ℕ) (pledge : Pledge) (accepts : Accepts)
    → has (is_accepted_at i e v s) (facts_in (Signed pledge accepts)) ≡ false
pledged_none i e v s (Commits m) accepts = refl

fresh_in : (i e v s : ℕ) (past : Past) → accepted_block i e v s past ≡ None
    → has (is_accepted_at i e v s) (facts_of past) ≡ false
fresh_in i e v s [] at = refl
fresh_in i e v s (Opened ∷ past) at = fresh_in i e v s past at
fresh_in i e v s (Came event accepts ∷ past) at = fresh_in i e v s past at
fresh_in i e v s (Did deed ∷ past) at =
    go (is_accepted_at i e v s (fact_of deed)) refl at (fresh_in i e v s past)
  where
    go : (t : Bool) → is_accepted_at i e v s (fact_of deed) ≡ t
        → cond t (block_of deed) (accepted_block i e v s past) ≡ None
        → (accepted_block i e v s past ≡ None → has (is_accepted_at i e v s) (facts_of past) ≡ false)
        → has (is_accepted_at i e v s) (fact_of deed ∷ facts_of past) ≡ false
    go true is at rest = let no = accepts_some i e v s deed at in absurd (cc)
    go false is at rest = or_false _ _ is (rest at)
fresh_in i e v s (Signed pledge accepts ∷ past) at =
    none_over (is_accepted_at i e v s) (facts_in (Signed pledge accepts)) (facts_of past)
    (pledged_none i e v s pledge accepts) (fresh_in i e v s past at)
fresh_in i e v s (Sent receivers message ∷ past) at = fresh_in i e v s past at

-- its own facts are among all, and nobody else's are acceptances of it

pub has_own : (i : ℕ) (kind : Fact → Bool) (h : History) → has kind (own i h) ≡ true → has kind h ≡ true
has_own i kind [] is = is
has_own i kind (f ∷ h) is = go (actor f == i) is (has_own i kind h)
  where
    go : (t : Bool) → has kind (cond t (f ∷ own i h) (own i h)) ≡ true
        → (has kind (own i h) ≡ true → has kind h ≡ true) → has kind (f ∷ h) ≡ true
    go true at rest = elim (or_cases (kind f) (has kind (own i h)) at) [
      | inl here ↦ or_left _ _ here
      | inr there ↦ or_right _ _ (rest there)
    ]
    go false at rest = or_right _ _ (rest at)

none_own : (i e v s : ℕ) (h : History) → has (is_accepted_at i e v s) (own i h) ≡ false
    → has (is_accepted_at i e v s) h ≡ false
none_own i e v s [] none = refl
none_own i e v s (f ∷ h) none = go (actor f == i) refl none (none_own i e v s h)
  where
    go : (t : Bool) → (actor f == i) ≡ t → has (is_accepted_at i e v s) (cond t (f ∷ own i h) (own i h))
        ≡ false
        → (has (is_accepted_at i e v s) (own i h) ≡ false → has (is_accepted_at i e v s) h ≡ false)
        → has (is_accepted_at i e v s) (f ∷ h) ≡ false
    go true is none rest = let p = or_parts (is_accepted_at i e v s f)
        (has (is_accepted_at i e v s) (own i h)) none in or_false _ _ p.0 (rest p.1)
    go false is none rest = or_false _ _ (other_accepts i e v s f is) (rest none)

-- a fact of its past stands in the history
pub in_history : (su : Setup) (h : History) (i : ℕ) (past : Past) → NodeStands su h i past
    → (kind : Fact → Bool) → has kind (facts_of past) ≡ true → has kind h ≡ true
in_history su h i past st kind is =
    has_own i kind h (subst (λ (g : History). has kind g ≡ true) (sym st.own) is)

pub accepted_is : (su : Setup) (h : History) (i : ℕ) (past : Past) → NodeStands su h i past
    → (e v s : ℕ) (b : Block) → accepted_block i e v s past ≡ Some b → IsAccepted h i e v s b
accepted_is su h i past st e v s b at =
    let is = accepted_in su h i e v s b past st.entries at in
    record {
      accepted = in_history su h i past st (is_accepted i e v s (block_hash b)) is.accepted;
      fits =
          is.fits;
    }

fresh_is : (su : Setup) (h : History) (i : ℕ) (past : Past) → NodeStands su h i past → (e v s : ℕ)
    → accepted_block i e v s past ≡ None → has (is_accepted_at i e v s) h ≡ false
fresh_is su h i past st e v s at =
    none_own i e v s h (subst (λ (g : History). has (is_accepted_at i e v s) g ≡ false) (sym st.own)
    (fresh_in i e v s past at))

-- SO ITS PLACE AND ITS VIEW ARE THOSE BY THE HISTORY

pub all_firsts : (P : Letter → Type 0) (letters : List Letter) → AllByRecursion P letters
    → AllByRecursion P (firsts letters)
all_firsts P [] all = tt
all_firsts P (m ∷ ms) all = go (list_any (same_slot m) ms) (all_firsts P ms all.1)
  where
    go : (t : Bool) → AllByRecursion P (firsts ms) → AllByRecursion P (cond t (firsts ms) (m ∷ firsts ms))
    go true rest = rest
    go false rest = (all.0, rest)

all_kept : (su : Setup) (h : History) (i : ℕ) (past : Past) (e v s : ℕ) → NodeStands su h i past
    → AllByRecursion (IsKeptWell su h e v s) (reverse (filter (is_of_view e v s) (kept su.config i past)))
all_kept su h i past e v s st =
    let good = all_filter (IsGoodLetter su h) (is_of_view e v s) (kept su.config i past)
    (all_firsts (IsGoodLetter su h) (timely su.config i past) (letters_good su h i past st.entries)) in
    all_reverse (IsKeptWell su h e v s) (filter (is_of_view e v s) (kept su.config i past))
    (all_map (λ letter. IsGoodLetter su h letter × (is_of_view e v s letter ≡ true)) (IsKeptWell su h e v s)
    (λ letter both. record {
      rests = both.0.rests;
      named = both.0.named;
      of_view = both.1;
      fits =
          both.0.fits;
    }) (filter (is_of_view e v s) (kept su.config i past)) good)

-- it is in view 0
pub first_view_of : (su : Setup) (h : History) (i e : ℕ) (past : Past) → NodeStands su h i past
    → view i e (facts_of past) ≡ 0
first_view_of su h i e past st =
    ap (view i e) (sym st.own) ∙ sym (view_own i e h) ∙ (first_view i e h st.still).0

pub stands : (su : Setup) (h : History) (i : ℕ) (past : Past) → NodeStands su h i past
    → Stands su h i (place_by_facts su.config i (facts_of past)) (view_of su.config i past)
unfolding place_by_facts view_of
stands su h i past st =
    let e = (config_of su i (facts_of past)).number in
    let v = view i e (facts_of past) in
    let s = height i (facts_of past) in
    record {
      me = refl;
      config = ap (config_of su i) (sym st.own) ∙ sym (config_own su i h);
      height = ap (height i) (sym st.own) ∙ sym (height_own i h);
      view = ap (view i e) (sym st.own) ∙ sym (view_own i e h);
      left = ap (left i e) (sym st.own) ∙ sym (left_own i e h);
      accepted = λ b is. (accepted_is su h i past st e v s b is).accepted;
      fresh = λ is. fresh_is su h i past st e v s is;
      not_against = λ d. never_against i e v s d h st.still;
      kept = all_kept su h i past e v s st;
    }

pub stands_last : (su : Setup) (h : History) (i : ℕ) (past : Past) → NodeStands su h i past → IsRun su h
    → BeginsWithGenesis su → su.genesis.header.number ≡ 0 → StandsLast su h i (place_by_facts su.config i (facts_of past))
unfolding place_by_facts
stands_last su h i past st run genesis first =
    record {
      last = ap (λ (b : Block). block_hash (block_or b (last_delivered i (facts_of past))))
          (sym genesis.block)
          ∙ ap (λ (g : History). block_hash (tip su i g)) (sym st.own) ∙ ap block_hash (sym (tip_own su i h));
      number = tip_number su h run first i;
    }
