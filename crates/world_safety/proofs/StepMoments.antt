-- The moments of a step: the run so far, and the node that stands in it; and what is so of each entry.
use Rattle.std.proofs.Common.{
  ◌≡◌,
  ℕ,
  ◌+◌,
  ◌≤◌,
  zero,
  suc,
  inl,
  inr,
  true,
  false,
  ◌&&◌,
  List,
  [],
  ◌∷◌,
  ◌++◌,
  reverse,
  take,
  refl,
  sym,
  subst,
  ap,
  ◌∙◌,
  Option,
  Some,
  None,
  arith,
}
use Rattle.std.specs.Prelude.{◌==◌, filter, nat_le, not}
use Rattle.std.specs.List.{AllByRecursion}
use Rattle.std.proofs.lemmas.Bool.{and_parts, eqb-true, false_from_ne_true, or_cases}
use Rattle.std.proofs.lemmas.List.{append-nil, append_assoc, reverse-append}
use Rattle.ord_types.specs.Hashes.{block_hash}
use Rattle.ord_types.specs.Members.{is_in, is_raft}
use Rattle.ord_types.specs.declared.values.Proof.TheVariants as proof_of
use Rattle.safety_model.specs.Blocks.{Block, config_at}
use Rattle.safety_model.specs.Facts.{Cert, History, Proof, has}
use Rattle.safety_model.specs.Rules.{IsRun}
use Rattle.safety_model.specs.State.{Setup, changes_view, delivered, height, is_inside, left, view}
use Rattle.safety_model.specs.declared.fact.Fact.TheVariants.{Accepted, Prepared}
use Rattle.safety_model.proofs.Moments.{Moment as Earlier, WasOnce, found, moment, now}
use Rattle.safety_model.proofs.OneView.{accepted_stands}
use Rattle.safety_model.proofs.StateFacts.{height_later, view_later}
use Rattle.signer_edge.specs.Accepts.{Accepts as Acceptance}
use Rattle.view_model.specs.declared.letter.Letter.{Letter}
use Rattle.view_model.specs.Letters.{config_in, number_in, view_in}
use Rattle.view_model.specs.Acts.{delivery_due}
use Rattle.view_model.specs.Answers.{is_near, is_signed}
use Rattle.node_model.specs.Cores.{Core, after_entries}
use Rattle.node_model.specs.Entries.{
  Accepts,
  Came,
  Commits,
  Deed,
  Delivers,
  Did,
  Enters,
  Entry,
  Leaves,
  Opened,
  Past,
  Prepares,
  Sent,
  Signed,
  facts_in,
  facts_of,
  statement_of,
  statements_in,
  statements_of,
}
use Rattle.node_model.specs.Keeping.{
  PastNode,
  accepted_block,
  core_of_past,
  is_prepared_at,
  is_timely,
  letter_of,
  own_letters,
  timely,
  with_entries,
}
use Rattle.node_model.specs.Laws.{Fits, IsAtMost, IsBelow, NothingAhead}
use Rattle.node_model.specs.Steps.{Keys}
use Rattle.node_model.proofs.BridgeLemmas.{goes}
use Rattle.world_safety.specs.Fits.{FactFits}
use Rattle.world_safety.specs.AllowedSteps.{
  AreAllowed,
  IsAllowedEntry,
  IsAllowedStep,
  IsGoodEntry,
  NodeStands,
}
use Rattle.world_safety.proofs.Lists.{all_append, all_filter, all_map, all_of}
use Rattle.world_safety.proofs.Nodes.{accepted_is, entry_more, in_history}
use Rattle.world_safety.proofs.Own.{height_own, view_own}
use Rattle.world_safety.proofs.Reopening.{prepared_at_is}

-- all facts, and what happened at the node
pub record Now : Type 0 where
  pub told : History
  pub past : Past

abbrev pub after_one : Entry → Now → Now
after_one entry s = record { told = facts_in entry ++ s.told; past = entry ∷ s.past }

abbrev pub after_all : List Entry → Now → Now
after_all [] s = s
after_all (entry ∷ made) s = after_all made (after_one entry s)

-- the statements that were signed by then
abbrev pub signed_with : Entry → List (List ℕ) → List (List ℕ)
signed_with (Signed pledge accepts) signed = signed ++ statement_of pledge ∷ []
signed_with _ signed = signed

pub signed_after : (entry : Entry) (signed more : List (List ℕ))
    → signed_with entry signed ++ more ≡ signed ++ (statements_in entry ++ more)
signed_after Opened signed more = refl
signed_after (Came event accepts) signed more = refl
signed_after (Did deed) signed more = refl
signed_after (Signed pledge accepts) signed more = append_assoc signed (statement_of pledge ∷ []) more
signed_after (Sent receivers message) signed more = refl

-- so it is after a list of entries

pub told_all : (made : List Entry) (s : Now) → (after_all made s).told ≡ reverse (facts_of made) ++ s.told
told_all [] s = refl
told_all (entry ∷ made) s =
    told_all made (after_one entry s)
    ∙ ap (λ (g : History). reverse (facts_of made) ++ (g ++ s.told)) (facts_back entry)
    ∙ sym (append_assoc (reverse (facts_of made)) (reverse (facts_in entry)) s.told)
    ∙ ap (λ (g : History). g ++ s.told) (sym (reverse-append (facts_in entry) (facts_of made)))
  where
    facts_back : (entry : Entry) → facts_in entry ≡ reverse (facts_in entry)
    facts_back Opened = refl
    facts_back (Came event accepts) = refl
    facts_back (Did deed) = refl
    facts_back (Signed (Commits m) accepts) = refl
    facts_back (Sent receivers message) = refl

-- A MOMENT of node i

module _ (su : Setup) (i : ℕ) where
  abbrev pub node_in : Past → PastNode
  node_in past = record { config = su.config; id = i; past = past }

  abbrev pub see : Now → Core
  see s = core_of_past (node_in s.past)

  pub past_all : (made : List Entry) (s : Now) → node_in (after_all made s).past
      ≡ with_entries made (node_in s.past)
  past_all [] s = refl
  past_all (entry ∷ made) s = past_all made (after_one entry s)

  -- a run in which the node stands
  pub record Moment (s : Now) : Type 0 where
    pub run : IsRun su s.told
    pub fit : AllByRecursion FactFits s.told
    pub node : NodeStands su s.told i s.past

  -- NOTHING STANDS AHEAD of the node, since the rules allow votes at its height and in its view alone

  -- where and when it voted
  record WasThere (h : History) (e v k : ℕ) : Type 0 where
    height : k ≤ height i h
    view : v ≤ view i e h

  there : (h at : History) (e v k : ℕ) → height i at ≤ height i h → view i e at ≤ view i e h
      → (k == height i at) ≡ true → is_inside i e v at ≡ true → WasThere h e v k
  there h at e v k high late number inside =
      let p = and_parts (view i e at == v) (nat_le (left i e at) v) inside in
      let same = eqb-true k (height i at) number in
      let in_view = eqb-true (view i e at) v p.0 in
      record { height = omega arith; view = omega arith }

  accepted_there : (h : History) (e v k : ℕ) (d : List ℕ) → Earlier su h (Accepted i e v k d)
      → WasThere h e v k
  accepted_there h e v k d m =
      there h m.at e v k (height_later i m.at h m.once) (view_later i e m.at h m.once) m.allowed.1.1.1.1.0
      m.allowed.1.1.1.1.1.0

  prepared_there : (h : History) (e v k : ℕ) (d : List ℕ) → Earlier su h (Prepared i e v k d)
      → WasThere h e v k
  prepared_there h e v k d m =
      there h m.at e v k (height_later i m.at h m.once) (view_later i e m.at h m.once) m.allowed.1.1.1.1.0
      m.allowed.1.1.1.1.1.0

  -- as the node's own facts tell it
  there_own : (s : Now) → Moment s → (e v k : ℕ) → WasThere s.told e v k → WasThere (facts_of s.past) e v k
  there_own s is e v k was =
      let high : height i s.told ≡ height i (facts_of s.past) = height_own i s.told
      ∙ ap (height i) is.node.own in
      let late : view i e s.told ≡ view i e (facts_of s.past) = view_own i e s.told
      ∙ ap (view i e) is.node.own in
      record { height = subst (λ m. k ≤ m) high was.height; view = subst (λ m. v ≤ m) late was.view }

  none_accepted : (s : Now) → Moment s → (e v k : ℕ) → (WasThere (facts_of s.past) e v k → ⊥)
      → accepted_block i e v k s.past ≡ None
  none_accepted s is e v k never = go (accepted_block i e v k s.past) refl
    where
      go : (o : Option Block) → accepted_block i e v k s.past ≡ o → o ≡ None
      go None at = refl
      go (Some b) at =
          let d = block_hash b in
          let stood = accepted_stands i e v k d s.told
          (accepted_is su s.told i s.past is.node e v k b at).accepted in
          absurd (never (there_own s is e v k (accepted_there s.told e v k d
          (moment su s.told (Accepted i e v k d) is.run stood))))

  none_prepared : (s : Now) → Moment s → (e v k : ℕ) → (WasThere (facts_of s.past) e v k → ⊥)
      → has (is_prepared_at i e v k) (facts_of s.past) ≡ false
  none_prepared s is e v k never =
      false_from_ne_true (has (is_prepared_at i e v k) (facts_of s.past)) (λ yes.
      let one = found (is_prepared_at i e v k) s.told
      (in_history su s.told i s.past is.node (is_prepared_at i e v k) yes) in
      let named = prepared_at_is i e v k one.0 one.2 in
      let was : Earlier su s.told (Prepared i e v k named.0) =
      subst (Earlier su s.told) named.1 (moment su s.told one.0 is.run one.1) in
      never (there_own s is e v k (prepared_there s.told e v k named.0 was)))

  -- what came in time isn't ahead
  record IsNotAhead (h : History) (letter : Letter) : Type 0 where
    near : IsAtMost (height i h + 1) letter
    below : IsBelow i h letter

  timely_near : (h : History) (accepts : Acceptance) (letter : Letter)
      → is_timely su.config i h accepts letter ≡ true → IsNotAhead h letter
  timely_near h accepts letter is =
      let c = config_at su.config (delivered i h) in
      let v = view_in letter.message in
      let n = number_in letter.message in
      let p = and_parts (is_in letter.from c.members && not (is_raft c)
      && (config_in letter.message == c.number)
      && is_inside i c.number v h && is_near (height i h) letter)
      (is_signed accepts letter.from letter.message) is in
      let q = and_parts (is_in letter.from c.members && not (is_raft c)
      && (config_in letter.message == c.number)
      && is_inside i c.number v h) (is_near (height i h) letter) p.0 in
      let r = and_parts (is_in letter.from c.members && not (is_raft c)
      && (config_in letter.message == c.number))
      (is_inside i c.number v h) q.0 in
      let t = and_parts (is_in letter.from c.members && not (is_raft c)) (config_in letter.message
      == c.number) r.0 in
      let u = and_parts (view i c.number h == v) (nat_le (left i c.number h) v) r.1 in
      let same = eqb-true (view i c.number h) v u.0 in
      let low : v ≤ view i c.number h = omega arith in
      record {
        near = elim (or_cases (n == height i h) (n == height i h + 1) q.1) [
          | inl here ↦ let at = eqb-true n (height i h) here in omega arith
          | inr next ↦ let at = eqb-true n (height i h + 1) next in omega arith
        ];
        below = subst (λ e. v ≤ view i e h) (sym (eqb-true (config_in letter.message) c.number t.1)) low;
      }

  once_over : (fs h : History) → WasOnce h (fs ++ h)
  once_over [] h = now h
  once_over (f ∷ fs) h = inr (once_over fs h)

  ahead_over : (fs h : History) (letters : List Letter) → AllByRecursion (IsNotAhead h) letters
      → AllByRecursion (IsNotAhead (fs ++ h)) letters
  ahead_over fs h letters all =
      all_map (IsNotAhead h) (IsNotAhead (fs ++ h)) (λ letter is.
      let high = height_later i h (fs ++ h) (once_over fs h) in
      let late = view_later i (config_in letter.message) h (fs ++ h) (once_over fs h) in
      record { near = omega arith; below = omega arith }) letters all

  filtered_near : (h : History) (accepts : Acceptance) (letters : List Letter)
      → AllByRecursion (IsNotAhead h) (filter (is_timely su.config i h accepts) letters)
  filtered_near h accepts letters =
      all_map (λ letter. Unit {0} × (is_timely su.config i h accepts letter ≡ true)) (IsNotAhead h)
      (λ letter both. timely_near h accepts letter both.1) (filter (is_timely su.config i h accepts) letters)
      (all_filter (λ letter. Unit {0}) (is_timely su.config i h accepts) letters
      (all_of (λ letter. Unit {0}) (λ letter. tt) letters))

  timely_ahead : (past : Past) → AllByRecursion (IsNotAhead (facts_of past)) (timely su.config i past)
  timely_ahead [] = tt
  timely_ahead (Opened ∷ past) = tt
  timely_ahead (Came event accepts ∷ past) =
      all_append (IsNotAhead (facts_of past))
      (filter (is_timely su.config i (facts_of past) accepts) (letter_of i event)) (timely su.config i past)
      (filtered_near (facts_of past) accepts (letter_of i event)) (timely_ahead past)
  timely_ahead (Did deed ∷ past) =
      ahead_over (facts_in (Did deed)) (facts_of past) (timely su.config i past) (timely_ahead past)
  timely_ahead (Signed pledge accepts ∷ past) =
      ahead_over (facts_in (Signed pledge accepts)) (facts_of past)
      (timely su.config i (Signed pledge accepts ∷ past))
      (all_append (IsNotAhead (facts_of past))
      (filter (is_timely su.config i (facts_of past) accepts) (own_letters i pledge))
      (timely su.config i past)
      (filtered_near (facts_of past) accepts (own_letters i pledge)) (timely_ahead past))
  timely_ahead (Sent receivers message ∷ past) = timely_ahead past

  pub nothing_ahead : (s : Now) → Moment s → NothingAhead (node_in s.past)
  nothing_ahead s is =
      let h = facts_of s.past in
      let letters = timely su.config i s.past in
      let near = timely_ahead s.past in
      record {
        accepted =
            λ e v k above. none_accepted s is e v k (λ was. let high = was.height in absurd (omega arith));
        prepared =
            λ e v k above. none_prepared s is e v k (λ was. let high = was.height in absurd (omega arith));
        timely = all_map (IsNotAhead h) (IsAtMost (height i h + 1)) (λ letter not_ahead. not_ahead.near)
            letters near;
        above = record {
          accepted =
              λ e v k above. none_accepted s is e v k (λ was. let late = was.view in absurd (omega arith));
          prepared =
              λ e v k above. none_prepared s is e v k (λ was. let late = was.view in absurd (omega arith));
          timely = all_map (IsNotAhead h) (IsBelow i h) (λ letter not_ahead. not_ahead.below) letters near;
        };
      }

  -- AN ENTRY of a step

  -- it came, or was signed, with what the keys accept then
  abbrev pub IsByKeys : Keys → List (List ℕ) → Entry → Type 0
  IsByKeys keys signed Opened = Unit {0}
  IsByKeys keys signed (Came event accepts) = accepts ≡ keys.accepts signed
  IsByKeys keys signed (Did deed) = Unit {0}
  IsByKeys keys signed (Signed pledge accepts) = accepts ≡ keys.accepts (signed ++ statement_of pledge ∷ [])
  IsByKeys keys signed (Sent receivers message) = Unit {0}

  -- the delivery is the one that is due
  pub record IsDelivery (c : Core) (b : Block) (proof : Proof) : Type 0 where
    pub cert : Cert
    pub bft : proof ≡ proof_of.Bft cert
    pub due : delivery_due c.place c.view ≡ Some (b, cert)

  abbrev pub IsDueDeed : Core → Deed → Type 0
  IsDueDeed c (Accepts j e v k b) = Unit {0}
  IsDueDeed c (Prepares j e v k d) = Unit {0}
  IsDueDeed c (Delivers j b proof) = IsDelivery c b proof
  IsDueDeed c (Leaves j e v) = Unit {0}
  IsDueDeed c (Enters j e v x choice) = Unit {0}

  abbrev pub IsDue : Core → Entry → Type 0
  IsDue c Opened = Unit {0}
  IsDue c (Came event accepts) = Unit {0}
  IsDue c (Did deed) = IsDueDeed c deed
  IsDue c (Signed pledge accepts) = Unit {0}
  IsDue c (Sent receivers message) = Unit {0}

  pub record IsMade (keys : Keys) (signed : List (List ℕ)) (s : Now) (entry : Entry) : Type 0 where
    pub fits : Fits entry (see s)
    pub allowed : IsAllowedEntry su i s.told entry
    pub stays : has (changes_view i) (facts_in entry) ≡ false
    pub by_keys : IsByKeys keys signed entry
    pub due : IsDue (see s) entry

  abbrev pub AreMade : Keys → List (List ℕ) → Now → List Entry → Type 0
  AreMade keys signed s [] = Unit {0}
  AreMade keys signed s (entry ∷ made) =
      IsMade keys signed s entry × AreMade keys (signed_with entry signed) (after_one entry s) made

  pub made_allowed : (keys : Keys) (signed : List (List ℕ)) (s : Now) (made : List Entry)
      → AreMade keys signed s made → IsAllowedStep su i s.told made
  made_allowed keys signed s [] all = tt
  made_allowed keys signed s (entry ∷ made) all =
      (all.0.allowed, made_allowed keys (signed_with entry signed) (after_one entry s) made all.1)

  -- a front of it
  pub made_front : (cut : ℕ) (keys : Keys) (signed : List (List ℕ)) (s : Now) (made : List Entry)
      → AreMade keys signed s made → AreMade keys signed s (take cut made)
  made_front zero keys signed s made all = tt
  made_front (suc cut) keys signed s [] all = tt
  made_front (suc cut) keys signed s (entry ∷ made) all =
      (all.0, made_front cut keys (signed_with entry signed) (after_one entry s) made all.1)

  pub made_append : (keys : Keys) (signed : List (List ℕ)) (s : Now) (made more : List Entry)
      → AreMade keys signed s made → AreMade keys (signed ++ statements_of made) (after_all made s) more
      → AreMade keys signed s (made ++ more)
  made_append keys signed s [] more all rest =
      subst (λ signed. AreMade keys signed s more) (append-nil signed) rest
  made_append keys signed s (entry ∷ made) more all rest = (
    all.0,
    made_append keys (signed_with entry signed) (after_one entry s) made more all.1
        (subst (λ signed. AreMade keys signed (after_all made (after_one entry s)) more)
        (sym (signed_after entry signed (statements_of made))) rest),
  )

  -- THE NEXT MOMENT

  run_over : (fs h : History) → AreAllowed su h fs → IsRun su h → IsRun su (fs ++ h)
  run_over [] h all run = run
  run_over (f ∷ fs) h all run = (all.0, run_over fs h all.1 run)

  entry_fits : (h : History) (entry : Entry) → IsGoodEntry su h i entry
      → AllByRecursion FactFits (facts_in entry)
  entry_fits h Opened good = tt
  entry_fits h (Came event accepts) good = tt
  entry_fits h (Did (Accepts j e v k b)) good = (tt, tt)
  entry_fits h (Did (Prepares j e v k d)) good = (tt, tt)
  entry_fits h (Did (Delivers j b proof)) good = (good, tt)
  entry_fits h (Did (Leaves j e v)) good = (tt, tt)
  entry_fits h (Did (Enters j e v x choice)) good = (tt, tt)
  entry_fits h (Signed (Commits m) accepts) good = tt
  entry_fits h (Sent receivers message) good = tt

  pub next_moment : (s : Now) (entry : Entry) → Moment s → IsAllowedEntry su i s.told entry
      → has (changes_view i) (facts_in entry) ≡ false → Moment (after_one entry s)
  next_moment s entry is allowed stays =
      record {
        run = run_over (facts_in entry) s.told allowed.allowed is.run;
        fit = all_append FactFits (facts_in entry) s.told
            (entry_fits (facts_in entry ++ s.told) entry allowed.good) is.fit;
        node = entry_more su s.told i s.past entry allowed.mine stays allowed.good is.node;
      }

  pub later_moment : (keys : Keys) (signed : List (List ℕ)) (s : Now) (made : List Entry)
      → AreMade keys signed s made → Moment s → Moment (after_all made s)
  later_moment keys signed s [] all is = is
  later_moment keys signed s (entry ∷ made) all is =
      later_moment keys (signed_with entry signed) (after_one entry s) made all.1
      (next_moment s entry is all.0.allowed all.0.stays)

  -- its state is updated in place
  pub seen_later : (keys : Keys) (signed : List (List ℕ)) (s : Now) (made : List Entry)
      → AreMade keys signed s made → Moment s → see (after_all made s) ≡ after_entries made (see s)
  seen_later keys signed s [] all is = refl
  seen_later keys signed s (entry ∷ made) all is =
      seen_later keys (signed_with entry signed) (after_one entry s) made all.1
      (next_moment s entry is all.0.allowed all.0.stays)
      ∙ ap (after_entries made) (goes entry (node_in s.past) all.0.fits (nothing_ahead s is)).same
