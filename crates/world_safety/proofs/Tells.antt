-- What a turn prints is told by the histories of its worlds.
use Rattle.std.proofs.Common.{
  ◌≡◌,
  ℕ,
  zero,
  suc,
  ◌+◌,
  ◌-◌,
  Bool,
  true,
  false,
  List,
  [],
  ◌∷◌,
  ◌++◌,
  length,
  map,
  reverse,
  take,
  cond,
  refl,
  sym,
  subst,
  ap,
  ap₂,
  ◌∙◌,
  Option,
  Some,
  None,
  Result,
  Ok,
  Err,
}
use Rattle.std.specs.Prelude.{◌==◌, ◌&&◌, codes, is_some, nat_lt, not, position, slice_get}
use Rattle.std.specs.List.{find, flat_map}
use Rattle.std.proofs.lemmas.Bool.{eq-eqb}
use Rattle.std.proofs.lemmas.List.{append-nil, append_assoc, reverse-append}
use Rattle.safety_model.specs.Blocks.{Block}
use Rattle.safety_model.specs.Facts.{History, Proof}
use Rattle.script.specs.declared.command.Command.TheVariants as command_of
use Rattle.script.specs.declared.command.Meaning.{Meaning}
use Rattle.script.specs.declared.command.Meaning.TheVariants.{Means}
use Rattle.script.specs.declared.command.Range.{Range}
use Rattle.script_play.specs.declared.ending.Ending.{Ending}
use Rattle.script_play.specs.declared.ending.Ending.TheVariants.{Limit}
use Rattle.script_play.specs.Turns.{Turn}
use Rattle.script_play.specs.Worlds.{worlds_after}
use Rattle.node_model.specs.Keeping.{PastNode}
use Rattle.node_model.specs.declared.event.Event.{Event}
use Rattle.node_model.specs.Entries as entries
use Rattle.world_model.specs.Histories.{past_setting}
use Rattle.world_model.specs.Pools.{answer}
use Rattle.world_model.specs.Texts.{
  deliver_text,
  fact_text,
  flush_text,
  limit_text,
  show_text,
  stopped_text,
  tick_text,
}
use Rattle.world_model.specs.Turns.{
  counted,
  deliver_turn,
  deliveries,
  delivery,
  delivery_to,
  event_by,
  event_goes,
  event_turn,
  first_outcome,
  flush_turn,
  flushes,
  goes_on,
  is_running,
  most_entries,
  refuses,
  says,
  show_turn,
  shows,
  start_turn,
  stop_at_turn,
  stop_turn,
  submit_turn,
  submitted,
  then_on,
  tick_at,
  ticks,
  unless_stopped,
  with_later,
}
use Rattle.world_model.specs.Worlds.{
  Entry,
  GoesOn,
  Node,
  Outcome,
  Stops,
  entry,
  is_waiting,
  letter_from,
  making,
  marked,
  node_at,
  node_started,
  outcome_in,
  running_at,
  tick_of,
  with_node,
  world_after,
  world_stopped_in,
}
use Rattle.world_safety.specs.Telling.{
  AreStops,
  Happened,
  IsSo,
  IsStopIn,
  NoBlock,
  NoEntry,
  Reply,
  Stopped,
  Went,
  end_text,
  event_text,
  events_text,
  facts_in,
  facts_of,
  histories_after,
  last_of,
  node_in,
  reply_text,
  told_in,
}
use Rattle.world_safety.specs.Telling as it
use Rattle.world_safety.specs.Within.{
  PastWorld,
  after_delivery,
  after_event,
  after_event_by,
  after_letter,
  after_outcome,
  after_start,
  after_stop,
  after_stop_at,
  after_submit,
  after_tick,
  in_deliver,
  in_deliveries,
  in_flush,
  in_flushes,
  in_tick,
  in_ticks,
  unless_cut,
}

-- LISTS

pub last-append : {X : Type 0} (x : X) (xs ys : List X) → last_of x (xs ++ ys) ≡ last_of (last_of x xs) ys
last-append x [] ys = refl
last-append x (y ∷ xs) ys = last-append y xs ys

pub last-map : {X Y : Type 0} (f : X → Y) (x : X) (xs : List X) → last_of (f x) (map f xs) ≡ f (last_of x xs)
last-map f x [] = refl
last-map f x (y ∷ xs) = last-map f y xs

pub histories-append : (h : History) (xs ys : List Happened) → histories_after h (xs ++ ys)
    ≡ histories_after h xs ++ histories_after (last_of h (histories_after h xs)) ys
histories-append h [] ys = refl
histories-append h (event ∷ xs) ys =
    ap (λ hs. (reverse (facts_in event) ++ h) ∷ hs) (histories-append (reverse (facts_in event) ++ h) xs ys)

pub histories-last : (h : History) (events : List Happened) → last_of h (histories_after h events)
    ≡ reverse (facts_of events) ++ h
histories-last h [] = refl
histories-last h (event ∷ events) =
    let facts = facts_in event in
    histories-last (reverse facts ++ h) events
    ∙ sym (append_assoc (reverse (facts_of events)) (reverse facts) h)
    ∙ ap (λ (front : History). front ++ h) (sym (reverse-append facts (facts_of events)))

pub told_some : (ws : List PastWorld) → map told_in (map Some ws) ≡ map (λ (w : PastWorld). w.told) ws
told_some [] = refl
told_some (w ∷ ws) = ap (λ hs. w.told ∷ hs) (told_some ws)

pub map_same : {X : Type 0} (xs : List X) → map (λ (x : X). x) xs ≡ xs
map_same [] = refl
map_same (x ∷ xs) = ap (λ more. x ∷ more) (map_same xs)

-- no node of an id runs where one that doesn't stands in its place
still_with : (new : Node PastNode) (nodes : List (Node PastNode)) → new.runs ≡ false
    → is_some (running_at new.id (with_node new nodes)) ≡ false
still_with new [] off = refl
still_with new (node ∷ nodes) off = go (node.id == new.id) refl (still_with new nodes off)
  where
    go : (t : Bool) → (node.id == new.id) ≡ t → is_some (running_at new.id (with_node new nodes)) ≡ false
        → is_some (running_at new.id (cond t (new ∷ nodes) (node ∷ with_node new nodes))) ≡ false
    go true is rest = rw (eq-eqb new.id new.id refl, off) refl
    go false is rest = rw is rest

-- a node of an id runs where one that runs stands in its place
runs_with : (new old : Node PastNode) (nodes : List (Node PastNode)) → node_at new.id nodes ≡ Some old
    → new.runs ≡ true → is_some (running_at new.id (with_node new nodes)) ≡ true
runs_with new old [] at on = absurd (cc)
runs_with new old (node ∷ nodes) at on = go (node.id == new.id) refl at (runs_with new old nodes)
  where
    go : (t : Bool) → (node.id == new.id) ≡ t → cond t (Some node) (node_at new.id nodes) ≡ Some old
        → (node_at new.id nodes ≡ Some old → new.runs ≡ true
        → is_some (running_at new.id (with_node new nodes)) ≡ true)
        → is_some (running_at new.id (cond t (new ∷ nodes) (node ∷ with_node new nodes))) ≡ true
    go true is at rest = rw (eq-eqb new.id new.id refl, on) refl
    go false is at rest = rw is (rest at on)

-- a node of the world that runs, or doesn't
pub record IsAt (w : PastWorld) (node : Node PastNode) (runs : Bool) : Type 0 where
  pub at : node_at node.id w.nodes ≡ Some node
  pub up : node.runs ≡ runs

-- what is found passes the test
pub found_test : (test : Node PastNode → Bool) (nodes : List (Node PastNode)) (node : Node PastNode)
    → find test nodes ≡ Some node → test node ≡ true
found_test test [] node is = absurd (cc)
found_test test (x ∷ xs) node is = go (test x) refl is (found_test test xs node)
  where
    go : (t : Bool) → test x ≡ t → cond t (Some x) (find test xs) ≡ Some node
        → (find test xs ≡ Some node → test node ≡ true) → test node ≡ true
    go true passes at rest = let found : x ≡ node = cc in subst (λ node. test node ≡ true) found passes
    go false passes at rest = rest at

pub last_pushed : {X : Type 0} (xs : List X) (x : X) → slice_get (xs ++ x ∷ []) (length xs) ≡ Some x
last_pushed [] x = refl
last_pushed (y ∷ xs) x = last_pushed xs x

pub length_pushed : {X : Type 0} (xs : List X) (x : X) → length (xs ++ x ∷ []) ≡ suc (length xs)
length_pushed [] x = refl
length_pushed (y ∷ xs) x = ap (λ n. suc n) (length_pushed xs x)

-- A TURN

-- before the script's end
abbrev pub IsEarly : Ending → Type 0
IsEarly ending = (o : Option PastWorld) → end_text ending o ≡ []

-- what the line of a turn means, the world in which it is told, and how it may end the run
pub record Way (W : Type 0) : Type 1 where
  pub means : Meaning
  pub sees : W → Option PastWorld
  pub EndsBy : Ending → Type 0

-- a turn in a world, which the network's limit alone ends
abbrev pub IsNetworkLimit : Ending → Type 0
IsNetworkLimit ending = ending ≡ Limit most_entries

abbrev pub in_world : Meaning → Way PastWorld
in_world m = record { means = m; sees = λ w. Some w; EndsBy = IsNetworkLimit }

-- a turn of a script
abbrev pub in_script : Meaning → Way (Option PastWorld)
in_script m = record { means = m; sees = λ o. o; EndsBy = IsEarly }

-- the turn leads to the last of its worlds, or ends the run
abbrev pub GoesTo : {W : Type 0} → (Ending → Type 0) → Result W Ending → W → Type 0
GoesTo EndsBy (Ok next) last = next ≡ last
GoesTo EndsBy (Err ending) last = EndsBy ending

-- the worlds within a turn have the histories of its events, and it prints their lines and its reply, which
-- is so
pub record Tells {W : Type 0} (way : Way W) (number : ℕ) (w : W) (within : List W) (turn : Turn W) : Type 0
  where
    pub events : List Happened
    pub reply : Reply
    pub histories : map (λ w. told_in (way.sees w)) within ≡ histories_after (told_in (way.sees w)) events
    pub stops : AreStops (map way.sees within) events
    pub so : IsSo way.means (way.sees (last_of w within)) reply
    pub printed : turn.printed ≡ events_text number events ++ reply_text number reply
    pub next : GoesTo way.EndsBy turn.next (last_of w within)

module _ (number : ℕ) where
  -- the reply alone
  pub replies : {W : Type 0} (way : Way W) (w : W) (turn : Turn W) (reply : Reply) → turn.printed
      ≡ reply_text number reply → GoesTo way.EndsBy turn.next w → IsSo way.means (way.sees w) reply
      → Tells way number w [] turn
  replies way w turn reply printed next so = record {
    events = [];
    reply = reply;
    histories = refl;
    stops =
        tt;
    so = so;
    printed = printed;
    next = next;
  }

  -- AN EVENT prints its lines, and ends the run where the network is past its limit
  abbrev pub Ends : PastWorld → Happened → List ℕ → Result PastWorld Ending → Type 0
  Ends after event printed (Ok next) = (next ≡ after) × (printed ≡ event_text number event)
  Ends after event printed (Err ending) =
      (ending ≡ Limit most_entries) × (printed ≡ event_text number event ++ limit_text number most_entries)

  pub record IsEvent (w after : PastWorld) (turn : Turn PastWorld) : Type 0 where
    pub happened : Happened
    pub told : after.told ≡ reverse (facts_in happened) ++ w.told
    pub stop : IsStopIn (Some after) happened
    pub ends : Ends after happened turn.printed turn.next

  went_ends : (w : PastWorld) (node : Node PastNode) (event : Event)
      → IsEvent w (world_after past_setting w node (making past_setting w node event))
      (event_goes past_setting number w node event)
  went_ends w node event = record {
    happened = Went (entries.facts_of (making past_setting w node event));
    told = refl;
    stop = tt;
    ends = go (nat_lt most_entries (length after.network));
  }
    where
      after : PastWorld
      after = world_after past_setting w node (making past_setting w node event)

      blocks : List ℕ
      blocks = flat_map (fact_text number) (entries.facts_of (making past_setting w node event))

      turn : Bool → Turn PastWorld
      turn t = cond t (record {
        printed = blocks ++ limit_text number most_entries;
        next =
            Err (Limit most_entries);
      }) (says blocks after)

      go : (t : Bool) → Ends after (Went (entries.facts_of (making past_setting w node event)))
          (turn t).printed (turn t).next
      go true = (refl, refl)
      go false = (refl, refl)

  -- the node is stopped in it
  cut_ends : (w : PastWorld) (node : Node PastNode) (event : Event) (cut : ℕ)
      → IsEvent w (world_stopped_in past_setting w node event cut)
      (says (stopped_text number node.id) (world_stopped_in past_setting w node event cut))
  cut_ends w node event cut =
      record {
        happened = Stopped node.id (entries.facts_of (take cut (making past_setting w node event)));
        told = refl;
        stop = still_with _ w.nodes refl;
        ends = (refl, refl);
      }

  event_by_ends : (w : PastWorld) (node : Node PastNode) (event : Event) (outcome : Outcome)
      → IsEvent w (after_event_by w node event outcome) (event_by past_setting number w node event outcome)
  event_by_ends w node event GoesOn = went_ends w node event
  event_by_ends w node event (Stops cut) = cut_ends w node event cut

  event_ends : (w : PastWorld) (node : Node PastNode) (event : Event) → IsEvent w (after_event w node event)
      (event_turn past_setting number w node event)
  unfolding event_turn
  event_ends w node event = go node.armed
    where
      outcome : Outcome
      outcome = outcome_in (making past_setting w node event) (first_outcome w.outcomes)

      go : (t : Bool)
          → IsEvent w (cond t (after_event_by (after_outcome w) node event outcome)
          (after_event_by w node event GoesOn))
          (cond t (event_by past_setting number (with_later w) node event outcome)
          (event_goes past_setting number w node event))
      go true = let is = event_by_ends (with_later w) node event outcome in
          record { happened = is.happened; told = is.told; stop = is.stop; ends = is.ends }
      go false = went_ends w node event

  pub tick_ends : (w : PastWorld) (node : Node PastNode)
      → IsEvent w (after_tick w node) (tick_at past_setting number w (Some node))
  tick_ends w node = event_ends w node (tick_of past_setting.keeping node)

  -- the world before may be another with the same history; a lost entry changes nothing
  letter_ends : (k : ℕ) (e : Entry) (w : PastWorld) (o : Option (Node PastNode))
      → IsEvent w (after_letter k e w o) (delivery_to past_setting number k e w o)
  letter_ends k e w None = record { happened = Went []; told = refl; stop = tt; ends = (refl, refl) }
  letter_ends k e w (Some node) = let is = event_ends (marked k e w) node (letter_from e) in
      record { happened = is.happened; told = is.told; stop = is.stop; ends = is.ends }

  pub delivery_ends : (k : ℕ) (e : Entry) (w : PastWorld)
      → IsEvent w (after_delivery k e w) (delivery past_setting number k e w)
  delivery_ends k e w = letter_ends k e w (running_at e.to w.nodes)

module _ (number : ℕ) (m : Meaning) where
  -- an event, and what follows it
  ends_then : (w after : PastWorld) (happened : Happened) (printed : List ℕ) (r : Result PastWorld Ending)
      (within : PastWorld → List PastWorld) (rest : PastWorld → Turn PastWorld)
      → after.told ≡ reverse (facts_in happened) ++ w.told → IsStopIn (Some after) happened
      → Ends number after happened printed r
      → ((next : PastWorld) → Tells (in_world m) number next (within next) (rest next))
      → Tells (in_world m) number w (after ∷ worlds_after r within) (then_on printed r rest)
  ends_then w after happened printed (Ok next) within rest grown stop ends more =
      let later = more next in
      let front : List ℕ = event_text number happened in
      record {
        events = happened ∷ later.events;
        reply = later.reply;
        stops = (stop, later.stops);
        so = subst (λ (v : PastWorld). IsSo m (Some (last_of v (within next))) later.reply) ends.0 later.so;
        histories = ap₂ (λ h hs. h ∷ hs) grown (later.histories
            ∙ ap (λ (h : History). histories_after h later.events) (ap (λ (v : PastWorld). v.told) ends.0
            ∙ grown));
        printed = ap₂ (λ (a b : List ℕ). a ++ b) ends.1 later.printed
            ∙ sym (append_assoc front (events_text number later.events) (reply_text number later.reply));
        next = subst (λ (v : PastWorld). GoesTo IsNetworkLimit (rest next).next (last_of v (within next)))
            ends.0 later.next;
      }
  ends_then w after happened printed (Err ending) within rest grown stop ends more =
      let front : List ℕ = event_text number happened in
      record {
        events = happened ∷ [];
        reply = it.Limited most_entries;
        stops = (stop, tt);
        so = tt;
        histories = ap (λ h. h ∷ []) grown;
        printed =
            ends.1 ∙ ap (λ (text : List ℕ). text ++ limit_text number most_entries) (sym (append-nil front));
        next = ends.0;
      }

  pub event_then : (w after : PastWorld) (turn : Turn PastWorld) (within : PastWorld → List PastWorld)
      (rest : PastWorld → Turn PastWorld)
      → IsEvent number w after turn → ((next : PastWorld) → Tells (in_world m) number next (within next)
      (rest next))
      → Tells (in_world m) number w (after ∷ worlds_after turn.next within) (goes_on turn rest)
  event_then w after turn within rest is more =
      ends_then w after is.happened turn.printed turn.next within rest is.told is.stop is.ends more

  -- TICK
  ticked_tells : (id : ℕ) (w : PastWorld) → node_in m ≡ Some id → (t : Bool) → is_running id w ≡ t
      → Tells (in_world m) number w [] (says (cond t (tick_text number id) []) w)
  ticked_tells id w about true is =
      replies number (in_world m) w (says (tick_text number id) w) (it.Ticked id) refl refl (about, is)
  ticked_tells id w about false is = replies number (in_world m) w (says [] w) (it.Cut id) refl refl is

  tick_tells : (w : PastWorld) (o : Option (Node PastNode)) (within : PastWorld → List PastWorld)
      (rest : PastWorld → Turn PastWorld)
      → ((next : PastWorld) → Tells (in_world m) number next (within next) (rest next))
      → Tells (in_world m) number w (in_tick number w o within)
      (goes_on (tick_at past_setting number w o) rest)
  tick_tells w None within rest more = more w
  tick_tells w (Some node) within rest more =
      event_then w (after_tick w node) (tick_at past_setting number w (Some node)) within rest
      (tick_ends number w node) more

  pub ticks_tell : (id n : ℕ) (w : PastWorld) → node_in m ≡ Some id
      → Tells (in_world m) number w (in_ticks number id n w) (ticks past_setting number id n w)
  unfolding ticks in_ticks
  ticks_tell id zero w about = ticked_tells id w about (is_running id w) refl
  ticks_tell id (suc n) w about = tick_tells w (running_at id w.nodes) (λ next. in_ticks number id n next)
      (λ next. ticks past_setting number id n next) (λ next. ticks_tell id n next about)

  -- a line ends where its node was stopped
  cut_tells : (id : ℕ) (before next : PastWorld) (within : List PastWorld) (turn : Turn PastWorld)
      → Tells (in_world m) number next within turn
      → Tells (in_world m) number next (unless_cut id before next within) (unless_stopped id before next turn)
  cut_tells id before next within turn tells = go (is_running id before) (is_running id next) refl
    where
      go : (a b : Bool) → is_running id next ≡ b
          → Tells (in_world m) number next (cond (a && not b) [] within)
          (cond (a && not b) (says [] next) turn)
      go true false is = replies number (in_world m) next (says [] next) (it.Cut id) refl refl is
      go true true is = tells
      go false b is = tells

  -- DELIVER
  deliveries_tell : (n k count : ℕ) (w : PastWorld) (within : PastWorld → List PastWorld) (rest : ℕ
      → PastWorld → Turn PastWorld)
      → ((more : ℕ) (next : PastWorld) → Tells (in_world m) number next (within next) (rest more next))
      → Tells (in_world m) number w (in_deliveries number n k w within)
      (deliveries past_setting number n k count w rest)
  unfolding deliveries in_deliveries
  deliveries_tell zero k count w within rest more = more count w
  deliveries_tell (suc n) k count w within rest more =
      go (entry k w) (λ count next. deliveries_tell n (k + 1) count next within rest more)
    where
      go : (o : Option Entry) → ((count : ℕ) (next : PastWorld)
          → Tells (in_world m) number next (in_deliveries number n (k + 1) next within)
          (deliveries past_setting number n (k + 1) count next rest))
          → Tells (in_world m) number w
          (elim o [
            | None ↦ []
            | Some e ↦ after_delivery (k - 1) e w
                ∷ worlds_after (delivery past_setting number (k - 1) e w).next
                (λ next. unless_cut e.to w next (in_deliveries number n (k + 1) next within))
          ])
          (elim o [
            | None ↦ refuses number (codes "no entry") w
            | Some e ↦ goes_on (delivery past_setting number (k - 1) e w)
                (λ next. unless_stopped e.to w next (deliveries past_setting number n (k + 1)
                (counted e w.nodes count) next rest))
          ])
      go None later = replies number (in_world m) w (refuses number (codes "no entry") w)
          (it.Refused NoEntry) refl refl tt
      go (Some e) later =
          event_then w (after_delivery (k - 1) e w) (delivery past_setting number (k - 1) e w)
          (λ next. unless_cut e.to w next (in_deliveries number n (k + 1) next within))
          (λ next. unless_stopped e.to w next (deliveries past_setting number n (k + 1)
          (counted e w.nodes count) next rest)) (delivery_ends number (k - 1) e w)
          (λ next. cut_tells e.to w next (in_deliveries number n (k + 1) next within)
          (deliveries past_setting number n (k + 1) (counted e w.nodes count) next rest)
          (later (counted e w.nodes count) next))

  pub deliver_tells : (ranges : List Range) (count : ℕ) (w : PastWorld)
      → Tells (in_world m) number w (in_deliver number ranges w)
      (deliver_turn past_setting number ranges count w)
  unfolding deliver_turn in_deliver
  deliver_tells [] count w =
      replies number (in_world m) w (says (deliver_text number count) w) (it.Came count) refl refl tt
  deliver_tells (range ∷ ranges) count w =
      deliveries_tell (range.last + 1 - range.first) range.first count w
      (λ next. in_deliver number ranges next) (λ more next. deliver_turn past_setting number ranges more
      next) (λ more next. deliver_tells ranges more next)

  -- FLUSH
  flushes_tell : (w : PastWorld) (o : Option ℕ) (count : ℕ) (within : PastWorld → List PastWorld)
      (rest : PastWorld → Turn PastWorld)
      → ((next : PastWorld) → Tells (in_world m) number next (within next) (rest next))
      → Tells (in_world m) number w (in_flushes number w o within)
      (flushes past_setting number w o (says (flush_text number count) w) rest)
  flushes_tell w None count within rest more =
      replies number (in_world m) w (says (flush_text number count) w) (it.Flushed count) refl refl tt
  flushes_tell w (Some k) count within rest more = go (slice_get w.network k)
    where
      go : (o : Option Entry)
          → Tells (in_world m) number w (elim o [
            | None ↦ []
            | Some e ↦ after_delivery k e w
                ∷ worlds_after (delivery past_setting number k e w).next within
          ])
          (elim o [
            | None ↦ says (flush_text number count) w
            | Some e ↦ goes_on
                (delivery past_setting number k e w) rest
          ])
      go None =
          replies number (in_world m) w (says (flush_text number count) w) (it.Flushed count) refl refl tt
      go (Some e) = event_then w (after_delivery k e w) (delivery past_setting number k e w) within rest
          (delivery_ends number k e w) more

  pub flush_tells : (only : Option (List ℕ)) (n count : ℕ) (w : PastWorld)
      → Tells (in_world m) number w (in_flush number only n w) (flush_turn past_setting number only n count w)
  unfolding flush_turn in_flush
  flush_tells only zero count w =
      replies number (in_world m) w (says (flush_text number count) w) (it.Flushed count) refl refl tt
  flush_tells only (suc n) count w =
      flushes_tell w (position (is_waiting w.nodes only) w.network) count
      (λ next. in_flush number only n next) (λ next. flush_turn past_setting number only n (count + 1) next)
      (λ next. flush_tells only n (count + 1) next)

  -- an event without facts
  quiet_tells : (w after : PastWorld) (turn : Turn PastWorld) (reply : Reply) → after.told ≡ w.told
      → IsSo m (Some after) reply → turn.printed ≡ reply_text number reply → turn.next ≡ Ok after
      → Tells (in_world m) number w (after ∷ []) turn
  quiet_tells w after turn reply same so printed next =
      record {
        events = Went [] ∷ [];
        reply = reply;
        histories = ap (λ h. h ∷ []) same;
        stops = (tt, tt);
        so = so;
        printed = printed;
        next = subst (λ r. GoesTo IsNetworkLimit r after) (sym next) refl;
      }

  -- SUBMIT and RAW
  pub submit_tells : (word : List ℕ) (w : PastWorld) (node : Node PastNode) (bytes : List ℕ) → node_in m
      ≡ Some node.id → IsAt w node true → Tells (in_world m) number w (after_submit w node bytes ∷ [])
      (submit_turn number word w node bytes)
  submit_tells word w node bytes about is =
      quiet_tells w (after_submit w node bytes) (submit_turn number word w node bytes)
      (it.Answered word node.id (answer node.pool bytes)) refl
      (about, runs_with (submitted node bytes) node w.nodes is.at is.up) refl refl

  -- STOP, STOP AT A CALL, START
  pub stop_tells : (w : PastWorld) (node : Node PastNode) → Tells (in_world m) number w (after_stop w node
      ∷ []) (stop_turn past_setting number w node)
  stop_tells w node =
      let still = still_with _ w.nodes refl in
      let text = stopped_text number node.id in
      record {
        events = Stopped node.id [] ∷ [];
        reply = it.Cut node.id;
        histories = refl;
        stops = (still, tt);
        so = still;
        printed = sym (append-nil text) ∙ sym (append-nil (text ++ []));
        next = refl;
      }

  pub stop_at_tells : (w : PastWorld) (node : Node PastNode) → node_in m ≡ Some node.id → IsAt w node true
      → Tells (in_world m) number w (after_stop_at w node ∷ []) (stop_at_turn number w node)
  stop_at_tells w node about is =
      quiet_tells w (after_stop_at w node) (stop_at_turn number w node) (it.Pending node.id) refl
      (about, runs_with (record node { armed = true }) node w.nodes is.at is.up) refl refl

  pub start_tells : (w : PastWorld) (node : Node PastNode) → node_in m ≡ Some node.id → IsAt w node false
      → Tells (in_world m) number w (after_start w node ∷ []) (start_turn number w node)
  start_tells w node about is = quiet_tells w (after_start w node) (start_turn number w node)
      (it.Started node.id) refl (about, runs_with (node_started node) node w.nodes is.at refl) refl refl

  -- SHOW
  pub show_tells : (w : PastWorld) (node : Node PastNode) (block : ℕ)
      → m ≡ Means (command_of.Show node.id block) → node_at node.id w.nodes ≡ Some node
      → Tells (in_world m) number w [] (show_turn number w node block)
  show_tells w node block asked at = go (slice_get node.ledger block) refl
    where
      go : (o : Option (Block × Proof)) → slice_get node.ledger block ≡ o
          → Tells (in_world m) number w [] (shows number w node o)
      go None is = replies number (in_world m) w (refuses number (codes "no block") w) (it.Refused NoBlock)
          refl refl tt
      go (Some stored) is =
          replies number (in_world m) w (says (show_text number node.id stored.0 stored.1) w)
          (it.Shown node.id stored.0 stored.1) refl refl (record {
            node = node;
            at = at;
            place = block;
            stands = is;
            asked = asked;
          })
