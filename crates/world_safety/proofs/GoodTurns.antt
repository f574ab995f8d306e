-- All worlds of a line are good.
use Rattle.std.proofs.Common.{
  ◌≡◌,
  ℕ,
  zero,
  suc,
  ◌+◌,
  ◌-◌,
  Bool,
  true,
  false,
  ◌&&◌,
  List,
  [],
  ◌∷◌,
  cond,
  refl,
  sym,
  subst,
  Option,
  Some,
  None,
  Result,
  Ok,
  Err,
}
use Rattle.std.specs.Prelude.{◌==◌, not, position, slice_get}
use Rattle.std.specs.List.{AllByRecursion, All}
use Rattle.ord_types.specs.Spelling.{request_text}
use Rattle.safety_model.specs.State.{Setup}
use Rattle.script.specs.Commands.{IsWellFormed}
use Rattle.script.specs.declared.command.Command.{Command}
use Rattle.script.specs.declared.command.Command.TheVariants.{
  Genesis,
  Submit,
  Raw,
  Show,
  Tick,
  Deliver,
  Flush,
  Propose,
  Vote,
  Lie,
  Seal,
  Stop,
  StopAt,
  Start,
}
use Rattle.script.specs.declared.command.Range.{Range}
use Rattle.script_play.specs.declared.ending.Ending.{Ending}
use Rattle.script_play.specs.Worlds.{worlds, worlds_after}
use Rattle.node_model.specs.Keeping.{PastNode, core_of_past}
use Rattle.world_model.specs.Histories.{past_keeping, past_setting}
use Rattle.world_model.specs.Turns.{delivery, is_running, most_flushed, ordinary, tick_at, submitted}
use Rattle.world_model.specs.Worlds.{
  Entry,
  Node,
  Outcome,
  entry,
  is_waiting,
  letter_from,
  marked,
  node_at,
  node_started,
  running,
  running_at,
  tick_of,
  offer_to,
}
use Rattle.world_safety.specs.Within.{
  PastWorld,
  after_delivery,
  after_letter,
  after_start,
  after_stop,
  after_stop_at,
  after_submit,
  after_tick,
  in_deliver,
  in_deliveries,
  in_flush,
  in_flushes,
  in_tick,
  in_ticks,
  unless_cut,
  where_node,
  where_stopped,
  worlds_in,
  worlds_in_turn,
}
use Rattle.world_safety.proofs.Delivering.{some_same}
use Rattle.world_safety.proofs.LyingWithin.{lied_good, proposed_good, sealed_good, voted_good}
use Rattle.world_safety.proofs.Lists.{all_map, all_mapped}
use Rattle.world_safety.proofs.Reading.{EntryIn, each_byte, entry_brings, ordinary_bytes, pool_spelled}
use Rattle.world_safety.proofs.Events.{event_keeps, stop_keeps}
use Rattle.world_safety.proofs.GoodWorlds.{
  GoodWorld,
  NodeIn,
  entry_in,
  found_entry,
  found_node,
  all_set,
  renewed_good,
}
use Rattle.std.proofs.lemmas.List.Elements.{All-nil, All-take}
use Rattle.ord_types.specs.Grammar.{HasRequestSpelling}
use Rattle.ord_types.proofs.Laws.{IsBytes}
use Rattle.script_play.specs.Turns.{Turn}
use Rattle.view_model.specs.Acts.{may_propose}
use Rattle.world_model.specs.Pools.{offer}
use Rattle.world_safety.proofs.Beginning.{IsGoodIn, begun_good}
use Rattle.world_safety.proofs.Tells.{Ends, IsEvent, delivery_ends, tick_ends}

module _ (su : Setup) (number : ℕ) where
  -- the worlds behind an event
  behind : (w after : PastWorld) (turn : Turn PastWorld) (rest : PastWorld → List PastWorld)
      → IsEvent number w after turn → GoodWorld su after
      → ((next : PastWorld) → GoodWorld su next → AllByRecursion (GoodWorld su) (rest next))
      → AllByRecursion (GoodWorld su) (worlds_after turn.next rest)
  behind w after turn rest is good more = go turn.printed turn.next is.ends
    where
      go : (printed : List ℕ) (r : Result PastWorld Ending) → Ends number after is.happened printed r
          → AllByRecursion (GoodWorld su) (worlds_after r rest)
      go printed (Ok next) ends = more next (subst (GoodWorld su) (sym ends.0) good)
      go printed (Err ending) ends = tt

  -- TICK
  offer_fits : (node : Node PastNode) → All HasRequestSpelling node.pool
      → All HasRequestSpelling (offer_to past_keeping node)
  offer_fits node fits = go (may_propose (core_of_past node.state).place (core_of_past node.state).view)
    where
      go : (t : Bool) → All HasRequestSpelling (cond t (offer node.pool) [])
      go true = All-take HasRequestSpelling 1 node.pool fits
      go false = All-nil HasRequestSpelling

  -- a node that runs is found
  running_is : (o : Option (Node PastNode)) (node : Node PastNode) → running o ≡ Some node → o ≡ Some node
  running_is None node is = absurd (cc)
  running_is (Some other) node is = go other.runs is
    where
      go : (t : Bool) → cond t (Some other) None ≡ Some node → Some other ≡ Some node
      go true at = at
      go false at = absurd (cc)

  node_in : (w : PastWorld) (id : ℕ) (node : Node PastNode) → GoodWorld su w → running_at id w.nodes
      ≡ Some node → NodeIn su w.told w.seals node
  node_in w id node good is = found_node (NodeIn su w.told w.seals) (λ node. node.id == id) w.nodes node
      good.nodes (running_is (node_at id w.nodes) node is)

  tick_good : (w : PastWorld) (node : Node PastNode) → GoodWorld su w → NodeIn su w.told w.seals node
      → GoodWorld su (after_tick w node)
  tick_good w node good it =
      event_keeps su w node (tick_of past_keeping node) good it
      (record {
        offer = λ rs at. subst (All HasRequestSpelling) (some_same at) (offer_fits node it.pool);
        letter = λ letter at. absurd (cc);
      })

  in_tick_good : (id : ℕ) (w : PastWorld) (o : Option (Node PastNode)) (rest : PastWorld → List PastWorld)
      → GoodWorld su w → running_at id w.nodes ≡ o
      → ((next : PastWorld) → GoodWorld su next → AllByRecursion (GoodWorld su) (rest next))
      → AllByRecursion (GoodWorld su) (in_tick number w o rest)
  in_tick_good id w None rest good is more = more w good
  in_tick_good id w (Some node) rest good is more =
      let next_good = tick_good w node good (node_in w id node good is) in (
        next_good,
        behind w (after_tick w node) (tick_at past_setting number w (Some node)) rest
            (tick_ends number w node) next_good more,
      )

  ticks_good : (id n : ℕ) (w : PastWorld) → GoodWorld su w
      → AllByRecursion (GoodWorld su) (in_ticks number id n w)
  unfolding in_ticks
  ticks_good id zero w good = tt
  ticks_good id (suc n) w good = in_tick_good id w (running_at id w.nodes)
      (λ next. in_ticks number id n next) good refl (λ next good. ticks_good id n next good)

  -- DELIVER
  marked_good : (k : ℕ) (e : Entry) (w : PastWorld) → GoodWorld su w → EntryIn su w.told e
      → GoodWorld su (marked k e w)
  marked_good k e w good is =
      record {
        first = good.first;
        ids = good.ids;
        bounded = good.bounded;
        run = good.run;
        fit = good.fit;
        members = good.members;
        actors = good.actors;
        nodes = good.nodes;
        network = all_set (EntryIn su w.told) w.network k (record e { came = true }) good.network
            (record {
              readable = is.readable;
              rests = is.rests;
              among = is.among;
              no_raft = is.no_raft;
              spelled = is.spelled;
            });
        certified = good.certified;
        sealed = good.sealed;
      }

  letter_good : (k : ℕ) (e : Entry) (w : PastWorld) (o : Option (Node PastNode)) → GoodWorld su w
      → EntryIn su w.told e → running_at e.to w.nodes ≡ o → GoodWorld su (after_letter k e w o)
  letter_good k e w None good rests is = good
  letter_good k e w (Some node) good rests is =
      event_keeps su (marked k e w) node (letter_from e) (marked_good k e w good rests)
      (node_in w e.to node good is) (entry_brings su w.told e rests)

  delivery_good : (k : ℕ) (e : Entry) (w : PastWorld) → GoodWorld su w → EntryIn su w.told e
      → GoodWorld su (after_delivery k e w)
  delivery_good k e w good rests = letter_good k e w (running_at e.to w.nodes) good rests refl

  unless_good : (id : ℕ) (before after : PastWorld) (worlds : List PastWorld)
      → AllByRecursion (GoodWorld su) worlds
      → AllByRecursion (GoodWorld su) (unless_cut id before after worlds)
  unless_good id before after worlds all = go (is_running id before && not (is_running id after))
    where
      go : (t : Bool) → AllByRecursion (GoodWorld su) (cond t [] worlds)
      go true = tt
      go false = all

  deliveries_good : (n k : ℕ) (w : PastWorld) (rest : PastWorld → List PastWorld) → GoodWorld su w
      → ((next : PastWorld) → GoodWorld su next → AllByRecursion (GoodWorld su) (rest next))
      → AllByRecursion (GoodWorld su) (in_deliveries number n k w rest)
  unfolding in_deliveries
  deliveries_good zero k w rest good more = more w good
  deliveries_good (suc n) k w rest good more =
      go (entry k w) refl (λ next good. deliveries_good n (k + 1) next rest good more)
    where
      go : (o : Option Entry) → entry k w ≡ o → ((next : PastWorld) → GoodWorld su next
          → AllByRecursion (GoodWorld su) (in_deliveries number n (k + 1) next rest))
          → AllByRecursion (GoodWorld su) (elim o [
            | None ↦ []
            | Some e ↦ after_delivery (k - 1) e w
                ∷ worlds_after (delivery past_setting number (k - 1) e w).next
                (λ next. unless_cut e.to w next (in_deliveries number n (k + 1) next rest))
          ])
      go None is then_on = tt
      go (Some e) is then_on =
          let next_good = delivery_good (k - 1) e w good (entry_in su k e w good is) in (
            next_good,
            behind w (after_delivery (k - 1) e w) (delivery past_setting number (k - 1) e w)
                (λ next. unless_cut e.to w next (in_deliveries number n (k + 1) next rest))
                (delivery_ends number (k - 1) e w) next_good
                (λ next good. unless_good e.to w next (in_deliveries number n (k + 1) next rest)
                (then_on next good)),
          )

  deliver_good : (ranges : List Range) (w : PastWorld) → GoodWorld su w
      → AllByRecursion (GoodWorld su) (in_deliver number ranges w)
  unfolding in_deliver
  deliver_good [] w good = tt
  deliver_good (range ∷ ranges) w good =
      deliveries_good (range.last + 1 - range.first) range.first w (λ next. in_deliver number ranges next)
      good (λ next. deliver_good ranges next)

  -- FLUSH
  flushes_good : (w : PastWorld) (o : Option ℕ) (rest : PastWorld → List PastWorld) → GoodWorld su w
      → ((next : PastWorld) → GoodWorld su next → AllByRecursion (GoodWorld su) (rest next))
      → AllByRecursion (GoodWorld su) (in_flushes number w o rest)
  flushes_good w None rest good more = tt
  flushes_good w (Some k) rest good more = go (slice_get w.network k) refl
    where
      go : (o : Option Entry) → slice_get w.network k ≡ o
          → AllByRecursion (GoodWorld su) (elim o [
            | None ↦ []
            | Some e ↦ after_delivery k e w
                ∷ worlds_after (delivery past_setting number k e w).next rest
          ])
      go None is = tt
      go (Some e) is =
          let next_good = delivery_good k e w good
          (found_entry (EntryIn su w.told) w.network k e good.network is) in (
            next_good,
            behind w (after_delivery k e w) (delivery past_setting number k e w) rest
                (delivery_ends number k e w) next_good more,
          )

  flush_good : (only : Option (List ℕ)) (n : ℕ) (w : PastWorld) → GoodWorld su w
      → AllByRecursion (GoodWorld su) (in_flush number only n w)
  unfolding in_flush
  flush_good only zero w good = tt
  flush_good only (suc n) w good =
      flushes_good w (position (is_waiting w.nodes only) w.network) (λ next. in_flush number only n next)
      good (λ next good. flush_good only n next good)

  -- SUBMIT and RAW
  submit_good : (w : PastWorld) (node : Node PastNode) (bytes : List ℕ) → IsBytes bytes → GoodWorld su w
      → NodeIn su w.told w.seals node → GoodWorld su (after_submit w node bytes)
  submit_good w node bytes fits good is =
      renewed_good su w (submitted node bytes) good
      (record {
        config = is.config;
        id = is.id;
        correct = is.correct;
        stands = is.stands;
        pool =
            pool_spelled node.pool bytes fits is.pool;
        stored = is.stored;
        sealed = is.sealed;
      })

  -- STOP AT A CALL and START
  stop_at_good : (w : PastWorld) (node : Node PastNode) → GoodWorld su w → NodeIn su w.told w.seals node
      → GoodWorld su (after_stop_at w node)
  stop_at_good w node good is =
      renewed_good su w (record node { armed = true }) good
      (record {
        config = is.config;
        id = is.id;
        correct = is.correct;
        stands = is.stands;
        pool = is.pool;
        stored = is.stored;
        sealed = is.sealed;
      })

  start_good : (w : PastWorld) (node : Node PastNode) → GoodWorld su w → NodeIn su w.told w.seals node
      → GoodWorld su (after_start w node)
  start_good w node good is =
      renewed_good su w (node_started node) good (record {
        config = is.config;
        id = is.id;
        correct =
            is.correct;
        stands = is.stands;
        pool = is.pool;
        stored = is.stored;
        sealed = is.sealed;
      })

  -- A COMMAND
  if_good : (t : Bool) (worlds others : List PastWorld) → AllByRecursion (GoodWorld su) worlds
      → AllByRecursion (GoodWorld su) others → AllByRecursion (GoodWorld su) (cond t worlds others)
  if_good true worlds others all rest = all
  if_good false worlds others all rest = rest

  where_good : (id : ℕ) (w : PastWorld) (o : Option (Node PastNode)) (worlds : Node PastNode
      → List PastWorld) → GoodWorld su w → node_at id w.nodes ≡ o
      → ((node : Node PastNode) → NodeIn su w.told w.seals node
      → AllByRecursion (GoodWorld su) (worlds node)) → AllByRecursion (GoodWorld su) (where_node o worlds)
  where_good id w None worlds good is each = tt
  where_good id w (Some node) worlds good is each =
      if_good node.runs (worlds node) []
      (each node (found_node (NodeIn su w.told w.seals) (λ node. node.id == id) w.nodes node good.nodes
      is)) tt

  where_still : (id : ℕ) (w : PastWorld) (o : Option (Node PastNode)) (worlds : Node PastNode
      → List PastWorld) → GoodWorld su w → node_at id w.nodes ≡ o
      → ((node : Node PastNode) → NodeIn su w.told w.seals node
      → AllByRecursion (GoodWorld su) (worlds node)) → AllByRecursion (GoodWorld su) (where_stopped o worlds)
  where_still id w None worlds good is each = tt
  where_still id w (Some node) worlds good is each = if_good node.runs [] (worlds node) tt
      (each node (found_node (NodeIn su w.told w.seals) (λ node. node.id == id) w.nodes node good.nodes is))

  command_good : (w : PastWorld) (command : Command) → IsWellFormed command → GoodWorld su w
      → AllByRecursion (GoodWorld su) (worlds_in number w command)
  command_good w (Genesis members byzantine) formed good = tt
  command_good w (Submit id client serial payload) formed good =
      let bytes = request_text (ordinary client serial payload) in
      where_good id w (node_at id w.nodes) (λ node. after_submit w node bytes ∷ []) good refl
      (λ node is. (
        submit_good w node bytes (ordinary_bytes client serial payload
            (each_byte payload formed.are_bytes)) good is,
        tt,
      ))
  command_good w (Raw id bytes) formed good =
      where_good id w (node_at id w.nodes) (λ node. after_submit w node bytes ∷ []) good refl
      (λ node is. (submit_good w node bytes (each_byte bytes formed.are_bytes) good is, tt))
  command_good w (Show id block) formed good = tt
  command_good w (Tick id count) formed good = where_good id w (node_at id w.nodes)
      (λ node. in_ticks number id count w) good refl (λ node is. ticks_good id count w good)
  command_good w (Deliver ranges) formed good = deliver_good ranges w good
  command_good w (Flush only) formed good = flush_good only most_flushed w good
  command_good w (Stop id image) formed good = where_good id w (node_at id w.nodes)
      (λ node. after_stop w node ∷ []) good refl (λ node is. (stop_keeps su w node good is, tt))
  command_good w (StopAt id call image) formed good = where_good id w (node_at id w.nodes)
      (λ node. after_stop_at w node ∷ []) good refl (λ node is. (stop_at_good w node good is, tt))
  command_good w (Start id) formed good = where_still id w (node_at id w.nodes) (λ node. after_start w node
      ∷ []) good refl (λ node is. (start_good w node good is, tt))
  command_good w (Propose from to view client serial payload) formed good =
      proposed_good su w from to view client serial payload formed good
  command_good w (Vote from to kind view k) formed good = voted_good su w from to kind view k formed good
  command_good w (Lie from to bytes) formed good = lied_good su w from to bytes formed good
  command_good w (Seal id bytes) formed good = sealed_good su w id bytes good

-- WHERE THERE MAY BE NO WORLD YET

pub turn_good : (outcomes : List Outcome) (o : Option PastWorld) (number : ℕ) (command : Command)
    → IsWellFormed command → IsGoodIn o → AllByRecursion IsGoodIn (worlds_in_turn outcomes o number command)
turn_good outcomes None number (Genesis members byzantine) formed good =
    begun_good outcomes number members byzantine formed.member_ids
turn_good outcomes None number (Submit id client serial payload) formed good = tt
turn_good outcomes None number (Raw id bytes) formed good = tt
turn_good outcomes None number (Show id block) formed good = tt
turn_good outcomes None number (Tick id count) formed good = tt
turn_good outcomes None number (Deliver ranges) formed good = tt
turn_good outcomes None number (Flush only) formed good = tt
turn_good outcomes None number (Stop id image) formed good = tt
turn_good outcomes None number (StopAt id call image) formed good = tt
turn_good outcomes None number (Start id) formed good = tt
turn_good outcomes None number (Propose from to view client serial payload) formed good = tt
turn_good outcomes None number (Vote from to kind view k) formed good = tt
turn_good outcomes None number (Lie from to bytes) formed good = tt
turn_good outcomes None number (Seal id bytes) formed good = tt
turn_good outcomes (Some w) number command formed good =
    all_mapped IsGoodIn Some (worlds_in number w command)
    (all_map (GoodWorld good.setup) (λ w. IsGoodIn (Some w)) (λ next is. record {
      setup = good.setup;
      good =
          is;
    }) (worlds_in number w command) (command_good good.setup number w command formed good.good))
