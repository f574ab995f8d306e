-- A world whose nodes are computed from their pasts, and the same world with states that are updated in
-- place, go through the same.
use Rattle.std.proofs.Common.{
  ◌≡◌,
  ℕ,
  zero,
  suc,
  ◌+◌,
  ◌-◌,
  Bool,
  true,
  false,
  cond,
  not,
  ◌&&◌,
  eqb,
  ltb,
  List,
  [],
  ◌∷◌,
  ◌++◌,
  map,
  filter,
  length,
  position,
  slice_get,
  ap,
  ap₂,
  ◌∙◌,
  refl,
  subst,
  take,
  Option,
  Some,
  None,
  is_some,
  option_map,
  codes,
}
use Rattle.std.specs.List.{AllByRecursion, flat_map}
use Rattle.script.specs.declared.command.Command.{Command}
use Rattle.script.specs.declared.command.Command.TheVariants as command_of
use Rattle.script.specs.declared.command.Range.{Range}
use Rattle.script.specs.declared.command.VoteKind.{VoteKind}
use Rattle.script.specs.declared.command.VoteKind.TheVariants as vote_kind
use Rattle.script_play.specs.Turns.{Turn}
use Rattle.ord_types.specs.declared.values.Proof.{Proof}
use Rattle.ord_types.specs.Members.{fault_bound, how_many_in, is_in}
use Rattle.ord_types.specs.Spelling.{request_text}
use Rattle.bft_wire.specs.Reading.{message_in}
use Rattle.bft_wire.specs.Spelling.{message_text}
use Rattle.safety_model.specs.Blocks.{Block, Config, Request}
use Rattle.safety_model.specs.Facts.{History}
use Rattle.view_model.specs.Letters.{PrePrepare}
use Rattle.node_model.specs.declared.event.Event.{Event}
use Rattle.node_model.specs.Entries.{Entry as Happened, Opened, facts_of}
use Rattle.node_model.specs.Cores.{Core}
use Rattle.node_model.specs.Keeping.{PastNode, core_of_past, past_place}
use Rattle.node_model.specs.Laws.{AllFit, NothingAhead}
use Rattle.node_model.proofs.AheadLemmas.{ahead_opens}
use Rattle.node_model.proofs.BridgeLemmas.{all_go, fit_front}
use Rattle.node_model.proofs.PastLemmas.{seen_opens}
use Rattle.node_model.proofs.RuleLemmas.{fit_append, step_fits}
use Rattle.world_model.proofs.TurnLemmas.{SameTurn, either_same, goes_on_same, says_same}
use Rattle.world_model.specs.Pools.{answer}
use Rattle.world_model.specs.Worlds.{
  Setting,
  is_waiting,
  Entry,
  GoesOn,
  Node,
  Outcome,
  Stops,
  World,
  entry,
  is_named,
  keys_of,
  letter_from,
  making,
  marked,
  node_after,
  node_at,
  node_started,
  node_stopped,
  outcome_in,
  running,
  running_at,
  tick_of,
  with_node,
  world_after,
  world_stopped,
}
use Rattle.world_model.specs.Texts.{
  answer_text,
  deliver_text,
  fact_text,
  flush_text,
  genesis_text,
  lied_text,
  refused_text,
  seal_text,
  sent_text,
  show_text,
  start_text,
  stop_at_text,
  stopped_text,
  tick_text,
}
use Rattle.world_model.specs.Liars.{
  as_liar,
  commit_for,
  is_raft_if_any,
  lie_turn,
  longer,
  longest,
  prepare_for,
  proposal_of,
  propose_on,
  propose_turn,
  proposed_in,
  sends,
  sig_at,
  statement_for,
  vote_if,
  vote_turn,
  with_sent,
  with_signed,
}
use Rattle.world_model.specs.Turns.{
  absence,
  at_found,
  at_node,
  closing_of,
  closing_of_member,
  counted,
  deliver_turn,
  deliveries,
  delivery,
  delivery_to,
  event_by,
  event_goes,
  event_turn,
  first_config,
  first_node,
  first_outcome,
  first_world,
  flush_turn,
  flushes,
  genesis_turn,
  goes_on,
  is_running,
  most_entries,
  most_flushed,
  ordinary,
  refuses,
  says,
  show_turn,
  shows,
  some_world,
  start_turn,
  stop_at_turn,
  stop_turn,
  submit_turn,
  submitted,
  tick_at,
  ticks,
  turn_in,
  turn_of,
  unless_stopped,
  with_later,
  within_limit,
}
use Rattle.world_model.specs.Cores.{core_keeping, core_setting}
use Rattle.world_model.specs.Histories.{past_keeping, past_setting}
use Rattle.world_model.specs.Seen.{seen, seen_if_any, seen_node}

-- WORLDS

abbrev pub Past : Type 0
Past = World PastNode History

abbrev pub InPlace : Type 0
InPlace = World Core (Unit {0})

abbrev pub IsAhead : Node PastNode → Type 0
IsAhead node = NothingAhead node.state

-- at no node anything is ahead of its height
abbrev pub NoneAhead : Past → Type 0
NoneAhead w = AllByRecursion IsAhead w.nodes

abbrev pub Same : Turn Past → Turn InPlace → Type 0
Same = SameTurn seen NoneAhead

-- what is done in a world, and at a node of it, however its nodes are kept

abbrev Doing : Type 1
Doing = (S T : Type 0) → Setting S T → World S T → Turn (World S T)

abbrev DoingAt : Type 1
DoingAt = (S T : Type 0) → Setting S T → World S T → Node S → Turn (World S T)

abbrev by_past : Doing → Past → Turn Past
by_past turn = turn PastNode History past_setting

abbrev in_place : Doing → InPlace → Turn InPlace
in_place turn = turn Core (Unit {0}) core_setting

abbrev Alike : Doing → Type 0
Alike turn = (w : Past) → NoneAhead w → Same (by_past turn w) (in_place turn (seen w))

abbrev AlikeAt : DoingAt → Type 0
AlikeAt turn =
    (w : Past) → NoneAhead w → (node : Node PastNode) → IsAhead node
    → Same (turn PastNode History past_setting w node)
    (turn Core (Unit {0}) core_setting (seen w) (seen_node node))

then_alike : (turn rest : Doing) → Alike turn → Alike rest
    → Alike (λ S T setting w. goes_on (turn S T setting w) (rest S T setting))
then_alike turn rest one more w all = goes_on_same (by_past rest) (in_place rest) (one w all) more

-- NODES

record SameNode (node : Node PastNode) (core : Node Core) : Type 0 where
  same : seen_node node ≡ core
  ahead : IsAhead node

record SameNodes (nodes : List (Node PastNode)) (core : List (Node Core)) : Type 0 where
  same : map seen_node nodes ≡ core
  ahead : AllByRecursion IsAhead nodes

nodes_if : {xs ys : List (Node PastNode)} {us vs : List (Node Core)} (b : Bool) → SameNodes xs us
    → SameNodes ys vs → SameNodes (cond b xs ys) (cond b us vs)
nodes_if true one other = one
nodes_if false one other = other

node_then : (node : Node PastNode) {nodes : List (Node PastNode)} {core : List (Node Core)} → IsAhead node
    → SameNodes nodes core → SameNodes (node ∷ nodes) (seen_node node ∷ core)
node_then node ahead rest =
    record { same = ap (λ nodes. seen_node node ∷ nodes) rest.same; ahead = (ahead, rest.ahead) }

-- a node in the place of the one of its id
put : {new : Node PastNode} {core : Node Core} (nodes : List (Node PastNode)) → AllByRecursion IsAhead nodes
    → SameNode new core → SameNodes (with_node new nodes) (with_node core (map seen_node nodes))
put {new} {core} nodes all one =
    subst (λ c. SameNodes (with_node new nodes) (with_node c (map seen_node nodes))) one.same (go nodes all)
  where
    go : (nodes : List (Node PastNode)) → AllByRecursion IsAhead nodes
        → SameNodes (with_node new nodes) (with_node (seen_node new) (map seen_node nodes))
    go [] all = record { same = refl; ahead = tt }
    go (node ∷ nodes) all =
        nodes_if (eqb node.id new.id) (node_then new one.ahead (record { same = refl; ahead = all.1 }))
        (node_then node all.0 (go nodes all.1))

abbrev Found : Option (Node PastNode) → Option (Node Core) → Type 0
Found None o = o ≡ None
Found (Some node) o = (o ≡ Some (seen_node node)) × IsAhead node

found_if : (b : Bool) (node : Node PastNode) (o : Option (Node PastNode)) (p : Option (Node Core))
    → IsAhead node → Found o p → Found (cond b (Some node) o) (cond b (Some (seen_node node)) p)
found_if true node o p one same = (refl, one)
found_if false node o p one same = same

found : (id : ℕ) (nodes : List (Node PastNode)) → AllByRecursion IsAhead nodes
    → Found (node_at id nodes) (node_at id (map seen_node nodes))
found id [] all = refl
found id (node ∷ nodes) all =
    found_if (eqb node.id id) node (node_at id nodes) (node_at id (map seen_node nodes)) all.0
    (found id nodes all.1)

found_running : (id : ℕ) (w : Past) → NoneAhead w
    → Found (running_at id w.nodes) (running_at id (map seen_node w.nodes))
found_running id w all = go (node_at id w.nodes) (node_at id (map seen_node w.nodes)) (found id w.nodes all)
  where
    go : (o : Option (Node PastNode)) (p : Option (Node Core)) → Found o p → Found (running o) (running p)
    go None p same = rw same refl
    go (Some node) p same = rw same.0 (found_if node.runs node None None same.1 refl)

-- a node runs in both or in neither
runs_same : (id : ℕ) (w : Past) → NoneAhead w → is_running id w ≡ is_running id (seen w)
runs_same id w all =
    go (running_at id w.nodes) (running_at id (map seen_node w.nodes)) (found_running id w all)
  where
    go : (o : Option (Node PastNode)) (p : Option (Node Core)) → Found o p → is_some o ≡ is_some p
    go None p same = rw same refl
    go (Some node) p same = rw same.0 refl

-- what is done where there is a node, and where there is none
if_found : (turn : (S T : Type 0) → Setting S T → World S T → Option (Node S) → Turn (World S T))
    → Alike (λ S T setting w. turn S T setting w None)
    → AlikeAt (λ S T setting w node. turn S T setting w (Some node))
    → (w : Past) → NoneAhead w → (o : Option (Node PastNode)) (p : Option (Node Core)) → Found o p
    → Same (turn PastNode History past_setting w o) (turn Core (Unit {0}) core_setting (seen w) p)
if_found turn none some w all None p same = rw same (none w all)
if_found turn none some w all (Some node) p same = rw same.0 (some w all node same.1)

if_running : (turn : (S T : Type 0) → Setting S T → World S T → Option (Node S) → Turn (World S T)) (id : ℕ)
    → Alike (λ S T setting w. turn S T setting w None)
    → AlikeAt (λ S T setting w node. turn S T setting w (Some node))
    → Alike (λ S T setting w. turn S T setting w (running_at id w.nodes))
if_running turn id none some w all =
    if_found turn none some w all (running_at id w.nodes) (running_at id (map seen_node w.nodes))
    (found_running id w all)

-- A WORLD WITH OTHER NODES

says_nodes : {nodes : List (Node Core)} (text : List ℕ) (w : Past) → SameNodes w.nodes nodes
    → Same (says text w) (says text (record (seen w) { nodes = nodes }))
says_nodes text w same =
    subst (λ nodes. Same (says text w) (says text (record (seen w) { nodes = nodes }))) same.same
    (says_same text w same.ahead)

within_nodes : (number : ℕ) {nodes : List (Node Core)} (text : List ℕ) (w : Past) → SameNodes w.nodes nodes
    → Same (within_limit number text w) (within_limit number text (record (seen w) { nodes = nodes }))
within_nodes number text w same =
    either_same (ltb most_entries (length w.network)) (record { printed = refl; next = refl })
    (says_nodes text w same)

module _ (number : ℕ) where
  refuses_same : (reason : List ℕ) → Alike (λ S T setting w. refuses number reason w)
  refuses_same reason w all = says_same (refused_text number reason) w all

  -- AN EVENT: the entries of a step, and those of a front of it and an opening, fit the node

  after_same : (node : Node PastNode) (made : List Happened) → AllFit made (core_of_past node.state)
      → IsAhead node
      → SameNode (node_after past_keeping node made) (node_after core_keeping (seen_node node) made)
  after_same node made fit ahead =
      let all = all_go made node.state fit ahead in
      let core = node_after core_keeping (seen_node node) made in
      record { same = ap (λ state. record core { state = state }) all.same; ahead = all.ahead }

  stopped_same : (node : Node PastNode) (made : List Happened) → AllFit made (core_of_past node.state)
      → IsAhead node
      → SameNode (node_stopped past_keeping node made) (node_stopped core_keeping (seen_node node) made)
  stopped_same node made fit ahead =
      let opened = fit_append made (Opened ∷ []) (core_of_past node.state) fit (tt, tt) in
      let all = all_go (made ++ Opened ∷ []) node.state opened ahead in
      let core = node_stopped core_keeping (seen_node node) made in
      record { same = ap (λ state. record core { state = state }) all.same; ahead = all.ahead }

  goes_same : (event : Event) → AlikeAt (λ S T setting w node. event_goes setting number w node event)
  goes_same event w all node ahead =
      let made = making past_setting w node event in
      let fit = step_fits (keys_of w.seals node.id) (core_of_past node.state) event in
      within_nodes number (flat_map (fact_text number) (facts_of made)) (world_after past_setting w node made)
      (put w.nodes all (after_same node made fit ahead))

  stop_same : (w : Past) (node : Node PastNode) (made : List Happened) → AllFit made (core_of_past node.state)
      → NoneAhead w → IsAhead node
      → Same (says (stopped_text number node.id) (world_stopped past_setting w node made))
      (says (stopped_text number node.id) (world_stopped core_setting (seen w) (seen_node node) made))
  stop_same w node made fit all ahead =
      says_nodes (stopped_text number node.id) (world_stopped past_setting w node made)
      (put w.nodes all (stopped_same node made fit ahead))

  by_same : (event : Event) (outcome : Outcome)
      → AlikeAt (λ S T setting w node. event_by setting number w node event outcome)
  by_same event GoesOn w all node ahead = goes_same event w all node ahead
  by_same event (Stops cut) w all node ahead =
      let made = making past_setting w node event in
      let fit = step_fits (keys_of w.seals node.id) (core_of_past node.state) event in
      stop_same w node (take cut made) (fit_front cut made (core_of_past node.state) fit) all ahead

  event_same : (event : Event) → AlikeAt (λ S T setting w node. event_turn setting number w node event)
  unfolding event_turn
  event_same event w all node ahead =
      let outcome = outcome_in (making past_setting w node event) (first_outcome w.outcomes) in
      either_same node.armed (by_same event outcome (with_later w) all node ahead)
      (goes_same event w all node ahead)

  -- TICK

  ticks_same : (id n : ℕ) → Alike (λ S T setting w. ticks setting number id n w)
  unfolding ticks
  ticks_same id zero w all =
      let text = λ (b : Bool). cond b (tick_text number id) [] in
      subst (λ b. Same (says (text (is_running id w)) w) (says (text b) (seen w))) (runs_same id w all)
      (says_same (text (is_running id w)) w all)
  ticks_same id (suc n) w all =
      then_alike (λ S T setting w. tick_at setting number w (running_at id w.nodes))
      (λ S T setting w. ticks setting number id n w)
      (if_running (λ S T setting w o. tick_at setting number w o) id (λ w all. says_same [] w all)
      (λ w all node ahead. event_same (tick_of past_keeping node) w all node ahead)) (ticks_same id n) w all

  -- DELIVER

  delivery_same : (k : ℕ) (e : Entry) → Alike (λ S T setting w. delivery setting number k e w)
  delivery_same k e =
      if_running (λ S T setting w o. delivery_to setting number k e w o) e.to (λ w all. says_same [] w all)
      (λ w all node ahead. event_same (letter_from e) (marked k e w) all node ahead)

  unless_same : (id : ℕ) (w next : Past) {turn : Turn Past} {core_turn : Turn InPlace} → NoneAhead w
      → NoneAhead next → Same turn core_turn
      → Same (unless_stopped id w next turn) (unless_stopped id (seen w) (seen next) core_turn)
  unless_same id w next {turn} {core_turn} all more same =
      subst (λ b. Same (unless_stopped id w next turn) (cond b (says [] (seen next)) core_turn))
      (ap₂ (λ (a b : Bool). a && not b) (runs_same id w all) (runs_same id next more))
      (either_same (is_running id w && not (is_running id next)) (says_same [] next more) same)

  -- an entry, or none
  entry_same : (w : Past) (past : Entry → Turn Past) (core : Entry → Turn InPlace) → NoneAhead w
      → ((e : Entry) → Same (past e) (core e)) → (k : ℕ)
      → Same (elim (entry k w) [ None ↦ refuses number (codes "no entry") w | Some e ↦ past e ])
      (elim (entry k (seen w)) [
        | None ↦ refuses number (codes "no entry") (seen w)
        | Some e ↦ core e
      ])
  entry_same w past core all same zero = refuses_same (codes "no entry") w all
  entry_same w past core all same (suc k) = go (slice_get w.network k)
    where
      go : (o : Option Entry)
          → Same (elim o [ None ↦ refuses number (codes "no entry") w | Some e ↦ past e ])
          (elim o [ None ↦ refuses number (codes "no entry") (seen w) | Some e ↦ core e ])
      go None = refuses_same (codes "no entry") w all
      go (Some e) = same e

  deliveries_same : (n k count : ℕ)
      (rest : (S T : Type 0) → Setting S T → ℕ → World S T → Turn (World S T))
      → ((count : ℕ) → Alike (λ S T setting w. rest S T setting count w))
      → Alike (λ S T setting w. deliveries setting number n k count w (rest S T setting))
  unfolding deliveries
  deliveries_same zero k count rest more w all = more count w all
  deliveries_same (suc n) k count rest more w all =
      let sum = λ (e : Entry). counted e w.nodes count in
      entry_same w (λ e. past e (sum e)) (λ e. core e (counted e (map seen_node w.nodes) count)) all
      (λ e.
      subst (λ s. Same (past e (sum e)) (core e s))
      (ap (λ b. cond b (count + 1) count) (runs_same e.to w all))
      (goes_on_same (then_past e (sum e)) (then_core e (sum e)) (delivery_same (k - 1) e w all)
      (λ next ahead.
      unless_same e.to w next all ahead (deliveries_same n (k + 1) (sum e) rest more next ahead)))) k
    where
      then_past : Entry → ℕ → Past → Turn Past
      then_past e sum next =
          unless_stopped e.to w next
          (deliveries past_setting number n (k + 1) sum next (rest PastNode History past_setting))

      then_core : Entry → ℕ → InPlace → Turn InPlace
      then_core e sum next =
          unless_stopped e.to (seen w) next
          (deliveries core_setting number n (k + 1) sum next (rest Core (Unit {0}) core_setting))

      past : Entry → ℕ → Turn Past
      past e sum = goes_on (delivery past_setting number (k - 1) e w) (then_past e sum)

      core : Entry → ℕ → Turn InPlace
      core e sum = goes_on (delivery core_setting number (k - 1) e (seen w)) (then_core e sum)

  deliver_same : (ranges : List Range) (count : ℕ)
      → Alike (λ S T setting w. deliver_turn setting number ranges count w)
  unfolding deliver_turn
  deliver_same [] count w all = says_same (deliver_text number count) w all
  deliver_same (range ∷ ranges) count w all =
      deliveries_same (range.last + 1 - range.first) range.first count
      (λ S T setting more w. deliver_turn setting number ranges more w) (deliver_same ranges) w all

  -- FLUSH: a test that answers the same finds the same place

  waits_same : (only : Option (List ℕ)) (w : Past) → NoneAhead w
      → position (is_waiting w.nodes only) w.network
      ≡ position (is_waiting (map seen_node w.nodes) only) w.network
  waits_same only w all =
      λ i. position (λ e. not e.came && is_named only e && runs_same e.to w all i) w.network

  flushes_same : (rest : Doing) → Alike rest → (w : Past) → NoneAhead w → (o : Option ℕ)
      {done : Turn Past} {core_done : Turn InPlace} → Same done core_done
      → Same (flushes past_setting number w o done (by_past rest))
      (flushes core_setting number (seen w) o core_done (in_place rest))
  flushes_same rest more w all None same = same
  flushes_same rest more w all (Some k) {done} {core_done} same = go (slice_get w.network k)
    where
      go : (o : Option Entry)
          → Same (elim o [
            | None ↦ done
            | Some e ↦ goes_on (delivery past_setting number k e w) (by_past rest)
          ]) (elim o [
            | None ↦ core_done
            | Some e ↦ goes_on (delivery core_setting number k e (seen w)) (in_place rest)
          ])
      go None = same
      go (Some e) =
          then_alike (λ S T setting w. delivery setting number k e w) rest (delivery_same k e) more w all

  flush_same : (only : Option (List ℕ)) (n count : ℕ)
      → Alike (λ S T setting w. flush_turn setting number only n count w)
  unfolding flush_turn
  flush_same only zero count w all = says_same (flush_text number count) w all
  flush_same only (suc n) count w all =
      let text = flush_text number count in
      let least = position (is_waiting w.nodes only) w.network in
      let past = λ (next : Past). flush_turn past_setting number only n (count + 1) next in
      let core = λ (next : InPlace). flush_turn core_setting number only n (count + 1) next in
      subst (λ o. Same (flushes past_setting number w least (says text w) past)
      (flushes core_setting number (seen w) o (says text (seen w)) core)) (waits_same only w all)
      (flushes_same (λ S T setting w. flush_turn setting number only n (count + 1) w)
      (flush_same only n (count + 1)) w all least (says_same text w all))

  -- BYZANTINE MEMBERS

  liar_same : (w : Past) (from to : ℕ) {turn : Turn Past} {core_turn : Turn InPlace} → NoneAhead w
      → Same turn core_turn → Same (as_liar number w from to turn) (as_liar number (seen w) from to core_turn)
  liar_same w from to all same =
      either_same (not (is_in from w.config.members && is_in to w.config.members))
      (refuses_same (codes "unknown node") w all)
      (either_same (not (is_in from w.byzantine)) (refuses_same (codes "not byzantine") w all) same)

  sends_same : (word : List ℕ) (from to : ℕ) (bytes : List ℕ)
      → Alike (λ S T setting w. sends number word w from to bytes)
  sends_same word from to bytes =
      then_alike (λ S T setting w. within_limit number [] (with_sent w from to bytes))
      (λ S T setting sent. says (lied_text number word (length sent.network)) sent)
      (λ w all. within_nodes number [] (with_sent w from to bytes) (record { same = refl; ahead = all }))
      (λ sent ahead. says_same (lied_text number word (length sent.network)) sent ahead)

  propose_same : (from to v : ℕ) (r : Request) (w : Past) → NoneAhead w → (o : Option (Node PastNode))
      → Same (propose_on past_setting number w from to v r o)
      (propose_on core_setting number (seen w) from to v r (option_map seen_node o))
  propose_same from to v r w all None = refuses_same (codes "no core") w all
  propose_same from to v r w all (Some node) =
      sends_same (codes "byz-propose") from to (message_text (proposal_of (past_place node.state) v r)) w all

  vote_if_same : (from to : ℕ) (kind : VoteKind) (v : ℕ) (o : Option PrePrepare)
      → Alike (λ S T setting w. vote_if number w from to kind v o)
  vote_if_same from to kind v None w all = refuses_same (codes "no block") w all
  vote_if_same from to vote_kind.Prepare v (Some m) w all =
      sends_same (codes "byz-vote") from to (message_text (prepare_for m v)) w all
  vote_if_same from to vote_kind.Commit v (Some m) w all =
      sends_same (codes "byz-vote") from to (message_text (commit_for m v (sig_at from (length w.seals))))
      (with_signed w from (statement_for m v)) all

  vote_same : (from to : ℕ) (kind : VoteKind) (v k : ℕ)
      → Alike (λ S T setting w. vote_turn number w from to kind v (entry k w))
  vote_same from to kind v zero w all = refuses_same (codes "no entry") w all
  vote_same from to kind v (suc k) w all = go (slice_get w.network k)
    where
      go : (o : Option Entry)
          → Same (vote_turn number w from to kind v o) (vote_turn number (seen w) from to kind v o)
      go None = refuses_same (codes "no entry") w all
      go (Some e) = vote_if_same from to kind v (proposed_in e.bytes) w all

  lie_same : (from to : ℕ) (bytes : List ℕ) → Alike (λ S T setting w. lie_turn number w from to bytes)
  lie_same from to bytes w all =
      either_same (is_raft_if_any (message_in bytes)) (refuses_same (codes "raft message") w all)
      (sends_same (codes "lie") from to bytes w all)

-- the longest ledger is the same node's
longest_seen : (nodes : List (Node PastNode))
    → option_map seen_node (longest nodes) ≡ longest (map seen_node nodes)
longest_seen [] = refl
longest_seen (node ∷ nodes) =
    ap Some (of (longest nodes) ∙ ap (longer (seen_node node)) (longest_seen nodes))
  where
    one : (b : Bool) (x y : Node PastNode) → seen_node (cond b x y) ≡ cond b (seen_node x) (seen_node y)
    one true x y = refl
    one false x y = refl

    of : (o : Option (Node PastNode))
        → seen_node (longer node o) ≡ longer (seen_node node) (option_map seen_node o)
    of None = refl
    of (Some other) = one (ltb (length node.ledger) (length other.ledger)) other node

module _ (number : ℕ) where
  -- A COMMAND

  -- another node in the place of one of its id
  replaced : (text : List ℕ) (new : Node PastNode) (w : Past) → NoneAhead w → IsAhead new
      → Same (says text (record w { nodes = with_node new w.nodes }))
      (says text (record (seen w) { nodes = with_node (seen_node new) (map seen_node w.nodes) }))
  replaced text new w all ahead =
      says_nodes text (record w { nodes = with_node new w.nodes })
      (put w.nodes all (record { same = refl; ahead = ahead }))

  submit_same : (word bytes : List ℕ) → AlikeAt (λ S T setting w node. submit_turn number word w node bytes)
  submit_same word bytes w all node ahead =
      replaced (answer_text number word node.id (answer node.pool bytes)) (submitted node bytes) w all ahead

  show_same : (block : ℕ) → AlikeAt (λ S T setting w node. show_turn number w node block)
  show_same block w all node ahead = go (slice_get node.ledger block)
    where
      go : (o : Option (Block × Proof))
          → Same (shows number w node o) (shows number (seen w) (seen_node node) o)
      go None = refuses_same number (codes "no block") w all
      go (Some stored) = says_same (show_text number node.id stored.0 stored.1) w all

  found_same : (turn : DoingAt) (id : ℕ) → AlikeAt turn
      → Alike (λ S T setting w. at_found number w id (node_at id w.nodes) (λ node. turn S T setting w node))
  found_same turn id each w all =
      if_found (λ S T setting w o. at_found number w id o (λ node. turn S T setting w node))
      (λ w all. refuses_same number (absence w id) w all) each w all (node_at id w.nodes)
      (node_at id (map seen_node w.nodes)) (found id w.nodes all)

  -- at a node that runs, and at one that is stopped
  node_same : (turn : DoingAt) (id : ℕ) → AlikeAt turn
      → Alike (λ S T setting w. at_node number w id (λ node. turn S T setting w node))
  node_same turn id each =
      found_same
      (λ S T setting w node. cond node.runs (turn S T setting w node) (refuses number (codes "stopped") w)) id
      (λ w all node ahead.
      either_same node.runs (each w all node ahead) (refuses_same number (codes "stopped") w all))

  turn_same : (command : Command) → Alike (λ S T setting w. turn_in setting number w command)
  turn_same (command_of.Genesis members byzantine) w all = refuses_same number (codes "second genesis") w all
  turn_same (command_of.Submit id client serial payload) w all =
      let bytes = request_text (ordinary client serial payload) in
      node_same (λ S T setting w node. submit_turn number (codes "submit") w node bytes) id
      (submit_same (codes "submit") bytes) w all
  turn_same (command_of.Raw id bytes) w all =
      node_same (λ S T setting w node. submit_turn number (codes "raw") w node bytes) id
      (submit_same (codes "raw") bytes) w all
  turn_same (command_of.Show id block) w all =
      node_same (λ S T setting w node. show_turn number w node block) id (show_same block) w all
  turn_same (command_of.Tick id count) w all =
      node_same (λ S T setting w node. ticks setting number id count w) id
      (λ w all node ahead. ticks_same number id count w all) w all
  turn_same (command_of.Deliver ranges) w all = deliver_same number ranges 0 w all
  turn_same (command_of.Flush only) w all = flush_same number only most_flushed 0 w all
  turn_same (command_of.Stop id image) w all =
      node_same (λ S T setting w node. stop_turn setting number w node) id
      (λ w all node ahead. stop_same number w node [] tt all ahead) w all
  turn_same (command_of.StopAt id call image) w all =
      node_same (λ S T setting w node. stop_at_turn number w node) id
      (λ w all node ahead. replaced (stop_at_text number node.id) (record node { armed = true }) w all ahead)
      w all
  turn_same (command_of.Start id) w all =
      found_same
      (λ S T setting w node. cond node.runs (refuses number (codes "running") w) (start_turn number w node))
      id
      (λ w all node ahead.
      either_same node.runs (refuses_same number (codes "running") w all)
      (replaced (start_text number node.id) (node_started node) w all ahead)) w all
  turn_same (command_of.Propose from to view client serial payload) w all =
      let r = ordinary client serial payload in
      liar_same number w from to all
      (subst (λ o. Same (propose_turn past_setting number w from to view r)
      (propose_on core_setting number (seen w) from to view r o)) (longest_seen w.nodes)
      (propose_same number from to view r w all (longest w.nodes)))
  turn_same (command_of.Vote from to kind view k) w all =
      liar_same number w from to all (vote_same number from to kind view k w all)
  turn_same (command_of.Lie from to bytes) w all =
      liar_same number w from to all (lie_same number from to bytes w all)
  turn_same (command_of.Seal id bytes) w all =
      let one = says_same (seal_text number (length w.seals)) (with_signed w id bytes) all in
      either_same (eqb id 0) one (liar_same number w id id all one)

-- WHERE THERE MAY BE NO WORLD YET

abbrev pub NoneAheadIfAny : Option Past → Type 0
NoneAheadIfAny None = Unit {0}
NoneAheadIfAny (Some w) = NoneAhead w

abbrev pub SameIfAny : Turn (Option Past) → Turn (Option InPlace) → Type 0
SameIfAny = SameTurn seen_if_any NoneAheadIfAny

first_nodes : (c : Config) (ids : List ℕ)
    → SameNodes (map (first_node past_keeping c) ids) (map (first_node core_keeping c) ids)
first_nodes c [] = record { same = refl; ahead = tt }
first_nodes c (id ∷ ids) =
    let rest = first_nodes c ids in
    let first = first_node core_keeping c id in
    record {
      same =
          ap₂ (λ (state : Core) (nodes : List (Node Core)). record first { state = state } ∷ nodes)
          (seen_opens c id) rest.same;
      ahead = (ahead_opens c id, rest.ahead);
    }

genesis_same : (outcomes : List Outcome) (number : ℕ) (members byzantine : List ℕ)
    → SameIfAny (genesis_turn past_setting outcomes number members byzantine)
    (genesis_turn core_setting outcomes number members byzantine)
genesis_same outcomes number members byzantine =
    let first = first_world past_setting outcomes (first_config members) byzantine in
    let nodes = first_nodes (first_config members) (filter (λ id. not (is_in id byzantine)) members) in
    either_same (ltb (fault_bound (length members)) (how_many_in byzantine members))
    (record { printed = refl; next = refl })
    (subst (λ ns. SameIfAny (says (genesis_text number) (Some first))
    (says (genesis_text number) (Some (record (seen first) { nodes = ns })))) nodes.same
    (says_same (genesis_text number) (Some first) nodes.ahead))

pub turn_of_same : (outcomes : List Outcome) (o : Option Past) (number : ℕ) (command : Command)
    → NoneAheadIfAny o
    → SameIfAny (turn_of past_setting outcomes o number command)
    (turn_of core_setting outcomes (seen_if_any o) number command)
unfolding turn_of
turn_of_same outcomes (Some w) number command all =
    goes_on_same some_world some_world (turn_same number command w all)
    (λ next ahead. says_same [] (Some next) ahead)
turn_of_same outcomes None number (command_of.Genesis members byzantine) all =
    genesis_same outcomes number members byzantine
turn_of_same outcomes None number _ all = says_same (refused_text number (codes "no world")) None tt

-- THE CLOSING LINES

pub closing_same : (o : Option Past) → NoneAheadIfAny o
    → closing_of past_setting o ≡ closing_of core_setting (seen_if_any o)
unfolding closing_of
closing_same None all = refl
closing_same (Some w) all = λ i. flat_map (λ id. line id i) w.config.members ++ sent_text (length w.network)
  where
    one : (id : ℕ) (o : Option (Node PastNode)) (p : Option (Node Core)) → Found o p
        → closing_of_member past_setting id o ≡ closing_of_member core_setting id p
    one id None p same = rw same refl
    one id (Some node) p same = rw same.0 refl

    line : (id : ℕ) → closing_of_member past_setting id (node_at id w.nodes)
        ≡ closing_of_member core_setting id (node_at id (map seen_node w.nodes))
    line id = one id (node_at id w.nodes) (node_at id (map seen_node w.nodes)) (found id w.nodes all)
