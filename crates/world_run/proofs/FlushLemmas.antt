-- Lemmas on a flush.
use Rattle.std.proofs.Common.{◌≡◌, ℕ, zero, suc, ◌+◌, ◌<◌, ◌≤◌, Bool, true, false, not, cond, eqb, ltb, ◌&&◌, ◌⊎◌, inl, inr, List, [], ◌∷◌, ◌++◌, length, map, take, set, slice_get, position, Option, Some, None, Result, Ok, refl, sym, ap, ◌∙◌, subst, arith}
use Rattle.std.specs.List.{flat_map, list_any, position_or_len}
use Rattle.std.specs.Prelude.{is_some, string_bytes}
use Rattle.std.proofs.lemmas.Bool.{eqb-true}
use Rattle.std.proofs.lemmas.Bool.Decides.{nat_tests}
use Rattle.std.proofs.lemmas.List.{append-nil, length-map, length-set, take-append-le, take_all, take_more_set}
use Rattle.std.proofs.lemmas.List.Folds.{list_any-append}
use Rattle.std.proofs.lemmas.Option.{cond_some, same_Some, slice_get_within}
use Rattle.node_model.specs.Cores.{Core}
use Rattle.node_model.specs.declared.event.Event.{Event}
use Rattle.script_play.specs.declared.ending.Ending.{Ending}
use Rattle.script_play.specs.Turns.{Turn, Turned}
use Rattle.node_model.specs.Entries.{facts_of, posts_of}
use Rattle.world_model.specs.Cores.{core_keeping, core_setting}
use Rattle.world_model.specs.Texts.{fact_text, flush_text}
use Rattle.world_model.specs.Turns.{delivery, delivery_to, event_by, event_goes, event_turn, first_outcome, flush_turn, flushes, goes_on, says, with_later, within_limit}
use Rattle.world_model.specs.Worlds as worlds
use Rattle.world_model.specs.Worlds.{GoesOn, Outcome, Stops, outcome_in}
use Rattle.bft_node.specs.Lodgings.{Lodging}
use Rattle.world_run.specs.Entries.{entry_of}
use Rattle.world_run.specs.Going.{Goes, Plays}
use Rattle.world_run.specs.Mapped.{Model, world_of}
use Rattle.world_run.specs.Moves.{outcomes_of}
use Rattle.world_run.specs.Waiting.{nowhere}
use Rattle.world_run.specs.declared.world.World.{World}
use Rattle.world_run.proofs.GoingLemmas.{Goes-part, Goes-same, GoesBy, Turned-part, Turned-same}
use Rattle.world_run.proofs.MoveLemmas.{by_weaker}
use Rattle.world_run.proofs.WaitingLemmas.{and_follows, any_waiting_is, choice_rest, choice_runs, none_past, none_too, or_false, runs_choice, waiting_is, waits_in}

-- THE FIRST THAT WAITS

and_true : (a b : Bool) → (a && b) ≡ true → (a ≡ true) × (b ≡ true)
and_true true b h = (refl, h)
and_true false b h = absurd (cc)

first_at : {X : Type 0} (p : X → Bool) (xs : List X) (i : ℕ) (x : X) → list_any p (take i xs) ≡ false → slice_get xs i ≡ Some x → p x ≡ true → position_or_len p xs ≡ i
first_at p [] i x none has passes = absurd (cc)
first_at p (y ∷ ys) zero x none has passes = rw (same_Some y x has, passes) refl
first_at p (y ∷ ys) (suc i) x none has passes =
    let parts = or_false (p y) (list_any p (take i ys)) none in
    rw (parts.0, first_at p ys i x parts.1 has passes) (omega arith)

position_found : {X : Type 0} (p : X → Bool) (xs : List X) (i : ℕ) (x : X) → list_any p (take i xs) ≡ false → slice_get xs i ≡ Some x → p x ≡ true → position p xs ≡ Some i
position_found p xs i x none has passes =
    let within = slice_get_within xs i x has in
    let below : ltb i (length xs) ≡ true = grind (arith, nat_tests) in
    rw (first_at p xs i x none has passes, below) refl

none_at : {X : Type 0} (p : X → Bool) (xs : List X) → list_any p xs ≡ false → position_or_len p xs ≡ length xs
none_at p [] none = refl
none_at p (y ∷ ys) none =
    let parts = or_false (p y) (list_any p ys) none in
    rw (parts.0, none_at p ys parts.1) (omega arith)

position_none : {X : Type 0} (p : X → Bool) (xs : List X) (i : ℕ) → list_any p (take i xs) ≡ false → length xs ≤ i → position p xs ≡ None
position_none p xs i none past =
    let not_below : ltb (length xs) (length xs) ≡ false = grind (arith, nat_tests) in
    rw (none_at p xs (rw (take_all i xs past) at none), not_below) refl

-- WHAT A DELIVERY LEAVES: the entry has come, what was sent stands behind, and the receiver is another

pub record Leaves (k : ℕ) (e : worlds.Entry) (node : worlds.Node Core) (old next : Model) : Type 0 where
  pub more : List worlds.Entry
  pub network : next.network ≡ set old.network k (record e { came = true }) ++ more
  pub left : worlds.Node Core
  pub nodes : next.nodes ≡ worlds.with_node left old.nodes
  pub same : left.id ≡ node.id

limited_next : (b : Bool) (stops goes : Turn Model) (next : Model) → (cond b stops goes).next ≡ Ok next → ((stops.next ≡ Ok next) → ⊥) → goes.next ≡ Ok next
limited_next true stops goes next e h = absurd (h e)
limited_next false stops goes next e h = e

same_Ok : (a b : Model) → ◌≡◌ {A = Result Model Ending} (Ok a) (Ok b) → a ≡ b
same_Ok a b e = cc

within_limit_next : (number : ℕ) (blocks : List ℕ) (w next : Model) → (within_limit number blocks w).next ≡ Ok next → w ≡ next
within_limit_next number blocks w next e =
    same_Ok w next (limited_next (ltb 1000000 (length w.network)) _ (says blocks w) next e (λ stopped. cc))

event_goes_leaves : (number k : ℕ) (e : worlds.Entry) (w v next : Model) (node : worlds.Node Core) (event : Event)
    → v.nodes ≡ w.nodes → v.network ≡ set w.network k (record e { came = true })
    → (event_goes core_setting number v node event).next ≡ Ok next → Leaves k e node w next
event_goes_leaves number k e w v next node event nodes network is =
    let made = worlds.making core_setting v node event in
    let blocks = flat_map (fact_text number) (facts_of made) in
    let sends = worlds.sent_by node.id (posts_of made) in
    let after = worlds.node_after core_keeping node made in
    let left = sym (within_limit_next number blocks (worlds.world_after core_setting v node made) next is) in
    record {
      more = sends;
      network = ap (λ (x : Model). x.network) left ∙ ap (λ (es : List worlds.Entry). es ++ sends) network;
      left = after;
      nodes = ap (λ (x : Model). x.nodes) left ∙ ap (worlds.with_node after) nodes;
      same = refl;
    }

event_by_leaves : (number k : ℕ) (e : worlds.Entry) (w v next : Model) (node : worlds.Node Core) (event : Event)
    (outcome : Outcome) → v.nodes ≡ w.nodes → v.network ≡ set w.network k (record e { came = true })
    → (event_by core_setting number v node event outcome).next ≡ Ok next → Leaves k e node w next
event_by_leaves number k e w v next node event GoesOn nodes network is =
    event_goes_leaves number k e w v next node event nodes network is
event_by_leaves number k e w v next node event (Stops cut) nodes network is =
    let after = worlds.node_stopped core_keeping node (take cut (worlds.making core_setting v node event)) in
    let left = sym (same_Ok (worlds.world_stopped_in core_setting v node event cut) next is) in
    record {
      more = [];
      network = ap (λ (x : Model). x.network) left ∙ network
          ∙ sym (append-nil (set w.network k (record e { came = true })));
      left = after;
      nodes = ap (λ (x : Model). x.nodes) left ∙ ap (worlds.with_node after) nodes;
      same = refl;
    }

event_chosen : (number k : ℕ) (e : worlds.Entry) (w next : Model) (node : worlds.Node Core) (outcome : Outcome)
    (b : Bool)
    → (cond b (event_by core_setting number (with_later (worlds.marked k e w)) node (worlds.letter_from e) outcome) (event_goes core_setting number (worlds.marked k e w) node (worlds.letter_from e))).next ≡ Ok next
    → Leaves k e node w next
event_chosen number k e w next node outcome true is =
    event_by_leaves number k e w (with_later (worlds.marked k e w)) next node (worlds.letter_from e) outcome refl refl is
event_chosen number k e w next node outcome false is = event_goes_leaves number k e w (worlds.marked k e w) next node (worlds.letter_from e) refl refl is

event_leaves : (number k : ℕ) (e : worlds.Entry) (w next : Model) (node : worlds.Node Core) → (event_turn core_setting number (worlds.marked k e w) node (worlds.letter_from e)).next ≡ Ok next → Leaves k e node w next
unfolding event_turn
event_leaves number k e w next node is =
    event_chosen number k e w next node
    (outcome_in (worlds.making core_setting (worlds.marked k e w) node (worlds.letter_from e)) (first_outcome w.outcomes))
    node.armed is

-- an entry that waits has a receiver that runs
abbrev pub LeavesSome : ℕ → worlds.Entry → Option (worlds.Node Core) → Model → Model → Type 0
LeavesSome k e o old next = (node : worlds.Node Core) × (o ≡ Some node) × Leaves k e node old next

delivery_leaves : (number k : ℕ) (e : worlds.Entry) (w next : Model) (o : Option (worlds.Node Core)) → is_some o ≡ true → (delivery_to core_setting number k e w o).next ≡ Ok next → LeavesSome k e o w next
delivery_leaves number k e w next None some is = absurd (cc)
delivery_leaves number k e w next (Some node) some is = (node, refl, event_leaves number k e w next node is)

-- WHO RUNS after it ran before

abbrev pub node_runs : ℕ → List (worlds.Node Core) → Bool
node_runs id nodes = is_some (worlds.running_at id nodes)

runs_first : (id : ℕ) (node : worlds.Node Core) (nodes : List (worlds.Node Core)) → node_runs id (node ∷ nodes) ≡ cond (eqb node.id id) node.runs (node_runs id nodes)
runs_first id node nodes = runs_choice (eqb node.id id) node.runs node (worlds.node_at id nodes) refl

replaced_runs : (new x : worlds.Node Core) (xs : List (worlds.Node Core)) (b : Bool) → eqb x.id new.id ≡ b → node_runs new.id (x ∷ xs) ≡ true
    → (node_runs new.id xs ≡ true → (id : ℕ) → node_runs id (worlds.with_node new xs) ≡ true → node_runs id xs ≡ true)
    → (id : ℕ) → node_runs id (cond b (new ∷ xs) (x ∷ worlds.with_node new xs)) ≡ true → node_runs id (x ∷ xs) ≡ true
replaced_runs new x xs true is runs rest id then =
    let same = eqb-true x.id new.id is in
    let ran : x.runs ≡ true = sym (ap (λ (b : Bool). cond b x.runs (node_runs new.id xs)) is) ∙ sym (runs_first new.id x xs) ∙ runs in
    runs_first id x xs
    ∙ choice_runs (eqb x.id id) x.runs new.runs (node_runs id xs) (λ h. ran) (ap (λ (i : ℕ). cond (eqb i id) new.runs (node_runs id xs)) same ∙ sym (runs_first id new xs) ∙ then)
replaced_runs new x xs false is runs rest id then =
    let behind : node_runs new.id xs ≡ true = sym (ap (λ (b : Bool). cond b x.runs (node_runs new.id xs)) is) ∙ sym (runs_first new.id x xs) ∙ runs in
    runs_first id x xs
    ∙ choice_rest (eqb x.id id) x.runs (node_runs id xs) (node_runs id (worlds.with_node new xs)) (rest behind id) (sym (runs_first id x (worlds.with_node new xs)) ∙ then)

with_node_runs : (new : worlds.Node Core) (nodes : List (worlds.Node Core)) → node_runs new.id nodes ≡ true → (id : ℕ) → node_runs id (worlds.with_node new nodes) ≡ true → node_runs id nodes ≡ true
with_node_runs new [] runs id then = then
with_node_runs new (x ∷ xs) runs id then = replaced_runs new x xs (eqb x.id new.id) refl runs (with_node_runs new xs) id then

node_id_in : (id : ℕ) (x node : worlds.Node Core) (found : Option (worlds.Node Core)) (b : Bool) → eqb x.id id ≡ b → worlds.running (cond b (Some x) found) ≡ Some node
    → (worlds.running found ≡ Some node → node.id ≡ id) → node.id ≡ id
node_id_in id x node found true is h rest = ap (λ (n : worlds.Node Core). n.id) (sym (cond_some x.runs x node h).1) ∙ eqb-true x.id id is
node_id_in id x node found false is h rest = rest h

node_id : (id : ℕ) (nodes : List (worlds.Node Core)) (node : worlds.Node Core) → worlds.running_at id nodes ≡ Some node → node.id ≡ id
node_id id [] node h = absurd (cc)
node_id id (x ∷ xs) node h = node_id_in id x node (worlds.node_at id xs) (eqb x.id id) refl h (node_id id xs node)

has_receiver : (nodes : List (worlds.Node Core)) (only : Option (List ℕ)) (e : worlds.Entry) → worlds.is_waiting nodes only e ≡ true → node_runs e.to nodes ≡ true
has_receiver nodes only e waits = (and_true (not e.came && worlds.is_named only e) (node_runs e.to nodes) waits).1

-- a delivery leaves its entry and those before it so that none of them waits, also where its receiver was stopped
none_waits_on : (number k : ℕ) (only : Option (List ℕ)) (e : worlds.Entry) (w next : Model) (before after : List ℕ) → k < length w.network
    → list_any (worlds.is_waiting w.nodes only) (take k w.network) ≡ false → worlds.is_waiting w.nodes only e ≡ true → Turned (delivery core_setting number k e w) before after next None
    → list_any (worlds.is_waiting next.nodes only) (take (k + 1) next.network) ≡ false
none_waits_on number k only e w next before after within none waits turned =
    let p = worlds.is_waiting w.nodes only in
    let q = worlds.is_waiting next.nodes only in
    let came = record e { came = true } in
    let runs = has_receiver w.nodes only e waits in
    let found = delivery_leaves number k e w next (worlds.running_at e.to w.nodes) runs turned.next in
    let left = found.2 in
    let named = left.same ∙ node_id e.to w.nodes found.0 found.1 in
    let ran : node_runs left.left.id w.nodes ≡ true = ap (λ (i : ℕ). node_runs i w.nodes) named ∙ runs in
    let on = λ (id : ℕ) (then : node_runs id next.nodes ≡ true). with_node_runs left.left w.nodes ran id (ap (λ (ns : List (worlds.Node Core)). node_runs id ns) (sym left.nodes) ∙ then) in
    let front : take (k + 1) next.network ≡ take k w.network ++ came ∷ [] =
    ap (take (k + 1)) left.network ∙ take-append-le (k + 1) (set w.network k came) left.more (omega (arith, length-set w.network k came)) ∙ take_more_set w.network k came within in
    let old : list_any p (take k w.network ++ came ∷ []) ≡ false = list_any-append p (take k w.network) (came ∷ []) ∙ rw none refl in
    ap (list_any q) front
    ∙ none_too p q (take k w.network ++ came ∷ []) (λ x h. and_follows (not x.came && worlds.is_named only x) (node_runs x.to w.nodes) (node_runs x.to next.nodes) (on x.to) h) old

-- A FLUSH

flush_step : (number n k count : ℕ) (only : Option (List ℕ)) (w : Model) (e : worlds.Entry) → list_any (worlds.is_waiting w.nodes only) (take k w.network) ≡ false → slice_get w.network k ≡ Some e → worlds.is_waiting w.nodes only e ≡ true
    → flush_turn core_setting number only (suc n) count w ≡ goes_on (delivery core_setting number k e w) (λ next. flush_turn core_setting number only n (count + 1) next)
unfolding flush_turn
flush_step number n k count only w e none has waits =
    let done = says (flush_text number count) w in
    let rest = λ (next : Model). flush_turn core_setting number only n (count + 1) next in
    ap (λ (o : Option ℕ). flushes core_setting number w o done rest) (position_found (worlds.is_waiting w.nodes only) w.network k e none has waits)
    ∙ ap (λ (o : Option worlds.Entry). elim o [ None ↦ done | Some x ↦ goes_on (delivery core_setting number k x w) rest ]) has

flush_more : (number m n k count : ℕ) (only : Option (List ℕ)) (w next : Model) (e : worlds.Entry) (before after : List ℕ) → m ≡ suc n
    → list_any (worlds.is_waiting w.nodes only) (take k w.network) ≡ false → slice_get w.network k ≡ Some e → worlds.is_waiting w.nodes only e ≡ true
    → Turned (delivery core_setting number k e w) before after next None
    → Goes (flush_turn core_setting number only m count w) before after (flush_turn core_setting number only n (count + 1) next)
flush_more number m n k count only w next e before after em none has waits turned =
    rw em (Goes-same _ _ before after _ (sym (flush_step number n k count only w e none has waits))
    (Goes-part (delivery core_setting number k e w) (λ (v : Model). flush_turn core_setting number only n (count + 1) v) before after next turned))

flush_ended : (number m n k count : ℕ) (only : Option (List ℕ)) (w next : Model) (e : worlds.Entry) (before after : List ℕ) (ending : Ending) → m ≡ suc n
    → list_any (worlds.is_waiting w.nodes only) (take k w.network) ≡ false → slice_get w.network k ≡ Some e → worlds.is_waiting w.nodes only e ≡ true
    → Turned (delivery core_setting number k e w) before after next (Some ending)
    → Turned (flush_turn core_setting number only m count w) before after next (Some ending)
flush_ended number m n k count only w next e before after ending em none has waits turned =
    rw em (Turned-same _ _ before after next (Some ending) (sym (flush_step number n k count only w e none has waits))
    (Turned-part (delivery core_setting number k e w) (λ (v : Model). flush_turn core_setting number only n (count + 1) v) before after next next ending turned))

-- so many were delivered, or none is left that waits
flush_ends : (number n k count : ℕ) (only : Option (List ℕ)) (w : Model) → list_any (worlds.is_waiting w.nodes only) (take k w.network) ≡ false → (n ≡ 0) ⊎ (length w.network ≤ k)
    → flush_turn core_setting number only n count w ≡ says (flush_text number count) w
unfolding flush_turn
flush_ends number zero k count only w none ends = refl
flush_ends number (suc n) k count only w none (inl zero_left) = absurd (omega arith)
flush_ends number (suc n) k count only w none (inr past) =
    ap (λ (o : Option ℕ). flushes core_setting number w o (says (flush_text number count) w) (λ (next : Model). flush_turn core_setting number only n (count + 1) next)) (position_none (worlds.is_waiting w.nodes only) w.network k none past)

-- BY MOVES

-- no entry before this place waits
abbrev pub NoneWaits : Option (List ℕ) → ℕ → World → Type 0
NoneWaits only k w = list_any (waits_in w.members.items only) (take k (map entry_of w.outside.network.items)) ≡ false

none_waits : (l : Lodging) (w : World) (later : List Outcome) (only : Option (List ℕ)) (k : ℕ) → NoneWaits only k w → list_any (worlds.is_waiting (world_of l w later).nodes only) (take k (world_of l w later).network) ≡ false
none_waits l w later only k none = any_waiting_is w.config l w.members.items only (take k (map entry_of w.outside.network.items)) ∙ none

-- this entry waits, whatever the nodes hold
abbrev pub Waits : Option (List ℕ) → worlds.Entry → World → Type 0
Waits only e w = (lodged : Lodging) (later : List Outcome) → worlds.is_waiting (world_of lodged w later).nodes only e ≡ true

pub flush_goes : (l next : Lodging) (old new : World) (number m n k count : ℕ) (only : Option (List ℕ)) (e : worlds.Entry) → m ≡ suc n → old.outside.number ≡ number → NoneWaits only k old
    → slice_get (map entry_of old.outside.network.items) k ≡ Some e → Waits only e old → Plays l next old new (delivery core_setting old.outside.number k e) None
    → GoesBy l next old new (flush_turn core_setting number only m count) (flush_turn core_setting number only n (count + 1))
flush_goes l next old new number m n k count only e em known none has waits plays =
    by_weaker (Unit {0}) l next old new
    (λ w to. Turned (delivery core_setting old.outside.number k e w) (string_bytes old.outside.text) (string_bytes new.outside.text) to None)
    (λ w to. Goes (flush_turn core_setting number only m count w) (string_bytes old.outside.text) (string_bytes new.outside.text) (flush_turn core_setting number only n (count + 1) to))
    (λ first later turned. flush_more number m n k count only (world_of l old first) (world_of next new later) e _ _ em (none_waits l old first only k none) has (waits l first)
    (subst (λ (i : ℕ). Turned (delivery core_setting i k e (world_of l old first)) (string_bytes old.outside.text) (string_bytes new.outside.text) (world_of next new later) None) known turned))
    plays

pub flush_brings : (l next : Lodging) (old new : World) (number m n k count : ℕ) (only : Option (List ℕ)) (e : worlds.Entry) (ending : Ending) → m ≡ suc n → old.outside.number ≡ number → NoneWaits only k old
    → slice_get (map entry_of old.outside.network.items) k ≡ Some e → Waits only e old → Plays l next old new (delivery core_setting old.outside.number k e) (Some ending)
    → Plays l next old new (flush_turn core_setting number only m count) (Some ending)
flush_brings l next old new number m n k count only e ending em known none has waits plays =
    by_weaker (Unit {0}) l next old new
    (λ w to. Turned (delivery core_setting old.outside.number k e w) (string_bytes old.outside.text) (string_bytes new.outside.text) to (Some ending))
    (λ w to. Turned (flush_turn core_setting number only m count w) (string_bytes old.outside.text) (string_bytes new.outside.text) to (Some ending))
    (λ first later turned. flush_ended number m n k count only (world_of l old first) (world_of next new later) e _ _ ending em (none_waits l old first only k none) has (waits l first)
    (subst (λ (i : ℕ). Turned (delivery core_setting i k e (world_of l old first)) (string_bytes old.outside.text) (string_bytes new.outside.text) (world_of next new later) (Some ending)) known turned))
    plays

-- the entries up to the delivered one wait no more
pub flush_on : (l next : Lodging) (old new : World) (k : ℕ) (only : Option (List ℕ)) (e : worlds.Entry) → k < length old.outside.network.items → NoneWaits only k old → Waits only e old
    → Plays l next old new (delivery core_setting old.outside.number k e) None → NoneWaits only (k + 1) new
flush_on l next old new k only e within none waits plays =
    let first = outcomes_of plays.moves ++ [] in
    sym (any_waiting_is new.config next new.members.items only (take (k + 1) (map entry_of new.outside.network.items)))
    ∙ none_waits_on old.outside.number k only e (world_of l old first) (world_of next new []) _ _ (omega (arith, length-map old.outside.network.items entry_of)) (none_waits l old first only k none) (waits l first) (plays.so [])

pub flush_done : (l : Lodging) (w : World) (later : List Outcome) (number n k count : ℕ) (only : Option (List ℕ)) → NoneWaits only k w → (n ≡ 0) ⊎ (length w.outside.network.items ≤ k)
    → flush_turn core_setting number only n count (world_of l w later) ≡ says (flush_text number count) (world_of l w later)
flush_done l w later number n k count only none (inl zero_left) = flush_ends number n k count only (world_of l w later) (none_waits l w later only k none) (inl zero_left)
flush_done l w later number n k count only none (inr past) =
    flush_ends number n k count only (world_of l w later) (none_waits l w later only k none) (inr (omega (arith, length-map w.outside.network.items entry_of)))

-- an entry that doesn't wait is passed over
pub flush_past : (w : World) (k : ℕ) (only : Option (List ℕ)) (e : worlds.Entry) → NoneWaits only k w → slice_get (map entry_of w.outside.network.items) k ≡ Some e
    → ((lodged : Lodging) (later : List Outcome) → worlds.is_waiting (world_of lodged w later).nodes only e ≡ false) → NoneWaits only (k + 1) w
flush_past w k only e none has past =
    none_past (waits_in w.members.items only) (map entry_of w.outside.network.items) k e has (sym (waiting_is w.config nowhere w.members.items only e) ∙ past nowhere []) none
