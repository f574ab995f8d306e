-- Lemmas on the deliveries of a line.
use Rattle.std.proofs.Common.{◌≡◌, ℕ, suc, ◌+◌, ◌-◌, ◌<◌, ◌≤◌, Bool, true, false, cond, not, ◌&&◌, List, [], ◌∷◌, ◌++◌, length, get_or, drop, slice_get, Option, Some, None, Ok, refl, sym, ap, ◌∙◌, subst, arith}
use Rattle.std.specs.Prelude.{codes, is_some, string_bytes}
use Rattle.std.proofs.lemmas.List.{drop_all, drop_more}
use Rattle.script.specs.declared.command.Range.{Range}
use Rattle.script_play.specs.declared.ending.Ending.{Ending}
use Rattle.script_play.specs.Turns.{Turn, Turned}
use Rattle.world_model.specs.Cores.{core_setting}
use Rattle.world_model.specs.Texts.{deliver_text, refused_text}
use Rattle.world_model.specs.Turns.{counted, deliver_turn, deliveries, delivery, goes_on, is_running, refuses, says, unless_stopped}
use Rattle.world_model.specs.Worlds as worlds
use Rattle.world_model.specs.Worlds.{Outcome}
use Rattle.bft_node.specs.Lodgings.{Lodging}
use Rattle.world_run.specs.Entries.{entry_of}
use Rattle.world_run.specs.Going.{ByMoves, Delivers, Goes, Plays}
use Rattle.world_run.specs.Mapped.{Model, world_of}
use Rattle.world_run.specs.declared.delivering.Delivered.{Delivered}
use Rattle.world_run.specs.declared.delivering.Delivered.TheVariants.{All, Halted, Ended}
use Rattle.world_run.specs.declared.network.Entry.{Entry}
use Rattle.world_run.specs.declared.world.World.{World}
use Rattle.world_run.proofs.GoingLemmas.{Goes-part, Goes-same, Goes-start, Goes-trans, GoesBy, Turned-last, Turned-part, Turned-same, Turned-silent}
use Rattle.world_run.proofs.ListLemmas.{entry_has, none_running}
use Rattle.world_run.proofs.MoveLemmas.{alike_self, by_none, by_then, by_weaker}
use Rattle.world_run.proofs.TellingLemmas.{Tells, told_world}

-- UNLESS STOPPED

stopped_runs : (before : Bool) (stops goes : Turn Model) → cond (before && not true) stops goes ≡ goes
stopped_runs true stops goes = refl
stopped_runs false stops goes = refl

-- a turn goes on where the receiver runs after it
unless_runs : (id : ℕ) (w next : Model) (turn : Turn Model) → is_running id next ≡ true → unless_stopped id w next turn ≡ turn
unless_runs id w next turn runs = rw runs (stopped_runs (is_running id w) (says [] next) turn)

-- and ends where it was stopped
unless_stops : (id : ℕ) (w next : Model) (turn : Turn Model) → is_running id w ≡ true → is_running id next ≡ false → unless_stopped id w next turn ≡ says [] next
unless_stops id w next turn ran stopped = rw (ran, stopped) refl

-- ONE ENTRY

one_is : (number at count : ℕ) (w : Model) (e : worlds.Entry) (rest : ℕ → Model → Turn Model) → slice_get w.network at ≡ Some e
    → deliveries core_setting number 1 (suc at) count w rest ≡ goes_on (delivery core_setting number at e w) (λ next. unless_stopped e.to w next (rest (counted e w.nodes count) next))
unfolding deliveries
one_is number at count w e rest has =
    let here : suc at - 1 ≡ at = omega arith in
    ap (λ (o : Option worlds.Entry). elim o [
      | None ↦ refuses number (codes "no entry") w
      | Some x ↦ goes_on (delivery core_setting number (suc at - 1) x w) (λ next. unless_stopped x.to w next (rest (counted x w.nodes count) next))
    ]) has
    ∙ ap (λ (i : ℕ). goes_on (delivery core_setting number i e w) (λ next. unless_stopped e.to w next (rest (counted e w.nodes count) next))) here

one_at : (number at k count : ℕ) (w : Model) (e : worlds.Entry) (rest : ℕ → Model → Turn Model) → k ≡ at + 1 → slice_get w.network at ≡ Some e
    → goes_on (delivery core_setting number at e w) (λ next. unless_stopped e.to w next (rest (counted e w.nodes count) next)) ≡ deliveries core_setting number 1 k count w rest
one_at number at k count w e rest ek has =
    let place : k ≡ suc at = omega arith in
    rw place (sym (one_is number at count w e rest has))

-- a lost one isn't counted
one_lost : (number at k count : ℕ) (w : Model) (e : worlds.Entry) (before : List ℕ) (rest : ℕ → Model → Turn Model) → k ≡ at + 1 → slice_get w.network at ≡ Some e → is_running e.to w ≡ false
    → Goes (deliveries core_setting number 1 k count w rest) before before (rest count w)
one_lost number at k count w e before rest ek has lost =
    let none = none_running (worlds.running_at e.to w.nodes) lost in
    let turn : goes_on (delivery core_setting number at e w) (λ next. unless_stopped e.to w next (rest (counted e w.nodes count) next)) ≡ rest count w = rw none refl in
    Goes-same (rest count w) (deliveries core_setting number 1 k count w rest) before before (rest count w) (sym turn ∙ one_at number at k count w e rest ek has) (Goes-start (rest count w) before)

one_delivered : (number at k count more : ℕ) (w next : Model) (e : worlds.Entry) (before after : List ℕ) (rest : ℕ → Model → Turn Model) → k ≡ at + 1 → slice_get w.network at ≡ Some e
    → is_running e.to w ≡ true → is_running e.to next ≡ true → more ≡ count + 1 → Turned (delivery core_setting number at e w) before after next None
    → Goes (deliveries core_setting number 1 k count w rest) before after (rest more next)
one_delivered number at k count more w next e before after rest ek has ran runs one turned =
    let counts : rest (counted e w.nodes count) next ≡ rest more next = rw (ran, one) refl in
    subst (λ (t : Turn Model). Goes (deliveries core_setting number 1 k count w rest) before after t) (unless_runs e.to w next (rest (counted e w.nodes count) next) runs ∙ counts)
    (Goes-same _ _ before after _ (one_at number at k count w e rest ek has)
    (Goes-part (delivery core_setting number at e w) (λ (v : Model). unless_stopped e.to w v (rest (counted e w.nodes count) v)) before after next turned))

-- the receiver was stopped, and the line ends
one_stopped : (number at k count : ℕ) (w next : Model) (e : worlds.Entry) (before after : List ℕ) (rest : ℕ → Model → Turn Model) → k ≡ at + 1 → slice_get w.network at ≡ Some e
    → is_running e.to w ≡ true → is_running e.to next ≡ false → Turned (delivery core_setting number at e w) before after next None
    → Turned (deliveries core_setting number 1 k count w rest) before after next None
one_stopped number at k count w next e before after rest ek has ran stopped turned =
    let part = λ (v : Model). unless_stopped e.to w v (rest (counted e w.nodes count) v) in
    Turned-last (deliveries core_setting number 1 k count w rest) (says [] next) before after after next None
    (subst (λ (t : Turn Model). Goes (deliveries core_setting number 1 k count w rest) before after t) (unless_stops e.to w next (rest (counted e w.nodes count) next) ran stopped)
    (Goes-same _ _ before after _ (one_at number at k count w e rest ek has) (Goes-part (delivery core_setting number at e w) part before after next turned)))
    (Turned-silent next after)

one_ended : (number at k count : ℕ) (w next : Model) (e : worlds.Entry) (before after : List ℕ) (ending : Ending) (rest : ℕ → Model → Turn Model) → k ≡ at + 1 → slice_get w.network at ≡ Some e
    → Turned (delivery core_setting number at e w) before after next (Some ending)
    → Turned (deliveries core_setting number 1 k count w rest) before after next (Some ending)
one_ended number at k count w next e before after ending rest ek has turned =
    Turned-same _ _ before after next (Some ending) (one_at number at k count w e rest ek has)
    (Turned-part (delivery core_setting number at e w) (λ (v : Model). unless_stopped e.to w v (rest (counted e w.nodes count) v)) before after next next ending turned)

-- BY MOVES, one entry

abbrev pub DeliversBy : Lodging → Lodging → World → World → (Model → (ℕ → Model → Turn Model) → Turn Model) → Delivered → Type 0
DeliversBy at next old new whole delivered = ByMoves (Unit {0}) at next old new (λ w to. Delivers (whole w) (string_bytes old.outside.text) (string_bytes new.outside.text) to delivered)

-- who runs, whatever the nodes hold
abbrev pub RunsAs : Bool → ℕ → World → Type 0
RunsAs b id w = (lodged : Lodging) (later : List Outcome) → b ≡ is_some (worlds.running_at id (world_of lodged w later).nodes)

pub next_lost : (l : Lodging) (w : World) (number at count : ℕ) (read : Entry) → at < length w.outside.network.items → read ≡ get_or w.outside.network.items at read → RunsAs false read.to w
    → DeliversBy l l w w (deliveries core_setting number 1 (at + 1) count) (All count)
next_lost l w number at count read within is lost =
    by_none (Unit {0}) l l w w (λ v to. Delivers (deliveries core_setting number 1 (at + 1) count v) (string_bytes w.outside.text) (string_bytes w.outside.text) to (All count))
    (alike_self l) refl (λ none. none)
    (λ later rest. one_lost number at (at + 1) count (world_of l w later) (entry_of read) _ rest refl (entry_has w.outside.network.items at read within is) (sym (lost l later)))

pub next_delivered : (l next : Lodging) (old new : World) (number at count more : ℕ) (read : Entry) → at < length old.outside.network.items → read ≡ get_or old.outside.network.items at read
    → RunsAs true read.to old → RunsAs true read.to new → more ≡ count + 1 → Plays l next old new (delivery core_setting number at (entry_of read)) None
    → DeliversBy l next old new (deliveries core_setting number 1 (at + 1) count) (All more)
next_delivered l next old new number at count more read within is ran runs one plays =
    by_weaker (Unit {0}) l next old new
    (λ w to. Turned (delivery core_setting number at (entry_of read) w) (string_bytes old.outside.text) (string_bytes new.outside.text) to None)
    (λ w to. Delivers (deliveries core_setting number 1 (at + 1) count w) (string_bytes old.outside.text) (string_bytes new.outside.text) to (All more))
    (λ first later turned rest. one_delivered number at (at + 1) count more (world_of l old first) (world_of next new later) (entry_of read) _ _ rest refl
    (entry_has old.outside.network.items at read within is) (sym (ran l first)) (sym (runs next later)) one turned)
    plays

pub next_stopped : (l next : Lodging) (old new : World) (number at count : ℕ) (read : Entry) → at < length old.outside.network.items → read ≡ get_or old.outside.network.items at read
    → RunsAs true read.to old → RunsAs false read.to new → Plays l next old new (delivery core_setting number at (entry_of read)) None
    → DeliversBy l next old new (deliveries core_setting number 1 (at + 1) count) Halted
next_stopped l next old new number at count read within is ran stopped plays =
    by_weaker (Unit {0}) l next old new
    (λ w to. Turned (delivery core_setting number at (entry_of read) w) (string_bytes old.outside.text) (string_bytes new.outside.text) to None)
    (λ w to. Delivers (deliveries core_setting number 1 (at + 1) count w) (string_bytes old.outside.text) (string_bytes new.outside.text) to Halted)
    (λ first later turned rest. one_stopped number at (at + 1) count (world_of l old first) (world_of next new later) (entry_of read) _ _ rest refl
    (entry_has old.outside.network.items at read within is) (sym (ran l first)) (sym (stopped next later)) turned)
    plays

pub next_ended : (l next : Lodging) (old new : World) (number at count : ℕ) (read : Entry) (ending : Ending) → at < length old.outside.network.items → read ≡ get_or old.outside.network.items at read
    → Plays l next old new (delivery core_setting number at (entry_of read)) (Some ending)
    → DeliversBy l next old new (deliveries core_setting number 1 (at + 1) count) (Ended ending)
next_ended l next old new number at count read ending within is plays =
    by_weaker (Unit {0}) l next old new
    (λ w to. Turned (delivery core_setting number at (entry_of read) w) (string_bytes old.outside.text) (string_bytes new.outside.text) to (Some ending))
    (λ w to. Delivers (deliveries core_setting number 1 (at + 1) count w) (string_bytes old.outside.text) (string_bytes new.outside.text) to (Ended ending))
    (λ first later turned rest. one_ended number at (at + 1) count (world_of l old first) (world_of next new later) (entry_of read) _ _ ending rest refl
    (entry_has old.outside.network.items at read within is) turned)
    plays

-- A RANGE: one entry and then those behind it

deliveries_split : (number m k count : ℕ) (w : Model) (rest : ℕ → Model → Turn Model)
    → deliveries core_setting number (suc m) k count w rest ≡ deliveries core_setting number 1 k count w (λ sum next. deliveries core_setting number m (k + 1) sum next rest)
unfolding deliveries
deliveries_split number m k count w rest = refl

deliveries_none : (number n m k count : ℕ) (w : Model) (rest : ℕ → Model → Turn Model) → n ≡ suc m → worlds.entry k w ≡ None
    → deliveries core_setting number n k count w rest ≡ refuses number (codes "no entry") w
unfolding deliveries
deliveries_none number n m k count w rest en none =
    rw en (ap (λ (o : Option worlds.Entry). elim o [
      | None ↦ refuses number (codes "no entry") w
      | Some x ↦ goes_on (delivery core_setting number (k - 1) x w) (λ next. unless_stopped x.to w next (deliveries core_setting number m (k + 1) (counted x w.nodes count) next rest))
    ]) none)

deliveries_done : (number n k count : ℕ) (w : Model) (rest : ℕ → Model → Turn Model) → n ≡ 0 → deliveries core_setting number n k count w rest ≡ rest count w
unfolding deliveries
deliveries_done number n k count w rest en = rw en refl

-- by moves the deliveries of a range have come so far, and these are left
abbrev pub RangeBy : Lodging → Lodging → World → World → (Model → (ℕ → Model → Turn Model) → Turn Model) → (Model → (ℕ → Model → Turn Model) → Turn Model) → Type 0
RangeBy at next old new whole left =
    ByMoves (Unit {0}) at next old new (λ w to. (rest : ℕ → Model → Turn Model) → Goes (whole w rest) (string_bytes old.outside.text) (string_bytes new.outside.text) (left to rest))

pub range_start : (at : Lodging) (w : World) (whole : Model → (ℕ → Model → Turn Model) → Turn Model) → RangeBy at at w w whole whole
range_start at w whole =
    by_none (Unit {0}) at at w w (λ v to. (rest : ℕ → Model → Turn Model) → Goes (whole v rest) (string_bytes w.outside.text) (string_bytes w.outside.text) (whole to rest)) (alike_self at) refl (λ none. none)
    (λ later rest. Goes-start (whole (world_of at w later) rest) (string_bytes w.outside.text))

-- one entry more is delivered
pub range_more : (a b d : Lodging) (old mid new : World) (whole : Model → (ℕ → Model → Turn Model) → Turn Model) (number n m k at count sum : ℕ) → n ≡ suc m → k ≡ at + 1 → mid.outside.number ≡ number
    → RangeBy a b old mid whole (deliveries core_setting number n k count) → DeliversBy b d mid new (deliveries core_setting mid.outside.number 1 (at + 1) count) (All sum)
    → RangeBy a d old new whole (deliveries core_setting number m (k + 1) sum)
range_more a b d old mid new whole number n m k at count sum en ek known so_far delivers =
    by_then (Unit {0}) a b d old mid new
    (λ w to. (rest : ℕ → Model → Turn Model) → Goes (whole w rest) (string_bytes old.outside.text) (string_bytes mid.outside.text) (deliveries core_setting number n k count to rest))
    (λ w to. Delivers (deliveries core_setting mid.outside.number 1 (at + 1) count w) (string_bytes mid.outside.text) (string_bytes new.outside.text) to (All sum))
    (λ w to. (rest : ℕ → Model → Turn Model) → Goes (whole w rest) (string_bytes old.outside.text) (string_bytes new.outside.text) (deliveries core_setting number m (k + 1) sum to rest))
    (λ first second third p q rest.
    let then = λ (more : ℕ) (next : Model). deliveries core_setting number m (k + 1) more next rest in
    let one : deliveries core_setting mid.outside.number 1 (at + 1) count (world_of b mid second) then ≡ deliveries core_setting number n k count (world_of b mid second) rest =
    rw (en, ek, known) (sym (deliveries_split number m (at + 1) count (world_of b mid second) rest)) in
    Goes-trans _ _ _ _ _ _ (p rest) (Goes-same _ _ _ _ _ one (q then)))
    so_far delivers

-- the deliveries end at an entry
ends_with : (whole left : (ℕ → Model → Turn Model) → Turn Model) (one : (ℕ → Model → Turn Model) → Turn Model) (then : (ℕ → Model → Turn Model) → ℕ → Model → Turn Model) (before now after : List ℕ) (to : Model) (delivered : Delivered)
    → ((count : ℕ) → delivered ≡ All count → ⊥) → ((rest : ℕ → Model → Turn Model) → Goes (whole rest) before now (left rest)) → ((rest : ℕ → Model → Turn Model) → one (then rest) ≡ left rest)
    → Delivers one now after to delivered → Delivers whole before after to delivered
ends_with whole left one then before now after to (All count) ends goes same delivers = absurd (ends count refl)
ends_with whole left one then before now after to Halted ends goes same delivers =
    λ rest. Turned-last (whole rest) (left rest) before now after to None (goes rest) (Turned-same (one (then rest)) (left rest) now after to None (same rest) (delivers (then rest)))
ends_with whole left one then before now after to (Ended ending) ends goes same delivers =
    λ rest. Turned-last (whole rest) (left rest) before now after to (Some ending) (goes rest) (Turned-same (one (then rest)) (left rest) now after to (Some ending) (same rest) (delivers (then rest)))

pub range_ends : (a b d : Lodging) (old mid new : World) (whole : Model → (ℕ → Model → Turn Model) → Turn Model) (number n m k at count : ℕ) (delivered : Delivered) → n ≡ suc m → k ≡ at + 1
    → mid.outside.number ≡ number → ((sum : ℕ) → delivered ≡ All sum → ⊥)
    → RangeBy a b old mid whole (deliveries core_setting number n k count) → DeliversBy b d mid new (deliveries core_setting mid.outside.number 1 (at + 1) count) delivered
    → DeliversBy a d old new whole delivered
range_ends a b d old mid new whole number n m k at count delivered en ek known ends so_far delivers =
    by_then (Unit {0}) a b d old mid new
    (λ w to. (rest : ℕ → Model → Turn Model) → Goes (whole w rest) (string_bytes old.outside.text) (string_bytes mid.outside.text) (deliveries core_setting number n k count to rest))
    (λ w to. Delivers (deliveries core_setting mid.outside.number 1 (at + 1) count w) (string_bytes mid.outside.text) (string_bytes new.outside.text) to delivered)
    (λ w to. Delivers (whole w) (string_bytes old.outside.text) (string_bytes new.outside.text) to delivered)
    (λ first second third p q.
    let then = λ (rest : ℕ → Model → Turn Model) (more : ℕ) (next : Model). deliveries core_setting number m (k + 1) more next rest in
    ends_with (whole (world_of a old first)) (deliveries core_setting number n k count (world_of b mid second)) (deliveries core_setting mid.outside.number 1 (at + 1) count (world_of b mid second)) then _ _ _ (world_of d new third)
    delivered ends p (λ rest. rw (en, ek, known) (sym (deliveries_split number m (at + 1) count (world_of b mid second) rest))) q)
    so_far delivers

-- a number isn't in the network
pub range_refused : (a b : Lodging) (old mid new : World) (whole : Model → (ℕ → Model → Turn Model) → Turn Model) (number n m k count : ℕ) → n ≡ suc m → Tells mid new
    → string_bytes new.outside.text ≡ string_bytes mid.outside.text ++ refused_text number (codes "no entry")
    → ((lodged : Lodging) (later : List Outcome) → worlds.entry k (world_of lodged mid later) ≡ None)
    → RangeBy a b old mid whole (deliveries core_setting number n k count) → DeliversBy a b old new whole Halted
range_refused a b old mid new whole number n m k count en tells printed none so_far =
    by_then (Unit {0}) a b b old mid new
    (λ w to. (rest : ℕ → Model → Turn Model) → Goes (whole w rest) (string_bytes old.outside.text) (string_bytes mid.outside.text) (deliveries core_setting number n k count to rest))
    (λ w to. (rest : ℕ → Model → Turn Model) → Turned (deliveries core_setting number n k count w rest) (string_bytes mid.outside.text) (string_bytes new.outside.text) to None)
    (λ w to. Delivers (whole w) (string_bytes old.outside.text) (string_bytes new.outside.text) to Halted)
    (λ first second third p q rest. Turned-last _ _ _ _ _ (world_of b new third) None (p rest) (q rest))
    so_far
    (by_none (Unit {0}) b b mid new (λ w to. (rest : ℕ → Model → Turn Model) → Turned (deliveries core_setting number n k count w rest) (string_bytes mid.outside.text) (string_bytes new.outside.text) to None)
    (alike_self b) tells.config (λ unarmed. rw tells.members unarmed)
    (λ later rest. rw (deliveries_none number n m k count (world_of b mid later) rest en (none b later)) (record { printed = printed; next = ap (λ (w : Model). Ok w) (sym (told_world b mid new later tells)) })))

-- none is left
pub range_done : (a b : Lodging) (old new : World) (whole : Model → (ℕ → Model → Turn Model) → Turn Model) (number n k count : ℕ) → n ≡ 0
    → RangeBy a b old new whole (deliveries core_setting number n k count) → DeliversBy a b old new whole (All count)
range_done a b old new whole number n k count en so_far =
    by_weaker (Unit {0}) a b old new
    (λ w to. (rest : ℕ → Model → Turn Model) → Goes (whole w rest) (string_bytes old.outside.text) (string_bytes new.outside.text) (deliveries core_setting number n k count to rest))
    (λ w to. Delivers (whole w) (string_bytes old.outside.text) (string_bytes new.outside.text) to (All count))
    (λ first later p rest. subst (λ (t : Turn Model). Goes (whole (world_of a old first) rest) (string_bytes old.outside.text) (string_bytes new.outside.text) t) (deliveries_done number n k count (world_of b new later) rest en) (p rest))
    so_far

-- RANGES

deliver_is : (number i count : ℕ) (ranges : List Range) (range : Range) (w : Model) → i < length ranges → range ≡ get_or ranges i range
    → deliveries core_setting number (range.last + 1 - range.first) range.first count w (λ more next. deliver_turn core_setting number (drop (i + 1) ranges) more next) ≡ deliver_turn core_setting number (drop i ranges) count w
unfolding deliver_turn
deliver_is number i count ranges range w within is =
    let head : drop i ranges ≡ range ∷ drop (i + 1) ranges = drop_more ranges i range within ∙ ap (λ (r : Range). r ∷ drop (i + 1) ranges) (sym is) in
    rw head refl

pub deliver_more : (a b d : Lodging) (old mid new : World) (whole : Model → Turn Model) (number i count sum : ℕ) (ranges : List Range) (range : Range) → i < length ranges → range ≡ get_or ranges i range
    → mid.outside.number ≡ number → GoesBy a b old mid whole (deliver_turn core_setting number (drop i ranges) count)
    → DeliversBy b d mid new (deliveries core_setting mid.outside.number (range.last + 1 - range.first) range.first count) (All sum)
    → GoesBy a d old new whole (deliver_turn core_setting number (drop (i + 1) ranges) sum)
deliver_more a b d old mid new whole number i count sum ranges range within is known so_far delivers =
    by_then (Unit {0}) a b d old mid new
    (λ w to. Goes (whole w) (string_bytes old.outside.text) (string_bytes mid.outside.text) (deliver_turn core_setting number (drop i ranges) count to))
    (λ w to. Delivers (deliveries core_setting mid.outside.number (range.last + 1 - range.first) range.first count w) (string_bytes mid.outside.text) (string_bytes new.outside.text) to (All sum))
    (λ w to. Goes (whole w) (string_bytes old.outside.text) (string_bytes new.outside.text) (deliver_turn core_setting number (drop (i + 1) ranges) sum to))
    (λ first second third p q.
    let then = λ (more : ℕ) (next : Model). deliver_turn core_setting number (drop (i + 1) ranges) more next in
    let one : deliveries core_setting mid.outside.number (range.last + 1 - range.first) range.first count (world_of b mid second) then ≡ deliver_turn core_setting number (drop i ranges) count (world_of b mid second) =
    rw known (deliver_is number i count ranges range (world_of b mid second) within is) in
    Goes-trans _ _ _ _ _ _ p (Goes-same _ _ _ _ _ one (q then)))
    so_far delivers

-- what became of a range that ended its line
abbrev pub ending_of : Delivered → Option Ending
ending_of (All count) = None
ending_of Halted = None
ending_of (Ended ending) = Some ending

turned_at : (whole : (ℕ → Model → Turn Model) → Turn Model) (rest : ℕ → Model → Turn Model) (before after : List ℕ) (to : Model) (delivered : Delivered) → ((count : ℕ) → delivered ≡ All count → ⊥)
    → Delivers whole before after to delivered → Turned (whole rest) before after to (ending_of delivered)
turned_at whole rest before after to (All count) ends delivers = absurd (ends count refl)
turned_at whole rest before after to Halted ends delivers = delivers rest
turned_at whole rest before after to (Ended ending) ends delivers = delivers rest

pub deliver_ends : (a b d : Lodging) (old mid new : World) (whole : Model → Turn Model) (number i count : ℕ) (ranges : List Range) (range : Range) (delivered : Delivered) → i < length ranges → range ≡ get_or ranges i range
    → mid.outside.number ≡ number → ((sum : ℕ) → delivered ≡ All sum → ⊥) → GoesBy a b old mid whole (deliver_turn core_setting number (drop i ranges) count)
    → DeliversBy b d mid new (deliveries core_setting mid.outside.number (range.last + 1 - range.first) range.first count) delivered
    → Plays a d old new whole (ending_of delivered)
deliver_ends a b d old mid new whole number i count ranges range delivered within is known ends so_far delivers =
    by_then (Unit {0}) a b d old mid new
    (λ w to. Goes (whole w) (string_bytes old.outside.text) (string_bytes mid.outside.text) (deliver_turn core_setting number (drop i ranges) count to))
    (λ w to. Delivers (deliveries core_setting mid.outside.number (range.last + 1 - range.first) range.first count w) (string_bytes mid.outside.text) (string_bytes new.outside.text) to delivered)
    (λ w to. Turned (whole w) (string_bytes old.outside.text) (string_bytes new.outside.text) to (ending_of delivered))
    (λ first second third p q.
    let then = λ (more : ℕ) (next : Model). deliver_turn core_setting number (drop (i + 1) ranges) more next in
    let one : deliveries core_setting mid.outside.number (range.last + 1 - range.first) range.first count (world_of b mid second) then ≡ deliver_turn core_setting number (drop i ranges) count (world_of b mid second) =
    rw known (deliver_is number i count ranges range (world_of b mid second) within is) in
    Turned-last (whole (world_of a old first)) (deliver_turn core_setting number (drop i ranges) count (world_of b mid second)) _ _ _ (world_of d new third) (ending_of delivered) p
    (Turned-same _ _ _ _ (world_of d new third) (ending_of delivered) one (turned_at (deliveries core_setting mid.outside.number (range.last + 1 - range.first) range.first count (world_of b mid second)) then _ _ (world_of d new third) delivered ends q)))
    so_far delivers

pub deliver_done : (number i count : ℕ) (ranges : List Range) (w : Model) → length ranges ≤ i → deliver_turn core_setting number (drop i ranges) count w ≡ says (deliver_text number count) w
unfolding deliver_turn
deliver_done number i count ranges w past = rw (drop_all i ranges past) refl
