-- Lemmas on which entries wait for their receivers. Who waits rests on which members run, and on nothing that a node holds.
use Rattle.std.proofs.Common.{◌≡◌, ℕ, zero, suc, ◌+◌, ◌≤◌, Bool, true, false, cond, eqb, not, ◌||◌, ◌&&◌, List, [], ◌∷◌, ◌++◌, length, map, take, set, slice_get, Option, Some, None, refl, sym, ap, ◌∙◌, subst, arith}
use Rattle.std.specs.List.{list_any}
use Rattle.std.specs.Prelude.{is_some}
use Rattle.std.proofs.lemmas.List.{length-map, map-set, take-append-le}
use Rattle.std.proofs.lemmas.List.Folds.{list_any_more}
use Rattle.std.proofs.lemmas.Option.{get_or_from_slice_get, same_Some, slice_get_within}
use Rattle.safety_model.specs.Blocks.{Config}
use Rattle.node_model.specs.Cores.{Core}
use Rattle.world_model.specs.Worlds as worlds
use Rattle.bft_node.specs.Lodgings.{Lodging}
use Rattle.world_run.specs.Entries.{entry_of}
use Rattle.world_run.specs.Members.{node_of}
use Rattle.world_run.specs.Waiting.{nowhere, waits_before}
use Rattle.world_run.specs.declared.member.Member.{Member}
use Rattle.world_run.specs.declared.network.Entry.{Entry}

-- TESTS

pub or_false : (a b : Bool) → (a || b) ≡ false → (a ≡ false) × (b ≡ false)
or_false true b h = absurd (cc)
or_false false b h = (refl, h)

-- what fails where another test fails
pub fails_too : (a b : Bool) → (b ≡ true → a ≡ true) → a ≡ false → b ≡ false
fails_too a true follows h = absurd (let e = follows refl in cc)
fails_too a false follows h = refl

pub none_too : {X : Type 0} (p q : X → Bool) (xs : List X) → ((x : X) → p x ≡ false → q x ≡ false) → list_any p xs ≡ false → list_any q xs ≡ false
none_too p q [] follows none = refl
none_too p q (x ∷ xs) follows none =
    let parts = or_false (p x) (list_any p xs) none in
    rw (follows x parts.0, none_too p q xs follows parts.1) refl

pub any_same : {X : Type 0} (p q : X → Bool) (xs : List X) → ((x : X) → p x ≡ q x) → list_any p xs ≡ list_any q xs
any_same p q [] same = refl
any_same p q (x ∷ xs) same = rw (same x, any_same p q xs same) refl

-- one of a list is replaced by one that fails
pub any_replaced : {X : Type 0} (p : X → Bool) (n : ℕ) (xs : List X) (i : ℕ) (y : X) → p y ≡ false → list_any p (take n xs) ≡ false → list_any p (take n (set xs i y)) ≡ false
any_replaced p zero xs i y fails none = refl
any_replaced p (suc n) [] i y fails none = none
any_replaced p (suc n) (x ∷ xs) zero y fails none = rw (fails, (or_false (p x) (list_any p (take n xs)) none).1) refl
any_replaced p (suc n) (x ∷ xs) (suc i) y fails none =
    let parts = or_false (p x) (list_any p (take n xs)) none in
    rw (parts.0, any_replaced p n xs i y fails parts.1) refl

-- WHO RUNS

-- the first member of this id runs
abbrev pub runs_in : ℕ → List Member → Bool
runs_in id [] = false
runs_in id (member ∷ members) = cond (eqb member.id id) member.runs (runs_in id members)

pub runs_choice : (b runs : Bool) (node : worlds.Node Core) (found : Option (worlds.Node Core)) → node.runs ≡ runs
    → is_some (worlds.running (cond b (Some node) found)) ≡ cond b runs (is_some (worlds.running found))
runs_choice true true node found is = rw is refl
runs_choice true false node found is = rw is refl
runs_choice false runs node found is = refl

-- whatever nodes stand in the world
pub running_is : (c : Config) (at : Lodging) (id : ℕ) (members : List Member) → is_some (worlds.running_at id (map (node_of c at) members)) ≡ runs_in id members
running_is c at id [] = refl
running_is c at id (member ∷ members) =
    runs_choice (eqb member.id id) member.runs (node_of c at member) (worlds.node_at id (map (node_of c at) members)) refl
    ∙ ap (λ (b : Bool). cond (eqb member.id id) member.runs b) (running_is c at id members)

-- the entry has not come, and its receiver runs
abbrev pub waits_in : List Member → Option (List ℕ) → worlds.Entry → Bool
waits_in members only e = not e.came && worlds.is_named only e && runs_in e.to members

pub waiting_is : (c : Config) (at : Lodging) (members : List Member) (only : Option (List ℕ)) (e : worlds.Entry) → worlds.is_waiting (map (node_of c at) members) only e ≡ waits_in members only e
waiting_is c at members only e = ap (λ (b : Bool). not e.came && worlds.is_named only e && b) (running_is c at e.to members)

pub any_waiting_is : (c : Config) (at : Lodging) (members : List Member) (only : Option (List ℕ)) (es : List worlds.Entry)
    → list_any (worlds.is_waiting (map (node_of c at) members) only) es ≡ list_any (waits_in members only) es
any_waiting_is c at members only es = any_same (worlds.is_waiting (map (node_of c at) members) only) (waits_in members only) es (λ e. waiting_is c at members only e)

pub waits_before_is : (c : Config) (n : ℕ) (members : List Member) (network : List Entry) → waits_before c n members network ≡ list_any (waits_in members None) (take n (map entry_of network))
waits_before_is c n members network = any_waiting_is c nowhere members None (take n (map entry_of network))

-- whoever runs ran before
abbrev pub RunsOn : List Member → List Member → Type 0
RunsOn old new = (id : ℕ) → runs_in id new ≡ true → runs_in id old ≡ true

pub and_follows : (a b c : Bool) → (c ≡ true → b ≡ true) → (a && b) ≡ false → (a && c) ≡ false
and_follows true b c follows h = fails_too b c follows h
and_follows false b c follows h = refl

pub waits_on : (old new : List Member) (only : Option (List ℕ)) (e : worlds.Entry) → RunsOn old new → waits_in old only e ≡ false → waits_in new only e ≡ false
waits_on old new only e runs none = and_follows (not e.came && worlds.is_named only e) (runs_in e.to old) (runs_in e.to new) (runs e.to) none

pub choice_runs : (b before after rest : Bool) → (after ≡ true → before ≡ true) → cond b after rest ≡ true → cond b before rest ≡ true
choice_runs true before after rest follows h = follows h
choice_runs false before after rest follows h = h

pub choice_rest : (b runs before after : Bool) → (after ≡ true → before ≡ true) → cond b runs after ≡ true → cond b runs before ≡ true
choice_rest true runs before after follows h = h
choice_rest false runs before after follows h = follows h

-- a member is another of its id, which runs only where that did
pub runs_set : (members : List Member) (place : ℕ) (old new : Member) → slice_get members place ≡ Some old → new.id ≡ old.id → (new.runs ≡ true → old.runs ≡ true) → RunsOn members (set members place new)
runs_set [] place old new has same follows = λ id runs. runs
runs_set (x ∷ xs) zero old new has same follows = λ id runs.
    let e : x ≡ old = same_Some x old has in
    rw e (choice_runs (eqb old.id id) old.runs new.runs (runs_in id xs) follows (subst (λ (i : ℕ). cond (eqb i id) new.runs (runs_in id xs) ≡ true) same runs))
runs_set (x ∷ xs) (suc place) old new has same follows = λ id runs.
    choice_rest (eqb x.id id) x.runs (runs_in id xs) (runs_in id (set xs place new)) (runs_set xs place old new has same follows id) runs

-- WHAT WAITS BEFORE

-- an entry is marked
pub waits_marked : (c : Config) (n : ℕ) (members : List Member) (network : List Entry) (at : ℕ) (e : Entry) → e.came ≡ true → waits_before c n members network ≡ false
    → waits_before c n members (set network at e) ≡ false
waits_marked c n members network at e came none =
    let p = worlds.is_waiting (map (node_of c nowhere) members) None in
    let fails : p (entry_of e) ≡ false = rw came refl in
    ap (λ (es : List worlds.Entry). list_any p (take n es)) (map-set entry_of network at e) ∙ any_replaced p n (map entry_of network) at (entry_of e) fails none

-- more entries stand behind, and who runs ran before
pub waits_longer : (c d : Config) (n : ℕ) (old new : List Member) (network longer : List Entry) (more : List worlds.Entry) → n ≤ length network → map entry_of longer ≡ map entry_of network ++ more
    → RunsOn old new → waits_before c n old network ≡ false → waits_before d n new longer ≡ false
waits_longer c d n old new network longer more within is runs none =
    let p = waits_in old None in
    let q = waits_in new None in
    let before : list_any p (take n (map entry_of network)) ≡ false = sym (waits_before_is c n old network) ∙ none in
    waits_before_is d n new longer
    ∙ ap (λ (es : List worlds.Entry). list_any q (take n es)) is
    ∙ ap (list_any q) (take-append-le n (map entry_of network) more (omega (arith, length-map network entry_of)))
    ∙ none_too p q (take n (map entry_of network)) (λ e. waits_on old new None e runs) before

-- a member is another of its id, which runs only where that did
pub waits_set : (c d : Config) (n : ℕ) (members : List Member) (network : List Entry) (place : ℕ) (old new : Member) → slice_get members place ≡ Some old → new.id ≡ old.id
    → (new.runs ≡ true → old.runs ≡ true) → waits_before c n members network ≡ false → waits_before d n (set members place new) network ≡ false
waits_set c d n members network place old new has same follows none =
    let p = waits_in members None in
    let q = waits_in (set members place new) None in
    let before : list_any p (take n (map entry_of network)) ≡ false = sym (waits_before_is c n members network) ∙ none in
    waits_before_is d n (set members place new) network
    ∙ none_too p q (take n (map entry_of network)) (λ e. waits_on members (set members place new) None e (runs_set members place old new has same follows)) before

-- AMONG SOME IDS

none_either : (came named found : Bool) → (not came && true && found) ≡ false → (not came && named && found) ≡ false
none_either true named found none = refl
none_either false true found none = none
none_either false false found none = refl

-- whoever waits among some ids waits
pub none_of_named : (members : List Member) (only : Option (List ℕ)) (es : List worlds.Entry) → list_any (waits_in members None) es ≡ false → list_any (waits_in members only) es ≡ false
none_of_named members only es none =
    none_too (waits_in members None) (waits_in members only) es (λ e h. none_either e.came (worlds.is_named only e) (runs_in e.to members) h) none

-- one that doesn't pass is passed over
pub none_past : {X : Type 0} (p : X → Bool) (xs : List X) (i : ℕ) (x : X) → slice_get xs i ≡ Some x → p x ≡ false → list_any p (take i xs) ≡ false → list_any p (take (i + 1) xs) ≡ false
none_past p xs i x has fails none =
    list_any_more p xs i x (slice_get_within xs i x has)
    ∙ rw (none, get_or_from_slice_get xs i x x has, fails) refl
