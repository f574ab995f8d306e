-- Lemmas on finding and replacing one of a list: the places of members, and the entries of the network.
use Rattle.std.proofs.Common.{◌≡◌, ◌≢◌, ℕ, zero, suc, ◌+◌, ◌<◌, ◌≤◌, Bool, true, false, not, cond, eqb, ltb, List, [], ◌∷◌, ◌++◌, length, map, get_or, set, position, slice_get, Option, Some, None, inl, inr, refl, sym, ap, ◌∙◌, subst, arith}
use Rattle.std.specs.Option.{is_some, option_map}
use Rattle.std.specs.List.{find, position_or_len}
use Rattle.std.specs.List.Sorted.{IsStrictlyIncreasing}
use Rattle.std.proofs.lemmas.Bool.{cases_lt, eqb-true}
use Rattle.std.proofs.lemmas.Bool.Decides.{nat_tests}
use Rattle.std.proofs.lemmas.List.{length-map, length-append, map-set, set-get_or}
use Rattle.std.proofs.lemmas.List.Folds.{find_at}
use Rattle.std.proofs.lemmas.List.Kept.{AllPairs-from_increasing}
use Rattle.std.proofs.lemmas.List.Quantifiers.{position-Some}
use Rattle.std.proofs.lemmas.Option.{cond_some, get_or_from_slice_get, same_Some, slice_get-map, slice_get_cases, slice_get_past, slice_get_read, slice_get_within}
use Rattle.safety_model.specs.Blocks.{Config}
use Rattle.node_model.specs.Cores.{Core}
use Rattle.world_model.specs.Worlds as worlds
use Rattle.bft_node.specs.Lodgings.{Becomes, Lodging}
use Rattle.bft_node.specs.declared.lodged.Lodged.{Lodged}
use Rattle.world_run.specs.Entries.{entry_of}
use Rattle.world_run.specs.Members.{node_of}
use Rattle.world_run.specs.Whereabouts.{found_at, placed, whereabouts_of}
use Rattle.world_run.specs.declared.member.Member.{Member}
use Rattle.world_run.specs.declared.network.Entry.{Entry}
use Rattle.world_run.specs.declared.world.Whereabouts.TheVariants.{Absent, Running, Stopped}

-- ANY LIST

option_map_choice : {X Y : Type 0} (f : X → Y) (b : Bool) (x y : Option X) → option_map f (cond b x y) ≡ cond b (option_map f x) (option_map f y)
option_map_choice f true x y = refl
option_map_choice f false x y = refl

pub find-map : {X Y : Type 0} (f : X → Y) (p : Y → Bool) (xs : List X) → find p (map f xs) ≡ option_map f (find (λ x. p (f x)) xs)
find-map f p [] = refl
find-map {X} {Y} f p (x ∷ xs) =
    ap (λ (o : Option Y). cond (p (f x)) (Some (f x)) o) (find-map f p xs) ∙ sym (option_map_choice f (p (f x)) (Some x) (find (λ x. p (f x)) xs))

not_within : (at n : ℕ) → cond (ltb at n) (Some at) None ≡ None → n ≤ at
not_within at n h = grind (arith, nat_tests)

within_from_some : (at n place : ℕ) → cond (ltb at n) (Some at) None ≡ Some place → place < n
within_from_some at n place h = let parts = cond_some _ _ _ h in grind (arith, nat_tests)

-- what stands at a place within a list
pub item_at : {X : Type 0} (xs : List X) (i : ℕ) → i < length xs → (x : X) × (slice_get xs i ≡ Some x)
item_at xs i within = elim (slice_get_cases xs i).1 [ inl found ↦ (found.0, found.2) | inr past ↦ absurd (omega (arith, past.0)) ]

-- a read of a place within a list
pub read_at : {X : Type 0} (xs : List X) (i : ℕ) (x : X) → i < length xs → x ≡ get_or xs i x → slice_get xs i ≡ Some x
read_at xs i x within is = slice_get_read xs (length xs) i x refl within is

-- the item at a place passes the test, and none before it does
first_passes : {X : Type 0} (p : X → Bool) (xs : List X) (i : ℕ) (x : X) → slice_get xs i ≡ Some x → p x ≡ true → ((j : ℕ) (y : X) → j < i → slice_get xs j ≡ Some y → p y ≡ false)
    → position_or_len p xs ≡ i
first_passes p [] i x has passes before = absurd (cc)
first_passes p (y ∷ ys) zero x has passes before = rw (same_Some y x has, passes) refl
first_passes p (y ∷ ys) (suc i) x has passes before =
    rw (before 0 y (omega arith) refl, first_passes p ys i x has passes (λ j z below is. before (suc j) z (omega arith) is)) (omega arith)

pub position_first : {X : Type 0} (p : X → Bool) (xs : List X) (i : ℕ) (x : X) → slice_get xs i ≡ Some x → p x ≡ true → ((j : ℕ) (y : X) → j < i → slice_get xs j ≡ Some y → p y ≡ false)
    → position p xs ≡ Some i
position_first p xs i x has passes before =
    let within = slice_get_within xs i x has in
    let below : ltb i (length xs) ≡ true = grind (arith, nat_tests) in
    rw (first_passes p xs i x has passes before, below) refl

-- two maps that agree on the items
pub map_same : {X Y : Type 0} (f g : X → Y) (xs : List X) → ((j : ℕ) (x : X) → slice_get xs j ≡ Some x → f x ≡ g x) → map f xs ≡ map g xs
map_same f g [] same = refl
map_same f g (x ∷ xs) same = rw (same 0 x refl, map_same f g xs (λ j y has. same (suc j) y has)) refl

-- one item is another, and two maps agree on the others
pub set_moved : {X Y : Type 0} (f g : X → Y) (xs : List X) (place : ℕ) (new : X) → ((j : ℕ) (x : X) → slice_get xs j ≡ Some x → j ≢ place → f x ≡ g x)
    → set (map f xs) place (g new) ≡ map g (set xs place new)
set_moved f g [] place new same = refl
set_moved {X} {Y} f g (x ∷ xs) zero new same = ap (λ (ys : List Y). g new ∷ ys) (map_same f g xs (λ j y has. same (suc j) y has (λ e. absurd (omega arith))))
set_moved f g (x ∷ xs) (suc place) new same =
    rw (same 0 x refl (λ e. absurd (omega arith)), set_moved f g xs place new (λ j y has other. same (suc j) y has (λ e. other (omega arith)))) refl

-- what is read twice is the same
pub same_read : {X : Type 0} (xs : List X) (at : ℕ) (one two : X) → at < length xs → one ≡ get_or xs at one → two ≡ get_or xs at two → one ≡ two
same_read xs at one two within is also = same_Some one two (sym (read_at xs at one within is) ∙ read_at xs at two within also)

-- ENTRIES

pub entry_has : (network : List Entry) (at : ℕ) (read : Entry) → at < length network → read ≡ get_or network at read → slice_get (map entry_of network) at ≡ Some (entry_of read)
entry_has network at read within is = slice_get-map entry_of network at ∙ ap (option_map entry_of) (read_at network at read within is)

-- the entry that was read is the one that the world has there
pub entry_read : (network : List Entry) (at : ℕ) (read : Entry) (e : worlds.Entry) → at < length network → read ≡ get_or network at read → slice_get (map entry_of network) at ≡ Some e → entry_of read ≡ e
entry_read network at read e within is has =
    same_Some (entry_of read) e (sym (entry_has network at read within is) ∙ has)

pub length_longer : (old new : List Entry) (more : List worlds.Entry) → map entry_of new ≡ map entry_of old ++ more → length old ≤ length new
length_longer old new more e = omega (arith, length-map old entry_of, length-map new entry_of, length-append (map entry_of old) more, ap length e)

-- THE PLACES OF MEMBERS

-- the first member of this id stands at the place
abbrev pub HasPlace : ℕ → List Member → ℕ → Type 0
HasPlace id members place = position (λ (member : Member). eqb member.id id) members ≡ Some place

pub node_at_none : (c : Config) (at : Lodging) (id : ℕ) (members : List Member) → position (λ (member : Member). eqb member.id id) members ≡ None → worlds.node_at id (map (node_of c at) members) ≡ None
node_at_none c at id members h =
    let p = λ (member : Member). eqb member.id id in
    find-map (node_of c at) (λ node. eqb node.id id) members
    ∙ ap (option_map (node_of c at)) (find_at p members ∙ slice_get_past members (position_or_len p members) (not_within (position_or_len p members) (length members) h))

pub place_within : (id : ℕ) (members : List Member) (place : ℕ) → HasPlace id members place → place < length members
place_within id members place h = within_from_some (position_or_len (λ (member : Member). eqb member.id id) members) (length members) place h

-- what stands at the place has the id
pub id_at_place : (id : ℕ) (members : List Member) (place : ℕ) (member : Member) → HasPlace id members place → slice_get members place ≡ Some member → member.id ≡ id
id_at_place id members place member h has =
    let p = λ (m : Member). eqb m.id id in
    eqb-true member.id id (ap p (sym (get_or_from_slice_get members place member member has)) ∙ (position-Some p members place member h).1)

pub node_at_place : (c : Config) (at : Lodging) (id : ℕ) (members : List Member) (place : ℕ) (member : Member) → HasPlace id members place → slice_get members place ≡ Some member
    → worlds.node_at id (map (node_of c at) members) ≡ Some (node_of c at member)
node_at_place c at id members place member h has =
    let p = λ (m : Member). eqb m.id id in
    find-map (node_of c at) (λ node. eqb node.id id) members
    ∙ ap (option_map (node_of c at)) (find_at p members ∙ ap (slice_get members) (cond_some _ _ _ h).1 ∙ has)

-- THE IDS RISE

abbrev pub ids_of : List Member → List ℕ
ids_of members = map (λ (member : Member). member.id) members

id_at : (members : List Member) (i : ℕ) (member : Member) → slice_get members i ≡ Some member → slice_get (ids_of members) i ≡ Some member.id
id_at members i member has = slice_get-map (λ (m : Member). m.id) members i ∙ ap (option_map (λ (m : Member). m.id)) has

ids_rise : (members : List Member) (i j : ℕ) (a b : Member) → IsStrictlyIncreasing (ids_of members) → slice_get members i ≡ Some a → slice_get members j ≡ Some b → i < j → a.id < b.id
ids_rise members i j a b rise one two below =
    let first = id_at members i a one in
    let then = id_at members j b two in
    let within = slice_get_within (ids_of members) j b.id then in
    let less = AllPairs-from_increasing (ids_of members) rise i j 0 below within in
    omega (arith, less, get_or_from_slice_get (ids_of members) i a.id 0 first, get_or_from_slice_get (ids_of members) j b.id 0 then)

pub ids_apart : (members : List Member) (i j : ℕ) (a b : Member) → IsStrictlyIncreasing (ids_of members) → slice_get members i ≡ Some a → slice_get members j ≡ Some b → i ≢ j → a.id ≢ b.id
ids_apart members i j a b rise one two other = λ same.
    elim (cases_lt i j) [
      | inl below ↦ absurd (omega (arith, ids_rise members i j a b rise one two below, same))
      | inr above ↦ let more : j < i = omega (arith, above) in absurd (omega (arith, ids_rise members j i b a rise two one more, same))
    ]

-- a member stands at its place alone
pub place_of : (members : List Member) (place : ℕ) (member : Member) → IsStrictlyIncreasing (ids_of members) → slice_get members place ≡ Some member → HasPlace member.id members place
place_of members place member rise has =
    position_first (λ (m : Member). eqb m.id member.id) members place member has (grind (arith, nat_tests))
    (λ j y below is. let less = ids_rise members j place y member rise is has below in grind (arith, nat_tests))

-- A MEMBER IS ANOTHER

position_map : {X Y : Type 0} (f : X → Y) (p : Y → Bool) (xs : List X) → position_or_len p (map f xs) ≡ position_or_len (λ x. p (f x)) xs
position_map f p [] = refl
position_map f p (x ∷ xs) = ap (λ (n : ℕ). cond (not (p (f x))) (1 + n) 0) (position_map f p xs)

-- the head is replaced, or the rest
with_node_here : (new x : worlds.Node Core) (xs : List (worlds.Node Core)) (i : ℕ) (b : Bool)
    → (position_or_len (λ (node : worlds.Node Core). eqb node.id new.id) xs < length xs → worlds.with_node new xs ≡ set xs (position_or_len (λ (node : worlds.Node Core). eqb node.id new.id) xs) new)
    → i ≡ cond (not b) (1 + position_or_len (λ (node : worlds.Node Core). eqb node.id new.id) xs) 0 → i < length (x ∷ xs)
    → cond b (new ∷ xs) (x ∷ worlds.with_node new xs) ≡ set (x ∷ xs) i new
with_node_here new x xs i true rest e l = rw e refl
with_node_here new x xs i false rest e l =
    let n = position_or_len (λ (node : worlds.Node Core). eqb node.id new.id) xs in
    let next : i ≡ suc n = omega arith in
    rw next (ap (λ (ns : List (worlds.Node Core)). x ∷ ns) (rest (omega arith)))

with_node_from : (new : worlds.Node Core) (nodes : List (worlds.Node Core)) (i : ℕ) → i ≡ position_or_len (λ (node : worlds.Node Core). eqb node.id new.id) nodes → i < length nodes
    → worlds.with_node new nodes ≡ set nodes i new
with_node_from new [] i e l = absurd (omega arith)
with_node_from new (x ∷ xs) i e l =
    with_node_here new x xs i (eqb x.id new.id) (with_node_from new xs (position_or_len (λ (node : worlds.Node Core). eqb node.id new.id) xs) refl) e l

-- what a node is rests on what stands under its id
pub node_alike : (c : Config) (before after : Lodging) (member : Member) → after member.id ≡ before member.id → node_of c before member ≡ node_of c after member
node_alike c before after member same = rw same refl

-- the member at its place is another, and the nodes of the others are what they were
pub with_node_at_place : (c : Config) (before after : Lodging) (members : List Member) (place : ℕ) (new : Member) → HasPlace new.id members place
    → ((j : ℕ) (member : Member) → slice_get members j ≡ Some member → j ≢ place → node_of c before member ≡ node_of c after member)
    → worlds.with_node (node_of c after new) (map (node_of c before) members) ≡ map (node_of c after) (set members place new)
with_node_at_place c before after members place new h same =
    let at : place ≡ position_or_len (λ (node : worlds.Node Core). eqb node.id new.id) (map (node_of c before) members) =
    sym ((position_map (node_of c before) (λ (node : worlds.Node Core). eqb node.id new.id) members) ∙ (cond_some _ _ _ h).1) in
    with_node_from (node_of c after new) (map (node_of c before) members) place at (omega (arith, place_within new.id members place h, length-map members (node_of c before)))
    ∙ set_moved (node_of c before) (node_of c after) members place new same

-- among the same nodes
pub with_node_set : (c : Config) (at : Lodging) (members : List Member) (place : ℕ) (new : Member) → HasPlace new.id members place
    → worlds.with_node (node_of c at new) (map (node_of c at) members) ≡ map (node_of c at) (set members place new)
with_node_set c at members place new h = with_node_at_place c at at members place new h (λ j member has other. refl)

-- where the node of that id became another
pub with_node_becomes : (c : Config) (before after : Lodging) (members : List Member) (place : ℕ) (old new : Member) (l : Option Lodged) → IsStrictlyIncreasing (ids_of members)
    → slice_get members place ≡ Some old → new.id ≡ old.id → Becomes before after new.id l
    → worlds.with_node (node_of c after new) (map (node_of c before) members) ≡ map (node_of c after) (set members place new)
with_node_becomes c before after members place old new l rise has same becomes =
    with_node_at_place c before after members place new (subst (λ (id : ℕ). HasPlace id members place) (sym same) (place_of members place old rise has))
    (λ j member at other. node_alike c before after member (becomes.others member.id (λ known. ids_apart members j place member old rise at has other (known ∙ same))))

ids_set_at : (xs : List ℕ) (i : ℕ) (x : ℕ) → slice_get xs i ≡ Some x → set xs i x ≡ xs
ids_set_at xs i x has = ap (set xs i) (sym (get_or_from_slice_get xs i x x has)) ∙ set-get_or xs i x

-- the ids stay where one is replaced by one of its id
pub ids_set : (members : List Member) (place : ℕ) (old new : Member) → slice_get members place ≡ Some old → new.id ≡ old.id → ids_of (set members place new) ≡ ids_of members
ids_set members place old new has same =
    map-set (λ (m : Member). m.id) members place new ∙ ap (set (ids_of members) place) same ∙ ids_set_at (ids_of members) place old.id (id_at members place old has)

-- WHEREABOUTS

-- a member of this id stands at the place, the first of it
pub record StandsAt (id : ℕ) (members : List Member) (place : ℕ) (running : Bool) : Type 0 where
  pub member : Member
  pub there : slice_get members place ≡ Some member
  pub named : member.id ≡ id
  pub runs : member.runs ≡ running
  pub first : HasPlace id members place

stands : (id : ℕ) (members : List Member) (place : ℕ) (member : Member) (running : Bool) → HasPlace id members place → slice_get members place ≡ Some member → member.runs ≡ running
    → StandsAt id members place running
stands id members place member running h has is =
    record { member = member; there = has; named = id_at_place id members place member h has; runs = is; first = h }

chosen_running : (b : Bool) (at place : ℕ) → cond b (Running at) (Stopped at) ≡ Running place → (b ≡ true) × (at ≡ place)
chosen_running true at place h = (refl, cc)
chosen_running false at place h = absurd (cc)

chosen_stopped : (b : Bool) (at place : ℕ) → cond b (Running at) (Stopped at) ≡ Stopped place → (b ≡ false) × (at ≡ place)
chosen_stopped true at place h = absurd (cc)
chosen_stopped false at place h = (refl, cc)

chosen_somewhere : (b : Bool) (at : ℕ) → cond b (Running at) (Stopped at) ≡ Absent → ⊥
chosen_somewhere true at h = absurd (cc)
chosen_somewhere false at h = absurd (cc)

placed_running : (members : List Member) (at place : ℕ) (o : Option Member) → slice_get members at ≡ o → placed at o ≡ Running place → (member : Member) × (slice_get members at ≡ Some member) × (member.runs ≡ true) × (at ≡ place)
placed_running members at place None is h = absurd (cc)
placed_running members at place (Some member) is h = let parts = chosen_running member.runs at place h in (member, is, parts.0, parts.1)

placed_stopped : (members : List Member) (at place : ℕ) (o : Option Member) → slice_get members at ≡ o → placed at o ≡ Stopped place → (member : Member) × (slice_get members at ≡ Some member) × (member.runs ≡ false) × (at ≡ place)
placed_stopped members at place None is h = absurd (cc)
placed_stopped members at place (Some member) is h = let parts = chosen_stopped member.runs at place h in (member, is, parts.0, parts.1)

found_running : (id : ℕ) (members : List Member) (place : ℕ) (o : Option ℕ) → position (λ (member : Member). eqb member.id id) members ≡ o → found_at members o ≡ Running place → StandsAt id members place true
found_running id members place None is h = absurd (cc)
found_running id members place (Some at) is h =
    let parts = placed_running members at place (slice_get members at) refl h in
    stands id members place parts.0 true (is ∙ ap (λ (i : ℕ). Some i) parts.3) (ap (slice_get members) (sym parts.3) ∙ parts.1) parts.2

found_stopped : (id : ℕ) (members : List Member) (place : ℕ) (o : Option ℕ) → position (λ (member : Member). eqb member.id id) members ≡ o → found_at members o ≡ Stopped place → StandsAt id members place false
found_stopped id members place None is h = absurd (cc)
found_stopped id members place (Some at) is h =
    let parts = placed_stopped members at place (slice_get members at) refl h in
    stands id members place parts.0 false (is ∙ ap (λ (i : ℕ). Some i) parts.3) (ap (slice_get members) (sym parts.3) ∙ parts.1) parts.2

pub where_running : (id : ℕ) (members : List Member) (place : ℕ) → whereabouts_of id members ≡ Running place → StandsAt id members place true
where_running id members place h = found_running id members place (position (λ (member : Member). eqb member.id id) members) refl h

pub where_stopped : (id : ℕ) (members : List Member) (place : ℕ) → whereabouts_of id members ≡ Stopped place → StandsAt id members place false
where_stopped id members place h = found_stopped id members place (position (λ (member : Member). eqb member.id id) members) refl h

placed_absent : (members : List Member) (at : ℕ) (o : Option Member) → slice_get members at ≡ o → placed at o ≡ Absent → length members ≤ at
placed_absent members at None is h =
    elim (slice_get_cases members at).1 [ inl found ↦ absurd (let e = found.2 in cc) | inr past ↦ past.0 ]
placed_absent members at (Some member) is h = absurd (chosen_somewhere member.runs at h)

found_absent : (id : ℕ) (members : List Member) (o : Option ℕ) → position (λ (member : Member). eqb member.id id) members ≡ o → found_at members o ≡ Absent → position (λ (member : Member). eqb member.id id) members ≡ None
found_absent id members None is h = is
found_absent id members (Some at) is h =
    absurd (omega (arith, place_within id members at is, placed_absent members at (slice_get members at) refl h))

-- an absent one has no place
pub where_absent : (id : ℕ) (members : List Member) → whereabouts_of id members ≡ Absent → position (λ (member : Member). eqb member.id id) members ≡ None
where_absent id members h = found_absent id members (position (λ (member : Member). eqb member.id id) members) refl h

-- where a member stands, its node does
pub node_standing : (c : Config) (at : Lodging) (id : ℕ) (members : List Member) (place : ℕ) (running : Bool) (stands : StandsAt id members place running)
    → worlds.node_at id (map (node_of c at) members) ≡ Some (node_of c at stands.member)
node_standing c at id members place running stands = node_at_place c at id members place stands.member stands.first stands.there

pub running_standing : (c : Config) (at : Lodging) (id : ℕ) (members : List Member) (place : ℕ) (stands : StandsAt id members place true)
    → worlds.running_at id (map (node_of c at) members) ≡ Some (node_of c at stands.member)
running_standing c at id members place stands = rw (node_standing c at id members place true stands, stands.runs) refl

pub stopped_standing : (c : Config) (at : Lodging) (id : ℕ) (members : List Member) (place : ℕ) (stands : StandsAt id members place false)
    → worlds.running_at id (map (node_of c at) members) ≡ None
stopped_standing c at id members place stands = rw (node_standing c at id members place false stands, stands.runs) refl

pub running_absent : (c : Config) (at : Lodging) (id : ℕ) (members : List Member) → whereabouts_of id members ≡ Absent → worlds.running_at id (map (node_of c at) members) ≡ None
running_absent c at id members h = rw (node_at_none c at id members (where_absent id members h)) refl

-- no node that runs
pub none_running : (o : Option (worlds.Node Core)) → is_some o ≡ false → o ≡ None
none_running None is = refl
none_running (Some node) is = absurd (cc)
