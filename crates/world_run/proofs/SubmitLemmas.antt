-- Lemmas on a request that is submitted.
use Rattle.std.proofs.Common.{◌≡◌, ℕ, zero, suc, List, [], ◌∷◌, ◌++◌, map, get_or, set, slice_get, Some, None, Ok, sym, ap, subst, ◌∙◌}
use Rattle.std.specs.Prelude.{string_bytes}
use Rattle.std.specs.List.{AllByRecursion}
use Rattle.std.proofs.lemmas.Option.{get_or_from_slice_get, same_Some}
use Rattle.node_model.specs.Cores.{Core}
use Rattle.safety_model.specs.Blocks.{Config, Request}
use Rattle.script_play.specs.Turns.{Turned}
use Rattle.world_model.specs.Pools.{Answer, answer, pool_after}
use Rattle.world_model.specs.Texts.{answer_text}
use Rattle.world_model.specs.Turns.{submit_turn}
use Rattle.world_model.specs.Worlds as worlds
use Rattle.world_model.specs.Worlds.{Outcome}
use Rattle.bft_node.specs.Lodgings.{Lodging}
use Rattle.world_run.specs.Mapped.{world_of}
use Rattle.world_run.specs.Members.{node_of}
use Rattle.world_run.specs.declared.member.Member.{Member}
use Rattle.world_run.specs.declared.world.World.{World}
use Rattle.world_run.proofs.GoingLemmas.{Turned-same}
use Rattle.world_run.proofs.ListLemmas.{HasPlace, id_at_place, with_node_set}

-- what holds of all holds of one of them
pub all_at : {X : Type 0} (P : X → Type 0) (xs : List X) (i : ℕ) (x : X) → AllByRecursion P xs → slice_get xs i ≡ Some x → P x
all_at P [] i x all has = absurd (cc)
all_at P (y ∷ ys) zero x all has = subst P (same_Some y x has) all.0
all_at P (y ∷ ys) (suc i) x all has = all_at P ys i x all.1 has

-- and still where one is another of which it holds
pub all_set : {X : Type 0} (P : X → Type 0) (xs : List X) (i : ℕ) (x : X) → AllByRecursion P xs → P x → AllByRecursion P (set xs i x)
all_set P [] i x all here = tt
all_set P (y ∷ ys) zero x all here = (here, all.1)
all_set P (y ∷ ys) (suc i) x all here = (all.0, all_set P ys i x all.1 here)

-- what was read at a place is what stands there
pub read_is : {X : Type 0} (xs : List X) (i : ℕ) (read x : X) → read ≡ get_or xs i read → slice_get xs i ≡ Some x → read ≡ x
read_is xs i read x is has = is ∙ get_or_from_slice_get xs i x read has

-- the node with what its pool holds then
abbrev pub with_pool : Config → Lodging → Member → List Request → worlds.Node Core
with_pool c at member pool = record (node_of c at member) { pool = pool }

pub submitted_turn : (at : Lodging) (w : World) (later : List Outcome) (id place : ℕ) (word : List ℕ) (read member new : Member) (bytes : List ℕ) (given : Answer) (after : List ℕ)
    → HasPlace id w.members.items place → slice_get w.members.items place ≡ Some member → read ≡ get_or w.members.items place read
    → new.id ≡ read.id → node_of w.config at new ≡ with_pool w.config at read (pool_after read.pool.items bytes)
    → given ≡ answer read.pool.items bytes → after ≡ string_bytes w.outside.text ++ answer_text w.outside.number word id given
    → Turned (submit_turn w.outside.number word (world_of at w later) (node_of w.config at member) bytes) (string_bytes w.outside.text) after
    (record (world_of at w later) { nodes = map (node_of w.config at) (set w.members.items place new) }) None
submitted_turn at w later id place word read member new bytes given after first has is same becomes answers printed =
    let c = w.config in
    let members = w.members.items in
    let there = read_is members place read member is has in
    let known : member.id ≡ id = id_at_place id members place member first has in
    let mine : read.id ≡ id = ap (λ (m : Member). m.id) there ∙ known in
    let turn = λ (n : worlds.Node Core). submit_turn w.outside.number word (world_of at w later) n bytes in
    let nodes = ap (λ (n : worlds.Node Core). worlds.with_node n (map (node_of c at) members)) (sym becomes)
    ∙ with_node_set c at members place new (subst (λ (i : ℕ). HasPlace i members place) (sym (same ∙ mine)) first) in
    Turned-same (turn (node_of c at read)) (turn (node_of c at member)) (string_bytes w.outside.text) after (record (world_of at w later) { nodes = map (node_of c at) (set members place new) }) None
    (ap (λ (m : Member). turn (node_of c at m)) there)
    (record {
      printed = printed ∙ ap (λ (i : ℕ). string_bytes w.outside.text ++ answer_text w.outside.number word i given) (sym mine)
          ∙ ap (λ (a : Answer). string_bytes w.outside.text ++ answer_text w.outside.number word read.id a) answers;
      next = ap (λ (ns : List (worlds.Node Core)). Ok (record (world_of at w later) { nodes = ns })) nodes;
    })
