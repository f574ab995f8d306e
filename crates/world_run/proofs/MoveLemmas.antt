-- Lemmas on moves of nodes, one after another, and on calls that make none.
use Rattle.std.proofs.Common.{◌≡◌, ◌≢◌, ℕ, ◌⊎◌, inl, inr, List, [], ◌∷◌, ◌++◌, Option, Some, refl, sym, ap, ◌∙◌, subst}
use Rattle.std.specs.Prelude.{string_bytes}
use Rattle.std.specs.List.{AllByRecursion}
use Rattle.std.specs.List.Sorted.{IsStrictlyIncreasing}
use Rattle.ord_types.specs.Genesis.{IsGenesisConfig}
use Rattle.std.proofs.Math.Path.{fun_ext}
use Rattle.std.proofs.lemmas.Bool.{cases_eq}
use Rattle.std.proofs.lemmas.Grind.{flat_map-append}
use Rattle.std.proofs.lemmas.List.{append_assoc}
use Rattle.safety_model.specs.Blocks.{Config}
use Rattle.script_play.specs.Turns.{Turn, Turned}
use Rattle.script_play.specs.declared.ending.Ending.{Ending}
use Rattle.signer_edge.specs.Accepts.{Accepts}
use Rattle.signer_edge.specs.Signing.{KeepsAccepted}
use Rattle.block_ledger.proofs.Linking.{chain_stays}
use Rattle.world_model.specs.Worlds.{Outcome}
use Rattle.bft_node.specs.Lodgings.{Becomes, HoldsIn, Lodging, StaysAlike, accepts_of}
use Rattle.bft_node.specs.Running.{chain_of}
use Rattle.bft_node.specs.Stores.{config_of}
use Rattle.bft_node.specs.declared.lodged.Lodged.{Lodged}
use Rattle.world_run.specs.Going.{ByMoves, Plays, Says}
use Rattle.world_run.specs.Mapped.{Model, world_of}
use Rattle.world_run.specs.Members.{IsMember, IsSeated}
use Rattle.world_run.specs.Moves.{AreMoves, Move, outcome_of, outcomes_of}
use Rattle.world_run.specs.Sound.{IsSound, KeepsNodes, NoneArmed}
use Rattle.world_run.specs.declared.member.Member.{Member}
use Rattle.world_run.specs.declared.world.World.{World}
use Rattle.world_run.proofs.ListLemmas.{ids_of}

-- LODGINGS

-- where all stand alike, the nodes are the same
pub same_lodging : (before after : Lodging) → StaysAlike before after → after ≡ before
same_lodging before after alike = fun_ext alike

pub alike_self : (at : Lodging) → StaysAlike at at
alike_self at = λ id. refl

pub alike_then : (a b c : Lodging) → StaysAlike a b → StaysAlike b c → StaysAlike a c
alike_then a b c one two = λ id. two id ∙ one id

pub world_alike : (at next : Lodging) (w : World) (later : List Outcome) → StaysAlike at next → world_of next w later ≡ world_of at w later
world_alike at next w later alike = ap (λ (l : Lodging). world_of l w later) (same_lodging at next alike)

-- MOVES

pub moves_then : (c : Config) (a b d : Lodging) (xs ys : List Move) → AreMoves c a b xs → AreMoves c b d ys → AreMoves c a d (xs ++ ys)
moves_then c a b d [] ys alike more = subst (λ (at : Lodging). AreMoves c at d ys) (same_lodging a b alike) more
moves_then c a b d (move ∷ moves) ys made more = (made.0, made.1, moves_then c made.0 b d moves ys made.2 more)

-- all stay alike before moves
pub moves_behind : (c : Config) (a b d : Lodging) (ys : List Move) → StaysAlike a b → AreMoves c b d ys → AreMoves c a d ys
moves_behind c a b d ys alike more = moves_then c a b d [] ys alike more

-- and after them
pub moves_before : (c : Config) (a b d : Lodging) (xs : List Move) → AreMoves c a b xs → StaysAlike b d → AreMoves c a d xs
moves_before c a b d xs made alike = subst (λ (at : Lodging). AreMoves c a at xs) (sym (same_lodging b d alike)) made

pub outcomes_then : (xs ys : List Move) → outcomes_of (xs ++ ys) ≡ outcomes_of xs ++ outcomes_of ys
outcomes_then xs ys = flat_map-append outcome_of xs ys

-- BY MOVES

-- no move was made
pub by_none : (Quiet : Type 0) (at next : Lodging) (old new : World) (P : Model → Model → Type 0) → StaysAlike at next → new.config ≡ old.config → (NoneArmed old → NoneArmed new)
    → ((later : List Outcome) → P (world_of at old later) (world_of next new later)) → ByMoves Quiet at next old new P
by_none Quiet at next old new P alike config unarmed so =
    record { moves = []; made = alike; config = config; so = so; decided = λ quiet none. (refl, unarmed none) }

-- what holds of the worlds, another fact follows from it
pub by_weaker : (Quiet : Type 0) (at next : Lodging) (old new : World) (P Q : Model → Model → Type 0)
    → ((first later : List Outcome) → P (world_of at old first) (world_of next new later) → Q (world_of at old first) (world_of next new later))
    → ByMoves Quiet at next old new P → ByMoves Quiet at next old new Q
by_weaker Quiet at next old new P Q weaker by =
    record {
      moves = by.moves;
      made = by.made;
      config = by.config;
      so = λ later. weaker (outcomes_of by.moves ++ later) later (by.so later);
      decided = by.decided;
    }

-- one after another
pub by_then : (Quiet : Type 0) (a b d : Lodging) (old mid new : World) (P Q R : Model → Model → Type 0)
    → ((first second third : List Outcome) → P (world_of a old first) (world_of b mid second) → Q (world_of b mid second) (world_of d new third) → R (world_of a old first) (world_of d new third))
    → ByMoves Quiet a b old mid P → ByMoves Quiet b d mid new Q → ByMoves Quiet a d old new R
by_then Quiet a b d old mid new P Q R joins one two =
    record {
      moves = one.moves ++ two.moves;
      made = moves_then old.config a b d one.moves two.moves one.made (subst (λ (c : Config). AreMoves c b d two.moves) one.config two.made);
      config = two.config ∙ one.config;
      so = λ later.
          let second = outcomes_of two.moves ++ later in
          let first : outcomes_of one.moves ++ second ≡ outcomes_of (one.moves ++ two.moves) ++ later =
          sym (append_assoc (outcomes_of one.moves) (outcomes_of two.moves) later) ∙ ap (λ (o : List Outcome). o ++ later) (sym (outcomes_then one.moves two.moves)) in
          subst (λ (o : List Outcome). R (world_of a old o) (world_of d new later)) first (joins (outcomes_of one.moves ++ second) second later (one.so second) (two.so later));
      decided = λ quiet none.
          let first = one.decided quiet none in
          let then = two.decided quiet first.1 in
          (outcomes_then one.moves two.moves ∙ ap (λ (o : List Outcome). o ++ outcomes_of two.moves) first.0 ∙ then.0, then.1);
    }

-- WHAT KEEPS THE NODES

-- a call that touches no node plays its turn with no move
pub plays_said : (at next : Lodging) (old new : World) (turn : Model → Turn Model) (ending : Option Ending) → KeepsNodes old new → StaysAlike at next → Says old new turn ending
    → Plays at next old new turn ending
plays_said at next old new turn ending keeps alike says =
    by_none (Unit {0}) at next old new (λ w to. Turned (turn w) (string_bytes old.outside.text) (string_bytes new.outside.text) to ending) alike keeps.config keeps.armed
    (λ later. subst (λ (w : Model). Turned (turn (world_of at old later)) (string_bytes old.outside.text) (string_bytes new.outside.text) w ending) (sym (world_alike at next new later alike)) (says at later))

-- what a node holds it goes on to hold where more is accepted
holds_on : (old new : Accepts) (l : Lodged) → KeepsAccepted old new → HoldsIn old l → HoldsIn new l
holds_on old new l keeps holds =
    let r = l.node.running in
    record {
      chain = chain_stays old new (config_of r.store) (chain_of r) keeps holds.chain;
      stands = holds.stands;
      kept = holds.kept;
    }

pub seated_kept : (c : Config) (old new : Accepts) (id : ℕ) (l : Lodged) → KeepsAccepted old new
    → IsSeated c old id l → IsSeated c new id l
seated_kept c old new id l keeps seated =
    record {
      runs = seated.runs;
      named = seated.named;
      config = seated.config;
      holds = holds_on old new l keeps seated.holds;
    }

pub member_kept : (c : Config) (old new : Accepts) (at : Lodging) (member moved : Member) → KeepsAccepted old new → moved.id ≡ member.id → IsMember c old at member → IsMember c new at moved
member_kept c old new at member moved keeps same is =
    record {
      node = is.node;
      there = ap at same ∙ is.there;
      seated = subst (λ (id : ℕ). IsSeated c new id is.node) (sym same) (seated_kept c old new member.id is.node keeps is.seated);
    }

-- members of the same ids
pub members_kept : (c : Config) (old new : Accepts) (at : Lodging) (members moved : List Member) → KeepsAccepted old new → ids_of moved ≡ ids_of members
    → AllByRecursion (IsMember c old at) members → AllByRecursion (IsMember c new at) moved
members_kept c old new at [] [] keeps same all = tt
members_kept c old new at [] (y ∷ ys) keeps same all = absurd (cc)
members_kept c old new at (x ∷ xs) [] keeps same all = absurd (cc)
members_kept c old new at (x ∷ xs) (y ∷ ys) keeps same all =
    let head : y.id ≡ x.id = cc in
    let tail : ids_of ys ≡ ids_of xs = cc in
    (member_kept c old new at x y keeps head all.0, members_kept c old new at xs ys keeps tail all.1)

pub sound_kept : (at next : Lodging) (old new : World) → KeepsNodes old new → StaysAlike at next → IsSound at old → IsSound next new
sound_kept at next old new keeps alike sound =
    let seats = members_kept old.config (accepts_of old.outside.seat) (accepts_of new.outside.seat) at old.members.items new.members.items keeps.seals keeps.ids sound.nodes in
    record {
      config = subst IsGenesisConfig (sym keeps.config) sound.config;
      ids = subst IsStrictlyIncreasing (sym keeps.ids) sound.ids;
      nodes = subst (λ (l : Lodging). AllByRecursion (IsMember new.config (accepts_of new.outside.seat) l) new.members.items) (sym (same_lodging at next alike))
          (subst (λ (c : Config). AllByRecursion (IsMember c (accepts_of new.outside.seat) at) new.members.items) (sym keeps.config) seats);
    }

-- ONE NODE becomes another

member_becomes : (c : Config) (old new : Accepts) (before after : Lodging) (id : ℕ) (l : Lodged) (member moved : Member) → Becomes before after id (Some l) → IsSeated c new id l
    → KeepsAccepted old new → moved.id ≡ member.id → IsMember c old before member → ((member.id ≡ id) ⊎ (member.id ≢ id)) → IsMember c new after moved
member_becomes c old new before after id l member moved becomes seated keeps same is (inl here) =
    let known : moved.id ≡ id = same ∙ here in
    record { node = l; there = ap after known ∙ becomes.there; seated = subst (λ (i : ℕ). IsSeated c new i l) (sym known) seated }
member_becomes c old new before after id l member moved becomes seated keeps same is (inr other) =
    let kept = member_kept c old new before member moved keeps same is in
    record { node = kept.node; there = becomes.others moved.id (λ known. other (sym same ∙ known)) ∙ kept.there; seated = kept.seated }

-- the node of one id becomes another, and the others are seated as they were
pub members_become : (c : Config) (old new : Accepts) (before after : Lodging) (id : ℕ) (l : Lodged) (members moved : List Member) → Becomes before after id (Some l) → IsSeated c new id l
    → KeepsAccepted old new → ids_of moved ≡ ids_of members → AllByRecursion (IsMember c old before) members → AllByRecursion (IsMember c new after) moved
members_become c old new before after id l [] [] becomes seated keeps same all = tt
members_become c old new before after id l [] (y ∷ ys) becomes seated keeps same all = absurd (cc)
members_become c old new before after id l (x ∷ xs) [] becomes seated keeps same all = absurd (cc)
members_become c old new before after id l (x ∷ xs) (y ∷ ys) becomes seated keeps same all =
    let head : y.id ≡ x.id = cc in
    let tail : ids_of ys ≡ ids_of xs = cc in
    (member_becomes c old new before after id l x y becomes seated keeps head all.0 (cases_eq x.id id), members_become c old new before after id l xs ys becomes seated keeps tail all.1)
