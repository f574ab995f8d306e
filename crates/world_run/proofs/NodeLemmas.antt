-- Lemmas on the nodes of members, and on what holds of each member.
use Rattle.std.proofs.Common.{◌≡◌, ℕ, zero, suc, false, List, [], ◌∷◌, Some, refl, sym, ap, ◌∙◌, subst}
use Rattle.std.specs.List.{AllByRecursion}
use Rattle.std.specs.Prelude.{slice_get, slice_set}
use Rattle.std.specs.List.Sorted.{IsStrictlyIncreasing}
use Rattle.std.proofs.lemmas.Option.{none-some, same_Some}
use Rattle.ord_types.specs.Genesis.{IsGenesisConfig}
use Rattle.safety_model.specs.Blocks.{Config}
use Rattle.signer_edge.specs.Seals.{Seat}
use Rattle.signer_edge.specs.Signing.{KeepsAccepted}
use Rattle.node_model.specs.Cores.{Core}
use Rattle.world_model.specs.Worlds as worlds
use Rattle.bft_node.specs.Lodgings.{Becomes, Lodging, accepts_of}
use Rattle.bft_node.specs.Running.{chain_of, state_of}
use Rattle.bft_node.specs.declared.lodged.Lodged.{Lodged}
use Rattle.world_run.specs.Members.{IsMember, IsSeated, node_of}
use Rattle.world_run.specs.Sound.{IsSound, NoneArmed}
use Rattle.world_run.specs.declared.member.Member.{Member}
use Rattle.world_run.specs.declared.world.World.{World}
use Rattle.world_run.proofs.ListLemmas.{ids_of, ids_set}
use Rattle.world_run.proofs.MoveLemmas.{members_become}

-- EACH OF A LIST

pub all_at : {X : Type 0} (P : X → Type 0) (xs : List X) (i : ℕ) (x : X) → AllByRecursion P xs → slice_get xs i ≡ Some x → P x
all_at P [] i x all has = absurd (none-some x has)
all_at P (y ∷ ys) zero x all has = subst P (same_Some y x has) all.0
all_at P (y ∷ ys) (suc i) x all has = all_at P ys i x all.1 has

pub all_set : {X : Type 0} (P : X → Type 0) (xs : List X) (i : ℕ) (x : X) → AllByRecursion P xs → P x → AllByRecursion P (slice_set xs i x)
all_set P [] i x all is = tt
all_set P (y ∷ ys) zero x all is = (is, all.1)
all_set P (y ∷ ys) (suc i) x all is = (all.0, all_set P ys i x all.1 is)

-- THE NODE OF A MEMBER

abbrev pub node_with : Member → Lodged → worlds.Node Core
node_with member l =
    record {
      id = member.id;
      state = state_of l.node.running;
      pool = member.pool.items;
      ledger = chain_of l.node.running;
      runs = member.runs;
      armed = member.armed;
    }

pub node_there : (c : Config) (at : Lodging) (member : Member) (l : Lodged) → at member.id ≡ Some l → node_of c at member ≡ node_with member l
node_there c at member l there = rw there refl

-- the node that stands under a member's id
pub member_at : (at : Lodging) (w : World) (place : ℕ) (member : Member) → IsSound at w → slice_get w.members.items place ≡ Some member → IsMember w.config (accepts_of w.outside.seat) at member
member_at at w place member sound has = all_at (IsMember w.config (accepts_of w.outside.seat) at) w.members.items place member sound.nodes has

-- ONE MEMBER AND ITS NODE become others

pub sound_becomes : (at next : Lodging) (old new : World) (place : ℕ) (member moved : Member) (l : Lodged) → IsSound at old → slice_get old.members.items place ≡ Some member → moved.id ≡ member.id
    → Becomes at next member.id (Some l) → IsSeated old.config (accepts_of new.outside.seat) member.id l → KeepsAccepted (accepts_of old.outside.seat) (accepts_of new.outside.seat)
    → new.config ≡ old.config → new.members.items ≡ slice_set old.members.items place moved → IsSound next new
sound_becomes at next old new place member moved l sound has same becomes seated keeps config members =
    let ids : ids_of new.members.items ≡ ids_of old.members.items = ap ids_of members ∙ ids_set old.members.items place member moved has same in
    record {
      config = subst IsGenesisConfig (sym config) sound.config;
      ids = subst IsStrictlyIncreasing (sym ids) sound.ids;
      nodes = subst (λ (c : Config). AllByRecursion (IsMember c (accepts_of new.outside.seat) next) new.members.items) (sym config)
          (members_become old.config (accepts_of old.outside.seat) (accepts_of new.outside.seat) at next member.id l old.members.items new.members.items becomes seated keeps ids sound.nodes);
    }

pub unarmed_at : (w : World) (place : ℕ) (member : Member) → NoneArmed w → slice_get w.members.items place ≡ Some member → member.armed ≡ false
unarmed_at w place member none has = all_at (λ (m : Member). m.armed ≡ false) w.members.items place member none has

pub unarmed_set : (old new : World) (place : ℕ) (moved : Member) → NoneArmed old → moved.armed ≡ false → new.members.items ≡ slice_set old.members.items place moved → NoneArmed new
unarmed_set old new place moved none unarmed members =
    subst (AllByRecursion (λ (m : Member). m.armed ≡ false)) (sym members) (all_set (λ (m : Member). m.armed ≡ false) old.members.items place moved none unarmed)

-- a signer's place at the box of the world
abbrev pub seat_of : World → ℕ → Seat
seat_of w id = record { id = id; seals = w.outside.seat.seals }
