-- What the code's world keeps true from line to line.
use Rattle.std.specs.Prelude.{◌≡◌, ℕ, false, map, Option, Some, None}
use Rattle.std.specs.List.{AllByRecursion}
use Rattle.std.specs.List.Sorted.{IsStrictlyIncreasing}
use Rattle.ord_types.specs.Genesis.{IsGenesisConfig}
use Rattle.signer_edge.specs.Signing.{KeepsAccepted}
use Rattle.bft_node.specs.Lodgings.{Lodging, accepts_of}
use Rattle.world_run.specs.Members.{IsMember}
use Rattle.world_run.specs.declared.member.Member.{Member}
use Rattle.world_run.specs.declared.world.World.{World}

-- A node stands under the id of each member that has one, each id once.
pub record IsSound (at : Lodging) (w : World) : Type 0 where
  pub config : IsGenesisConfig w.config
  pub ids : IsStrictlyIncreasing (map (λ (member : Member). member.id) w.members.items)
  pub nodes : AllByRecursion (IsMember w.config (accepts_of w.outside.seat) at) w.members.items

-- no disk is armed
abbrev pub NoneArmed : World → Type 0
NoneArmed w = AllByRecursion (λ (member : Member). member.armed ≡ false) w.members.items

-- The ids of its nodes and their disks are left alone, and what was sealed is.
pub record KeepsNodes (old new : World) : Type 0 where
  pub config : new.config ≡ old.config
  pub ids : map (λ (member : Member). member.id) new.members.items
      ≡ map (λ (member : Member). member.id) old.members.items
  pub armed : NoneArmed old → NoneArmed new
  pub seals : KeepsAccepted (accepts_of old.outside.seat) (accepts_of new.outside.seat)
  pub number : new.outside.number ≡ old.outside.number

-- no node stands there
abbrev pub IsEmpty : Lodging → Type 0
IsEmpty at = (id : ℕ) → at id ≡ None

-- before the genesis there is no node
abbrev pub IsStanding : Lodging → Option World → Type 0
IsStanding at None = IsEmpty at
IsStanding at (Some w) = IsSound at w

abbrev pub IsDecided : Option World → Type 0
IsDecided None = Unit {0}
IsDecided (Some w) = NoneArmed w
