-- What becomes of a world where the node of a member is opened for the first time.
use Rattle.std.specs.Prelude.{◌≡◌, ℕ, true, false, [], ◌∷◌, ◌++◌, Some}
use Rattle.gate_log.specs.Memory.{IsEmptyDisk}
use Rattle.gate_log.specs.declared.memory.MemDisk.{MemDisk}
use Rattle.bft_node.specs.Lodgings.{Becomes, IsOpenedOn, Lodging, accepts_of}
use Rattle.bft_node.specs.declared.lodged.Lodged.{Lodged}
use Rattle.world_run.specs.Moves.{setup_of}
use Rattle.world_run.specs.declared.member.Member.{Member}
use Rattle.world_run.specs.declared.world.World.{World}

-- The node of this id is opened on an empty disk, and its member stands behind the others. It runs, and
-- nothing waits in its pool.
pub record Begins (before after : Lodging) (old new : World) (id : ℕ) : Type 0 where
  pub disk : MemDisk
  pub empty : IsEmptyDisk [] disk
  pub node : Lodged
  pub opened : IsOpenedOn (setup_of old.config id) (accepts_of old.outside.seat) disk node
  pub becomes : Becomes before after id (Some node)
  pub member : Member
  pub named : member.id ≡ id
  pub pool : member.pool.items ≡ []
  pub runs : member.runs ≡ true
  pub armed : member.armed ≡ false
  pub members : new.members.items ≡ old.members.items ++ member ∷ []
  pub config : new.config ≡ old.config
  pub byzantine : new.byzantine ≡ old.byzantine
  pub network : new.outside.network ≡ old.outside.network
  pub seals : new.outside.seat.seals ≡ old.outside.seat.seals
