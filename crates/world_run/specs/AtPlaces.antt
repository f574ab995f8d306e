-- What holds of the member at a place of a world.
use Rattle.std.specs.Prelude.{◌≡◌, ℕ, true, Some, slice_get}
use Rattle.world_run.specs.declared.member.Member.{Member}
use Rattle.world_run.specs.declared.world.World.{World}

-- so it is of the member that stands there
abbrev pub AtPlace : World → ℕ → (Member → Type 0) → Type 0
AtPlace w place P = (member : Member) → slice_get w.members.items place ≡ Some member → P member

-- one stands there
abbrev pub HasMember : World → ℕ → Type 0
HasMember w place = (member : Member) × (slice_get w.members.items place ≡ Some member)

-- one that runs
abbrev pub HasRunning : World → ℕ → Type 0
HasRunning w place =
    (member : Member) × (slice_get w.members.items place ≡ Some member) × (member.runs ≡ true)
