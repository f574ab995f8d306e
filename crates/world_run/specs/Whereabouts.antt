-- Where the node of an id is among the members.
use Rattle.std.specs.Prelude.{ℕ, ◌==◌, List, Option, Some, None, position, slice_get, if◌then◌else◌}
use Rattle.world_run.specs.declared.member.Member.{Member}
use Rattle.world_run.specs.declared.world.Whereabouts.{Whereabouts}
use Rattle.world_run.specs.declared.world.Whereabouts.TheVariants.{Absent, Stopped, Running}

abbrev pub placed : ℕ → Option Member → Whereabouts
placed place None = Absent
placed place (Some member) = if member.runs then Running place else Stopped place

abbrev pub found_at : List Member → Option ℕ → Whereabouts
found_at members None = Absent
found_at members (Some place) = placed place (slice_get members place)

abbrev pub whereabouts_of : ℕ → List Member → Whereabouts
whereabouts_of id members = found_at members (position (λ (member : Member). member.id == id) members)
