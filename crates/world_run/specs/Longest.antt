-- The node of the longest ledger, in the code.
use Rattle.std.specs.Prelude.{◌≡◌, ℕ, List, map, Option, Some, None}
use Rattle.safety_model.specs.Blocks.{Config}
use Rattle.world_model.specs.Liars.{longest}
use Rattle.bft_node.specs.Lodgings.{Lodging}
use Rattle.bft_node.specs.declared.lodged.Lodged.{Lodged}
use Rattle.world_run.specs.Members.{node_of}
use Rattle.world_run.specs.declared.member.Member.{Member}

-- a node stands under the member's id
abbrev pub IsMemberAt : Lodging → Member → Type 0
IsMemberAt at member = (l : Lodged) × (at member.id ≡ Some l)

-- the id is that of a member whose node has the longest ledger; there is none where there are no members
abbrev pub IsLongest : Config → Lodging → List Member → Option ℕ → Type 0
IsLongest c at members None = longest (map (node_of c at) members) ≡ None
IsLongest c at members (Some id) = (member : Member) × (member.id ≡ id) × IsMemberAt at member
    × (longest (map (node_of c at) members) ≡ Some (node_of c at member))
