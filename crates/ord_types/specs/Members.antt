-- Members of a configuration, and how many of them are enough.
use Rattle.std.specs.Prelude.{ℕ, ◌+◌, ◌-◌, ◌/◌, Bool, true, false, ◌==◌, List, [], ◌∷◌, length, if◌then◌else◌}
use Rattle.std.specs.List.{list_any}
pub use Rattle.ord_types.specs.declared.values.Config.{Config}
pub use Rattle.ord_types.specs.declared.values.Kind.{Kind}
use Rattle.ord_types.specs.declared.values.Kind.TheVariants.{Raft, Bft}

-- how many of n members may be Byzantine: f = (n - 1) / 3, rounded down (Castro and Liskov 2002)
abbrev pub fault_bound : ℕ → ℕ
fault_bound n = (n - 1) / 3

-- how many members make a quorum: (n + f + 1) / 2, rounded up (SmartBFT)
abbrev pub quorum : ℕ → ℕ
quorum n = (n + fault_bound n + 2) / 2

-- a quorum of a configuration's members
abbrev pub quorum_of : Config → ℕ
quorum_of c = quorum (length c.members)

-- more than half of n members: n / 2 rounded down, plus 1 (Ongaro and Ousterhout 2014)
abbrev pub majority : ℕ → ℕ
majority n = n / 2 + 1

-- whether an id is in a list of ids
abbrev pub is_in : ℕ → List ℕ → Bool
is_in id ids = list_any (λ other. other == id) ids

-- how many ids of a list pass a test
abbrev pub how_many : (ℕ → Bool) → List ℕ → ℕ
how_many test [] = 0
how_many test (id ∷ ids) = (if test id then 1 else 0) + how_many test ids

-- how many of the ids are in the list
abbrev pub how_many_in : List ℕ → List ℕ → ℕ
how_many_in list ids = how_many (λ id. is_in id list) ids

abbrev pub is_raft_kind : Kind → Bool
is_raft_kind Raft = true
is_raft_kind Bft = false

-- the configuration orders blocks by Raft
abbrev pub is_raft : Config → Bool
is_raft c = is_raft_kind c.kind
