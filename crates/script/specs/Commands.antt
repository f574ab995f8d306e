-- What the grammar lets into a command.
use Rattle.std.specs.Prelude.{ℕ, ◌≤◌, ◌<◌, ◌^◌, ◌-◌, List, length, All, IfSome}
use Rattle.std.specs.List.{AllByRecursion}
use Rattle.std.specs.List.Sorted.{IsStrictlyIncreasing}
use Rattle.script.specs.declared.command.Command.{Command}
use Rattle.script.specs.declared.command.Command.TheVariants.{Genesis, Submit, Raw, Tick, Deliver, Flush, Show, Propose, Vote, Lie, Seal, Stop, StopAt, Start}
use Rattle.script.specs.declared.command.Image.{Image}
use Rattle.script.specs.declared.command.Image.TheVariants.{Keep, Undo, Fill}
use Rattle.script.specs.declared.command.Range.{Range}

pub record IsId (id : ℕ) : Type 0 where
  pub positive : 1 ≤ id
  pub below : id ≤ 2 ^ 32 - 1

-- 1 to 31 ids, strictly ascending
pub record AreIds (ids : List ℕ) : Type 0 where
  pub some : 1 ≤ length ids
  pub few : length ids ≤ 31
  pub ascending : IsStrictlyIncreasing ids
  pub each : All IsId ids

-- none, or 1 to 31 ids, strictly ascending
pub record AreByzantine (ids : List ℕ) : Type 0 where
  pub few : length ids ≤ 31
  pub ascending : IsStrictlyIncreasing ids
  pub each : All IsId ids

pub record IsGenesisLine (members byzantine : List ℕ) : Type 0 where
  pub member_ids : AreIds members
  pub byzantine_ids : AreByzantine byzantine

-- values of single bytes
abbrev pub AreBytes : List ℕ → Type 0
AreBytes bytes = AllByRecursion (λ b. b < 256) bytes

pub record IsSubmit (node client serial : ℕ) (payload : List ℕ) : Type 0 where
  pub node_id : IsId node
  pub client_below : client ≤ 2 ^ 32 - 1
  pub serial_below : serial ≤ 2 ^ 64 - 1
  pub are_bytes : AreBytes payload

pub record IsRaw (node : ℕ) (bytes : List ℕ) : Type 0 where
  pub node_id : IsId node
  pub are_bytes : AreBytes bytes

pub record IsTick (node count : ℕ) : Type 0 where
  pub node_id : IsId node
  pub some : 1 ≤ count
  pub few : count ≤ 10000

pub record IsRange (range : Range) : Type 0 where
  pub in_order : range.first ≤ range.last
  pub below : range.last ≤ 2 ^ 62 - 1

pub record AreRanges (ranges : List Range) : Type 0 where
  pub some : 1 ≤ length ranges
  pub each : All IsRange ranges

pub record IsShow (node number : ℕ) : Type 0 where
  pub node_id : IsId node
  pub number_below : number ≤ 2 ^ 62 - 1

pub record IsPropose (from to view client serial : ℕ) (payload : List ℕ) : Type 0 where
  pub from_id : IsId from
  pub to_id : IsId to
  pub view_below : view ≤ 2 ^ 62 - 1
  pub client_below : client ≤ 2 ^ 32 - 1
  pub serial_below : serial ≤ 2 ^ 64 - 1
  pub few : length payload ≤ 65536
  pub are_bytes : AreBytes payload

pub record IsVote (from to view entry : ℕ) : Type 0 where
  pub from_id : IsId from
  pub to_id : IsId to
  pub view_below : view ≤ 2 ^ 62 - 1
  pub entry_below : entry ≤ 2 ^ 62 - 1

pub record IsLie (from to : ℕ) (bytes : List ℕ) : Type 0 where
  pub from_id : IsId from
  pub to_id : IsId to
  pub are_bytes : AreBytes bytes

pub record IsSeal (id : ℕ) (bytes : List ℕ) : Type 0 where
  pub id_below : id ≤ 2 ^ 32 - 1
  pub are_bytes : AreBytes bytes

-- what a fill writes is a byte
abbrev pub IsImage : Image → Type 0
IsImage Keep = Unit {0}
IsImage Undo = Unit {0}
IsImage (Fill byte) = byte < 256

pub record IsStop (node : ℕ) (image : Image) : Type 0 where
  pub node_id : IsId node
  pub is_image : IsImage image

pub record IsStopAt (node call : ℕ) (image : Image) : Type 0 where
  pub node_id : IsId node
  pub some : 1 ≤ call
  pub few : call ≤ 1000000
  pub is_image : IsImage image

pub record IsStart (node : ℕ) : Type 0 where
  pub node_id : IsId node

-- a command that a line may mean
abbrev pub IsWellFormed : Command → Type 0
IsWellFormed (Genesis members byzantine) = IsGenesisLine members byzantine
IsWellFormed (Submit node client serial payload) = IsSubmit node client serial payload
IsWellFormed (Raw node bytes) = IsRaw node bytes
IsWellFormed (Tick node count) = IsTick node count
IsWellFormed (Deliver ranges) = AreRanges ranges
IsWellFormed (Flush only) = IfSome only AreIds
IsWellFormed (Show node number) = IsShow node number
IsWellFormed (Propose from to view client serial payload) = IsPropose from to view client serial payload
IsWellFormed (Vote from to kind view entry) = IsVote from to view entry
IsWellFormed (Lie from to bytes) = IsLie from to bytes
IsWellFormed (Seal id bytes) = IsSeal id bytes
IsWellFormed (Stop node image) = IsStop node image
IsWellFormed (StopAt node call image) = IsStopAt node call image
IsWellFormed (Start node) = IsStart node
