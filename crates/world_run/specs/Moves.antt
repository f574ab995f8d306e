-- What a line does with the nodes and their disks, and which outcomes of events come of it.
use Rattle.std.specs.Prelude.{
  ◌≡◌,
  ℕ,
  ◌<◌,
  ◌++◌,
  Bool,
  true,
  false,
  List,
  [],
  ◌∷◌,
  take,
  Some,
  Ok,
  Err,
}
use Rattle.std.specs.List.{flat_map}
use Rattle.safety_model.specs.Blocks.{Config}
use Rattle.gate_log.specs.Arms.{image_in_force, is_reached}
use Rattle.gate_log.specs.Calls.{left_by}
use Rattle.gate_log.specs.Disk.{now, synced_file}
use Rattle.gate_log.specs.History.{states}
use Rattle.gate_log.specs.declared.image.Image.{Image}
use Rattle.gate_log.specs.declared.image.Image.TheVariants.{Keep}
use Rattle.gate_log.specs.declared.memory.MemDisk.{MemDisk}
use Rattle.signer_edge.specs.Seals.{Seat}
use Rattle.node_model.specs.Cores.{after_entries, after_opening}
use Rattle.node_model.specs.declared.event.Event.{Event}
use Rattle.node_model.specs.Entries.{Entry, statements_of, stored_of}
use Rattle.bft_node.specs.Lodgings.{
  Becomes,
  IsOpenedOn,
  IsStepOf,
  Lodging,
  ReadsAt,
  StaysAlike,
  StepsAt,
  accepts_of,
  with_arm,
}
use Rattle.bft_node.specs.NodeSteps.{step_from}
use Rattle.bft_node.specs.Running.{chain_of, state_of}
use Rattle.bft_node.specs.declared.live.Out.{Out}
use Rattle.bft_node.specs.declared.live.Setup.{Setup}
use Rattle.bft_node.specs.declared.lodged.Lodged.{Lodged}
use Rattle.bft_node.specs.declared.node_fault.NodeFault.TheVariants as fault_of
use Rattle.world_model.specs.Worlds.{Outcome, GoesOn, Stops, keys_of, seals_of}

pub data Move : Type 0 where
  -- a node is opened on this disk
  Opens : ℕ → MemDisk → Seat → Move
  -- it takes an event; it is armed or not
  Takes : ℕ → Event → Bool → Seat → Seat → Out → Move
  -- its disk stops in an event, after so many entries of its step
  StopsIn : ℕ → Event → Seat → Seat → ℕ → Move
  -- it is stopped between events, and its disk is left with this image
  StopsNow : ℕ → Image → Seat → Move
  -- its disk is armed
  Arms : ℕ → ℕ → Image → Move
  -- a block of its ledger is read
  Reads : ℕ → Move

abbrev pub setup_of : Config → ℕ → Setup
setup_of c id = record { me = id; genesis = c }

-- what a crash leaves of a disk: this image, or the armed one where the disk has stopped
abbrev pub IsCrashOf : Image → MemDisk → MemDisk → Type 0
IsCrashOf image old new =
    (file : ℕ) → file < 3
    → now (states new.history) file
    ≡ synced_file (left_by (image_in_force old.arm image) (now (states old.history) file))

-- the node of this id is opened again on what a crash leaves of its disk
pub record Reopens (c : Config) (seat : Seat) (image : Image) (old new : Lodged) : Type 0 where
  pub disk : MemDisk
  pub left : IsCrashOf image old.disk disk
  pub opened : IsOpenedOn (setup_of c new.node.running.id) (accepts_of seat) disk new

-- the disk of this node is armed, and nothing else is another
abbrev pub IsArmedAt : Lodging → Lodging → ℕ → ℕ → Image → Type 0
IsArmedAt before after id call image =
    (old : Lodged) × (before id ≡ Some old) × Becomes before after id (Some (with_arm call image old))

-- the entries of a step of the node, by the box of seals as it finds it
abbrev pub making : ℕ → Seat → Lodged → Event → List Entry
making id seat l event = step_from (keys_of seat.seals id) l.node.running event

-- It is found again as these entries of a step left it, but for the vote messages that it kept, and what they
-- signed is sealed.
pub record IsFoundAfter (id : ℕ) (made : List Entry) (seat seat_then : Seat) (old new : Lodged) : Type 0 where
  pub chain : chain_of new.node.running ≡ chain_of old.node.running ++ stored_of made
  pub state : state_of new.node.running ≡ after_opening (after_entries made (state_of old.node.running))
  pub seals : seat_then.seals ≡ seat.seals ++ seals_of id (statements_of made)

-- A node's disk stopped in an event, after so many entries of its step, and it is opened again on what it
-- left.
pub record StopsAfter (c : Config) (before after : Lodging) (id : ℕ) (event : Event) (seat seat_then : Seat)
    (cut : ℕ) : Type 0 where
  pub old : Lodged
  pub failed : Lodged
  pub new : Lodged
  pub there : before id ≡ Some old
  pub fails : IsStepOf old failed event seat seat_then (Err fault_of.Disk)
  pub reached : is_reached failed.disk.arm ≡ true
  pub reopens : Reopens c seat_then Keep failed new
  pub left : IsFoundAfter id (take cut (making id seat old event)) seat seat_then old new
  pub becomes : Becomes before after id (Some new)

abbrev pub IsMove : Config → Lodging → Lodging → Move → Type 0
IsMove c before after (Opens id disk seat) =
    (l : Lodged) × IsOpenedOn (setup_of c id) (accepts_of seat) disk l × Becomes before after id (Some l)
IsMove c before after (Takes id event armed seat seat_then out) =
    StepsAt before after id event seat seat_then (Ok out)
IsMove c before after (StopsIn id event seat seat_then cut) =
    StopsAfter c before after id event seat seat_then cut
IsMove c before after (StopsNow id image seat) =
    (old : Lodged) × (new : Lodged) × (before id ≡ Some old) × Reopens c seat image old new
    × Becomes before after id (Some new)
IsMove c before after (Arms id call image) = IsArmedAt before after id call image
IsMove c before after (Reads id) = ReadsAt before after id

-- one move after another
abbrev pub AreMoves : Config → Lodging → Lodging → List Move → Type 0
AreMoves c before after [] = StaysAlike before after
AreMoves c before after (move ∷ moves) =
    (mid : Lodging) × IsMove c before mid move × AreMoves c mid after moves

-- the outcome of a move, where it has one
abbrev pub outcome_of : Move → List Outcome
outcome_of (Opens id disk seat) = []
outcome_of (Takes id event true seat seat_then out) = GoesOn ∷ []
outcome_of (Takes id event false seat seat_then out) = []
outcome_of (StopsIn id event seat seat_then cut) = Stops cut ∷ []
outcome_of (StopsNow id image seat) = []
outcome_of (Arms id call image) = []
outcome_of (Reads id) = []

abbrev pub outcomes_of : List Move → List Outcome
outcomes_of moves = flat_map outcome_of moves
