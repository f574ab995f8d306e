-- What becomes of a member after an event of its node, and after a crash of its disk.
use Rattle.std.specs.Prelude.{◌≡◌, ℕ, ◌<◌, false, List, [], ◌++◌, map, Option, Some, slice_set, string_bytes}
use Rattle.std.specs.List.{flat_map}
use Rattle.safety_model.specs.Blocks.{Request}
use Rattle.script_play.specs.Turns.{Turned}
use Rattle.script_play.specs.declared.ending.Ending.{Ending}
use Rattle.gate_log.specs.Disk.{MayLeave, now}
use Rattle.gate_log.specs.History.{states}
use Rattle.gate_log.specs.declared.image.Image.{Image}
use Rattle.gate_log.specs.declared.memory.MemDisk.{MemDisk}
use Rattle.node_model.specs.declared.event.Event.{Event}
use Rattle.world_model.specs.Cores.{core_setting}
use Rattle.world_model.specs.Pools.{settled}
use Rattle.world_model.specs.Texts.{fact_text, stopped_text}
use Rattle.world_model.specs.Turns.{event_turn, within_limit}
use Rattle.world_model.specs.Worlds as worlds
use Rattle.world_model.specs.Worlds.{Outcome}
use Rattle.bft_node.specs.Lodgings.{Becomes, IsOpenedOn, Lodging, accepts_of}
use Rattle.bft_node.specs.Making.{sent_of}
use Rattle.bft_node.specs.declared.live.Done.{Done}
use Rattle.bft_node.specs.declared.live.Out.{Out}
use Rattle.bft_node.specs.declared.lodged.Lodged.{Lodged}
use Rattle.world_run.specs.Entries.{entry_of, posted}
use Rattle.world_run.specs.Going.{Plays}
use Rattle.world_run.specs.Mapped.{Model, world_of}
use Rattle.world_run.specs.Members.{node_of}
use Rattle.world_run.specs.Moves.{IsCrashOf, setup_of}
use Rattle.world_run.specs.Sound.{IsSound}
use Rattle.world_run.specs.declared.member.Member.{Member}
use Rattle.world_run.specs.declared.world.World.{World}

-- the world of the model with these members and this network
abbrev pub world_with : Lodging → World → List Member → List worlds.Entry → List Outcome → Model
world_with at w members network later =
    record {
      config = w.config;
      byzantine = w.byzantine;
      nodes = map (node_of w.config at) members;
      network = network;
      seals = w.outside.seat.seals;
      told = tt;
      outcomes = later;
    }

-- what was sent before, and what a step of a node sends
abbrev pub network_after : World → ℕ → Out → List worlds.Entry
network_after w id out = map entry_of w.outside.network.items ++ posted id (map sent_of out.sends)

-- What a step did is printed and sent, and the requests of the blocks that it delivered leave the pool.
-- Nothing else is another.
pub record Follows (old new : World) (place : ℕ) (member : Member) (out : Out) (ending : Option Ending)
    : Type 0 where
  pub moved : Member
  pub id : moved.id ≡ member.id
  pub runs : moved.runs ≡ member.runs
  pub armed : moved.armed ≡ member.armed
  pub pool : (delivered : List Request)
      → flat_map (λ (block : Done). block.ids) out.done ≡ map (λ r. r.id) delivered
      → moved.pool.items ≡ settled delivered member.pool.items
  pub members : new.members.items ≡ slice_set old.members.items place moved
  pub config : new.config ≡ old.config
  pub seat : new.outside.seat ≡ old.outside.seat
  pub number : new.outside.number ≡ old.outside.number
  pub turned : (at : Lodging) (later : List Outcome)
      → Turned (within_limit old.outside.number (flat_map (fact_text old.outside.number) out.facts)
      (world_with at old (slice_set old.members.items place moved) (network_after old member.id out) later))
      (string_bytes old.outside.text) (string_bytes new.outside.text) (world_of at new later) ending

-- What a crash leaves of a disk: the image in force.
pub record IsLeftOf (image : Image) (old new : MemDisk) : Type 0 where
  pub image_is : IsCrashOf image old new
  pub may_be : (file : ℕ) → file < 3
      → MayLeave (now (states old.history) file) (now (states new.history) file).reads

-- A node is opened again on what a crash leaves of this disk. Its member is stopped, and its pool is lost.
pub record Crashes (before after : Lodging) (old new : World) (place : ℕ) (member : Member) (disk : MemDisk)
    (image : Image) : Type 0 where
  pub left : MemDisk
  pub crash : IsLeftOf image disk left
  pub node : Lodged
  pub opened : IsOpenedOn (setup_of old.config member.id) (accepts_of old.outside.seat) left node
  pub becomes : Becomes before after member.id (Some node)
  pub moved : Member
  pub id : moved.id ≡ member.id
  pub runs : moved.runs ≡ false
  pub armed : moved.armed ≡ false
  pub pool : moved.pool.items ≡ []
  pub members : new.members.items ≡ slice_set old.members.items place moved
  pub config : new.config ≡ old.config
  pub byzantine : new.byzantine ≡ old.byzantine
  pub network : new.outside.network ≡ old.outside.network
  pub seals : new.outside.seat.seals ≡ old.outside.seat.seals
  pub number : new.outside.number ≡ old.outside.number
  pub text : string_bytes new.outside.text
      ≡ string_bytes old.outside.text ++ stopped_text old.outside.number member.id

-- What an event of a node comes to: the turn of the model.
pub record TakesEvent (at next : Lodging) (old new : World) (member : Member) (event : Event)
    (ending : Option Ending) : Type 0 where
  pub sound : IsSound next new
  pub plays : Plays at next old new
      (λ w. event_turn core_setting old.outside.number w (node_of old.config at member) event) ending
  pub number : new.outside.number ≡ old.outside.number
