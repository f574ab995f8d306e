-- Lemmas on members that are read at their place, and on nodes that are taken away and opened again.
use Rattle.std.proofs.Common.{◌≡◌, ℕ, List, get_or, Option, Some, sym, ap, ◌∙◌}
use Rattle.std.specs.Option.{option_map}
use Rattle.std.specs.Prelude.{slice_get}
use Rattle.std.proofs.lemmas.Option.{same_Some, slice_get_within}
use Rattle.gate_log.specs.declared.image.Image.{Image}
use Rattle.gate_log.specs.declared.memory.MemDisk.{MemDisk}
use Rattle.bft_node.specs.Lodgings.{Becomes, Lodging}
use Rattle.bft_node.specs.declared.lodged.Lodged.{Lodged}
use Rattle.world_run.specs.Following.{Crashes}
use Rattle.world_run.specs.declared.member.Member.{Member}
use Rattle.world_run.specs.declared.world.World.{World}
use Rattle.world_run.proofs.ListLemmas.{read_at}

-- what is read at a place is what stands there
pub read_is : {X : Type 0} (xs : List X) (i : ℕ) (item read : X) → slice_get xs i ≡ Some item → read ≡ get_or xs i read → read ≡ item
read_is xs i item read has is = same_Some read item (sym (read_at xs i read (slice_get_within xs i item has) is) ∙ has)

-- one call after another at one node
pub becomes_then : (a b d : Lodging) (id : ℕ) (x y : Option Lodged) → Becomes a b id x → Becomes b d id y → Becomes a d id y
becomes_then a b d id x y one two = record { there = two.there; others = λ other ne. two.others other ne ∙ one.others other ne }

-- a node was taken away or became another, and is opened again
pub crashes_behind : (a b d : Lodging) (old new : World) (place : ℕ) (member : Member) (disk : MemDisk) (image : Image) (x : Option Lodged) → Becomes a b member.id x → Crashes b d old new place member disk image
    → Crashes a d old new place member disk image
crashes_behind a b d old new place member disk image x gone crashed =
    record {
      left = crashed.left;
      crash = crashed.crash;
      node = crashed.node;
      opened = crashed.opened;
      becomes = becomes_then a b d member.id x (Some crashed.node) gone crashed.becomes;
      moved = crashed.moved;
      id = crashed.id;
      runs = crashed.runs;
      armed = crashed.armed;
      pool = crashed.pool;
      members = crashed.members;
      config = crashed.config;
      byzantine = crashed.byzantine;
      network = crashed.network;
      seals = crashed.seals;
      number = crashed.number;
      text = crashed.text;
    }

-- the disk of the node that stands there
pub disk_of : (o : Option Lodged) (l : Lodged) (disk : MemDisk) → option_map (λ (l : Lodged). l.disk) o ≡ Some disk → o ≡ Some l → disk ≡ l.disk
disk_of o l disk is there = same_Some disk l.disk (sym is ∙ ap (option_map (λ (l : Lodged). l.disk)) there)
