-- Lemmas on a read of a node's ledger: it leaves the node as it was, and what it holds.
use Rattle.std.proofs.Common.{
  ◌≡◌,
  ◌≢◌,
  ℕ,
  ◌⊎◌,
  inl,
  inr,
  List,
  [],
  ◌∷◌,
  map,
  Option,
  Some,
  get_or,
  refl,
  sym,
  ap,
  ◌∙◌,
  subst,
}
use Rattle.std.specs.Prelude.{slice_get, string_bytes}
use Rattle.std.specs.List.{AllByRecursion}
use Rattle.std.proofs.Math.Path.{fun_ext}
use Rattle.std.proofs.lemmas.Bool.{cases_eq}
use Rattle.std.proofs.lemmas.Option.{same_Some}
use Rattle.safety_model.specs.Blocks.{Config}
use Rattle.gate_log.specs.Disk.{State, now}
use Rattle.gate_log.specs.History.{states}
use Rattle.script_play.specs.Turns.{Turn, Turned}
use Rattle.script_play.specs.declared.ending.Ending.{Ending}
use Rattle.signer_edge.specs.Accepts.{Accepts}
use Rattle.node_model.specs.Cores.{Core}
use Rattle.world_model.specs.Worlds as worlds
use Rattle.world_model.specs.Worlds.{Outcome}
use Rattle.bft_node.specs.Lodgings.{Becomes, IsRead, Lodging, ReadsAt, accepts_of}
use Rattle.bft_node.specs.Recovering.{Holds}
use Rattle.bft_node.specs.Stores.{config_of}
use Rattle.bft_node.specs.declared.lodged.Lodged.{Lodged}
use Rattle.bft_node.specs.declared.member.Node.{Node}
use Rattle.world_run.specs.Going.{Plays}
use Rattle.world_run.specs.Mapped.{Model, world_of}
use Rattle.world_run.specs.Members.{IsMember, IsSeated, node_of}
use Rattle.world_run.specs.Moves.{Reads}
use Rattle.world_run.specs.Sound.{IsSound, KeepsNodes}
use Rattle.world_run.specs.declared.member.Member.{Member}
use Rattle.world_run.specs.declared.world.World.{World}
use Rattle.world_run.proofs.CrashLemmas.{read_is}
use Rattle.world_run.proofs.GoingLemmas.{Turned-same}
use Rattle.world_run.proofs.MoveLemmas.{alike_self, sound_kept}
use Rattle.world_run.proofs.NodeLemmas.{node_there, node_with}

-- WHAT A READ LEAVES

-- each member's node is looked at as it was, and is seated where it was
pub record LooksAlike (c : Config) (before after : Lodging) : Type 0 where
  pub nodes : (member : Member) → node_of c after member ≡ node_of c before member
  pub seated : (accepts : Accepts) (member : Member) → IsMember c accepts before member
      → IsMember c accepts after member

seated_read : (c : Config) (accepts : Accepts) (id : ℕ) (old new : Lodged) → IsRead old new
    → IsSeated c accepts id old → IsSeated c accepts id new
seated_read c accepts id old new read seated =
    record {
      runs = ap (λ (n : Node). n.closed) read.node ∙ seated.runs;
      named = ap (λ (n : Node). n.running.id) read.node ∙ seated.named;
      config = ap (λ (n : Node). config_of n.running.store) read.node ∙ seated.config;
      holds = subst (λ (n : Node). Holds accepts n.running (now (states new.disk.history))) (sym read.node)
          (subst (λ (moments : List State). Holds accepts old.node.running (now moments))
          (sym read.disk.states_same) seated.holds);
    }

node_read : (c : Config) (before after : Lodging) (id : ℕ) (old new : Lodged) (member : Member)
    → before id ≡ Some old → IsRead old new → Becomes before after id (Some new)
    → ((member.id ≡ id) ⊎ (member.id ≢ id)) → node_of c after member ≡ node_of c before member
node_read c before after id old new member there read becomes (inl here) =
    node_there c after member new (ap after here ∙ becomes.there)
    ∙ ap (λ (n : Node). node_with member (record old { node = n })) read.node
    ∙ sym (node_there c before member old (ap before here ∙ there))
node_read c before after id old new member there read becomes (inr other) =
    rw (becomes.others member.id other) refl

member_read : (c : Config) (before after : Lodging) (id : ℕ) (old new : Lodged) (accepts : Accepts) (member : Member)
    → before id ≡ Some old → IsRead old new → Becomes before after id (Some new)
    → ((member.id ≡ id) ⊎ (member.id ≢ id)) → IsMember c accepts before member → IsMember c accepts after member
member_read c before after id old new accepts member there read becomes (inl here) is =
    let same : is.node ≡ old = same_Some is.node old (sym is.there ∙ ap before here ∙ there) in
    record {
      node = new;
      there = ap after here ∙ becomes.there;
      seated = seated_read c accepts member.id old new read
          (subst (λ (l : Lodged). IsSeated c accepts member.id l) same is.seated);
    }
member_read c before after id old new accepts member there read becomes (inr other) is =
    record { node = is.node; there = becomes.others member.id other ∙ is.there; seated = is.seated }

pub read_looks : (c : Config) (before after : Lodging) (id : ℕ) (old : Lodged) → before id ≡ Some old
    → ReadsAt before after id → LooksAlike c before after
read_looks c before after id old there reads =
    let read = reads old there in
    record {
      nodes = λ member. node_read c before after id old read.0 member there read.1 read.2 (cases_eq member.id id);
      seated = λ accepts member is.
          member_read c before after id old read.0 accepts member there read.1 read.2 (cases_eq member.id id) is;
    }

-- the node that was read is that of the member that stands at the place
pub reads_member : (at next : Lodging) (members : List Member) (place : ℕ) (read member : Member)
    → read ≡ get_or members place read → slice_get members place ≡ Some member → ReadsAt at next read.id
    → ReadsAt at next member.id
reads_member at next members place read member is has reads =
    subst (λ (m : Member). ReadsAt at next m.id) (read_is members place member read has is) reads

-- WHAT LOOKS ALIKE

world_looks : (at next : Lodging) (w : World) (later : List Outcome) → LooksAlike w.config at next
    → world_of next w later ≡ world_of at w later
world_looks at next w later looks =
    ap (λ (node : Member → worlds.Node Core). record (world_of at w later) { nodes = map node w.members.items })
    (fun_ext looks.nodes)

all_look : (P Q : Member → Type 0) → ((member : Member) → P member → Q member) → (members : List Member)
    → AllByRecursion P members → AllByRecursion Q members
all_look P Q weaker [] all = tt
all_look P Q weaker (x ∷ xs) all = (weaker x all.0, all_look P Q weaker xs all.1)

pub sound_looks : (at next : Lodging) (old new : World) → KeepsNodes old new → LooksAlike old.config at next
    → IsSound at old → IsSound next new
sound_looks at next old new keeps looks sound =
    let kept = sound_kept at at old new keeps (alike_self at) sound in
    let alike : LooksAlike new.config at next =
    subst (λ (c : Config). LooksAlike c at next) (sym keeps.config) looks in
    record {
      config = kept.config;
      ids = kept.ids;
      nodes = all_look _ _ (alike.seated (accepts_of new.outside.seat)) new.members.items kept.nodes;
    }

-- a call that reads of a node plays its turn by that move
pub plays_read : (at next : Lodging) (old new : World) (id : ℕ) (t u : Model → Turn Model) (ending : Option Ending)
    → KeepsNodes old new → ReadsAt at next id → LooksAlike old.config at next
    → ((later : List Outcome) → t (world_of at old later) ≡ u (world_of at old later))
    → ((later : List Outcome) → Turned (t (world_of at old later)) (string_bytes old.outside.text)
    (string_bytes new.outside.text) (world_of at new later) ending)
    → Plays at next old new u ending
plays_read at next old new id t u ending keeps reads looks same turned =
    let alike : LooksAlike new.config at next =
    subst (λ (c : Config). LooksAlike c at next) (sym keeps.config) looks in
    record {
      moves = Reads id ∷ [];
      made = (next, reads, alike_self next);
      config = keeps.config;
      so = λ later.
          subst (λ (w : Model). Turned (u (world_of at old later)) (string_bytes old.outside.text)
          (string_bytes new.outside.text) w ending) (sym (world_looks at next new later alike))
          (Turned-same (t (world_of at old later)) (u (world_of at old later)) _ _ _ ending (same later)
          (turned later));
      decided = λ quiet none. (refl, keeps.armed none);
    }
