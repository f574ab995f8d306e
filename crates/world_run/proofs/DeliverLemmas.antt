-- Lemmas on the delivery of an entry.
use Rattle.std.proofs.Common.{◌≡◌, ℕ, ◌<◌, List, [], length, map, get_or, set, slice_get, true, Option, Some, None, refl, sym, subst}
use Rattle.std.specs.Prelude.{string_bytes}
use Rattle.std.proofs.lemmas.List.{map-set}
use Rattle.node_model.specs.declared.event.Event.TheVariants.{FromMember}
use Rattle.script_play.specs.declared.ending.Ending.{Ending}
use Rattle.script_play.specs.Turns.{Turned}
use Rattle.world_model.specs.Cores.{core_setting}
use Rattle.world_model.specs.Turns.{delivery, event_turn, says}
use Rattle.world_model.specs.Worlds as worlds
use Rattle.world_model.specs.Worlds.{Outcome}
use Rattle.bft_node.specs.Lodgings.{Lodging}
use Rattle.world_run.specs.Entries.{entry_of}
use Rattle.world_run.specs.Going.{Plays}
use Rattle.world_run.specs.Mapped.{Model, world_of}
use Rattle.world_run.specs.Members.{node_of}
use Rattle.world_run.specs.declared.network.Entry.{Entry}
use Rattle.world_run.specs.declared.world.World.{World}
use Rattle.world_run.proofs.GoingLemmas.{Turned-same, plays_silent}
use Rattle.world_run.proofs.ListLemmas.{StandsAt, entry_read, running_standing}
use Rattle.world_run.proofs.MoveLemmas.{alike_self, by_none, by_then}

-- an entry that has come
abbrev pub arrived : Entry → Entry
arrived e = record e { came = true }

-- the entry at this place is marked, and nothing else is another
pub record Marks (at : ℕ) (read : Entry) (old new : World) : Type 0 where
  pub config : new.config ≡ old.config
  pub byzantine : new.byzantine ≡ old.byzantine
  pub members : new.members.items ≡ old.members.items
  pub network : new.outside.network.items ≡ set old.outside.network.items at (arrived read)
  pub seat : new.outside.seat ≡ old.outside.seat
  pub number : new.outside.number ≡ old.outside.number
  pub text : new.outside.text ≡ old.outside.text

marked_is : (l : Lodging) (old new : World) (at : ℕ) (read : Entry) (later : List Outcome) → Marks at read old new → world_of l new later ≡ worlds.marked at (entry_of read) (world_of l old later)
marked_is l old new at read later marks =
    rw (marks.config, marks.byzantine, marks.members, marks.network, marks.seat, map-set entry_of old.outside.network.items at (arrived read)) refl

-- no node that runs is the receiver, and the message is lost
pub delivered_nowhere : (l : Lodging) (w : World) (number at : ℕ) (read : Entry) (e : worlds.Entry) → at < length w.outside.network.items → read ≡ get_or w.outside.network.items at read
    → ((lodged : Lodging) (later : List Outcome) → worlds.running_at read.to (world_of lodged w later).nodes ≡ None) → slice_get (map entry_of w.outside.network.items) at ≡ Some e
    → Plays l l w w (delivery core_setting number at e) None
delivered_nowhere l w number at read e within is none has =
    let known = entry_read w.outside.network.items at read e within is has in
    plays_silent l w (delivery core_setting number at e)
    (λ later. subst (λ (x : worlds.Entry). delivery core_setting number at x (world_of l w later) ≡ says [] (world_of l w later)) known (rw (none l later) refl))

-- what the receiver's event is
event_is : (l : Lodging) (old new : World) (at place : ℕ) (read : Entry) (bytes : List ℕ) (later : List Outcome) (stands : StandsAt read.to old.members.items place true) → Marks at read old new
    → bytes ≡ read.bytes.value
    → delivery core_setting old.outside.number at (entry_of read) (world_of l old later) ≡ event_turn core_setting new.outside.number (world_of l new later) (node_of new.config l stands.member) (FromMember read.from bytes)
event_is l old new at place read bytes later stands marks same =
    rw (running_standing old.config l read.to old.members.items place stands, marked_is l old new at read later marks, marks.config, marks.number, same) refl

-- the receiver takes the message once the entry is marked
pub delivered_to_node : (l next : Lodging) (old marked new : World) (at place : ℕ) (read : Entry) (bytes : List ℕ) (e : worlds.Entry) (ending : Option Ending) (stands : StandsAt read.to old.members.items place true)
    → Marks at read old marked → at < length old.outside.network.items → read ≡ get_or old.outside.network.items at read → slice_get (map entry_of old.outside.network.items) at ≡ Some e → bytes ≡ read.bytes.value
    → Plays l next marked new (λ w. event_turn core_setting marked.outside.number w (node_of marked.config l stands.member) (FromMember read.from bytes)) ending
    → Plays l next old new (delivery core_setting old.outside.number at e) ending
delivered_to_node l next old marked new at place read bytes e ending stands marks within is has same plays =
    let known = entry_read old.outside.network.items at read e within is has in
    let node = node_of marked.config l stands.member in
    let taken = λ (w : Model). event_turn core_setting marked.outside.number w node (FromMember read.from bytes) in
    by_then (Unit {0}) l l next old marked new
    (λ w to. taken to ≡ delivery core_setting old.outside.number at (entry_of read) w)
    (λ w to. Turned (taken w) (string_bytes marked.outside.text) (string_bytes new.outside.text) to ending)
    (λ w to. Turned (delivery core_setting old.outside.number at e w) (string_bytes old.outside.text) (string_bytes new.outside.text) to ending)
    (λ first second third p q.
    subst (λ (x : worlds.Entry). Turned (delivery core_setting old.outside.number at x (world_of l old first)) (string_bytes old.outside.text) (string_bytes new.outside.text) (world_of next new third) ending) known
    (Turned-same (taken (world_of l marked second)) (delivery core_setting old.outside.number at (entry_of read) (world_of l old first)) _ _ (world_of next new third) ending p (rw (← marks.text) q)))
    (by_none (Unit {0}) l l old marked (λ w to. taken to ≡ delivery core_setting old.outside.number at (entry_of read) w) (alike_self l) marks.config (λ none. rw marks.members none)
    (λ later. sym (event_is l old marked at place read bytes later stands marks same)))
    plays
