-- Lemmas on what is done after a step of a node.
use Rattle.std.proofs.Common.{◌≡◌, ℕ, Global, Vec, ◌≤◌, false, List, ◌++◌, length, map, get_or, Option, Some, Result, Ok, Err, IfOk, OnOk, sym, ap, ◌∙◌, arith}
use Rattle.std.specs.List.{flat_map}
use Rattle.std.specs.Prelude.{slice_get, slice_set, string_bytes}
use Rattle.ord_types.specs.declared.lists.NoMemory.{NoMemory}
use Rattle.safety_model.specs.Blocks.{Request}
use Rattle.script_play.specs.Turns.{Turned}
use Rattle.script_play.specs.declared.ending.Ending.{Ending}
use Rattle.world_model.specs.Pools.{settled}
use Rattle.world_model.specs.Texts.{fact_text}
use Rattle.world_model.specs.Turns.{within_limit}
use Rattle.world_model.specs.Worlds as worlds
use Rattle.world_model.specs.Worlds.{Outcome}
use Rattle.bft_node.specs.Lodgings.{Lodging}
use Rattle.bft_node.specs.declared.live.Done.{Done}
use Rattle.bft_node.specs.declared.live.Out.{Out}
use Rattle.world_run.specs.Entries.{entry_of}
use Rattle.world_run.specs.Following.{Follows, network_after, world_with}
use Rattle.world_run.specs.Mapped.{world_of}
use Rattle.world_run.specs.Waiting.{waits_before}
use Rattle.world_run.specs.declared.member.Member.{Member}
use Rattle.world_run.specs.declared.network.Entry.{Entry}
use Rattle.world_run.specs.declared.world.World.{World}
use Rattle.world_run.proofs.CrashLemmas.{read_is}
use Rattle.world_run.proofs.GoingLemmas.{Turned-same}
use Rattle.world_run.proofs.ListLemmas.{length_longer}
use Rattle.world_run.proofs.WaitingLemmas.{runs_set, waits_longer}

-- MORE ENTRIES, AND A MEMBER THAT RUNS AS IT DID

pub within_longer : (w : World) (longer : List Entry) (more : List worlds.Entry) → map entry_of longer ≡ map entry_of w.outside.network.items ++ more → w.first_waiting ≤ length longer
within_longer w longer more is =
    let longer_is = length_longer w.outside.network.items longer more is in
    let within : w.first_waiting ≤ length w.outside.network.items = w.within in
    omega arith

pub passed_longer : (w : World) (place : ℕ) (old new : Member) (longer : List Entry) (more : List worlds.Entry) → slice_get w.members.items place ≡ Some old → new.id ≡ old.id → new.runs ≡ old.runs
    → map entry_of longer ≡ map entry_of w.outside.network.items ++ more → waits_before w.config w.first_waiting (slice_set w.members.items place new) longer ≡ false
passed_longer w place old new longer more has same runs is =
    waits_longer w.config w.config w.first_waiting w.members.items (slice_set w.members.items place new) w.outside.network.items longer more w.within is
    (runs_set w.members.items place old new has same (λ running. sym runs ∙ running)) w.passed

-- WHAT WAS DONE

pub followed : (result : Result (Option Ending) NoMemory) (old new : World) (place : ℕ) (read moved : Member) (out : Out) (members : Vec Member Global) (network : List Entry) (text : List ℕ)
    → read ≡ get_or old.members.items place read → moved.id ≡ read.id → moved.runs ≡ read.runs → moved.armed ≡ read.armed
    → ((delivered : List Request) → flat_map (λ (block : Done). block.ids) out.done ≡ map (λ (r : Request). r.id) delivered → moved.pool.items ≡ settled delivered read.pool.items)
    → members.items ≡ slice_set old.members.items place moved
    → map entry_of network ≡ network_after old read.id out
    → text ≡ string_bytes old.outside.text ++ flat_map (fact_text old.outside.number) out.facts
    → IfOk result (λ ending. (at : Lodging) (later : List Outcome) (before blocks : List ℕ) → text ≡ before ++ blocks
    → Turned (within_limit old.outside.number blocks (world_with at old members.items (map entry_of network) later)) before (string_bytes new.outside.text) (world_of at new later) ending)
    → OnOk result (new.members ≡ members) → OnOk result (new.config ≡ old.config) → OnOk result (new.outside.seat ≡ old.outside.seat) → OnOk result (new.outside.number ≡ old.outside.number)
    → IfOk result (λ ending. (member : Member) → slice_get old.members.items place ≡ Some member → Follows old new place member out ending)
followed (Err e) old new place read moved out members network text is id runs armed pool set sent printed turned kept config seat number = tt
followed (Ok ending) old new place read moved out members network text is id runs armed pool set sent printed turned kept config seat number = λ member has.
    let same : read ≡ member = read_is old.members.items place member read has is in
    let blocks = flat_map (fact_text old.outside.number) out.facts in
    let sends : map entry_of network ≡ network_after old member.id out = sent ∙ ap (λ (m : Member). network_after old m.id out) same in
    record {
      moved = moved;
      id = id ∙ ap (λ (m : Member). m.id) same;
      runs = runs ∙ ap (λ (m : Member). m.runs) same;
      armed = armed ∙ ap (λ (m : Member). m.armed) same;
      pool = λ delivered told. pool delivered told ∙ ap (λ (m : Member). settled delivered m.pool.items) same;
      members = ap (λ (v : Vec Member Global). v.items) kept ∙ set;
      config = config;
      seat = seat;
      number = number;
      turned = λ at later.
          Turned-same _ _ (string_bytes old.outside.text) (string_bytes new.outside.text) (world_of at new later) ending
          (ap (λ (ms : List Member). within_limit old.outside.number blocks (world_with at old ms (map entry_of network) later)) set
          ∙ ap (λ (es : List worlds.Entry). within_limit old.outside.number blocks (world_with at old (slice_set old.members.items place moved) es later)) sends)
          (turned at later (string_bytes old.outside.text) blocks printed);
    }
