-- Lemmas on lines that stop, arm or start one node.
use Rattle.std.proofs.Common.{◌≡◌, ℕ, true, List, ◌++◌, map, get_or, Some, None, Result, Ok, Err, OnOk, sym, ap, ◌∙◌, subst}
use Rattle.std.specs.Option.{option_map}
use Rattle.std.specs.Prelude.{slice_get, slice_set, string_bytes}
use Rattle.std.proofs.lemmas.Option.{same_Some}
use Rattle.ord_types.specs.declared.lists.NoMemory.{NoMemory}
use Rattle.gate_log.specs.declared.image.Image.{Image}
use Rattle.gate_log.specs.declared.memory.MemDisk.{MemDisk}
use Rattle.script_play.specs.Turns.{Turned}
use Rattle.signer_edge.specs.Seals.{Seat}
use Rattle.node_model.specs.Cores.{Core}
use Rattle.world_model.specs.Cores.{core_setting}
use Rattle.world_model.specs.Says.{says}
use Rattle.world_model.specs.Texts.{start_text, stop_at_text}
use Rattle.world_model.specs.Turns.{start_turn, stop_at_turn, stop_turn}
use Rattle.world_model.specs.Worlds as worlds
use Rattle.world_model.specs.Worlds.{Outcome}
use Rattle.bft_node.specs.Lodgings.{Becomes, Lodging, accepts_of, with_arm}
use Rattle.bft_node.specs.Recovering.{CrashesKeep}
use Rattle.bft_node.specs.declared.lodged.Lodged.{Lodged}
use Rattle.world_run.specs.Entries.{entry_of}
use Rattle.world_run.specs.Following.{Crashes, world_with}
use Rattle.world_run.specs.Going.{Plays}
use Rattle.world_run.specs.Mapped.{world_of}
use Rattle.world_run.specs.Members.{IsSeated, node_of}
use Rattle.world_run.specs.Moves.{IsArmedAt}
use Rattle.world_run.specs.Sound.{IsSound, KeepsNodes}
use Rattle.world_run.specs.declared.member.Member.{Member}
use Rattle.world_run.specs.declared.world.World.{World}
use Rattle.world_run.proofs.CrashLemmas.{crashes_behind, disk_of, read_is}
use Rattle.world_run.proofs.ListLemmas.{HasPlace, ids_of, ids_set, with_node_becomes, with_node_set}
use Rattle.world_run.proofs.NodeLemmas.{member_at, node_there, node_with, sound_becomes, unarmed_at, unarmed_set}
use Rattle.world_run.proofs.StopLemmas.{stop_played, stop_sound, stopped_still}

-- A STOP BETWEEN EVENTS

pub record StopsHere (at next : Lodging) (old new : World) (member : Member) : Type 0 where
  pub sound : IsSound next new
  pub plays : Plays at next old new (λ w. stop_turn core_setting old.outside.number w (node_of old.config at member)) None

-- what became of the member at this place
abbrev pub Stops : Lodging → Lodging → World → World → ℕ → Type 0
Stops at next old new place = (member : Member) → slice_get old.members.items place ≡ Some member → StopsHere at next old new member

pub stops_here : (result : Result (Unit {0}) NoMemory) (at mid next : Lodging) (old new : World) (place : ℕ) (read : Member) (disk : MemDisk) (image : Image) → CrashesKeep → IsSound at old
    → read ≡ get_or old.members.items place read → option_map (λ (l : Lodged). l.disk) (at read.id) ≡ Some disk → Becomes at mid read.id None
    → OnOk result ((member : Member) → slice_get old.members.items place ≡ Some member → Crashes mid next old new place member disk image) → OnOk result (Stops at next old new place)
stops_here (Err e) at mid next old new place read disk image keep sound is had gone crashes = tt
stops_here (Ok x) at mid next old new place read disk image keep sound is had gone crashes = λ member has.
    let here = member_at at old place member sound has in
    let l = here.node in
    let id : read.id ≡ member.id = ap (λ (m : Member). m.id) (read_is old.members.items place member read has is) in
    let same : disk ≡ l.disk = disk_of (at read.id) l disk had (ap at id ∙ here.there) in
    let left = crashes_behind at mid next old new place member disk image None (subst (λ (i : ℕ). Becomes at mid i None) id gone) (crashes member has) in
    let crashed = subst (λ (d : MemDisk). Crashes at next old new place member d image) same left in
    let again = stopped_still old member.id l crashed.node image crashed.left keep here.seated crashed.crash crashed.opened in
    record { sound = stop_sound at next old new place member l image sound has crashed again; plays = stop_played at next old new place member l image sound has here.there crashed again }

pub stopped_sound : (result : Result (Unit {0}) NoMemory) (at next : Lodging) (old new : World) (place : ℕ) → (member : Member) × (slice_get old.members.items place ≡ Some member) → OnOk result (Stops at next old new place)
    → OnOk result (IsSound next new)
stopped_sound (Err e) at next old new place there stops = tt
stopped_sound (Ok x) at next old new place there stops = (stops there.0 there.1).sound

pub stopped_plays : (result : Result (Unit {0}) NoMemory) (at next : Lodging) (old new : World) (place : ℕ) → OnOk result (Stops at next old new place)
    → OnOk result ((member : Member) → slice_get old.members.items place ≡ Some member → Plays at next old new (λ w. stop_turn core_setting old.outside.number w (node_of old.config at member)) None)
stopped_plays (Err e) at next old new place stops = tt
stopped_plays (Ok x) at next old new place stops = λ member has. (stops member has).plays

-- nobody stands there any more
pub gone_there : (mid at : Lodging) (xs : List Member) (place : ℕ) (read : Member) → read ≡ get_or xs place read → Becomes at mid read.id None → (member : Member) → slice_get xs place ≡ Some member → mid member.id ≡ None
gone_there mid at xs place read is gone member has = ap (λ (m : Member). mid m.id) (sym (read_is xs place member read has is)) ∙ gone.there

-- A LINE THAT IS SAID of one member

said_of : (at next : Lodging) (w : World) (members : List Member) (said text : List ℕ) (node : worlds.Node Core)
    → worlds.with_node node (map (node_of w.config at) w.members.items) ≡ map (node_of w.config next) members → text ≡ string_bytes w.outside.text ++ said → (later : List Outcome)
    → Turned (says said (record (world_of at w later) { nodes = worlds.with_node node (map (node_of w.config at) w.members.items) })) (string_bytes w.outside.text) text
    (world_with next w members (map entry_of w.outside.network.items) later) None
said_of at next w members said text node becomes printed later =
    record { printed = printed; next = ap (λ (ns : List (worlds.Node Core)). Ok (record (world_of at w later) { nodes = ns })) becomes }

-- AN ARM

seated_armed : (w : World) (id call : ℕ) (image : Image) (l : Lodged) → IsSeated w.config (accepts_of w.outside.seat) id l → IsSeated w.config (accepts_of w.outside.seat) id (with_arm call image l)
seated_armed w id call image l seated =
    record { runs = seated.runs; named = seated.named; config = seated.config; holds = seated.holds }

pub armed_there : (at next : Lodging) (w : World) (place : ℕ) (read : Member) (call : ℕ) (image : Image) → IsSound at w → read ≡ get_or w.members.items place read
    → Becomes at next read.id (option_map (with_arm call image) (at read.id)) → (member : Member) → slice_get w.members.items place ≡ Some member → IsArmedAt at next member.id call image
armed_there at next w place read call image sound is becomes member has =
    let here = member_at at w place member sound has in
    let id : read.id ≡ member.id = ap (λ (m : Member). m.id) (read_is w.members.items place member read has is) in
    let moved = subst (λ (i : ℕ). Becomes at next i (option_map (with_arm call image) (at i))) id becomes in
    (here.node, here.there, record { there = moved.there ∙ ap (option_map (with_arm call image)) here.there; others = moved.others })

pub armed_sound : (at next : Lodging) (old new : World) (place : ℕ) (read : Member) (call : ℕ) (image : Image) → IsSound at old → (there : (member : Member) × (slice_get old.members.items place ≡ Some member))
    → read ≡ get_or old.members.items place read → Becomes at next read.id (option_map (with_arm call image) (at read.id)) → new.config ≡ old.config → new.outside.seat ≡ old.outside.seat
    → new.members.items ≡ slice_set old.members.items place (record read { armed = true }) → IsSound next new
armed_sound at next old new place read call image sound there is becomes config seat members =
    let member = there.0 in
    let has = there.1 in
    let here = member_at at old place member sound has in
    let armed = armed_there at next old place read call image sound is becomes member has in
    let l = armed.0 in
    let same : here.node ≡ l = same_Some here.node l (sym here.there ∙ armed.1) in
    let seated = seated_armed old member.id call image l (subst (λ (x : Lodged). IsSeated old.config (accepts_of old.outside.seat) member.id x) same here.seated) in
    sound_becomes at next old new place member (record read { armed = true }) (with_arm call image l) sound has (ap (λ (m : Member). m.id) (read_is old.members.items place member read has is)) armed.2
    (subst (λ (s : Seat). IsSeated old.config (accepts_of s) member.id (with_arm call image l)) (sym seat) seated)
    (λ t sig h. subst (λ (s : Seat). accepts_of s t sig ≡ true) (sym seat) h) config members

pub armed_turned : (at next : Lodging) (w : World) (place : ℕ) (read : Member) (call : ℕ) (image : Image) (text : List ℕ) → IsSound at w → read ≡ get_or w.members.items place read
    → Becomes at next read.id (option_map (with_arm call image) (at read.id)) → text ≡ string_bytes w.outside.text ++ stop_at_text w.outside.number read.id
    → (member : Member) → slice_get w.members.items place ≡ Some member → (later : List Outcome)
    → Turned (stop_at_turn w.outside.number (world_of at w later) (node_of w.config at member)) (string_bytes w.outside.text) text
    (world_with next w (slice_set w.members.items place (record read { armed = true })) (map entry_of w.outside.network.items) later) None
armed_turned at next w place read call image text sound is becomes printed member has later =
    let same : read ≡ member = read_is w.members.items place member read has is in
    let armed = armed_there at next w place read call image sound is becomes member has in
    let l = armed.0 in
    let moved : Member = record read { armed = true } in
    let id : moved.id ≡ member.id = ap (λ (m : Member). m.id) same in
    let old_node = node_there w.config at member l armed.1 in
    let node : ◌≡◌ {A = worlds.Node Core} (record (node_of w.config at member) { armed = true }) (node_of w.config next moved) =
    ap (λ (n : worlds.Node Core). record n { armed = true }) (old_node ∙ ap (λ (m : Member). node_with m l) (sym same)) ∙ sym (node_there w.config next moved (with_arm call image l) (ap next id ∙ armed.2.there)) in
    said_of at next w (slice_set w.members.items place moved) (stop_at_text w.outside.number member.id) text (record (node_of w.config at member) { armed = true })
    (ap (λ (n : worlds.Node Core). worlds.with_node n (map (node_of w.config at) w.members.items)) node
    ∙ with_node_becomes w.config at next w.members.items place member moved (Some (with_arm call image l)) sound.ids has id (subst (λ (i : ℕ). Becomes at next i (Some (with_arm call image l))) (sym id) armed.2))
    (printed ∙ ap (λ (i : ℕ). string_bytes w.outside.text ++ stop_at_text w.outside.number i) id) later

-- A START

pub started_keeps : (old new : World) (place : ℕ) (read : Member) → (there : (member : Member) × (slice_get old.members.items place ≡ Some member)) → read ≡ get_or old.members.items place read
    → new.config ≡ old.config → new.outside.seat ≡ old.outside.seat → new.outside.number ≡ old.outside.number → new.members.items ≡ slice_set old.members.items place (record read { runs = true }) → KeepsNodes old new
started_keeps old new place read there is config seat number members =
    let same : read ≡ there.0 = read_is old.members.items place there.0 read there.1 is in
    record {
      config = config;
      ids = ap ids_of members ∙ ids_set old.members.items place there.0 (record read { runs = true }) there.1 (ap (λ (m : Member). m.id) same);
      armed = λ none. unarmed_set old new place (record read { runs = true }) none (ap (λ (m : Member). m.armed) same ∙ unarmed_at old place there.0 none there.1) members;
      seals = λ t sig h. subst (λ (s : Seat). accepts_of s t sig ≡ true) (sym seat) h;
      number = number;
    }

pub started_turned : (w : World) (place : ℕ) (read : Member) (text : List ℕ) → read ≡ get_or w.members.items place read → text ≡ string_bytes w.outside.text ++ start_text w.outside.number read.id
    → ((member : Member) → slice_get w.members.items place ≡ Some member → HasPlace member.id w.members.items place) → (member : Member) → slice_get w.members.items place ≡ Some member → (at : Lodging) (later : List Outcome)
    → Turned (start_turn w.outside.number (world_of at w later) (node_of w.config at member)) (string_bytes w.outside.text) text
    (world_with at w (slice_set w.members.items place (record read { runs = true })) (map entry_of w.outside.network.items) later) None
started_turned w place read text is printed first member has at later =
    let same : read ≡ member = read_is w.members.items place member read has is in
    said_of at at w (slice_set w.members.items place (record read { runs = true })) (start_text w.outside.number member.id) text (worlds.node_started (node_of w.config at member))
    (with_node_set w.config at w.members.items place (record member { runs = true }) (first member has)
    ∙ ap (λ (m : Member). map (node_of w.config at) (slice_set w.members.items place (record m { runs = true }))) (sym same))
    (printed ∙ ap (λ (m : Member). string_bytes w.outside.text ++ start_text w.outside.number m.id) same) later
