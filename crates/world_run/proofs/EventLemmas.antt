-- Lemmas on an event of a node in the code's world.
use Rattle.std.proofs.Common.{◌≡◌, ℕ, true, List, get_or, Option, Some, None, Result, Ok, Err, IfOk, OnOk, take, sym, ap, ◌∙◌, subst}
use Rattle.std.specs.Prelude.{slice_get}
use Rattle.std.proofs.lemmas.Option.{same_Some}
use Rattle.ord_types.specs.declared.lists.NoMemory.{NoMemory}
use Rattle.gate_log.specs.Arms.{is_reached}
use Rattle.gate_log.specs.declared.image.Image.TheVariants.{Keep}
use Rattle.script_play.specs.declared.ending.Ending.{Ending}
use Rattle.safety_model.specs.Blocks.{Config, Request}
use Rattle.signer_edge.specs.Seals.{Seat}
use Rattle.world_model.specs.Cores.{core_keeping, core_setting}
use Rattle.world_model.specs.Turns.{event_turn, tick_at}
use Rattle.world_model.specs.Worlds.{offer_to}
use Rattle.bft_node.specs.Lodgings.{IsKeptIn, IsOpenedOn, IsStepOf, Lodging, StepsAt, accepts_of}
use Rattle.node_model.specs.declared.event.Event.{Event}
use Rattle.node_model.specs.declared.event.Event.TheVariants.{Tick}
use Rattle.bft_node.specs.declared.live.Out.{Out}
use Rattle.bft_node.specs.declared.lodged.Lodged.{Lodged}
use Rattle.bft_node.specs.declared.node_fault.NodeFault.TheVariants as fault_of
use Rattle.world_run.specs.AtPlaces.{AtPlace, HasRunning}
use Rattle.world_run.specs.Following.{Crashes, Follows, TakesEvent}
use Rattle.world_run.specs.Going.{Plays}
use Rattle.world_run.specs.Members.{node_of}
use Rattle.world_run.specs.Moves.{making, setup_of}
use Rattle.world_run.specs.Sound.{IsSound}
use Rattle.world_run.specs.declared.member.Member.{Member}
use Rattle.world_run.specs.declared.member.Outside.{Outside}
use Rattle.world_run.specs.declared.world.World.{World}
use Rattle.world_run.proofs.CrashLemmas.{crashes_behind, read_is}
use Rattle.world_run.proofs.NodeLemmas.{member_at, seat_of}
use Rattle.world_run.proofs.StepLemmas.{Between, event_taken, number_after, sound_after, stepped}
use Rattle.world_run.proofs.StopLemmas.{event_stopped, number_stopped, sound_stopped, stopped_in}

-- the member that is told is the one that was read
took_told : (at next : Lodging) (old new : World) (place : ℕ) (read : Member) (event : Event) (ending : Option Ending) → slice_get old.members.items place ≡ Some read → TakesEvent at next old new read event ending
    → (member : Member) → slice_get old.members.items place ≡ Some member → TakesEvent at next old new member event ending
took_told at next old new place read event ending has took member told = subst (λ (m : Member). TakesEvent at next old new m event ending) (same_Some read member (sym has ∙ told)) took

-- the member that was read stands at its place, and runs
pub record IsRead (w : World) (place : ℕ) (read : Member) : Type 0 where
  pub has : slice_get w.members.items place ≡ Some read
  pub runs : read.runs ≡ true

pub is_read : (w : World) (place : ℕ) (read : Member) → (member : Member) × (slice_get w.members.items place ≡ Some member) × (member.runs ≡ true) → read ≡ get_or w.members.items place read → IsRead w place read
is_read w place read there is =
    let same = read_is w.members.items place there.0 read there.1 is in
    record { has = there.1 ∙ ap (λ (m : Member). Some m) (sym same); runs = ap (λ (m : Member). m.runs) same ∙ there.2 }

-- a node keeps its disk
pub kept_there : (at : Lodging) (w : World) (place : ℕ) (member : Member) → IsSound at w → slice_get w.members.items place ≡ Some member → (l : Lodged) → at member.id ≡ Some l → IsKeptIn l
kept_there at w place member sound has l there =
    let here = member_at at w place member sound has in
    subst IsKeptIn (same_Some here.node l (sym here.there ∙ there)) (λ runs. here.seated.holds.kept)

-- it went through
pub event_went : (result : Result (Option Ending) NoMemory) (at next : Lodging) (old mid new : World) (place : ℕ)
    (read : Member) (event : Event) (seat after : Seat) (out : Out) → IsSound at old
    → slice_get old.members.items place ≡ Some read → read.runs ≡ true → seat ≡ seat_of old read.id
    → StepsAt at next read.id event seat after (Ok out)
    → IfOk result (λ ending. (member : Member) → slice_get mid.members.items place ≡ Some member
    → Follows mid new place member out ending)
    → Between old mid after
    → IfOk result (λ ending. (member : Member) → slice_get old.members.items place ≡ Some member
    → TakesEvent at next old new member event ending)
event_went (Err e) at next old mid new place read event seat after out sound has runs same steps follows between = tt
event_went (Ok ending) at next old mid new place read event seat after out sound has runs same steps follows between =
    let here = member_at at old place read sound has in
    let l = here.node in
    let stepped_to = steps l here.there in
    let node = stepped_to.0 in
    let is = subst (λ (s : Seat). IsStepOf l node event s after (Ok out)) same stepped_to.1 in
    let did = stepped old.config (seat_of old read.id) l node event after out here.seated is in
    let done = follows read (ap (λ v. slice_get v.items place) between.members ∙ has) in
    took_told at next old new place read event ending has
    (record {
      sound = sound_after at next old mid new place read l node event after out ending sound has runs here.there
          stepped_to.2 did between done;
      plays = event_taken at next old mid new place read l node event after out ending sound has runs here.there
          stepped_to.2 is did between done;
      number = number_after at next old mid new place read l node event after out ending sound has runs here.there
          stepped_to.2 did between done;
    })

-- its disk failed
pub event_failed : (at lodging next : Lodging) (old mid new : World) (place : ℕ) (read : Member) (event : Event)
    (seat after : Seat) → IsSound at old → slice_get old.members.items place ≡ Some read
    → seat ≡ seat_of old read.id → StepsAt at lodging read.id event seat after (Err fault_of.Disk)
    → AtPlace mid place (λ member. member.armed ≡ true)
    → AtPlace mid place (λ member. (failed : Lodged) → lodging member.id ≡ Some failed
    → (is_reached failed.disk.arm ≡ true) × Crashes lodging next mid new place member failed.disk Keep)
    → Between old mid after → AtPlace old place (λ member. TakesEvent at next old new member event None)
event_failed at lodging next old mid new place read event seat after sound has same steps armed crashes between =
    let here = member_at at old place read sound has in
    let l = here.node in
    let stepped_to = steps l here.there in
    let failed = stepped_to.0 in
    let is = subst (λ (s : Seat). IsStepOf l failed event s after (Err fault_of.Disk)) same stepped_to.1 in
    let there = ap (λ v. slice_get v.items place) between.members ∙ has in
    let crash = crashes read there failed stepped_to.2.there in
    let crashed = crashes_behind at lodging next mid new place read failed.disk Keep (Some failed) stepped_to.2
    crash.1 in
    let opens : IsOpenedOn (setup_of old.config read.id) (accepts_of after) crashed.left crashed.node =
    subst (λ (c : Config). IsOpenedOn (setup_of c read.id) (accepts_of after) crashed.left crashed.node)
    between.config
    (subst (λ (o : Outside).
    IsOpenedOn (setup_of mid.config read.id) (accepts_of o.seat) crashed.left crashed.node) between.outside
    crashed.opened) in
    let stopped = stopped_in old.config (seat_of old read.id) l failed crashed.node event after Keep crashed.left
    here.seated is crashed.crash opens in
    let first = take stopped.cut (making read.id (seat_of old read.id) l event) in
    took_told at next old new place read event None has
    (record {
      sound = sound_stopped at next old mid new place read l after failed.disk Keep first sound has between crashed
          stopped.seals stopped.again;
      plays = event_stopped at next old mid new place read l failed event after sound has (armed read there)
          here.there is crash.0 between crashed opens stopped;
      number = number_stopped at next old mid new place read l after failed.disk Keep first sound has between crashed
          stopped.seals stopped.again;
    })

-- WHAT FOLLOWS for a call that takes an event

-- what an event of the member at this place came to
abbrev pub Took : Lodging → Lodging → World → World → ℕ → Event → Option Ending → Type 0
Took at next old new place event ending = AtPlace old place (λ member. TakesEvent at next old new member event ending)

pub took_sound : (result : Result (Option Ending) NoMemory) (at next : Lodging) (old new : World) (place : ℕ) (event : Event) → HasRunning old place → IfOk result (Took at next old new place event) → OnOk result (IsSound next new)
took_sound (Ok ending) at next old new place event there took = (took there.0 there.1).sound
took_sound (Err e) at next old new place event there took = tt

pub took_number : (result : Result (Option Ending) NoMemory) (at next : Lodging) (old new : World) (place : ℕ) (event : Event) → HasRunning old place → IfOk result (Took at next old new place event)
    → OnOk result (new.outside.number ≡ old.outside.number)
took_number (Ok ending) at next old new place event there took = (took there.0 there.1).number
took_number (Err e) at next old new place event there took = tt

pub took_plays : (result : Result (Option Ending) NoMemory) (at next : Lodging) (old new : World) (place : ℕ) (event : Event) → IfOk result (Took at next old new place event)
    → IfOk result (λ ending. (member : Member) → slice_get old.members.items place ≡ Some member
    → Plays at next old new (λ w. event_turn core_setting old.outside.number w (node_of old.config at member) event) ending)
took_plays (Ok ending) at next old new place event took = λ member has. (took member has).plays
took_plays (Err e) at next old new place event took = tt

-- a tick brings what the pool offers
pub took_tick : (result : Result (Option Ending) NoMemory) (at next : Lodging) (old new : World) (place : ℕ) (offer : List Request)
    → ((member : Member) → slice_get old.members.items place ≡ Some member → offer ≡ offer_to core_keeping (node_of old.config at member)) → IfOk result (Took at next old new place (Tick offer))
    → IfOk result (λ ending. (member : Member) → slice_get old.members.items place ≡ Some member
    → Plays at next old new (λ w. tick_at core_setting old.outside.number w (Some (node_of old.config at member))) ending)
took_tick (Ok ending) at next old new place offer is took = λ member has.
    subst (λ (given : List Request). Plays at next old new (λ w. event_turn core_setting old.outside.number w (node_of old.config at member) (Tick given)) ending) (is member has) (took member has).plays
took_tick (Err e) at next old new place offer is took = tt
