-- Lemmas on a node that is stopped, and the world after it.
use Rattle.std.proofs.Common.{
  ◌≡◌,
  ℕ,
  Global,
  Vec,
  true,
  false,
  ltb,
  lt-ltb,
  ◌≤◌,
  length,
  List,
  [],
  ◌∷◌,
  ◌++◌,
  map,
  take,
  Some,
  None,
  Ok,
  Err,
  refl,
  sym,
  ap,
  ◌∙◌,
  subst,
}
use Rattle.std.specs.Prelude.{slice_get, slice_set, string_bytes}
use Rattle.std.proofs.lemmas.List.{append-nil}
use Rattle.safety_model.specs.Blocks.{Config}
use Rattle.gate_log.specs.Arms.{is_reached}
use Rattle.gate_log.specs.Disk.{now}
use Rattle.gate_log.specs.History.{states}
use Rattle.gate_log.specs.declared.image.Image.{Image}
use Rattle.gate_log.specs.declared.image.Image.TheVariants.{Keep}
use Rattle.gate_log.specs.declared.memory.MemDisk.{MemDisk}
use Rattle.script_play.specs.Turns.{Turned}
use Rattle.signer_edge.specs.Accepts.{Accepts}
use Rattle.signer_edge.specs.Seals.{Seat, is_sealed}
use Rattle.signer_edge.specs.Signing.{KeepsAccepted}
use Rattle.signer_edge.specs.declared.seals.Seal.{Seal}
use Rattle.signer_edge.proofs.SealFacts.{is_sealed-grown}
use Rattle.block_ledger.specs.Chains.{Entry as Stored}
use Rattle.node_model.specs.declared.event.Event.{Event}
use Rattle.node_model.specs.Cores.{Core, after_entries, after_opening}
use Rattle.node_model.specs.Entries.{Entry, Opened, deeds_of, statements_of, stored_of}
use Rattle.node_model.proofs.RuleLemmas.{after_append}
use Rattle.world_model.specs.Cores.{core_keeping, core_setting}
use Rattle.world_model.specs.Says.{says}
use Rattle.world_model.specs.Texts.{stopped_text}
use Rattle.world_model.specs.Turns.{event_turn, stop_turn}
use Rattle.world_model.specs.Worlds as worlds
use Rattle.world_model.specs.Worlds.{Outcome, Stops, seals_of}
use Rattle.bft_node.specs.Lodgings.{
  Becomes,
  IsOpenedOn,
  IsStepOf,
  Lodging,
  accepts_of,
  files_of,
}
use Rattle.bft_node.specs.Recovering.{CrashesKeep, Keeps}
use Rattle.bft_node.specs.Running.{chain_of, state_of}
use Rattle.bft_node.specs.Stores.{config_of}
use Rattle.bft_node.specs.declared.lodged.Lodged.{Lodged}
use Rattle.bft_node.specs.declared.node_fault.NodeFault.TheVariants as fault_of
use Rattle.world_run.specs.Entries.{entry_of}
use Rattle.world_run.specs.Following.{Crashes, IsLeftOf}
use Rattle.world_run.specs.Going.{Plays}
use Rattle.world_run.specs.Mapped.{world_of}
use Rattle.world_run.specs.Members.{IsSeated, node_of}
use Rattle.world_run.specs.Moves.{
  Reopens,
  StopsIn,
  StopsNow,
  making,
  outcomes_of,
  setup_of,
}
use Rattle.world_run.specs.Sound.{IsSound}
use Rattle.world_run.specs.declared.member.Member.{Member}
use Rattle.world_run.specs.declared.member.Outside.{Outside}
use Rattle.world_run.specs.declared.network.Entry.{Entry as SentEntry}
use Rattle.world_run.specs.declared.world.World.{World}
use Rattle.world_run.proofs.GoingLemmas.{Turned-same}
use Rattle.world_run.proofs.ListLemmas.{with_node_becomes}
use Rattle.world_run.proofs.MoveLemmas.{alike_self}
use Rattle.world_run.proofs.NodeLemmas.{
  node_there,
  node_with,
  seat_of,
  sound_becomes,
  unarmed_at,
  unarmed_set,
}
use Rattle.world_run.proofs.SealLemmas.{signed_in}
use Rattle.world_run.proofs.StepLemmas.{Between, same_model, same_node}

-- A NODE THAT IS OPENED AGAIN after these entries has what the model's has.
pub record Reopened (c : Config) (accepts : Accepts) (id : ℕ) (l node : Lodged) (made : List Entry)
    : Type 0 where
  pub chain : chain_of node.node.running ≡ chain_of l.node.running ++ stored_of made
  pub state : state_of node.node.running ≡ after_opening (after_entries made (state_of l.node.running))
  pub seated : IsSeated c accepts id node

-- files that keep it so are opened to it
reopened : (c : Config) (accepts : Accepts) (id : ℕ) (l node : Lodged) (left : MemDisk) (made : List Entry)
    → config_of l.node.running.store ≡ c → l.node.running.id ≡ id → IsOpenedOn (setup_of c id) accepts left node
    → Keeps accepts (config_of l.node.running.store) l.node.running.id (files_of left)
    (chain_of l.node.running ++ stored_of made) (after_entries made (state_of l.node.running))
    → Reopened c accepts id l node made
reopened c accepts id l node left made config named is keeps =
    let chain = chain_of l.node.running ++ stored_of made in
    let core = after_entries made (state_of l.node.running) in
    let here : Keeps accepts c id (files_of left) chain core =
    subst (λ (i : ℕ). Keeps accepts c i (files_of left) chain core) named
    (subst (λ (c' : Config). Keeps accepts c' l.node.running.id (files_of left) chain core) config keeps) in
    let found = is.finds chain core here in
    record {
      chain = found.chain;
      state = found.state;
      seated = record { runs = is.runs; named = is.id; config = is.config; holds = found.holds };
    }

-- THE WORLD AFTER A STOP: the signatures stay, and nothing was sent

module _ (at next : Lodging) (old mid new : World) (place : ℕ) (member : Member) (l : Lodged) (after : Seat)
    (disk : MemDisk) (image : Image) (made : List Entry) (sound : IsSound at old)
    (has : slice_get old.members.items place ≡ Some member) (between : Between old mid after)
    (crashed : Crashes at next mid new place member disk image)
    (seals : after.seals ≡ old.outside.seat.seals ++ seals_of member.id (statements_of made))
    (again : Reopened old.config (accepts_of after) member.id l crashed.node made) where
  abbrev stopped_node : worlds.Node Core
  stopped_node = worlds.node_stopped core_keeping (node_with member l) made

  state_is : after_entries (made ++ Opened ∷ []) (state_of l.node.running) ≡ state_of crashed.node.node.running
  state_is = after_append made (Opened ∷ []) (state_of l.node.running) ∙ sym again.state

  node_is : stopped_node ≡ node_of old.config next crashed.moved
  node_is =
      same_node _ _ _ _ _ _ _ _ _ _ _ _ (sym crashed.id) state_is (sym crashed.pool) (sym again.chain)
      (sym crashed.runs) (sym crashed.armed)
      ∙ sym (node_there old.config next crashed.moved crashed.node (ap next crashed.id ∙ crashed.becomes.there))

  config_is : new.config ≡ old.config
  config_is = crashed.config ∙ between.config

  members_are : new.members.items ≡ slice_set old.members.items place crashed.moved
  members_are =
      crashed.members ∙ ap (λ (v : Vec Member Global). slice_set v.items place crashed.moved) between.members

  nodes_are : worlds.with_node stopped_node (map (node_of old.config at) old.members.items)
      ≡ map (node_of new.config next) new.members.items
  nodes_are =
      ap (λ (n : worlds.Node Core). worlds.with_node n (map (node_of old.config at) old.members.items)) node_is
      ∙ with_node_becomes old.config at next old.members.items place member crashed.moved (Some crashed.node)
      sound.ids has crashed.id
      (subst (λ (i : ℕ). Becomes at next i (Some crashed.node)) (sym crashed.id) crashed.becomes)
      ∙ ap (λ (c : Config). map (node_of c next) (slice_set old.members.items place crashed.moved)) (sym config_is)
      ∙ ap (map (node_of new.config next)) (sym members_are)

  seals_are : new.outside.seat.seals ≡ old.outside.seat.seals ++ seals_of member.id (statements_of made)
  seals_are = crashed.seals ∙ ap (λ (o : Outside). o.seat.seals) between.outside ∙ seals

  world_is : (later : List Outcome)
      → worlds.world_stopped core_setting (world_of at old later) (node_with member l) made
      ≡ world_of next new later
  world_is later =
      same_model _ _ _ _ _ _ _ _ _ _ later (sym config_is) (sym (crashed.byzantine ∙ between.byzantine)) nodes_are
      (ap (λ (es : Vec SentEntry Global). map entry_of es.items)
      (sym (crashed.network ∙ ap (λ (o : Outside). o.network) between.outside)))
      (sym seals_are)

  says_stopped : (later : List Outcome)
      → Turned
      (says (stopped_text old.outside.number member.id)
      (worlds.world_stopped core_setting (world_of at old later) (node_with member l) made))
      (string_bytes old.outside.text) (string_bytes new.outside.text) (world_of next new later) None
  says_stopped later =
      record {
        printed = crashed.text
            ∙ ap (λ (o : Outside). string_bytes o.text ++ stopped_text o.number member.id) between.outside;
        next = ap Ok (world_is later);
      }

  keeps_all : KeepsAccepted (accepts_of old.outside.seat) (accepts_of new.outside.seat)
  keeps_all = λ t sig h.
      subst (λ (box : List Seal). is_sealed box t sig ≡ true) (sym seals_are)
      (is_sealed-grown old.outside.seat.seals (seals_of member.id (statements_of made)) t sig h)

  pub sound_stopped : IsSound next new
  sound_stopped =
      sound_becomes at next old new place member crashed.moved crashed.node sound has crashed.id crashed.becomes
      (subst (λ (box : List Seal). IsSeated old.config (is_sealed box) member.id crashed.node)
      (sym (seals_are ∙ sym seals)) again.seated)
      keeps_all config_is members_are

  pub number_stopped : new.outside.number ≡ old.outside.number
  number_stopped = crashed.number ∙ ap (λ (o : Outside). o.number) between.outside

-- A DISK THAT STOPPED IN A STEP opens to the first of the step's entries, and what was signed is what these signed.
pub record StoppedIn (c : Config) (seat : Seat) (l node : Lodged) (event : Event) (after : Seat) : Type 0 where
  pub cut : ℕ
  pub some : 1 ≤ length (deeds_of (making seat.id seat l event))
  pub seals : after.seals ≡ seat.seals ++ seals_of seat.id (statements_of (take cut (making seat.id seat l event)))
  pub again : Reopened c (accepts_of after) seat.id l node (take cut (making seat.id seat l event))

pub stopped_in : (c : Config) (seat : Seat) (l failed node : Lodged) (event : Event) (after : Seat) (image : Image)
    (left : MemDisk) → IsSeated c (accepts_of seat) seat.id l
    → IsStepOf l failed event seat after (Err fault_of.Disk) → IsLeftOf image failed.disk left
    → IsOpenedOn (setup_of c seat.id) (accepts_of after) left node → StoppedIn c seat l node event after
stopped_in c seat l failed node event after image left seated is crash opens =
    let signed = signed_in l failed event seat after (Err fault_of.Disk) seated.runs is in
    let leaves = signed.takes.leaves refl seated.holds (accepts_of after) (λ t sig h. h) (files_of left)
    crash.may_be in
    let cut = leaves.front.cut in
    record {
      cut = cut;
      some = signed.takes.limit;
      seals = ap (λ (s : Seat). s.seals) signed.seat
          ∙ ap (λ (statements : List (List ℕ)). seat.seals ++ seals_of seat.id statements) leaves.signed;
      again =
          reopened c (accepts_of after) seat.id l node left (take cut (making seat.id seat l event)) seated.config
          seated.named opens leaves.front.keeps;
    }

-- a test of what is so
lt_is : {n : ℕ} → 1 ≤ n → ltb 0 n ≡ true
lt_is {n} le = lt-ltb 0 n le

-- an armed node takes the outcome
turn_stopped : (number : ℕ) (at : Lodging) (old : World) (later : List Outcome) (node : worlds.Node Core) (id : ℕ)
    (event : Event) (seat after : Seat) (cut : ℕ) → node.armed ≡ true
    → ltb 0 (length (deeds_of (worlds.making core_setting (world_of at old (Stops cut ∷ later)) node event))) ≡ true
    → says (stopped_text number node.id)
    (worlds.world_stopped_in core_setting (world_of at old later) node event cut)
    ≡ event_turn core_setting number
    (world_of at old (outcomes_of (StopsIn id event seat after cut ∷ []) ++ later)) node event
unfolding event_turn
turn_stopped number at old later node id event seat after cut armed some = rw (armed, some) refl

-- AN EVENT IN WHICH THE NODE IS STOPPED
pub event_stopped : (at next : Lodging) (old mid new : World) (place : ℕ) (member : Member) (l failed : Lodged)
    (event : Event) (after : Seat) → IsSound at old → slice_get old.members.items place ≡ Some member
    → member.armed ≡ true → at member.id ≡ Some l
    → IsStepOf l failed event (seat_of old member.id) after (Err fault_of.Disk)
    → is_reached failed.disk.arm ≡ true → Between old mid after
    → (crashed : Crashes at next mid new place member failed.disk Keep)
    → IsOpenedOn (setup_of old.config member.id) (accepts_of after) crashed.left crashed.node
    → StoppedIn old.config (seat_of old member.id) l crashed.node event after
    → Plays at next old new
    (λ w. event_turn core_setting old.outside.number w (node_of old.config at member) event) None
event_stopped at next old mid new place member l failed event after sound has armed there is reached_it between
    crashed opens stopped =
    let seat = seat_of old member.id in
    let node = crashed.node in
    let cut = stopped.cut in
    let move = StopsIn member.id event seat after cut in
    let first = take cut (making member.id seat l event) in
    let again = stopped.again in
    let reopens : Reopens old.config after Keep failed node =
    record {
      disk = crashed.left;
      left = crashed.crash.image_is;
      opened = subst (λ (i : ℕ). IsOpenedOn (setup_of old.config i) (accepts_of after) crashed.left node)
          (sym opens.id) opens;
    } in
    record {
      moves = move ∷ [];
      made = (
        next,
        record {
          old = l;
          failed = failed;
          new = node;
          there = there;
          fails = is;
          reached = reached_it;
          reopens = reopens;
          left = record { chain = again.chain; state = again.state; seals = stopped.seals };
          becomes = crashed.becomes;
        },
        alike_self next,
      );
      config = config_is at next old mid new place member l after failed.disk Keep first sound has between crashed
          stopped.seals again;
      so = λ later.
          Turned-same _ _ (string_bytes old.outside.text) (string_bytes new.outside.text) (world_of next new later)
          None
          (turn_stopped old.outside.number at old later (node_with member l) member.id event seat after cut armed
          (lt_is stopped.some)
          ∙ ap (λ (n : worlds.Node Core). event_turn core_setting old.outside.number
          (world_of at old (outcomes_of (move ∷ []) ++ later)) n event)
          (sym (node_there old.config at member l there)))
          (says_stopped at next old mid new place member l after failed.disk Keep first sound has between crashed
          stopped.seals again later);
      decided = λ quiet none.
          absurd (let e : true ≡ false = sym armed ∙ unarmed_at old place member none has in cc);
    }

-- A STOP BETWEEN EVENTS

pub still : (w : World) → Between w w w.outside.seat
still w = record { config = refl; byzantine = refl; members = refl; outside = refl }

-- the disk opens to what the node held
pub stopped_still : (w : World) (id : ℕ) (l node : Lodged) (image : Image) (left : MemDisk) → CrashesKeep
    → IsSeated w.config (accepts_of w.outside.seat) id l → IsLeftOf image l.disk left
    → IsOpenedOn (setup_of w.config id) (accepts_of w.outside.seat) left node
    → Reopened w.config (accepts_of w.outside.seat) id l node []
stopped_still w id l node image left keep seated crash opens =
    let accepts = accepts_of w.outside.seat in
    let r = l.node.running in
    let keeps = keep accepts r (now (states l.disk.history)) seated.holds (files_of left) crash.may_be in
    reopened w.config accepts id l node left [] seated.config seated.named opens
    (subst (λ (chain : List Stored). Keeps accepts (config_of r.store) r.id (files_of left) chain (state_of r))
    (sym (append-nil (chain_of r))) keeps)

none_sealed : (w : World) (id : ℕ) → w.outside.seat.seals ≡ w.outside.seat.seals ++ seals_of id []
none_sealed w id = sym (append-nil w.outside.seat.seals)

pub stop_sound : (at next : Lodging) (old new : World) (place : ℕ) (member : Member) (l : Lodged) (image : Image)
    → IsSound at old → slice_get old.members.items place ≡ Some member
    → (crashed : Crashes at next old new place member l.disk image)
    → Reopened old.config (accepts_of old.outside.seat) member.id l crashed.node [] → IsSound next new
stop_sound at next old new place member l image sound has crashed again =
    sound_stopped at next old old new place member l old.outside.seat l.disk image [] sound has (still old) crashed
    (none_sealed old member.id) again

pub stop_played : (at next : Lodging) (old new : World) (place : ℕ) (member : Member) (l : Lodged) (image : Image)
    → IsSound at old → slice_get old.members.items place ≡ Some member → at member.id ≡ Some l
    → (crashed : Crashes at next old new place member l.disk image)
    → Reopened old.config (accepts_of old.outside.seat) member.id l crashed.node []
    → Plays at next old new
    (λ w. stop_turn core_setting old.outside.number w (node_of old.config at member)) None
stop_played at next old new place member l image sound has there crashed again =
    let seat = old.outside.seat in
    let node = crashed.node in
    let reopens : Reopens old.config seat image l node =
    record {
      disk = crashed.left;
      left = crashed.crash.image_is;
      opened = subst (λ (i : ℕ). IsOpenedOn (setup_of old.config i) (accepts_of seat) crashed.left node)
          (sym crashed.opened.id) crashed.opened;
    } in
    record {
      moves = StopsNow member.id image seat ∷ [];
      made = (next, (l, node, there, reopens, crashed.becomes), alike_self next);
      config = crashed.config;
      so = λ later.
          Turned-same _ _ (string_bytes old.outside.text) (string_bytes new.outside.text) (world_of next new later)
          None
          (ap (λ (n : worlds.Node Core). stop_turn core_setting old.outside.number (world_of at old later) n)
          (sym (node_there old.config at member l there)))
          (says_stopped at next old old new place member l seat l.disk image [] sound has (still old) crashed
          (none_sealed old member.id) again later);
      decided = λ quiet none. (refl, unarmed_set old new place crashed.moved none crashed.armed crashed.members);
    }
