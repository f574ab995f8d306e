-- Lemmas on a step of a node, and the world after it.
use Rattle.std.proofs.Common.{
  ◌≡◌,
  ℕ,
  Global,
  Vec,
  Bool,
  true,
  false,
  cond,
  ltb,
  length,
  List,
  [],
  ◌∷◌,
  ◌++◌,
  map,
  Option,
  Some,
  Ok,
  refl,
  sym,
  ap,
  ◌∙◌,
  subst,
}
use Rattle.std.specs.List.{flat_map}
use Rattle.std.specs.Prelude.{slice_get, slice_set, string_bytes}
use Rattle.std.proofs.lemmas.List.{map-append}
use Rattle.std.proofs.lemmas.Option.{same_Some}
use Rattle.ord_types.specs.declared.values.ReqId.{ReqId}
use Rattle.safety_model.specs.Blocks.{Config, Request}
use Rattle.safety_model.specs.declared.fact.Fact.{Fact}
use Rattle.script_play.specs.Turns.{Turned}
use Rattle.script_play.specs.declared.ending.Ending.{Ending}
use Rattle.signer_edge.specs.Seals.{Seat, is_sealed}
use Rattle.signer_edge.specs.Signing.{KeepsAccepted}
use Rattle.signer_edge.specs.declared.boxes.SealSeat.{SealSeat}
use Rattle.signer_edge.proofs.SealFacts.{is_sealed-grown}
use Rattle.signer_edge.specs.declared.seals.Seal.{Seal}
use Rattle.block_ledger.specs.Chains.{Entry as Stored}
use Rattle.node_model.specs.declared.event.Event.{Event}
use Rattle.node_model.specs.Cores.{Core, after_entries}
use Rattle.node_model.specs.Entries as entries
use Rattle.node_model.specs.Entries.{Entry, deeds_of, facts_of, posts_of, statements_of, stored_of}
use Rattle.world_model.specs.Cores.{core_keeping, core_setting}
use Rattle.world_model.specs.Texts.{fact_text}
use Rattle.world_model.specs.Turns.{event_goes, event_turn, within_limit}
use Rattle.world_model.specs.Worlds as worlds
use Rattle.world_model.specs.Worlds.{GoesOn, Outcome, outcome_in, requests_of, seals_of, sent_by}
use Rattle.bft_node.specs.Lodgings.{Becomes, IsStepOf, Lodging, accepts_of}
use Rattle.bft_node.specs.Making.{done_of, sends_of, sent_of, text_of}
use Rattle.bft_node.specs.Running.{chain_of, state_of}
use Rattle.bft_node.specs.declared.live.Done.{Done}
use Rattle.bft_node.specs.declared.live.Out.{Out}
use Rattle.bft_node.specs.declared.lodged.Lodged.{Lodged}
use Rattle.world_run.specs.Entries.{entry_of, posted}
use Rattle.world_run.specs.Following.{Follows, network_after, world_with}
use Rattle.world_run.specs.Going.{Plays}
use Rattle.world_run.specs.Mapped.{Model, world_of}
use Rattle.world_run.specs.Members.{IsSeated, node_of}
use Rattle.world_run.specs.Moves.{Takes, making, outcomes_of}
use Rattle.world_run.specs.Sound.{IsSound}
use Rattle.world_run.specs.declared.member.Member.{Member}
use Rattle.world_run.specs.declared.member.Outside.{Outside}
use Rattle.world_run.specs.declared.world.World.{World}
use Rattle.world_run.proofs.GoingLemmas.{Turned-same}
use Rattle.world_run.proofs.ListLemmas.{with_node_becomes}
use Rattle.world_run.proofs.MoveLemmas.{alike_self}
use Rattle.world_run.proofs.NodeLemmas.{node_there, node_with, seat_of, sound_becomes, unarmed_at, unarmed_set}
use Rattle.world_run.proofs.SealLemmas.{signed_in}

-- WHAT IS DONE: the ids of the blocks that a step tells are those of the requests that it delivered

abbrev ids_in : Done → List ReqId
ids_in block = block.ids

abbrev id_of : Request → ReqId
id_of request = request.id

abbrev requests_in : Stored → List Request
requests_in stored = stored.0.requests

all_done : (stored : List Stored)
    → flat_map ids_in (map done_of stored) ≡ map id_of (flat_map requests_in stored)
all_done [] = refl
all_done (block ∷ stored) =
    ap (λ (ids : List ReqId). map id_of (requests_in block) ++ ids) (all_done stored)
    ∙ sym (map-append id_of (requests_in block) (flat_map requests_in stored))

-- A STEP THAT WENT THROUGH left what the entries of the model's step leave.
pub record Stepped (c : Config) (seat : Seat) (l new : Lodged) (event : Event) (after : Seat) (out : Out)
    (made : List Entry) : Type 0 where
  pub state : state_of new.node.running ≡ after_entries made (state_of l.node.running)
  pub ledger : chain_of new.node.running ≡ chain_of l.node.running ++ stored_of made
  pub facts : out.facts ≡ facts_of made
  pub sends : map sent_of out.sends ≡ sends_of made
  pub done : flat_map ids_in out.done ≡ map id_of (requests_of made)
  pub seals : after.seals ≡ seat.seals ++ seals_of seat.id (statements_of made)
  pub seated : IsSeated c (accepts_of after) seat.id new

pub stepped : (c : Config) (seat : Seat) (l new : Lodged) (event : Event) (after : Seat) (out : Out)
    → IsSeated c (accepts_of seat) seat.id l → IsStepOf l new event seat after (Ok out)
    → Stepped c seat l new event after out (making seat.id seat l event)
stepped c seat l new event after out seated is =
    let signed = signed_in l new event seat after (Ok out) seated.runs is in
    let step = signed.takes.steps in
    let made = making seat.id seat l event in
    record {
      state = step.state;
      ledger = step.chain;
      facts = step.facts;
      sends = step.sends;
      done = ap (λ (ds : List Done). flat_map ids_in ds) step.done ∙ all_done (stored_of made);
      seals = ap (λ (s : Seat). s.seals) signed.seat
          ∙ ap (λ (statements : List (List ℕ)). seat.seals ++ seals_of seat.id statements) step.signed_all;
      seated =
          record {
            runs = is.closes;
            named = is.id ∙ seated.named;
            config = is.config ∙ seated.config;
            holds = signed.takes.holds refl seated.holds;
          };
    }

-- THE WORLD AFTER IT

posted_is : (i : ℕ) (posts : List entries.Post) → posted i (map text_of posts) ≡ sent_by i posts
posted_is i [] = refl
posted_is i (post ∷ posts) =
    ap (λ (es : List worlds.Entry). record {
      from = i;
      to = post.to;
      bytes = (text_of post).bytes;
      came = false;
    } ∷ es) (posted_is i posts)

pub same_node : (i j : ℕ) (r s : Core) (p q : List Request) (k l : List Stored) (a b c d : Bool) → i ≡ j → r ≡ s
    → p ≡ q → k ≡ l → a ≡ b → c ≡ d
    → ◌≡◌ {A = worlds.Node Core}
    (record { id = i; state = r; pool = p; ledger = k; runs = a; armed = c })
    (record { id = j; state = s; pool = q; ledger = l; runs = b; armed = d })
same_node i j r s p q k l a b c d e f g h m n = rw (e, f, g, h, m, n) refl

pub same_model : (c d : Config) (b b' : List ℕ) (ns ms : List (worlds.Node Core)) (es fs : List worlds.Entry)
    (ss ts : List Seal) (later : List Outcome) → c ≡ d → b ≡ b' → ns ≡ ms → es ≡ fs → ss ≡ ts
    → ◌≡◌ {A = Model}
    (record { config = c; byzantine = b; nodes = ns; network = es; seals = ss; told = tt; outcomes = later })
    (record { config = d; byzantine = b'; nodes = ms; network = fs; seals = ts; told = tt; outcomes = later })
same_model c d b b' ns ms es fs ss ts later p q r s t = rw (p, q, r, s, t) refl

-- what stands between a step and what is done after it: the seat signed
pub record Between (old mid : World) (after : Seat) : Type 0 where
  pub config : mid.config ≡ old.config
  pub byzantine : mid.byzantine ≡ old.byzantine
  pub members : mid.members ≡ old.members
  pub outside : mid.outside ≡ record old.outside { seat = after }

module _ (at next : Lodging) (old mid new : World) (place : ℕ) (member : Member) (l node : Lodged) (event : Event)
    (after : Seat) (out : Out) (ending : Option Ending) (sound : IsSound at old)
    (has : slice_get old.members.items place ≡ Some member) (runs : member.runs ≡ true)
    (there : at member.id ≡ Some l) (becomes : Becomes at next member.id (Some node))
    (did : Stepped old.config (seat_of old member.id) l node event after out
    (making member.id (seat_of old member.id) l event))
    (between : Between old mid after) (follows : Follows mid new place member out ending) where
  abbrev m : List Entry
  m = making member.id (seat_of old member.id) l event

  node_is : worlds.node_after core_keeping (node_with member l) m ≡ node_of old.config next follows.moved
  node_is =
      same_node _ _ _ _ _ _ _ _ _ _ _ _ (sym follows.id) (sym did.state)
      (sym (follows.pool (requests_of m) did.done)) (sym did.ledger) (sym (follows.runs ∙ runs)) (sym follows.armed)
      ∙ sym (node_there old.config next follows.moved node (ap next follows.id ∙ becomes.there))

  nodes_are : worlds.with_node (worlds.node_after core_keeping (node_with member l) m)
      (map (node_of old.config at) old.members.items)
      ≡ map (node_of mid.config next) (slice_set mid.members.items place follows.moved)
  nodes_are =
      ap (λ (n : worlds.Node Core). worlds.with_node n (map (node_of old.config at) old.members.items)) node_is
      ∙ with_node_becomes old.config at next old.members.items place member follows.moved (Some node) sound.ids has
      follows.id (subst (λ (i : ℕ). Becomes at next i (Some node)) (sym follows.id) becomes)
      ∙ ap (λ (c : Config). map (node_of c next) (slice_set old.members.items place follows.moved))
      (sym between.config)
      ∙ ap (λ (v : Vec Member Global). map (node_of mid.config next) (slice_set v.items place follows.moved))
      (sym between.members)

  network_is : map entry_of old.outside.network.items ++ sent_by member.id (posts_of m)
      ≡ network_after mid member.id out
  network_is =
      ap (λ (es : List worlds.Entry). map entry_of old.outside.network.items ++ es)
      (sym (posted_is member.id (posts_of m)) ∙ ap (posted member.id) (sym did.sends))
      ∙ ap (λ (o : Outside). map entry_of o.network.items ++ posted member.id (map sent_of out.sends))
      (sym between.outside)

  seals_are : old.outside.seat.seals ++ seals_of member.id (statements_of m) ≡ mid.outside.seat.seals
  seals_are = sym did.seals ∙ ap (λ (o : Outside). o.seat.seals) (sym between.outside)

  world_is : (later : List Outcome)
      → worlds.world_after core_setting (world_of at old later) (node_with member l) m
      ≡ world_with next mid (slice_set mid.members.items place follows.moved)
      (network_after mid member.id out) later
  world_is later =
      same_model _ _ _ _ _ _ _ _ _ _ later (sym between.config) (sym between.byzantine) nodes_are network_is
      seals_are

  -- an event that goes on
  goes : (later : List Outcome)
      → Turned (event_goes core_setting old.outside.number (world_of at old later) (node_with member l) event)
      (string_bytes old.outside.text) (string_bytes new.outside.text) (world_of next new later) ending
  goes later =
      let number : mid.outside.number ≡ old.outside.number = ap (λ (o : Outside). o.number) between.outside in
      let text : string_bytes mid.outside.text ≡ string_bytes old.outside.text =
      ap (λ (o : Outside). string_bytes o.text) between.outside in
      let w = world_with next mid (slice_set mid.members.items place follows.moved)
      (network_after mid member.id out) later in
      subst (λ (before : List ℕ).
      Turned (event_goes core_setting old.outside.number (world_of at old later) (node_with member l) event) before
      (string_bytes new.outside.text) (world_of next new later) ending) text
      (Turned-same _ _ (string_bytes mid.outside.text) (string_bytes new.outside.text) (world_of next new later)
      ending
      (ap (λ (n : ℕ). within_limit n (flat_map (fact_text n) out.facts) w) number
      ∙ ap (λ (fs : List Fact). within_limit old.outside.number (flat_map (fact_text old.outside.number) fs) w)
      did.facts
      ∙ ap (λ (x : Model). within_limit old.outside.number (flat_map (fact_text old.outside.number) (facts_of m)) x)
      (sym (world_is later)))
      (follows.turned next later))

  keeps_all : KeepsAccepted (accepts_of old.outside.seat) (accepts_of new.outside.seat)
  keeps_all = λ t sig h.
      let sealed = seals_of member.id (statements_of m) in
      let seals : new.outside.seat.seals ≡ old.outside.seat.seals ++ sealed =
      ap (λ (s : SealSeat). s.seals) follows.seat ∙ sym seals_are in
      subst (λ (box : List Seal). is_sealed box t sig ≡ true) (sym seals)
      (is_sealed-grown old.outside.seat.seals sealed t sig h)

  config_is : new.config ≡ old.config
  config_is = follows.config ∙ between.config

  members_are : new.members.items ≡ slice_set old.members.items place follows.moved
  members_are =
      follows.members ∙ ap (λ (v : Vec Member Global). slice_set v.items place follows.moved) between.members

  seat_is : new.outside.seat ≡ after
  seat_is = follows.seat ∙ ap (λ (o : Outside). o.seat) between.outside

  pub sound_after : IsSound next new
  sound_after =
      sound_becomes at next old new place member follows.moved node sound has follows.id becomes
      (subst (λ (s : Seat). IsSeated old.config (accepts_of s) member.id node) (sym seat_is) did.seated) keeps_all
      config_is members_are

  pub number_after : new.outside.number ≡ old.outside.number
  number_after = follows.number ∙ ap (λ (o : Outside). o.number) between.outside

-- an event that goes on does so, whatever its deeds
either_goes : (b : Bool) → cond b GoesOn GoesOn ≡ GoesOn
either_goes true = refl
either_goes false = refl

goes_in : (made : List Entry) → outcome_in made GoesOn ≡ GoesOn
goes_in made = either_goes (ltb 0 (length (deeds_of made)))

-- with the outcome, where the node is armed
turn_taken : (b : Bool) (number : ℕ) (at : Lodging) (old : World) (later : List Outcome) (node : worlds.Node Core)
    (id : ℕ) (event : Event) (seat after : Seat) (out : Out) → node.armed ≡ b
    → event_goes core_setting number (world_of at old later) node event
    ≡ event_turn core_setting number
    (world_of at old (outcomes_of (Takes id event b seat after out ∷ []) ++ later)) node event
unfolding event_turn
turn_taken true number at old later node id event seat after out armed =
    let made : List Entry = worlds.making core_setting (world_of at old (GoesOn ∷ later)) node event in
    rw (armed, goes_in made) refl
turn_taken false number at old later node id event seat after out armed = rw armed refl

quiet_taken : (b : Bool) (id : ℕ) (event : Event) (seat after : Seat) (out : Out) → b ≡ false
    → outcomes_of (Takes id event b seat after out ∷ []) ≡ []
quiet_taken true id event seat after out is = absurd (cc)
quiet_taken false id event seat after out is = refl

-- AN EVENT THAT WENT THROUGH
pub event_taken : (at next : Lodging) (old mid new : World) (place : ℕ) (member : Member) (l node : Lodged)
    (event : Event) (after : Seat) (out : Out) (ending : Option Ending) → IsSound at old
    → slice_get old.members.items place ≡ Some member → member.runs ≡ true → at member.id ≡ Some l
    → Becomes at next member.id (Some node) → IsStepOf l node event (seat_of old member.id) after (Ok out)
    → Stepped old.config (seat_of old member.id) l node event after out
    (making member.id (seat_of old member.id) l event)
    → Between old mid after → Follows mid new place member out ending
    → Plays at next old new
    (λ w. event_turn core_setting old.outside.number w (node_of old.config at member) event) ending
event_taken at next old mid new place member l node event after out ending sound has runs there becomes is did
    between follows =
    let seat = seat_of old member.id in
    let move = Takes member.id event member.armed seat after out in
    record {
      moves = move ∷ [];
      made = (
        next,
        (λ l' there'. (
          node,
          subst (λ (x : Lodged). IsStepOf x node event seat after (Ok out)) (same_Some l l' (sym there ∙ there')) is,
          becomes,
        )),
        alike_self next,
      );
      config = config_is at next old mid new place member l node event after out ending sound has runs there becomes
          did between follows;
      so = λ later.
          Turned-same _ _ (string_bytes old.outside.text) (string_bytes new.outside.text) (world_of next new later)
          ending
          (turn_taken member.armed old.outside.number at old later (node_with member l) member.id event seat after
          out refl
          ∙ ap (λ (n : worlds.Node Core). event_turn core_setting old.outside.number
          (world_of at old (outcomes_of (move ∷ []) ++ later)) n event)
          (sym (node_there old.config at member l there)))
          (goes at next old mid new place member l node event after out ending sound has runs there becomes did
          between follows later);
      decided = λ quiet none.
          let unarmed = unarmed_at old place member none has in (
            quiet_taken member.armed member.id event seat after out unarmed,
            unarmed_set old new place follows.moved none (follows.armed ∙ unarmed)
                (members_are at next old mid new place member l node event after out ending sound has runs there becomes
                did between follows),
          );
    }
