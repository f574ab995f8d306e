-- Lemmas on lines about a node of the world, and about a liar.
use Rattle.std.proofs.Common.{◌≡◌, ℕ, true, false, List, [], ◌∷◌, Option, Result, Ok, Err, IfOk, OnOk, None, Some, refl, sym, ap, codes}
use Rattle.std.specs.Prelude.{string_bytes}
use Rattle.std.proofs.lemmas.Result.{IfOk-weaker}
use Rattle.gate_log.specs.declared.image.Image.{Image}
use Rattle.ord_types.specs.declared.lists.NoMemory.{NoMemory}
use Rattle.node_model.specs.Cores.{Core}
use Rattle.script_play.specs.Turns.{Turn, Turned}
use Rattle.script_play.specs.declared.ending.Ending.{Ending}
use Rattle.world_model.specs.Liars.{as_liar}
use Rattle.world_model.specs.Says.{refuses}
use Rattle.world_model.specs.Turns.{absence, at_node, at_stopped, stop_at_turn}
use Rattle.world_model.specs.Worlds as worlds
use Rattle.world_model.specs.Worlds.{Outcome}
use Rattle.bft_node.specs.Lodgings.{Lodging}
use Rattle.world_run.specs.Going.{ByMoves, Plays, Says}
use Rattle.world_run.specs.Lying.{bar_between, bar_text}
use Rattle.world_run.specs.Mapped.{Model, world_of}
use Rattle.world_run.specs.Members.{node_of}
use Rattle.world_run.specs.Moves.{Arms, IsArmedAt}
use Rattle.world_run.specs.Sound.{KeepsNodes}
use Rattle.world_run.specs.Whereabouts.{whereabouts_of}
use Rattle.world_run.specs.declared.liars.Bar.{Bar}
use Rattle.world_run.specs.declared.world.Whereabouts.TheVariants.{Absent, Running, Stopped}
use Rattle.world_run.specs.declared.world.World.{World}
use Rattle.world_run.proofs.GoingLemmas.{Turned-same}
use Rattle.world_run.proofs.LiarLemmas.{as_liar_barred, as_liar_may}
use Rattle.world_run.proofs.ListLemmas.{StandsAt, node_at_none, node_standing, where_absent, where_running, where_stopped}
use Rattle.world_run.proofs.MoveLemmas.{alike_self, by_weaker}
use Rattle.world_run.proofs.SaysLemmas.{plays_here, says_after}

-- ABOUT A NODE THAT RUNS

pub at_absent : (at : Lodging) (w : World) (later : List Outcome) (number id : ℕ) (turn : worlds.Node Core → Turn Model) → whereabouts_of id w.members.items ≡ Absent
    → at_node number (world_of at w later) id turn ≡ refuses number (absence (world_of at w later) id) (world_of at w later)
at_absent at w later number id turn is = rw (node_at_none w.config at id w.members.items (where_absent id w.members.items is)) refl

pub at_halted : (at : Lodging) (w : World) (later : List Outcome) (number id place : ℕ) (turn : worlds.Node Core → Turn Model) → whereabouts_of id w.members.items ≡ Stopped place
    → at_node number (world_of at w later) id turn ≡ refuses number (codes "stopped") (world_of at w later)
at_halted at w later number id place turn is =
    let stands = where_stopped id w.members.items place is in
    rw (node_standing w.config at id w.members.items place false stands, stands.runs) refl

pub at_running : (at : Lodging) (w : World) (later : List Outcome) (number id place : ℕ) (turn : worlds.Node Core → Turn Model) (stands : StandsAt id w.members.items place true)
    → at_node number (world_of at w later) id turn ≡ turn (node_of w.config at stands.member)
at_running at w later number id place turn stands = rw (node_standing w.config at id w.members.items place true stands, stands.runs) refl

-- a line about one that is absent, or stopped, says so
pub absent_says : (result : Result (Option Ending) NoMemory) (w new : World) (id : ℕ) (turn : Model → worlds.Node Core → Turn Model) → whereabouts_of id w.members.items ≡ Absent
    → IfOk result (Says w new (λ v. refuses w.outside.number (absence v id) v)) → IfOk result (Says w new (λ v. at_node w.outside.number v id (turn v)))
absent_says result w new id turn is says =
    says_after result w w new (λ (v : Model). refuses w.outside.number (absence v id) v) (λ (v : Model). at_node w.outside.number v id (turn v)) refl
    (λ at later. sym (at_absent at w later w.outside.number id (turn (world_of at w later)) is)) says

pub halted_says : (result : Result (Option Ending) NoMemory) (w new : World) (id place : ℕ) (turn : Model → worlds.Node Core → Turn Model) → whereabouts_of id w.members.items ≡ Stopped place
    → IfOk result (Says w new (refuses w.outside.number (codes "stopped"))) → IfOk result (Says w new (λ v. at_node w.outside.number v id (turn v)))
halted_says result w new id place turn is says =
    says_after result w w new (refuses w.outside.number (codes "stopped")) (λ (v : Model). at_node w.outside.number v id (turn v)) refl
    (λ at later. sym (at_halted at w later w.outside.number id place (turn (world_of at w later)) is)) says

-- ABOUT A STOPPED ONE

pub stopped_absent_says : (result : Result (Option Ending) NoMemory) (w new : World) (id : ℕ) (turn : Model → worlds.Node Core → Turn Model) → whereabouts_of id w.members.items ≡ Absent
    → IfOk result (Says w new (λ v. refuses w.outside.number (absence v id) v)) → IfOk result (Says w new (λ v. at_stopped w.outside.number v id (turn v)))
stopped_absent_says result w new id turn is says =
    says_after result w w new (λ (v : Model). refuses w.outside.number (absence v id) v) (λ (v : Model). at_stopped w.outside.number v id (turn v)) refl
    (λ at later. rw (node_at_none w.config at id w.members.items (where_absent id w.members.items is)) refl) says

pub running_says : (result : Result (Option Ending) NoMemory) (w new : World) (id place : ℕ) (turn : Model → worlds.Node Core → Turn Model) → whereabouts_of id w.members.items ≡ Running place
    → IfOk result (Says w new (refuses w.outside.number (codes "running"))) → IfOk result (Says w new (λ v. at_stopped w.outside.number v id (turn v)))
running_says result w new id place turn is says =
    let stands = where_running id w.members.items place is in
    says_after result w w new (refuses w.outside.number (codes "running")) (λ (v : Model). at_stopped w.outside.number v id (turn v)) refl
    (λ at later. rw (node_standing w.config at id w.members.items place true stands, stands.runs) refl) says

pub at_stopped_one : (at : Lodging) (w : World) (later : List Outcome) (number id place : ℕ) (turn : worlds.Node Core → Turn Model) (stands : StandsAt id w.members.items place false)
    → at_stopped number (world_of at w later) id turn ≡ turn (node_of w.config at stands.member)
at_stopped_one at w later number id place turn stands = rw (node_standing w.config at id w.members.items place false stands, stands.runs) refl

-- BY A LIAR

pub barred_says : (result : Result (Option Ending) NoMemory) (w new : World) (from to : ℕ) (bar : Bar) (turn : Model → Turn Model)
    → ((at : Lodging) (later : List Outcome) → bar_between (world_of at w later) from to ≡ Some bar)
    → IfOk result (Says w new (refuses w.outside.number (bar_text bar))) → IfOk result (Says w new (λ v. as_liar w.outside.number v from to (turn v)))
barred_says result w new from to bar turn is says =
    says_after result w w new (refuses w.outside.number (bar_text bar)) (λ (v : Model). as_liar w.outside.number v from to (turn v)) refl
    (λ at later. sym (as_liar_barred w.outside.number (world_of at w later) from to bar (turn (world_of at w later)) (is at later))) says

pub may_says : (result : Result (Option Ending) NoMemory) (w new : World) (from to : ℕ) (turn : Model → Turn Model) → ((at : Lodging) (later : List Outcome) → bar_between (world_of at w later) from to ≡ None)
    → IfOk result (Says w new turn) → IfOk result (Says w new (λ v. as_liar w.outside.number v from to (turn v)))
may_says result w new from to turn is says =
    says_after result w w new turn (λ (v : Model). as_liar w.outside.number v from to (turn v)) refl
    (λ at later. sym (as_liar_may w.outside.number (world_of at w later) from to (turn (world_of at w later)) (is at later))) says

-- WHAT IS PLAYED

-- where the node runs, the turn of the line is that of the node
pub plays_running : (at next : Lodging) (w new : World) (id place : ℕ) (turn : Model → worlds.Node Core → Turn Model) (ending : Option Ending) (stands : StandsAt id w.members.items place true)
    → Plays at next w new (λ v. turn v (node_of w.config at stands.member)) ending → Plays at next w new (λ v. at_node w.outside.number v id (turn v)) ending
plays_running at next w new id place turn ending stands plays =
    by_weaker (Unit {0}) at next w new (λ v to. Turned (turn v (node_of w.config at stands.member)) (string_bytes w.outside.text) (string_bytes new.outside.text) to ending)
    (λ v to. Turned (at_node w.outside.number v id (turn v)) (string_bytes w.outside.text) (string_bytes new.outside.text) to ending)
    (λ first later turned.
    Turned-same (turn (world_of at w first) (node_of w.config at stands.member)) (at_node w.outside.number (world_of at w first) id (turn (world_of at w first))) _ _ _ ending
    (sym (at_running at w first w.outside.number id place (turn (world_of at w first)) stands)) turned)
    plays

-- the same of a turn that any node of this id has
pub running_plays : (result : Result (Option Ending) NoMemory) (at next : Lodging) (w new : World) (id place : ℕ) (turn : Model → worlds.Node Core → Turn Model) (stands : StandsAt id w.members.items place true)
    → IfOk result (Plays at next w new (λ v. turn v (node_of w.config at stands.member))) → IfOk result (Plays at next w new (λ v. at_node w.outside.number v id (turn v)))
running_plays result at next w new id place turn stands plays =
    IfOk-weaker result (Plays at next w new (λ v. turn v (node_of w.config at stands.member))) (Plays at next w new (λ v. at_node w.outside.number v id (turn v)))
    (λ ending by. plays_running at next w new id place turn ending stands by) plays

-- a liar's turn over the nodes that stand there
pub may_plays : (result : Result (Option Ending) NoMemory) (at : Lodging) (w new : World) (from to : ℕ) (turn : Model → Turn Model) → ((lodged : Lodging) (later : List Outcome) → bar_between (world_of lodged w later) from to ≡ None)
    → OnOk result (KeepsNodes w new)
    → IfOk result (λ ending. (later : List Outcome) → Turned (turn (world_of at w later)) (string_bytes w.outside.text) (string_bytes new.outside.text) (world_of at new later) ending)
    → IfOk result (Plays at at w new (λ v. as_liar w.outside.number v from to (turn v)))
may_plays (Ok ending) at w new from to turn is keeps turned =
    plays_here at at w new turn (λ (v : Model). as_liar w.outside.number v from to (turn v)) ending keeps (alike_self at)
    (λ later. sym (as_liar_may w.outside.number (world_of at w later) from to (turn (world_of at w later)) (is at later))) turned
may_plays (Err fault) at w new from to turn is keeps turned = tt

ok_same : (a b : Model) → ◌≡◌ {A = Result Model Ending} (Ok a) (Ok b) → a ≡ b
ok_same a b is = cc

-- a node's disk is armed
pub armed_plays : (at next : Lodging) (w new : World) (id place call : ℕ) (image : Image) (stands : StandsAt id w.members.items place true) → IsArmedAt at next stands.member.id call image
    → ((later : List Outcome) → Turned (stop_at_turn w.outside.number (world_of at w later) (node_of w.config at stands.member)) (string_bytes w.outside.text) (string_bytes new.outside.text) (world_of next new later) None)
    → ByMoves ⊥ at next w new (λ v to. Turned (at_node w.outside.number v id (λ node. stop_at_turn w.outside.number v node)) (string_bytes w.outside.text) (string_bytes new.outside.text) to None)
armed_plays at next w new id place call image stands armed turned =
    record {
      moves = Arms stands.member.id call image ∷ [];
      made = (next, armed, alike_self next);
      config = let first = (turned []).next in sym (ap (λ (v : Model). v.config) (ok_same _ _ first));
      so = λ later.
          Turned-same (stop_at_turn w.outside.number (world_of at w later) (node_of w.config at stands.member)) (at_node w.outside.number (world_of at w later) id (λ (node : worlds.Node Core). stop_at_turn w.outside.number (world_of at w later) node)) _ _ _ None
          (sym (at_running at w later w.outside.number id place (λ (node : worlds.Node Core). stop_at_turn w.outside.number (world_of at w later) node) stands)) (turned later);
      decided = λ no. absurd no;
    }
