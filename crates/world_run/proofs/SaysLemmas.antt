-- Lemmas on calls that say something and touch no node.
use Rattle.std.proofs.Common.{◌≡◌, ℕ, true, List, [], ◌∷◌, ◌++◌, Option, Result, Ok, Err, IfOk, OnOk, refl, sym, subst}
use Rattle.std.specs.Prelude.{string_bytes}
use Rattle.std.proofs.lemmas.Result.{IfOk-weaker, on_ok_weaker}
use Rattle.ord_types.specs.declared.lists.NoMemory.{NoMemory}
use Rattle.signer_edge.proofs.SealFacts.{is_sealed-grown}
use Rattle.signer_edge.specs.Seals.{Seat, is_sealed, with_seal}
use Rattle.signer_edge.specs.declared.seals.Seal.{Seal}
use Rattle.script_play.specs.Turns.{Turn, Turned}
use Rattle.script_play.specs.declared.ending.Ending.{Ending}
use Rattle.world_model.specs.Worlds as worlds
use Rattle.world_model.specs.Worlds.{Outcome}
use Rattle.bft_node.specs.Lodgings.{Lodging, StaysAlike}
use Rattle.world_run.specs.Going.{ByMoves, Plays, Says}
use Rattle.world_run.specs.Mapped.{Model, world_of}
use Rattle.world_run.specs.Sound.{IsSound, KeepsNodes}
use Rattle.world_run.specs.declared.world.World.{World}
use Rattle.world_run.proofs.GoingLemmas.{Turned-same}
use Rattle.world_run.proofs.MoveLemmas.{alike_self, by_none, plays_said, sound_kept, world_alike}

-- what is said after a call that prints nothing, told of the world before it
pub says_after : (result : Result (Option Ending) NoMemory) (old mid new : World) (t u : Model → Turn Model) → string_bytes mid.outside.text ≡ string_bytes old.outside.text
    → ((at : Lodging) (later : List Outcome) → t (world_of at mid later) ≡ u (world_of at old later)) → IfOk result (Says mid new t) → IfOk result (Says old new u)
says_after result old mid new t u begin same says =
    IfOk-weaker result (Says mid new t) (Says old new u)
    (λ ending said. λ at later.
    subst (λ (text : List ℕ). Turned (u (world_of at old later)) text (string_bytes new.outside.text) (world_of at new later) ending) begin
    (Turned-same (t (world_of at mid later)) (u (world_of at old later)) _ _ _ ending (same at later) (said at later)))
    says

-- the same turn by another name
pub says_same : (result : Result (Option Ending) NoMemory) (old new : World) (t u : Model → Turn Model) → ((w : Model) → t w ≡ u w) → IfOk result (Says old new t) → IfOk result (Says old new u)
says_same result old new t u same says = says_after result old old new t u refl (λ at later. same (world_of at old later)) says

-- the same where nodes stand at one lodging alone
pub said_at : (result : Result (Option Ending) NoMemory) (at : Lodging) (old new : World) (t u : Model → Turn Model) → ((later : List Outcome) → t (world_of at old later) ≡ u (world_of at old later))
    → IfOk result (Says old new t)
    → IfOk result (λ ending. (later : List Outcome) → Turned (u (world_of at old later)) (string_bytes old.outside.text) (string_bytes new.outside.text) (world_of at new later) ending)
said_at result at old new t u same says =
    IfOk-weaker result (Says old new t) (λ ending. (later : List Outcome) → Turned (u (world_of at old later)) (string_bytes old.outside.text) (string_bytes new.outside.text) (world_of at new later) ending)
    (λ ending said. λ later. Turned-same (t (world_of at old later)) (u (world_of at old later)) _ _ _ ending (same later) (said at later))
    says

-- the same of each entry for which a fact holds
pub said_of : (result : Result (Option Ending) NoMemory) (old new : World) (P : worlds.Entry → Type 0) (t : Model → Turn Model) (u : worlds.Entry → Model → Turn Model)
    → ((entry : worlds.Entry) → P entry → (w : Model) → t w ≡ u entry w)
    → IfOk result (Says old new t) → IfOk result (λ ending. (entry : worlds.Entry) → P entry → Says old new (u entry) ending)
said_of result old new P t u same says =
    IfOk-weaker result (Says old new t) (λ ending. (entry : worlds.Entry) → P entry → Says old new (u entry) ending)
    (λ ending said. λ entry is. λ at later. Turned-same (t (world_of at old later)) (u entry (world_of at old later)) _ _ _ ending (same entry is (world_of at old later)) (said at later))
    says

-- one more seal leaves the nodes alone
pub keeps_sealed : {T : Type 0} (result : Result T NoMemory) (old new : World) (seat : Seat) (statement : List ℕ) → new.config ≡ old.config → new.members ≡ old.members
    → new.outside.number ≡ old.outside.number → seat.seals ≡ old.outside.seat.seals → OnOk result (new.outside.seat ≡ with_seal seat statement) → OnOk result (KeepsNodes old new)
keeps_sealed result old new seat statement config members number same sealed =
    on_ok_weaker result
    (λ is. record {
      config = config;
      ids = rw members refl;
      armed = λ none. rw members none;
      seals = λ t sig good.
          subst (λ (s : Seat). is_sealed s.seals t sig ≡ true) (sym is)
          (subst (λ (box : List Seal). is_sealed (box ++ record { signer = seat.id; statement = statement } ∷ []) t sig ≡ true) (sym same)
          (is_sealed-grown old.outside.seat.seals (record { signer = seat.id; statement = statement } ∷ []) t sig good));
      number = number;
    })
    sealed

-- such a call leaves the nodes as they were seated
pub sound_after : {T : Type 0} (result : Result T NoMemory) (at : Lodging) (old new : World) → OnOk result (KeepsNodes old new) → IsSound at old → OnOk result (IsSound at new)
sound_after result at old new keeps sound = on_ok_weaker result (λ kept. sound_kept at at old new kept (alike_self at) sound) keeps

-- and plays its turn with no move
pub plays_after : (result : Result (Option Ending) NoMemory) (at : Lodging) (old new : World) (turn : Model → Turn Model) → OnOk result (KeepsNodes old new) → IfOk result (Says old new turn)
    → IfOk result (Plays at at old new turn)
plays_after (Ok ending) at old new turn keeps says = plays_said at at old new turn ending keeps (alike_self at) says
plays_after (Err fault) at old new turn keeps says = tt

-- what is played may ask for less
pub by_quieter : (Quiet Other : Type 0) (at next : Lodging) (old new : World) (P : Model → Model → Type 0) → (Other → Quiet) → ByMoves Quiet at next old new P → ByMoves Other at next old new P
by_quieter Quiet Other at next old new P so by = record { moves = by.moves; made = by.made; config = by.config; so = by.so; decided = λ other none. by.decided (so other) none }

-- the same of a call that says its turn of the nodes that stand there
pub plays_here : (at next : Lodging) (old new : World) (t u : Model → Turn Model) (ending : Option Ending) → KeepsNodes old new → StaysAlike at next → ((later : List Outcome) → t (world_of at old later) ≡ u (world_of at old later))
    → ((later : List Outcome) → Turned (t (world_of at old later)) (string_bytes old.outside.text) (string_bytes new.outside.text) (world_of at new later) ending)
    → Plays at next old new u ending
plays_here at next old new t u ending keeps alike same turned =
    by_none (Unit {0}) at next old new (λ w to. Turned (u w) (string_bytes old.outside.text) (string_bytes new.outside.text) to ending) alike keeps.config keeps.armed
    (λ later. subst (λ (w : Model). Turned (u (world_of at old later)) (string_bytes old.outside.text) (string_bytes new.outside.text) w ending) (sym (world_alike at next new later alike))
    (Turned-same (t (world_of at old later)) (u (world_of at old later)) _ _ _ ending (same later) (turned later)))
