-- Lemmas on turns, and on how far the text of a turn has come.
use Rattle.std.proofs.Common.{◌≡◌, ℕ, List, [], Option, Some, None, refl, sym, ◌∙◌, subst}
use Rattle.std.specs.Prelude.{string_bytes}
use Rattle.std.proofs.lemmas.List.{append-nil, append_assoc}
use Rattle.script_play.specs.declared.ending.Ending.{Ending}
use Rattle.script_play.specs.Turns.{Turn, Turned}
use Rattle.world_model.specs.Turns.{goes_on, says}
use Rattle.world_model.specs.Worlds.{Outcome}
use Rattle.bft_node.specs.Lodgings.{Lodging}
use Rattle.world_run.specs.Going.{ByMoves, Goes, Plays}
use Rattle.world_run.specs.Mapped.{Model, world_of}
use Rattle.world_run.specs.declared.world.World.{World}
use Rattle.world_run.proofs.MoveLemmas.{alike_self, by_none, by_then}

pub Turned-same : {W : Type 0} (t u : Turn W) (before after : List ℕ) (world : W) (ending : Option Ending) → t ≡ u → Turned t before after world ending → Turned u before after world ending
Turned-same {W} t u before after world ending e turned = subst (λ (v : Turn W). Turned v before after world ending) e turned

pub Goes-same : {W : Type 0} (t u : Turn W) (before now : List ℕ) (rest : Turn W) → t ≡ u → Goes t before now rest → Goes u before now rest
Goes-same {W} t u before now rest e goes = subst (λ (v : Turn W). Goes v before now rest) e goes

-- at the beginning the whole turn is left
pub Goes-start : {W : Type 0} (whole : Turn W) (before : List ℕ) → Goes whole before before whole
Goes-start whole before = record { printed = refl; next = refl }

pub Goes-trans : {W : Type 0} (a b c : Turn W) (x y z : List ℕ) → Goes a x y b → Goes b y z c → Goes a x z c
Goes-trans a b c x y z p q = record { printed = p.printed ∙ q.printed; next = p.next ∙ q.next }

-- nothing is said
pub Turned-silent : {W : Type 0} (world : W) (before : List ℕ) → Turned (says [] world) before before world None
Turned-silent world before = record { printed = sym (append-nil before); next = refl }

-- a part of a turn was done, and the rest is left
pub Goes-part : {V W : Type 0} (part : Turn V) (rest : V → Turn W) (before after : List ℕ) (world : V) → Turned part before after world None → Goes (goes_on part rest) before after (rest world)
Goes-part {V} {W} part rest before after world turned =
    rw turned.next (record {
      printed = rw turned.printed (sym (append_assoc before part.printed (rest world).printed));
      next = refl;
    })

-- a part of a turn ended it
pub Turned-part : {V W : Type 0} (part : Turn V) (rest : V → Turn W) (before after : List ℕ) (next : V) (world : W) (ending : Ending) → Turned part before after next (Some ending) → Turned (goes_on part rest) before after world (Some ending)
Turned-part part rest before after next world ending turned = rw turned.next (record { printed = turned.printed; next = refl })

-- the last part of a turn
pub Turned-last : {W : Type 0} (whole rest : Turn W) (before now after : List ℕ) (world : W) (ending : Option Ending) → Goes whole before now rest → Turned rest now after world ending → Turned whole before after world ending
Turned-last whole rest before now after world None goes turned = record { printed = turned.printed ∙ sym goes.printed; next = goes.next ∙ turned.next }
Turned-last whole rest before now after world (Some e) goes turned = record { printed = turned.printed ∙ sym goes.printed; next = goes.next ∙ turned.next }

-- BY MOVES a turn has come so far, and this is left of it
abbrev pub GoesBy : Lodging → Lodging → World → World → (Model → Turn Model) → (Model → Turn Model) → Type 0
GoesBy at next old new whole rest = ByMoves (Unit {0}) at next old new (λ w to. Goes (whole w) (string_bytes old.outside.text) (string_bytes new.outside.text) (rest to))

pub goes_by_start : (at : Lodging) (w : World) (whole : Model → Turn Model) → GoesBy at at w w whole whole
goes_by_start at w whole =
    by_none (Unit {0}) at at w w (λ v to. Goes (whole v) (string_bytes w.outside.text) (string_bytes w.outside.text) (whole to)) (alike_self at) refl (λ none. none)
    (λ later. Goes-start (whole (world_of at w later)) (string_bytes w.outside.text))

pub goes_by_then : (a b d : Lodging) (old mid new : World) (whole more rest : Model → Turn Model) → GoesBy a b old mid whole more → GoesBy b d mid new more rest → GoesBy a d old new whole rest
goes_by_then a b d old mid new whole more rest one two =
    by_then (Unit {0}) a b d old mid new
    (λ w to. Goes (whole w) (string_bytes old.outside.text) (string_bytes mid.outside.text) (more to))
    (λ w to. Goes (more w) (string_bytes mid.outside.text) (string_bytes new.outside.text) (rest to))
    (λ w to. Goes (whole w) (string_bytes old.outside.text) (string_bytes new.outside.text) (rest to))
    (λ first second third p q. Goes-trans (whole (world_of a old first)) (more (world_of b mid second)) (rest (world_of d new third)) _ _ _ p q)
    one two

-- and then its last part was done
pub goes_by_last : (a b d : Lodging) (old mid new : World) (whole more : Model → Turn Model) (ending : Option Ending) → GoesBy a b old mid whole more → Plays b d mid new more ending
    → Plays a d old new whole ending
goes_by_last a b d old mid new whole more ending one two =
    by_then (Unit {0}) a b d old mid new
    (λ w to. Goes (whole w) (string_bytes old.outside.text) (string_bytes mid.outside.text) (more to))
    (λ w to. Turned (more w) (string_bytes mid.outside.text) (string_bytes new.outside.text) to ending)
    (λ w to. Turned (whole w) (string_bytes old.outside.text) (string_bytes new.outside.text) to ending)
    (λ first second third p q. Turned-last (whole (world_of a old first)) (more (world_of b mid second)) _ _ _ (world_of d new third) ending p q)
    one two

-- a turn of which nothing is left to say
pub plays_silent : (at : Lodging) (w : World) (whole : Model → Turn Model) → ((later : List Outcome) → whole (world_of at w later) ≡ says [] (world_of at w later)) → Plays at at w w whole None
plays_silent at w whole silent =
    by_none (Unit {0}) at at w w (λ v to. Turned (whole v) (string_bytes w.outside.text) (string_bytes w.outside.text) to None) (alike_self at) refl (λ none. none)
    (λ later. Turned-same (says [] (world_of at w later)) (whole (world_of at w later)) _ _ (world_of at w later) None (sym (silent later)) (Turned-silent (world_of at w later) (string_bytes w.outside.text)))
