-- Lemmas on what prints a text, and changes nothing else.
use Rattle.std.proofs.Common.{◌≡◌, ◌++◌, ℕ, List, None, Ok, refl, sym, ap}
use Rattle.std.specs.Prelude.{string_bytes}
use Rattle.script_play.specs.Turns.{Turn}
use Rattle.world_model.specs.Turns.{says}
use Rattle.world_model.specs.Worlds.{Outcome}
use Rattle.bft_node.specs.Lodgings.{Lodging}
use Rattle.world_run.specs.Going.{Goes, Plays}
use Rattle.world_run.specs.Mapped.{Model, world_of}
use Rattle.world_run.specs.Sound.{IsSound, KeepsNodes}
use Rattle.world_run.specs.declared.world.World.{World}
use Rattle.world_run.proofs.GoingLemmas.{Goes-start, GoesBy}
use Rattle.world_run.proofs.MoveLemmas.{alike_self, by_none, plays_said, sound_kept}

-- but for the text and for the place of the first entry that may wait, one world is the other
pub record Tells (old new : World) : Type 0 where
  pub config : new.config ≡ old.config
  pub byzantine : new.byzantine ≡ old.byzantine
  pub members : new.members.items ≡ old.members.items
  pub network : new.outside.network.items ≡ old.outside.network.items
  pub seat : new.outside.seat ≡ old.outside.seat
  pub number : new.outside.number ≡ old.outside.number

pub told_world : (at : Lodging) (old new : World) (later : List Outcome) → Tells old new → world_of at new later ≡ world_of at old later
told_world at old new later tells = rw (tells.config, tells.byzantine, tells.members, tells.network, tells.seat) refl

pub told_keeps : (old new : World) → Tells old new → KeepsNodes old new
told_keeps old new tells =
    record {
      config = tells.config;
      ids = rw tells.members refl;
      armed = λ none. rw tells.members none;
      seals = λ statement sig accepted. rw tells.seat accepted;
      number = tells.number;
    }

pub told_sound : (at : Lodging) (old new : World) → Tells old new → IsSound at old → IsSound at new
told_sound at old new tells sound = sound_kept at at old new (told_keeps old new tells) (alike_self at) sound

-- the turn says what was printed
pub told_plays : (at : Lodging) (old new : World) (turn : Model → Turn Model) (text : List ℕ) → Tells old new → string_bytes new.outside.text ≡ string_bytes old.outside.text ++ text
    → ((l : Lodging) (later : List Outcome) → turn (world_of l old later) ≡ says text (world_of l old later)) → Plays at at old new turn None
told_plays at old new turn text tells printed is =
    plays_said at at old new turn None (told_keeps old new tells) (alike_self at)
    (λ l later. rw (is l later) (record { printed = printed; next = ap (λ (w : Model). Ok w) (sym (told_world l old new later tells)) }))

-- nothing is printed, and the whole turn is left
pub told_start : (at : Lodging) (old new : World) (whole : Model → Turn Model) → Tells old new → new.outside.text ≡ old.outside.text → GoesBy at at old new whole whole
told_start at old new whole tells text =
    by_none (Unit {0}) at at old new (λ w to. Goes (whole w) (string_bytes old.outside.text) (string_bytes new.outside.text) (whole to)) (alike_self at) tells.config (λ none. rw tells.members none)
    (λ later. rw (told_world at old new later tells, text) (Goes-start (whole (world_of at old later)) (string_bytes old.outside.text)))
