-- The places that a view's calls take.
use Rattle.std.specs.Prelude.{◌≡◌, ◌≤◌, ◌<◌, ◌^◌, ◌==◌, not, is_some, [], ◌∷◌, length}
use Rattle.std.specs.Option.{ForSome}
use Rattle.ord_types.specs.Lengths.{FitsCert}
use Rattle.bft_wire.specs.declared.reason.Reason.TheVariants as reason
use Rattle.view_model.specs.Acts.{View}
use Rattle.view_model.specs.Answers.{Reasons}
use Rattle.view_model.specs.Leading.{leader}
pub use Rattle.ord_types.specs.declared.values.Place.{Place}

-- 1 to 31 members, a block 0, numbers below 2^62, and a last certificate that has a spelling
pub record IsPlace (place : Place) : Type 0 where
  pub some : 1 ≤ length place.config.members
  pub few : length place.config.members ≤ 31
  pub behind : 1 ≤ place.height
  pub height : place.height < 2 ^ 62
  pub decided : place.last_meta.decided < 2 ^ 62
  pub cert : ForSome place.last_cert FitsCert

-- a view stands under the place's configuration, at its height
pub record StandsAt (place : Place) (w : View) : Type 0 where
  pub config : w.config ≡ place.config.number
  pub members : w.members ≡ place.config.members
  pub height : w.height ≡ place.height

-- why the node may not propose, whatever is offered
abbrev pub turn_reasons : Place → View → Reasons
turn_reasons place w =
    (not (leader place w.view == w.me), reason.NotLeader) ∷ (is_some w.accepted, reason.Accepted) ∷ []
