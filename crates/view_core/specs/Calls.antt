-- What the calls on a view promise: the act that is answered, and the view behind it.
use Rattle.std.specs.Prelude.{◌≡◌, ◌++◌, ℕ, Result, IfOk, OnOk, OnErr}
use Rattle.bft_wire.specs.declared.message.Commit.{Commit}
use Rattle.bft_wire.specs.declared.message.PrePrepare.{PrePrepare}
use Rattle.bft_wire.specs.declared.message.Prepare.{Prepare}
use Rattle.ord_types.specs.declared.values.Place.{Place}
use Rattle.signer_edge.specs.Accepts.{Accepts}
use Rattle.view_model.specs.declared.act.Act.{Act}
use Rattle.view_model.specs.declared.letter.Letter.{Letter}
use Rattle.view_model.specs.declared.letter.VoteMessage.TheVariants as message_of
use Rattle.view_model.specs.Acts.{View}
use Rattle.view_model.specs.Answers.{
  Reasons,
  after_act,
  after_vote,
  at_place,
  message_reasons,
  stands_outside,
  vote_answer,
}
use Rattle.view_core.specs.Fits.{FitsAct}

-- A VOTE MESSAGE, with its sender

abbrev pub preprepare_from : ℕ → PrePrepare → Letter
preprepare_from from m = record { from = from; message = message_of.PrePrepare m }

abbrev pub prepare_from : ℕ → Prepare → Letter
prepare_from from m = record { from = from; message = message_of.Prepare m }

abbrev pub commit_from : ℕ → Commit → Letter
commit_from from m = record { from = from; message = message_of.Commit m }

-- why it brings nothing, where it isn't newly kept and no act is due
abbrev pub vote_reasons : Accepts → Place → View → Letter → Reasons
vote_reasons accepts place w letter =
    stands_outside place w letter ++ message_reasons accepts place w letter.from letter.message

-- The call answers this act, whose values have a spelling, and leaves this view. Without memory the view is
-- at the place.
pub record IsAnswered {E : Type 0} (result : Result Act E) (act : Act) (new left placed : View) : Type 0 where
  pub answer : IfOk result (λ given. given ≡ act)
  pub fits : IfOk result FitsAct
  pub after : OnOk result (new ≡ left)
  pub err : OnErr result (new ≡ placed)

-- the same of a vote message that comes at a place
abbrev pub IsVoteAnswered : {E : Type 0} → Accepts → Place → View → View → Letter → Result Act E → Type 0
IsVoteAnswered accepts place old new letter result =
    IsAnswered result (vote_answer accepts place (at_place place old) letter) new
    (after_vote accepts place old letter) (at_place place old)

-- The act that is answered is this one, and stands as done in a view that held this much. Without memory
-- nothing has changed.
pub record IsTaken {E : Type 0} (result : Result Act E) (act : Act) (new held old : View) : Type 0 where
  pub answer : IfOk result (λ given. given ≡ act)
  pub after : IfOk result (λ given. new ≡ after_act given held)
  pub err : OnErr result (new ≡ old)
