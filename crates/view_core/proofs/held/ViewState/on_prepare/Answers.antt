use Rattle.std.proofs.Common.{◌≡◌, sym, subst}
use Rattle.view_model.specs.declared.letter.VoteMessage.TheVariants as message_of
use Rattle.view_model.specs.declared.letter.Letter.{Letter}
use Rattle.view_model.specs.Acts.{View}
use Rattle.view_model.specs.Answers.{accepts_nothing, after_act, kept_after, prepare_answer}
use Rattle.view_core.proofs.AnswerLemmas.{prepare_is, prepare_leaves}
use Rattle.view_core.proofs.FitLemmas.{prepare_answer_fits}
use Rattle.view_core.specs.Fits.{FitsAct}
use Rattle.view_core.proofs.held.ViewState.on_prepare.Goals as goal

pub returns-clause-answer : goal.returns-clause-answer
returns-clause-answer c =
    let letter : Letter = record { from = c.args.from; message = message_of.Prepare c.args.message.now } in
    let answer = prepare_is c.args.place.now c.settle.new.self c.keep_prepare-other.new.self letter c.keep_prepare-other.result c.prepared_or.result c.keep_prepare-other.ensures.answer c.keep_prepare-other.ensures.after c.prepared_or.ensures.act in
    subst (λ (w : View). c.prepared_or.result ≡ prepare_answer c.args.place.now w letter) c.settle.ensures.at answer

pub returns-clause-after : goal.returns-clause-after
returns-clause-after c =
    let letter : Letter = record { from = c.args.from; message = message_of.Prepare c.args.message.now } in
    let left = prepare_leaves c.args.place.now c.settle.new.self c.keep_prepare-other.new.self c.prepared_or.new.self letter c.keep_prepare-other.ensures.after c.prepared_or.ensures.after in
    subst (λ (w : View). c.prepared_or.new.self ≡ after_act (prepare_answer c.args.place.now w letter) (kept_after accepts_nothing c.args.place.now w letter)) c.settle.ensures.at left

pub returns-clause-fits : goal.returns-clause-fits
returns-clause-fits c =
    let letter : Letter = record { from = c.args.from; message = message_of.Prepare c.args.message.now } in
    let answer = prepare_is c.args.place.now c.settle.new.self c.keep_prepare-other.new.self letter c.keep_prepare-other.result c.prepared_or.result c.keep_prepare-other.ensures.answer c.keep_prepare-other.ensures.after c.prepared_or.ensures.act in
    subst FitsAct (sym answer) (prepare_answer_fits c.args.place.now c.settle.new.self letter)
