use Rattle.std.proofs.Common.{sym, subst}
use Rattle.bft_wire.specs.declared.reason.Reason.TheVariants as reason
use Rattle.view_model.specs.declared.act.Act.{Act}
use Rattle.view_model.specs.declared.act.Act.TheVariants as act_of
use Rattle.view_model.specs.Acts.{View, due}
use Rattle.view_model.specs.Answers.{act_or, first_reason, is_new, keep, kept_after, reason_or}
use Rattle.view_core.specs.Calls.{IsTaken, vote_reasons}
use Rattle.view_core.proofs.AnswerLemmas.{inside_is_held, new_parts, vote_new, vote_old, kept_new, kept_old}
use Rattle.view_core.proofs.held.ViewState.placed_vote.Goals as goal

pub new_vote-requires-clause-held : goal.new_vote-requires-clause-held
new_vote-requires-clause-held g c =
    let new = new_parts (g.V.Verifier.accepts c.args.verifier.now) c.args.place.now c.args.self.now c.args.letter (sym c.if-is_new.ensures) in
    inside_is_held c.args.place.now c.args.self.now c.args.letter c.requires.stands c.requires.short new.inside

pub new_vote-requires-clause-new : goal.new_vote-requires-clause-new
new_vote-requires-clause-new g c = (new_parts (g.V.Verifier.accepts c.args.verifier.now) c.args.place.now c.args.self.now c.args.letter (sym c.if-is_new.ensures)).fresh

pub returns-then-is_new : goal.returns-then-is_new
returns-then-is_new g c =
    let accepts = g.V.Verifier.accepts c.args.verifier.now in
    let place = c.args.place.now in
    let w = c.args.self.now in
    let result = c.new_vote.result in
    let new = c.new_vote.new.self in
    let is = sym {b = is_new accepts place w c.args.letter} c.if-is_new.ensures in
    let held = subst (λ (k : View). IsTaken result (act_or (due accepts place (keep c.args.letter w)) act_of.Kept) new k w)
    (kept_new accepts place w c.args.letter is) c.new_vote.ensures in
    subst (λ (act : Act). IsTaken result act new (kept_after accepts place w c.args.letter) w)
    (vote_new accepts place w c.args.letter is) held

pub returns : goal.returns
returns g c =
    let accepts = g.V.Verifier.accepts c.args.verifier.now in
    let place = c.args.place.now in
    let w = c.args.self.now in
    let letter = c.args.letter in
    let result = c.take_due_or.result in
    let new = c.take_due_or.new.self in
    let old = sym {b = is_new accepts place w letter} c.if-is_new.ensures in
    let refused = subst (λ (other : Act). IsTaken result (act_or (due accepts place w) other) new w w)
    c.refusal-reason.ensures c.take_due_or.ensures in
    let held = subst (λ (k : View). IsTaken result
    (act_or (due accepts place w) (reason_or (first_reason (vote_reasons accepts place w letter)) reason.Repeat)) new k w)
    (kept_old accepts place w letter old) refused in
    subst (λ (act : Act). IsTaken result act new (kept_after accepts place w letter) w)
    (vote_old accepts place w letter old) held
