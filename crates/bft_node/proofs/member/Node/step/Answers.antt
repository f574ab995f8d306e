use Rattle.std.proofs.Common.{[], ap, refl, sym}
use Rattle.bft_node.specs.Signings.{statements_in}
use Rattle.bft_node.proofs.SigningLemmas.{fits_now, signs_failed, signs_no_more}
use Rattle.bft_node.proofs.Takings.{before_of, begins_so, takes_as, takes_err, takes_ok}
use Rattle.bft_node.proofs.member.Node.step.Goals as goal

pub returns-in_err-step-clause-step : goal.returns-in_err-step-clause-step
returns-in_err-step-clause-step g c = λ runs.
    let old = c.args.self.now.running in
    let accepts = g.K.Verifier.accepts in
    let first = accepts c.args.keys.now in
    let tells = g.D.Disk.tells c.args.disk.now in
    let before = g.D.Disk.moments c.args.disk.now in
    signs_failed g.K.Signer.sign_gives _ _ c.from_residual.result c.args.keys.now c.step.new.keys _ _ refl
    c.from_residual.ensures.0
    (λ xs does model fit grows.
    let begins = begins_so model old first tells before c.new-out.result
    (fits_now accepts model [] c.args.keys.now xs fit) c.new-out.ensures.facts c.new-out.ensures.sends
    c.new-out.ensures.done in
    takes_err model old c.step.new.self c.args.event (statements_in xs) first _ tells before _
    c.from_residual.result _ c.from_residual.ensures.1 (does (before_of model old first before) fit grows begins))
    c.in_err-step.ensures.makes

pub returns-clause-step : goal.returns-clause-step
returns-clause-step g c = λ runs.
    let old = c.args.self.now.running in
    let accepts = g.K.Verifier.accepts in
    let first = accepts c.args.keys.now in
    let tells = g.D.Disk.tells c.args.disk.now in
    let before = g.D.Disk.moments c.args.disk.now in
    let after = g.D.Disk.moments c.step.new.disk in
    signs_no_more g.K.Signer.sign_gives _ _ _ c.args.keys.now c.step.new.keys _ _ refl
    (λ xs at does model fit grows.
    let begins = begins_so model old first tells before c.new-out.result
    (fits_now accepts model [] c.args.keys.now xs fit) c.new-out.ensures.facts c.new-out.ensures.sends
    c.new-out.ensures.done in
    let made = does (before_of model old first before) fit grows begins in
    let ready = c.in_ok-step.ensures.runs.ready in
    takes_as model old c.step.new.self c.args.event (statements_in xs) first _ _ _ _ _ before after
    (ap accepts at) c.step.ensures.runs.tells
    (takes_ok model old c.step.new.self c.args.event (statements_in xs) first _ (g.D.Disk.tells c.step.new.disk) before after c.step.new.out made.0
    made.1 (c.args.self.now.sound runs).at.height ready.sound.place ready.kept))
    c.in_ok-step.ensures.makes
