use Rattle.std.proofs.Common.{◌∙◌, Err, Ok, refl, sym}
use Rattle.bft_node.specs.Calls.{stage}
use Rattle.bft_node.proofs.CallLemmas.{act_failed, act_then, nothing_made}
use Rattle.bft_node.proofs.SigningLemmas.{signs_failed, signs_nothing, signs_then}
use Rattle.bft_node.proofs.live.Running.+acts.Goals as goal

pub returns-then-not-is_act-clause-makes : goal.returns-then-not-is_act-clause-makes
returns-then-not-is_act-clause-makes g t c =
    signs_nothing g.K.Signer.sign_gives _ c.args.keys.now _
    (nothing_made g.K.Verifier.accepts c.args.told _ (sym c.is_act.ensures ∙ c.if-not-is_act.true)
    c.requires.ready.sound.at)

pub returns-in_err-next-clause-makes : goal.returns-in_err-next-clause-makes
returns-in_err-next-clause-makes g t c =
    let fault = c.in_err-next.field-0.0 in
    let last = stage c.act.new.self c.act.new.keys (g.D.Disk.tells c.act.new.disk) (g.D.Disk.moments c.act.new.disk)
    c.act.new.out in
    signs_failed g.K.Signer.sign_gives fault (Err fault) c.from_residual.result _ _ _ _ refl c.from_residual.ensures.0
    (λ signings makes. act_failed g.K.Verifier.accepts c.args.told (sym c.is_act.ensures ∙ c.if-not-is_act.false) _
    c.requires.ready.sound.at (Err fault) fault last last c.from_residual.result signings refl c.from_residual.ensures.1 refl
    makes) c.in_err-next.ensures.makes

pub returns-clause-makes : goal.returns-clause-makes
returns-clause-makes g t c =
    let next = c.in_ok-next.next in
    signs_then g.K.Signer.sign_gives next (Ok next) c.acts.result _ _ _ _ _ _ refl
    (λ xs ys at makes more. act_then g.K.Verifier.accepts c.args.told (sym c.is_act.ensures ∙ c.if-not-is_act.false) _
    c.requires.ready.sound.at (Ok next) next _ _ c.acts.result xs ys refl at c.act.ensures.runs.tells makes more)
    c.in_ok-next.ensures.makes c.acts.ensures.makes
