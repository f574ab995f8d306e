use Rattle.std.proofs.Common.{refl}
use Rattle.std.proofs.lemmas.Result.{IfOk-weaker}
use Rattle.view_model.specs.declared.act.Act.TheVariants as act_of
use Rattle.node_model.specs.Steps as duty_of
use Rattle.bft_node.proofs.CallLemmas.{act_adds, act_due, act_fewer, act_makes, none_makes, not_act}
use Rattle.bft_node.proofs.SigningLemmas.{signs_nothing, signs_with}
use Rattle.bft_node.proofs.live.Running.act.Goals as goal

pub returns-in-Accept-clause-makes : goal.returns-in-Accept-clause-makes
returns-in-Accept-clause-makes g c =
    signs_nothing g.K.Signer.sign_gives c.accept.result c.args.keys.now _
    (act_adds g.K.Verifier.accepts c.args.keys.now c.args.told (act_of.Accept c.in-Accept.block) (duty_of.Accept c.in-Accept.block) c.in-Accept.is refl
    c.accept.result c.args.self.now c.accept.new.self _ _ _ _ c.args.out.now c.accept.new.out (λ k signed x. refl)
    c.accept.ensures.makes)

pub returns-in-Accept-clause-due : goal.returns-in-Accept-clause-due
returns-in-Accept-clause-due g c =
    let acc = g.K.Verifier.accepts in
    IfOk-weaker c.accept.result _ _
    (λ next does_one. act_due (acc c.args.keys.now) (acc c.args.keys.now) c.args.told (act_of.Accept c.in-Accept.block) next
    (duty_of.Accept c.in-Accept.block) c.args.self.now c.accept.new.self c.in-Accept.is c.requires.due does_one) c.accept.ensures.next

pub returns-in-Accept-clause-fewer : goal.returns-in-Accept-clause-fewer
returns-in-Accept-clause-fewer g c =
    let acc = g.K.Verifier.accepts in
    IfOk-weaker c.accept.result _ _
    (λ next does_one some. act_fewer (acc c.args.keys.now) (acc c.args.keys.now) c.args.told (act_of.Accept c.in-Accept.block) next
    (duty_of.Accept c.in-Accept.block) c.args.self.now c.accept.new.self c.in-Accept.is refl c.requires.due does_one) c.accept.ensures.next

pub returns-in-Prepare-clause-makes : goal.returns-in-Prepare-clause-makes
returns-in-Prepare-clause-makes g c =
    signs_with g.K.Signer.sign_gives c.prepare.result c.args.keys.now c.prepare.new.keys _ _
    (λ signings makes. act_makes g.K.Verifier.accepts c.args.told (act_of.Prepare c.in-Prepare.digest) (duty_of.Prepare c.in-Prepare.digest) c.in-Prepare.is
    refl c.prepare.result _ _ signings makes) c.prepare.ensures.makes

pub returns-in-Prepare-clause-due : goal.returns-in-Prepare-clause-due
returns-in-Prepare-clause-due g c =
    let acc = g.K.Verifier.accepts in
    IfOk-weaker c.prepare.result _ _
    (λ next does_one. act_due (acc c.args.keys.now) (acc c.prepare.new.keys) c.args.told (act_of.Prepare c.in-Prepare.digest) next
    (duty_of.Prepare c.in-Prepare.digest) c.args.self.now c.prepare.new.self c.in-Prepare.is c.requires.due does_one) c.prepare.ensures.next

pub returns-in-Prepare-clause-fewer : goal.returns-in-Prepare-clause-fewer
returns-in-Prepare-clause-fewer g c =
    let acc = g.K.Verifier.accepts in
    IfOk-weaker c.prepare.result _ _
    (λ next does_one some. act_fewer (acc c.args.keys.now) (acc c.prepare.new.keys) c.args.told (act_of.Prepare c.in-Prepare.digest) next
    (duty_of.Prepare c.in-Prepare.digest) c.args.self.now c.prepare.new.self c.in-Prepare.is refl c.requires.due does_one) c.prepare.ensures.next

pub returns-in-Deliver-clause-makes : goal.returns-in-Deliver-clause-makes
returns-in-Deliver-clause-makes g c =
    signs_nothing g.K.Signer.sign_gives c.deliver.result c.args.keys.now _
    (act_adds g.K.Verifier.accepts c.args.keys.now c.args.told (act_of.Deliver c.in-Deliver.block c.in-Deliver.cert) (duty_of.Deliver c.in-Deliver.block c.in-Deliver.cert) c.in-Deliver.is refl
    c.deliver.result c.args.self.now c.deliver.new.self _ _ _ _ c.args.out.now c.deliver.new.out (λ k signed x. refl)
    c.deliver.ensures.makes)

pub returns-in-Deliver-clause-due : goal.returns-in-Deliver-clause-due
returns-in-Deliver-clause-due g c =
    let acc = g.K.Verifier.accepts in
    IfOk-weaker c.deliver.result _ _
    (λ next does_one. act_due (acc c.args.keys.now) (acc c.args.keys.now) c.args.told (act_of.Deliver c.in-Deliver.block c.in-Deliver.cert) next
    (duty_of.Deliver c.in-Deliver.block c.in-Deliver.cert) c.args.self.now c.deliver.new.self c.in-Deliver.is c.requires.due does_one) c.deliver.ensures.next

pub returns-in-Deliver-clause-fewer : goal.returns-in-Deliver-clause-fewer
returns-in-Deliver-clause-fewer g c =
    let acc = g.K.Verifier.accepts in
    IfOk-weaker c.deliver.result _ _
    (λ next does_one some. act_fewer (acc c.args.keys.now) (acc c.args.keys.now) c.args.told (act_of.Deliver c.in-Deliver.block c.in-Deliver.cert) next
    (duty_of.Deliver c.in-Deliver.block c.in-Deliver.cert) c.args.self.now c.deliver.new.self c.in-Deliver.is refl c.requires.due does_one) c.deliver.ensures.next

pub returns-in_default-clause-makes : goal.returns-in_default-clause-makes
returns-in_default-clause-makes g c =
    signs_nothing g.K.Signer.sign_gives _ c.args.keys.now _
    (none_makes g.K.Verifier.accepts c.args.told _
    (not_act c.args.told c.in_default.not-Accept c.in_default.not-Prepare c.in_default.not-Deliver))
