use Rattle.std.proofs.Common.{[], refl, sym}
use Rattle.view_model.specs.declared.act.Act.TheVariants as act_of
use Rattle.node_model.specs.declared.event.Event.TheVariants.{FromMember}
use Rattle.node_model.specs.Steps.{comes}
use Rattle.bft_node.proofs.CallLemmas.{goes_quiet}
use Rattle.bft_node.proofs.EventLemmas.{begun_told, heard, heard_placed, message_begun, message_step, no_memory}
use Rattle.bft_node.proofs.MakingLemmas.{given_up, stopped, stopped_by}
use Rattle.bft_node.proofs.SigningLemmas.{signs_nothing, signs_with}
use Rattle.bft_node.proofs.ToldLemmas.{told_due}
use Rattle.bft_node.proofs.live.Running.take.Goals as goal

pub returns-in_err-told-clause-makes : goal.returns-in_err-told-clause-makes
returns-in_err-told-clause-makes g c =
    let r = c.args.self.now in
    let from = c.args.from in
    let bytes = c.args.bytes.now in
    signs_nothing g.K.Signer.sign_gives c.from_residual.result c.args.keys.now _
    (λ b fit grows h. given_up c.from_residual.result _ _ _ c.from_residual.ensures.1
    (λ fault is. stopped_by b _ _ _ _ _ _ _ _ _ fault fault (sym (message_step b from bytes)) refl refl refl refl
    (stopped b (comes b.keys (FromMember from bytes) [] b.core) _ act_of.Kept _ _ fault
    (message_begun b r _ from bytes h c.requires.sound.me) c.requires.kept (no_memory fault is))))

pub returns-clause-makes : goal.returns-clause-makes
returns-clause-makes g c =
    let r = c.args.self.now in
    let from = c.args.from in
    let bytes = c.args.bytes.now in
    signs_with g.K.Signer.sign_gives c.acts.result c.args.keys.now c.acts.new.keys _ _
    (λ signings makes b fit grows h.
    goes_quiet b c.acts.result c.acts.new.self _ _ _ _ _ _ _ _ _ _ (message_step b from bytes) refl refl refl
    (makes b (comes b.keys (FromMember from bytes) [] b.core) fit grows
    (begun_told b r c.comes.new.self _ from bytes c.in_ok-told.told (g.K.Verifier.accepts c.args.keys.now) refl h
    c.requires.sound.me c.in_ok-told.ensures.told)))
    c.acts.ensures.makes

pub acts-requires-clause-ready : goal.acts-requires-clause-ready
acts-requires-clause-ready g c = c.comes.ensures.stays.ready _ _ c.requires

pub acts-requires-clause-due : goal.acts-requires-clause-due
acts-requires-clause-due g c =
    let r = c.args.self.now in
    let accepts = g.K.Verifier.accepts c.args.keys.now in
    let event = FromMember c.args.from c.args.bytes.now in
    told_due accepts (heard event accepts r) c.in_ok-told.told r c.comes.new.self refl
    (heard_placed event accepts r c.requires.sound.at) c.in_ok-told.ensures.told
