use Rattle.std.proofs.Common.{None, ◌++◌, [], List, ℕ, refl, sym, ap, subst, ◌∙◌}
use Rattle.view_model.specs.declared.act.Act.TheVariants as act_of
use Rattle.node_model.specs.Entries.{statements_of}
use Rattle.node_model.specs.declared.event.Event.TheVariants.{Tick}
use Rattle.node_model.specs.Steps.{comes}
use Rattle.bft_node.specs.Signings.{Grows, KeysFit, keys_after, statements_in}
use Rattle.bft_node.proofs.CallLemmas.{goes_quiet}
use Rattle.bft_node.proofs.EventLemmas.{no_memory, offered_in, proposes_said, tick_begun, tick_step, ticked}
use Rattle.bft_node.proofs.MakingLemmas.{given_up, stopped, stopped_by, stopped_more}
use Rattle.bft_node.proofs.RepeatLemmas.{ready_taken}
use Rattle.bft_node.proofs.SigningLemmas.{
  fits_first,
  fits_rest,
  grows_first,
  grows_rest,
  keys_after-append,
  signs_failed,
  signs_no_more,
  signs_then,
  statements-append,
}
use Rattle.bft_node.proofs.ToldLemmas.{tells_made, told_due_here}
use Rattle.bft_node.proofs.live.Running.tick.Goals as goal

pub returns-in_err-repeat-clause-makes : goal.returns-in_err-repeat-clause-makes
returns-in_err-repeat-clause-makes g c =
    let r = c.args.self.now in
    let offer = c.args.offer in
    let taken = ready_taken _ _ r None c.requires in
    signs_failed g.K.Signer.sign_gives _ _ c.from_residual.result c.args.keys.now c.repeat.new.keys _ _ refl
    c.from_residual.ensures.0
    (λ xs does b fit grows h.
    let stop = does (g.D.Disk.tells c.args.disk.now) (g.D.Disk.moments c.args.disk.now) taken b
    (comes b.keys (Tick offer) [] b.core) fit grows (tick_begun b r _ offer h c.requires.sound.me) in
    let more = stopped_more b (offered_in b r offer) _ _ _ _ _ _ (stopped_more b (ticked b r offer) _ _ _ _ _ _ stop) in
    given_up c.from_residual.result _ _ _ c.from_residual.ensures.1
    (λ fault is. stopped_by b _ _ _ _ _ _ _ _ _ _ fault (sym (tick_step b r _ offer h)) refl refl refl is more))
    c.in_err-repeat.ensures.makes

pub returns-in_err-propose-clause-makes : goal.returns-in_err-propose-clause-makes
returns-in_err-propose-clause-makes g c =
    let r = c.args.self.now in
    let offer = c.args.offer in
    let taken = ready_taken _ _ r None c.requires in
    let accepts = g.K.Verifier.accepts in
    signs_no_more g.K.Signer.sign_gives _ _ c.from_residual-in_err-propose.result c.args.keys.now c.repeat.new.keys _ _ refl
    (λ xs at does b fit grows h.
    let one = does (g.D.Disk.tells c.args.disk.now) (g.D.Disk.moments c.args.disk.now) taken b
    (comes b.keys (Tick offer) [] b.core) fit grows (tick_begun b r _ offer h c.requires.sound.me) in
    let stop = c.in_err-propose.ensures.makes b (ticked b r offer) one.0 in
    let more = stopped_more b (offered_in b r offer) _ _ _ _ _ _ stop in
    given_up c.from_residual-in_err-propose.result _ _ _ c.from_residual-in_err-propose.ensures.1
    (λ fault is. stopped_by b _ _ _ _ _ _ _ _ _ _ fault (sym (tick_step b r _ offer h)) (sym one.1)
    (sym (ap accepts at)) refl is more))
    c.in_ok-repeat.ensures.makes

pub returns-in_err-told-clause-makes : goal.returns-in_err-told-clause-makes
returns-in_err-told-clause-makes g c =
    let r = c.args.self.now in
    let offer = c.args.offer in
    let taken = ready_taken _ _ r None c.requires in
    let accepts = g.K.Verifier.accepts in
    signs_no_more g.K.Signer.sign_gives _ _ c.from_residual-in_err-told.result c.args.keys.now c.repeat.new.keys _ _ refl
    (λ xs at does b fit grows h.
    let one = does (g.D.Disk.tells c.args.disk.now) (g.D.Disk.moments c.args.disk.now) taken b
    (comes b.keys (Tick offer) [] b.core) fit grows (tick_begun b r _ offer h c.requires.sound.me) in
    let two = c.in_ok-propose.ensures.makes b (ticked b r offer) one.0 in
    given_up c.from_residual-in_err-told.result _ _ _ c.from_residual-in_err-told.ensures.1
    (λ fault is. stopped_by b _ _ _ _ _ _ _ _ _ fault fault (sym (tick_step b r _ offer h))
    (sym (proposes_said b (ticked b r offer) offer ∙ one.1)) (sym (ap accepts at)) (sym c.propose.ensures.runs.tells) refl
    (stopped b (offered_in b r offer) _ act_of.Kept c.propose.new.self _ fault two
    c.in_ok-propose.ensures.runs.ready.kept (no_memory fault is))))
    c.in_ok-repeat.ensures.makes

pub returns-clause-makes : goal.returns-clause-makes
returns-clause-makes g c =
    let r = c.args.self.now in
    let offer = c.args.offer in
    let taken = ready_taken _ _ r None c.requires in
    let accepts = g.K.Verifier.accepts in
    let old = c.args.keys.now in
    let mid = c.repeat.new.keys in
    signs_then g.K.Signer.sign_gives _ _ c.acts.result old mid c.acts.new.keys _ _ _ refl
    (λ xs ys at does more b fit grows h.
    let first = ticked b r offer in
    let second = offered_in b r offer in
    let one = does (g.D.Disk.tells c.args.disk.now) (g.D.Disk.moments c.args.disk.now) taken b
    (comes b.keys (Tick offer) [] b.core) (fits_first accepts b.keys [] old xs ys fit) (grows_first accepts old xs ys grows)
    (tick_begun b r _ offer h c.requires.sound.me) in
    let two = c.in_ok-propose.ensures.makes b first one.0 in
    let three = tells_made b second c.propose.new.self c.told.new.self _ (accepts mid) c.in_ok-told.told refl two
    c.in_ok-told.ensures.told in
    let signed = proposes_said b first offer ∙ one.1 in
    let fit_then = subst (λ k. KeysFit accepts b.keys (statements_of second) k ys) (sym at)
    (subst (λ (l : List (List ℕ)). KeysFit accepts b.keys l (keys_after old xs) ys) (sym signed)
    (fits_rest accepts b.keys [] old xs ys fit)) in
    let grows_then = subst (λ k. Grows accepts k ys) (sym at) (grows_rest accepts old xs ys grows) in
    goes_quiet b c.acts.result c.acts.new.self _ _ _ _ _ _ _ _ _ _ (tick_step b r _ offer h)
    (ap (λ (l : List (List ℕ)). l ++ statements_in ys) signed ∙ sym (statements-append xs ys))
    (ap (λ k. accepts (keys_after k ys)) at ∙ ap accepts (sym (keys_after-append old xs ys))) c.propose.ensures.runs.tells
    (more b second fit_then grows_then three))
    c.in_ok-repeat.ensures.makes c.acts.ensures.makes

pub propose-requires : goal.propose-requires
propose-requires g c = c.repeat.ensures.stays.ready _ _ c.requires

pub acts-requires-clause-ready : goal.acts-requires-clause-ready
acts-requires-clause-ready g c = c.told.ensures.stays.ready _ _ c.in_ok-propose.ensures.runs.ready

pub acts-requires-clause-due : goal.acts-requires-clause-due
acts-requires-clause-due g c =
    told_due_here (g.K.Verifier.accepts c.repeat.new.keys) c.in_ok-told.told c.propose.new.self c.told.new.self
    c.in_ok-propose.ensures.runs.ready.sound.at c.in_ok-told.ensures.told
