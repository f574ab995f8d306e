use Rattle.std.proofs.Common.{IsTrue, refl, subst, sym}
use Rattle.ord_types.specs.declared.values.Block.{Block}
use Rattle.node_model.specs.Steps.{acceptance}
use Rattle.bft_node.specs.Keeping.{Keeps}
use Rattle.bft_node.specs.NodeFaults.{NeedsLimit}
use Rattle.bft_node.specs.Running.{place_of}
use Rattle.bft_node.specs.Stores.{held_of}
use Rattle.bft_node.proofs.ActLemmas.{accepted_given_up, accepted_sent, accepted_stopped, of_copy}
use Rattle.bft_node.proofs.EventLemmas.{no_memory, proposal_texts}
use Rattle.bft_node.proofs.MakingLemmas.{given_up, makes_tells, stopped}
use Rattle.bft_node.proofs.live.Running.accept_own.Goals as goal

pub returns-in_err-accepted-clause-makes : goal.returns-in_err-accepted-clause-makes
returns-in_err-accepted-clause-makes g c = λ accepts b made h.
    given_up c.from_residual.result _ _ _ c.from_residual.ensures.1
    (λ fault is. stopped b made _ _ _ _ fault h c.requires.ready.kept (no_memory fault is))

pub returns-in_err-keep_acceptance-clause-makes : goal.returns-in_err-keep_acceptance-clause-makes
returns-in_err-keep_acceptance-clause-makes g c = λ accepts b made h.
    let r = c.args.self.now in
    let block = c.args.block in
    let tells = g.D.Disk.tells c.args.disk.now in
    let copy = c.in_ok-accepted.ensures in
    let within = of_copy (λ (x : Block). acceptance (place_of r) r.view x) c.in_ok-accepted.accepted block r accepts tells _ _
    copy (c.keep_acceptance.ensures.any_moment accepts) in
    let fault_in = c.in_err-keep_acceptance.field-0.0 in
    let needs = subst (λ (x : Block). NeedsLimit tells (acceptance (place_of r) r.view x) (held_of r.store) fault_in) copy
    c.in_err-keep_acceptance.ensures.limit in
    given_up c.from_residual-in_err-keep_acceptance.result _ _ _ c.from_residual-in_err-keep_acceptance.ensures.1
    (λ fault is. accepted_stopped b made block (proposal_texts block) (λ p w. refl) r accepts tells _ _ c.args.out.now h
    within c.requires.ready.kept fault
    (subst (NeedsLimit tells (acceptance (place_of r) r.view block) (held_of r.store)) (sym is) needs))

pub returns-in_err-send_proposal-clause-makes : goal.returns-in_err-send_proposal-clause-makes
returns-in_err-send_proposal-clause-makes g c = λ accepts b made h.
    let r = c.args.self.now in
    let block = c.args.block in
    let tells = g.D.Disk.tells c.args.disk.now in
    let copy = c.in_ok-accepted.ensures in
    let deed = λ (x : Block). acceptance (place_of r) r.view x in
    let within = of_copy deed c.in_ok-accepted.accepted block r accepts tells _ _ copy
    (c.keep_acceptance.ensures.any_moment accepts) in
    let keeps = subst (λ (x : Block). Keeps (deed x) r c.keep_acceptance.new.self c.args.out.now c.keep_acceptance.new.out)
    copy c.in_ok-keep_acceptance.ensures.keeps in
    given_up c.from_residual-in_err-send_proposal.result _ _ _ c.from_residual-in_err-send_proposal.ensures.1
    (λ fault is. accepted_given_up b made block (proposal_texts block) (λ p w. refl) r accepts tells _ _ c.args.out.now h
    within c.keep_acceptance.new.self c.keep_acceptance.new.out c.keep_acceptance.new.out keeps
    (λ t. c.in_ok-keep_acceptance.ensures.ready.kept (subst IsTrue (sym c.keep_acceptance.ensures.tells) t)) fault
    (no_memory fault is))

pub returns-clause-makes : goal.returns-clause-makes
returns-clause-makes g c = λ accepts b made h.
    let r = c.args.self.now in
    let block = c.args.block in
    let tells = g.D.Disk.tells c.args.disk.now in
    let new = c.keep_acceptance.new.self in
    let copy = c.in_ok-accepted.ensures in
    let deed = λ (x : Block). acceptance (place_of r) r.view x in
    let within = of_copy deed c.in_ok-accepted.accepted block r accepts tells _ _ copy
    (c.keep_acceptance.ensures.any_moment accepts) in
    let keeps = subst (λ (x : Block). Keeps (deed x) r new c.args.out.now c.keep_acceptance.new.out) copy
    c.in_ok-keep_acceptance.ensures.keeps in
    makes_tells b _ _ new accepts tells _ _ c.send_proposal.new.out c.keep_acceptance.ensures.tells
    (accepted_sent b made block (proposal_texts block) (λ p w. refl) r accepts tells _ _ c.args.out.now h within new
    c.keep_acceptance.new.out c.send_proposal.new.out keeps c.send_proposal.ensures.facts c.send_proposal.ensures.done
    c.in_ok-send_proposal.ensures.sent)
