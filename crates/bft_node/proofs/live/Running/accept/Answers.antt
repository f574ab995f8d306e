use Rattle.std.proofs.Common.{IsTrue, ap, arith, refl, subst, sym, ◌∙◌}
use Rattle.ord_types.specs.declared.values.Block.{Block}
use Rattle.node_model.specs.Steps.{acceptance}
use Rattle.bft_node.specs.Held.{Held}
use Rattle.bft_node.specs.Keeping.{Keeps}
use Rattle.bft_node.specs.NodeFaults.{NeedsLimit, TouchesNoDisk}
use Rattle.bft_node.specs.Running.{place_of}
use Rattle.bft_node.specs.Stores.{held_of}
use Rattle.bft_node.proofs.ActLemmas.{accepted_given_up, accepted_sent, accepted_stopped, of_copy, prepare_text}
use Rattle.bft_node.proofs.KeepingLemmas.{same_place}
use Rattle.bft_node.proofs.MakingLemmas.{given_up, makes_tells, stopped}
use Rattle.bft_node.proofs.ToldLemmas.{accepts_next, tells_made}
use Rattle.bft_node.proofs.live.Running.accept.Goals as goal

pub returns-in_err-accepted-clause-makes : goal.returns-in_err-accepted-clause-makes
returns-in_err-accepted-clause-makes g c = λ b made h.
    given_up c.from_residual.result _ _ _ c.from_residual.ensures.1
    (λ fault is. stopped b made _ _ _ _ fault h c.requires.kept (subst TouchesNoDisk (sym is) tt))

pub returns-in_err-keep_acceptance-clause-makes : goal.returns-in_err-keep_acceptance-clause-makes
returns-in_err-keep_acceptance-clause-makes g c = λ b made h.
    let r = c.args.self.now in
    let tells = g.D.Disk.tells c.args.disk.now in
    let copy = c.in_ok-accepted.ensures in
    let within = of_copy (λ (x : Block). acceptance (place_of r) r.view x) c.in_ok-accepted.accepted c.args.block r _ _ _ _
    copy (c.keep_acceptance.ensures.any_moment _) in
    let fault_in = c.in_err-keep_acceptance.field-0.0 in
    let needs = subst (λ (x : Block). NeedsLimit tells (acceptance (place_of r) r.view x) (held_of r.store) fault_in) copy
    c.in_err-keep_acceptance.ensures.limit in
    given_up c.from_residual-in_err-keep_acceptance.result _ _ _ c.from_residual-in_err-keep_acceptance.ensures.1
    (λ fault is. accepted_stopped b made c.args.block (prepare_text c.args.block) (λ p w. refl) r _ _ _ _ c.args.out.now h
    within c.requires.kept fault
    (subst (NeedsLimit tells (acceptance (place_of r) r.view c.args.block) (held_of r.store)) (sym is) needs))

pub returns-in_err-send_prepare-clause-makes : goal.returns-in_err-send_prepare-clause-makes
returns-in_err-send_prepare-clause-makes g c = λ b made h.
    let r = c.args.self.now in
    let block = c.args.block in
    let copy = c.in_ok-accepted.ensures in
    let deed = λ (x : Block). acceptance (place_of r) r.view x in
    let within = of_copy deed c.in_ok-accepted.accepted block r _ _ _ _ copy (c.keep_acceptance.ensures.any_moment _) in
    let keeps = subst (λ (x : Block). Keeps (deed x) r c.keep_acceptance.new.self c.args.out.now c.keep_acceptance.new.out)
    copy c.in_ok-keep_acceptance.ensures.keeps in
    given_up c.from_residual-in_err-send_prepare.result _ _ _ c.from_residual-in_err-send_prepare.ensures.1
    (λ fault is. accepted_given_up b made block (prepare_text block) (λ p w. refl) r _ _ _ _ c.args.out.now h within
    c.keep_acceptance.new.self c.keep_acceptance.new.out c.keep_acceptance.new.out keeps
    (λ t. c.in_ok-keep_acceptance.ensures.ready.kept (subst IsTrue (sym c.keep_acceptance.ensures.tells) t)) fault
    (subst TouchesNoDisk (sym is) tt))

pub returns-in_err-told-clause-makes : goal.returns-in_err-told-clause-makes
returns-in_err-told-clause-makes g c = λ b made h.
    let r = c.args.self.now in
    let block = c.args.block in
    let copy = c.in_ok-accepted.ensures in
    let deed = λ (x : Block). acceptance (place_of r) r.view x in
    let within = of_copy deed c.in_ok-accepted.accepted block r _ _ _ _ copy (c.keep_acceptance.ensures.any_moment _) in
    let keeps = subst (λ (x : Block). Keeps (deed x) r c.keep_acceptance.new.self c.args.out.now c.keep_acceptance.new.out)
    copy c.in_ok-keep_acceptance.ensures.keeps in
    given_up c.from_residual-in_err-told.result _ _ _ c.from_residual-in_err-told.ensures.1
    (λ fault is. accepted_given_up b made block (prepare_text block) (λ p w. refl) r _ _ _ _ c.args.out.now h within
    c.keep_acceptance.new.self c.keep_acceptance.new.out c.keep_acceptance.new.out keeps
    (λ t. c.in_ok-keep_acceptance.ensures.ready.kept (subst IsTrue (sym c.keep_acceptance.ensures.tells) t)) fault
    (subst TouchesNoDisk (sym is) tt))

pub returns-clause-runs : goal.returns-clause-runs
returns-clause-runs g c =
    let keeps = c.in_ok-keep_acceptance.ensures.keeps in
    record {
      same = record {
        id = c.told.ensures.stays.same.id ∙ keeps.still.id;
        config = c.told.ensures.stays.same.config ∙ keeps.still.config;
      };
      ready = c.told.ensures.stays.ready _ _ c.in_ok-keep_acceptance.ensures.ready;
      tells = c.keep_acceptance.ensures.tells;
      later = (c.keep_acceptance.ensures.later, omega arith);
      cause = tt;
    }

pub returns-clause-makes : goal.returns-clause-makes
returns-clause-makes g c = λ b made h.
    let r = c.args.self.now in
    let block = c.args.block in
    let new = c.keep_acceptance.new.self in
    let copy = c.in_ok-accepted.ensures in
    let keeps = subst (λ (x : Block). Keeps (acceptance (place_of r) r.view x) r new c.args.out.now c.keep_acceptance.new.out)
    copy c.in_ok-keep_acceptance.ensures.keeps in
    let within = of_copy (λ (x : Block). acceptance (place_of r) r.view x) c.in_ok-accepted.accepted block r _ _ _ _ copy
    (c.keep_acceptance.ensures.any_moment _) in
    let sent = accepted_sent b made block (prepare_text block) (λ p w. refl) r _ _ _ _ c.args.out.now h within new
    c.keep_acceptance.new.out c.send_prepare.new.out keeps c.send_prepare.ensures.facts c.send_prepare.ensures.done
    c.in_ok-send_prepare.ensures.sent in
    tells_made b _ new c.told.new.self _ (g.V.Verifier.accepts c.args.keys.now) c.in_ok-told.field-0 refl
    (makes_tells b _ _ new _ _ _ _ c.send_prepare.new.out c.keep_acceptance.ensures.tells sent) c.in_ok-told.ensures.told

pub returns-clause-next : goal.returns-clause-next
returns-clause-next g c =
    let r = c.args.self.now in
    let new = c.keep_acceptance.new.self in
    let keeps = c.in_ok-keep_acceptance.ensures.keeps in
    accepts_next (g.V.Verifier.accepts c.args.keys.now) c.args.block c.in_ok-told.field-0 r new c.told.new.self
    (same_place r new keeps.still.config (ap (λ (x : Held). x.blocks) keeps.held)) keeps.still.view c.in_ok-told.ensures.told
