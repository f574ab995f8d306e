use Rattle.std.proofs.Common.{IsTrue, ◌∷◌, ◌++◌, [], ap, refl, subst, sym, ◌∙◌}
use Rattle.std.proofs.lemmas.List.{append-nil}
use Rattle.gate_log.specs.Runs.{Throughout}
use Rattle.node_model.specs.Entries.{Deed}
use Rattle.node_model.specs.Steps.{acceptance}
use Rattle.safety_model.specs.declared.fact.Fact.{Fact}
use Rattle.bft_node.specs.Crashes.{Within}
use Rattle.bft_node.specs.Held.{Held, with_deed}
use Rattle.bft_node.specs.NodeFaults.{write_limit}
use Rattle.bft_node.specs.Running.{place_of}
use Rattle.bft_node.specs.Stores.{config_of, held_of}
use Rattle.bft_node.specs.declared.live.Running.{Running}
use Rattle.block_ledger.specs.Ledgers.{first_config}
use Rattle.block_ledger.specs.declared.ledger.Ledger.{Ledger}
use Rattle.bft_node.proofs.KeepingLemmas.{accepted_fact, keeps_within, needs_limit, same_place, same_acceptance, still_sound}
use Rattle.bft_node.proofs.live.Running.keep_acceptance.Goals as goal

pub returns-in_err-accept-clause-any_moment : goal.returns-in_err-accept-clause-any_moment
returns-in_err-accept-clause-any_moment g c =
    let r = c.args.self.now in
    let same = same_acceptance r r.view.me c.view-view.result c.place-place.result.now c.args.block refl c.place-place.ensures c.view-view.ensures in
    keeps_within _ r _ _ _ (λ judge t chain. subst (λ (d : Deed). Throughout (Within judge (config_of r.store) (d ∷ []) (held_of r.store)) (g.D.Disk.moments c.args.disk.now) (g.D.Disk.moments c.accept.new.disk)) same
    (c.accept.ensures.any_moment r.view.me judge t chain))

pub returns-in_err-push-clause-any_moment : goal.returns-in_err-push-clause-any_moment
returns-in_err-push-clause-any_moment g c =
    let r = c.args.self.now in
    let same = same_acceptance r r.view.me c.view-view.result c.place-place.result.now c.args.block refl c.place-place.ensures c.view-view.ensures in
    keeps_within _ r _ _ _ (λ judge t chain. subst (λ (d : Deed). Throughout (Within judge (config_of r.store) (d ∷ []) (held_of r.store)) (g.D.Disk.moments c.args.disk.now) (g.D.Disk.moments c.accept.new.disk)) same
    (c.accept.ensures.any_moment r.view.me judge t chain))

pub returns-in_err-accept-clause-limit : goal.returns-in_err-accept-clause-limit
returns-in_err-accept-clause-limit g c =
    let r = c.args.self.now in
    let same = same_acceptance r r.view.me c.view-view.result c.place-place.result.now c.args.block refl c.place-place.ensures c.view-view.ensures in
    needs_limit _ _ r.store (acceptance (place_of r) r.view c.args.block) _ _ _ c.in_err-accept.field-0.0 c.from_residual.result c.requires.kept (ap (write_limit r.store) (sym same)) c.in_err-accept.ensures.cause c.from_residual.ensures.1

pub returns-clause-ready : goal.returns-clause-ready
returns-clause-ready g c =
    let r = c.args.self.now in
    let new : Running = record r { store = c.accept.new.self } in
    record {
      sound = still_sound r new refl refl (same_place r new (ap (λ (l : Ledger). first_config l) c.accept.ensures.ledger) (ap (λ (h : Held). h.blocks) (c.in_ok-accept.ensures.added r.id))) c.requires.sound;
      kept = λ t. c.in_ok-accept.ensures.kept (subst (λ b. IsTrue b) c.accept.ensures.tells t);
    }

pub returns-clause-keeps : goal.returns-clause-keeps
returns-clause-keeps g c =
    let r = c.args.self.now in
    let same = same_acceptance r r.view.me c.view-view.result c.place-place.result.now c.args.block refl c.place-place.ensures c.view-view.ensures in
    let named = accepted_fact r r.id c.view-view.result c.place-place.result.now c.args.block c.block_hash-digest.result (sym c.requires.sound.me) c.place-place.ensures c.view-view.ensures c.block_hash-digest.ensures in
    record {
      still = record { id = refl; view = refl; found = refl; config = (ap (λ (l : Ledger). first_config l) c.accept.ensures.ledger) };
      held = c.in_ok-accept.ensures.added r.view.me ∙ ap (λ (d : Deed). with_deed d (held_of r.store)) same;
      facts = c.in_ok-push.ensures.ok ∙ ap (λ (f : Fact). c.args.out.now.facts ++ f ∷ []) named;
      sends = refl;
      done = sym (append-nil c.args.out.now.done);
    }

pub returns-clause-any_moment : goal.returns-clause-any_moment
returns-clause-any_moment g c =
    let r = c.args.self.now in
    let same = same_acceptance r r.view.me c.view-view.result c.place-place.result.now c.args.block refl c.place-place.ensures c.view-view.ensures in
    keeps_within _ r _ _ _ (λ judge t chain. subst (λ (d : Deed). Throughout (Within judge (config_of r.store) (d ∷ []) (held_of r.store)) (g.D.Disk.moments c.args.disk.now) (g.D.Disk.moments c.accept.new.disk)) same
    (c.accept.ensures.any_moment r.view.me judge t chain))
