use Rattle.std.proofs.Common.{◌∷◌, ◌++◌, ◌+◌, ◌<◌, ◌^◌, List, [], ap, refl, subst, sym, ◌∙◌, arith}
use Rattle.safety_model.specs.declared.fact.Fact.{Fact}
use Rattle.ord_types.specs.declared.values.Proof.TheVariants.{Bft}
use Rattle.node_model.specs.Entries.{Delivers}
use Rattle.block_ledger.proofs.Placing.{height_of_place}
use Rattle.view_core.specs.Places.{IsPlace}
use Rattle.bft_node.specs.Held.{Held}
use Rattle.bft_node.specs.Running.{place_of}
use Rattle.bft_node.specs.Stores.{config_of, held_of}
use Rattle.bft_node.specs.declared.live.Done.{Done}
use Rattle.bft_node.specs.declared.live.Running.{Running}
use Rattle.bft_node.proofs.KeepingLemmas.{needs_limit}
use Rattle.bft_node.proofs.PlaceLemmas.{delivered_fact, delivered_place, done_is, next_stands}
use Rattle.bft_node.proofs.live.Running.keep_delivery.Goals as goal

pub returns-clause-place : goal.returns-clause-place
returns-clause-place g c =
    let r = c.args.self.now in
    let new : Running = record r { store = c.deliver.new.self } in
    let spelled = c.if-not-may_come_next.ensures.spelled refl in
    let below : (place_of r).height + 1 < 2 ^ 62 = omega (arith, height_of_place (config_of r.store) (held_of r.store).blocks, c.height.ensures) in
    subst IsPlace (sym (delivered_place r new c.args.block (Bft c.args.cert) c.in_ok-deliver.ensures.config (ap (λ (h : Held). h.blocks) (c.in_ok-deliver.ensures.added r.id))))
    (next_stands (place_of r) c.args.block c.args.cert c.requires.sound.place below spelled.block spelled.proof)

pub returns-clause-keeps : goal.returns-clause-keeps
returns-clause-keeps g c =
    let r = c.args.self.now in
    record {
      still = record { id = refl; view = refl; found = refl; config = c.in_ok-deliver.ensures.config };
      held = c.in_ok-deliver.ensures.added r.view.me;
      facts = c.in_ok-push.ensures.ok ∙ ap (λ (f : Fact). c.args.out.now.facts ++ f ∷ [])
          (delivered_fact r.id r.view.me c.in_ok-copy.field-0 c.args.block c.in_ok-copy-2.field-0 c.args.cert (sym c.requires.sound.me) c.in_ok-copy.ensures c.in_ok-copy-2.ensures);
      sends = refl;
      done = c.in_ok-push-2.ensures.ok ∙ ap (λ (l : List Done). c.args.out.now.done ++ l) (done_is c.in_ok-ids.ids c.args.block (Bft c.args.cert) c.in_ok-ids.ensures);
    }

pub returns-in_err-deliver-clause-limit : goal.returns-in_err-deliver-clause-limit
returns-in_err-deliver-clause-limit g c =
    needs_limit _ _ c.args.self.now.store (Delivers c.args.self.now.view.me c.args.block (Bft c.args.cert)) _ _ _ c.in_err-deliver.field-0.0 c.from_residual-in_err-deliver.result c.requires.kept refl c.in_err-deliver.ensures.cause c.from_residual-in_err-deliver.ensures.1
