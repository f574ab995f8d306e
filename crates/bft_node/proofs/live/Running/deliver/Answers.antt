use Rattle.std.proofs.Common.{IsTrue, ap, arith, refl, subst, sym, ◌∙◌}
use Rattle.ord_types.specs.declared.values.Place.{Place}
use Rattle.ord_types.specs.declared.values.Proof.TheVariants.{Bft}
use Rattle.chan_config.specs.Places.{next_place}
use Rattle.view_model.specs.Acts.{View}
use Rattle.view_model.specs.Answers.{at_place}
use Rattle.node_model.specs.Entries.{Delivers}
use Rattle.bft_node.specs.Held.{Held}
use Rattle.bft_node.specs.NodeFaults.{NeedsLimit, TouchesNoDisk}
use Rattle.bft_node.specs.Running.{place_of}
use Rattle.bft_node.specs.Stores.{held_of}
use Rattle.bft_node.specs.declared.live.Running.{Running}
use Rattle.bft_node.proofs.ActLemmas.{delivered_given_up, delivered_made, delivered_sound, delivered_stopped}
use Rattle.bft_node.proofs.MakingLemmas.{given_up, makes_tells}
use Rattle.bft_node.proofs.PlaceLemmas.{delivered_place}
use Rattle.bft_node.proofs.ToldLemmas.{delivers_next, tells_made}
use Rattle.bft_node.proofs.live.Running.deliver.Goals as goal

pub told-requires : goal.told-requires
told-requires g c =
    let r = c.args.self.now in
    let mid = c.keep_delivery.new.self in
    let keeps = c.in_ok-keep_delivery.ensures.keeps in
    delivered_sound r mid c.go_to.new.self c.args.block (Bft c.args.cert) c.requires.sound keeps.still
    (delivered_place r mid c.args.block (Bft c.args.cert) keeps.still.config (ap (λ (x : Held). x.blocks) keeps.held))
    c.in_ok-keep_delivery.ensures.place (c.go_to.ensures ∙ ap (λ (p : Place). at_place p mid.view) c.place.ensures)

pub returns-in_err-keep_delivery-clause-makes : goal.returns-in_err-keep_delivery-clause-makes
returns-in_err-keep_delivery-clause-makes g c = λ b made h.
    let r = c.args.self.now in
    let deed = Delivers r.view.me c.args.block (Bft c.args.cert) in
    given_up c.from_residual.result _ _ _ c.from_residual.ensures.1
    (λ fault is. delivered_stopped b made c.args.block c.args.cert r _ _ _ _ c.args.out.now h
    c.keep_delivery.ensures.any_moment c.requires.kept fault
    (subst (NeedsLimit (g.D.Disk.tells c.args.disk.now) deed (held_of r.store)) (sym is)
    c.in_err-keep_delivery.ensures.limit))

pub returns-in_err-told-clause-makes : goal.returns-in_err-told-clause-makes
returns-in_err-told-clause-makes g c = λ b made h.
    let mid = c.keep_delivery.new.self in
    let new : Running = record mid { view = c.go_to.new.self } in
    given_up c.from_residual-in_err-told.result _ _ _ c.from_residual-in_err-told.ensures.1
    (λ fault is. delivered_given_up b made c.args.block c.args.cert c.args.self.now _ _ _ _ c.args.out.now h
    c.keep_delivery.ensures.any_moment mid new c.keep_delivery.new.out c.in_ok-keep_delivery.ensures.keeps refl refl refl
    (c.go_to.ensures ∙ ap (λ (p : Place). at_place p mid.view) c.place.ensures) c.in_ok-keep_delivery.ensures.chain
    (λ t. c.in_ok-keep_delivery.ensures.kept (subst IsTrue (sym c.keep_delivery.ensures.tells) t)) fault
    (subst TouchesNoDisk (sym is) tt))

pub returns-clause-makes : goal.returns-clause-makes
returns-clause-makes g c = λ b made h.
    let mid = c.keep_delivery.new.self in
    let new : Running = record mid { view = c.go_to.new.self } in
    let done = delivered_made b made c.args.block c.args.cert c.args.self.now _ _ _ _ c.args.out.now h
    c.keep_delivery.ensures.any_moment mid new c.keep_delivery.new.out c.in_ok-keep_delivery.ensures.keeps refl refl refl
    (c.go_to.ensures ∙ ap (λ (p : Place). at_place p mid.view) c.place.ensures) c.in_ok-keep_delivery.ensures.chain in
    tells_made b _ new c.told.new.self _ (g.V.Verifier.accepts c.args.keys.now) c.in_ok-told.field-0 refl
    (makes_tells b _ _ new _ _ _ _ c.keep_delivery.new.out c.keep_delivery.ensures.tells done) c.in_ok-told.ensures.told

pub returns-clause-runs : goal.returns-clause-runs
returns-clause-runs g c =
    let r = c.args.self.now in
    let mid = c.keep_delivery.new.self in
    let keeps = c.in_ok-keep_delivery.ensures.keeps in
    let ready = c.told.ensures.stays.ready _ _
    (record {
      sound = delivered_sound r mid c.go_to.new.self c.args.block (Bft c.args.cert) c.requires.sound keeps.still
          (delivered_place r mid c.args.block (Bft c.args.cert) keeps.still.config
          (ap (λ (x : Held). x.blocks) keeps.held)) c.in_ok-keep_delivery.ensures.place
          (c.go_to.ensures ∙ ap (λ (p : Place). at_place p mid.view) c.place.ensures);
      kept = c.in_ok-keep_delivery.ensures.kept;
    }) in
    record {
      same = record {
        id = c.told.ensures.stays.same.id ∙ keeps.still.id;
        config = c.told.ensures.stays.same.config ∙ keeps.still.config;
      };
      ready = ready;
      tells = c.keep_delivery.ensures.tells;
      later = (c.keep_delivery.ensures.later, omega arith);
      cause = tt;
    }

pub returns-clause-next : goal.returns-clause-next
returns-clause-next g c =
    let r = c.args.self.now in
    let mid = c.keep_delivery.new.self in
    let new : Running = record mid { view = c.go_to.new.self } in
    let keeps = c.in_ok-keep_delivery.ensures.keeps in
    let stands = delivered_place r mid c.args.block (Bft c.args.cert) keeps.still.config
    (ap (λ (x : Held). x.blocks) keeps.held) in
    let view = c.go_to.ensures ∙ ap (λ (p : Place). at_place p mid.view) (c.place.ensures ∙ stands)
    ∙ ap (λ (w : View). at_place (next_place (place_of r) (c.args.block, Bft c.args.cert)) w) keeps.still.view in
    delivers_next (g.V.Verifier.accepts c.args.keys.now) c.args.block c.args.cert c.in_ok-told.field-0 r new c.told.new.self
    stands view c.in_ok-told.ensures.told
