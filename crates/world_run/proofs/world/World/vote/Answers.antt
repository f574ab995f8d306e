use Rattle.std.proofs.Common.{◌<◌, ap, arith, codes, length, sym, refl, ◌∙◌}
use Rattle.std.specs.Option.{option_map}
use Rattle.std.proofs.lemmas.Option.{slice_get-map}
use Rattle.std.proofs.lemmas.Result.{IfOk-weaker}
use Rattle.world_model.specs.Liars.{vote_turn}
use Rattle.world_model.specs.Says.{refuses}
use Rattle.world_model.specs.Worlds as worlds
use Rattle.world_run.specs.Entries.{entry_of}
use Rattle.world_run.specs.Mapped.{Model, world_of}
use Rattle.world_run.proofs.GoingLemmas.{Turned-same}
use Rattle.world_run.proofs.LiarLemmas.{entry_numbered}
use Rattle.world_run.proofs.ListLemmas.{item_at}
use Rattle.world_run.proofs.SaysLemmas.{says_after}
use Rattle.world_run.proofs.world.World.vote.Goals as goal

pub returns-in-None-clause-says : goal.returns-in-None-clause-says
returns-in-None-clause-says c =
    let w = c.args.self.now in
    says_after c.refuse.result w w c.refuse.new.self (refuses w.outside.number (codes "no entry"))
    (λ (v : Model). vote_turn w.outside.number v c.args.from c.args.to c.args.kind c.args.view (worlds.entry c.args.entry v)) refl
    (λ at later. sym (ap (vote_turn w.outside.number (world_of at w later) c.args.from c.args.to c.args.kind c.args.view) (c.in-None.ensures.none at later)))
    c.refuse.ensures.says

pub returns-in-Some-clause-says : goal.returns-in-Some-clause-says
returns-in-Some-clause-says c =
    let w = c.args.self.now in
    let network = w.outside.network.items in
    let within : c.in-Some.at < length network = omega (arith, c.in-Some.ensures.some.0) in
    let found = item_at network c.in-Some.at within in
    let has = slice_get-map entry_of network c.in-Some.at ∙ ap (option_map entry_of) found.1 in
    IfOk-weaker c.vote_at.result _ _
    (λ ending said. λ at later.
    Turned-same _ _ _ _ _ ending
    (sym (ap (vote_turn w.outside.number (world_of at w later) c.args.from c.args.to c.args.kind c.args.view) (entry_numbered (world_of at w later) c.args.entry c.in-Some.at c.in-Some.ensures.some.1 ∙ has)))
    (said (entry_of found.0) has at later))
    c.vote_at.ensures.says
