use Rattle.std.proofs.Common.{◌≡◌, Bool, List, [], Some, cond, slice_get, sym, ap, ◌∙◌}
use Rattle.std.proofs.lemmas.Result.{IfOk-weaker}
use Rattle.safety_model.specs.Blocks.{Request}
use Rattle.world_model.specs.Cores.{core_keeping}
use Rattle.world_model.specs.Pools.{offer}
use Rattle.world_model.specs.Worlds as worlds
use Rattle.world_run.specs.Members.{node_of}
use Rattle.world_run.specs.declared.member.Member.{Member}
use Rattle.world_run.proofs.OfferLemmas.{offered}
use Rattle.world_run.proofs.world.World.offer_to.Goals as goal

pub returns-then-not-may_propose : goal.returns-then-not-may_propose
returns-then-not-may_propose g c member has =
    let w = c.args.self.now in
    let read = c.index-member.result.now in
    c.new.ensures ∙ ap (λ (b : Bool). cond b (offer read.pool.items) []) (sym c.if-not-may_propose.true)
    ∙ offered (g.N.Nodes.at c.args.nodes.now) w c.args.place member read c.node.result.now c.may_propose.result c.requires.sound has c.index-member.ensures c.node.ensures c.may_propose.ensures

pub returns : goal.returns
returns g c =
    let w = c.args.self.now in
    let at = g.N.Nodes.at c.args.nodes.now in
    let read = c.index-member.result.now in
    IfOk-weaker c.offer.result (λ (given : List Request). given ≡ offer c.as_slice.result.now)
    (λ (given : List Request). (member : Member) → slice_get w.members.items c.args.place ≡ Some member → given ≡ worlds.offer_to core_keeping (node_of w.config at member))
    (λ given is member has.
    is ∙ ap offer c.as_slice.ensures.value ∙ ap (λ (b : Bool). cond b (offer read.pool.items) []) (sym c.if-not-may_propose.false)
    ∙ offered at w c.args.place member read c.node.result.now c.may_propose.result c.requires.sound has c.index-member.ensures c.node.ensures c.may_propose.ensures)
    c.offer.ensures
