use Rattle.std.proofs.Common.{Some, sym, ap, ◌∙◌}
use Rattle.ord_types.specs.declared.values.Place.{Place}
use Rattle.bft_node.specs.Lodgings.{accepts_of}
use Rattle.bft_wire.specs.Spelling.{message_text}
use Rattle.world_model.specs.Liars.{proposal_of}
use Rattle.world_run.proofs.LiarLemmas.{longest_is_some, longest_place, members_there, place_seated}
use Rattle.world_run.proofs.world.World.proposal.Goals as goal

pub longest-requires : goal.longest-requires
longest-requires g c =
    rw c.as_slice.ensures.value (members_there c.args.self.now.config (accepts_of c.args.self.now.outside.seat) (g.N.Nodes.at c.args.nodes.now) c.args.self.now.members.items c.requires.sound.nodes)

pub node-requires : goal.node-requires
node-requires g c = longest_is_some c.args.self.now.config (g.N.Nodes.at c.args.nodes.now) _ c.in-Some.id (c.in-Some.ensures c.args.self.now.config)

pub proposal_on-requires-clause-place : goal.proposal_on-requires-clause-place
proposal_on-requires-clause-place g c =
    let w = c.args.self.now in
    let first = rw c.as_slice.ensures.value at (c.in-Some.ensures w.config) in
    let here = rw c.ledger.ensures at c.place-place.ensures in
    rw here (place_seated w.config (accepts_of w.outside.seat) (g.N.Nodes.at c.args.nodes.now) w.members.items c.in-Some.id c.node.result.now c.requires.sound.nodes first c.node.ensures)

pub returns : goal.returns
returns g c = λ later.
    let w = c.args.self.now in
    let first = rw c.as_slice.ensures.value at (c.in-Some.ensures w.config) in
    let here = rw c.ledger.ensures at c.place-place.ensures in
    ap Some (c.in_ok-encoded.ensures ∙ ap message_text c.in_ok-message.ensures.proposal ∙ ap (λ (place : Place). message_text (proposal_of place c.args.view c.args.request)) here)
    ∙ sym (longest_place w.config (g.N.Nodes.at c.args.nodes.now) w.members.items c.in-Some.id c.args.view c.args.request c.node.result.now first c.node.ensures)
