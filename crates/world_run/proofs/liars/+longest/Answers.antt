use Rattle.std.proofs.Common.{[]}
use Rattle.world_model.specs.Turns.{first_config}
use Rattle.world_run.proofs.LiarLemmas.{longest_alone, longest_first, longest_is_some, longest_other}
use Rattle.world_run.proofs.liars.+longest.Goals as goal

pub node-requires-in-Some : goal.node-requires-in-Some
node-requires-in-Some g t c = longest_is_some (first_config []) (g.N.Nodes.at c.args.nodes.now) _ c.in-Some.other (c.in-Some.ensures (first_config []))

pub returns-in-None : goal.returns-in-None
returns-in-None g t c = λ config. longest_alone config (g.N.Nodes.at c.args.nodes.now) c.args.members.now c.member-item.result c.in-len1-up.len_at_least c.member-item.is c.requires (c.in-None.ensures config)

pub returns-then-height : goal.returns-then-height
returns-then-height g t c = λ config.
    longest_other config (g.N.Nodes.at c.args.nodes.now) c.args.members.now c.member-item.result c.in-Some.other c.height.result c.height-in-Some.result _ _ c.in-len1-up.len_at_least c.member-item.is
    (c.in-Some.ensures config) c.node.ensures c.node-in-Some.ensures (rw c.ledger.ensures at c.height.ensures) (rw c.ledger-in-Some.ensures at c.height-in-Some.ensures) c.if-height.true

pub returns-else-height : goal.returns-else-height
returns-else-height g t c = λ config.
    longest_first config (g.N.Nodes.at c.args.nodes.now) c.args.members.now c.member-item.result c.in-Some.other c.height.result c.height-in-Some.result _ _ c.in-len1-up.len_at_least c.member-item.is c.requires
    (c.in-Some.ensures config) c.node.ensures c.node-in-Some.ensures (rw c.ledger.ensures at c.height.ensures) (rw c.ledger-in-Some.ensures at c.height-in-Some.ensures) c.if-height.false
