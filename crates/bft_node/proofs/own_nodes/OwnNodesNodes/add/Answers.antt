use Rattle.std.proofs.Common.{ap}
use Rattle.std.specs.BTreeMap.{is_at}
use Rattle.std.specs.Map.{lookup}
use Rattle.std.specs.Ordering.{nat_cmp}
use Rattle.bft_node.proofs.OpenLemmas.{apart}
use Rattle.bft_node.proofs.own_nodes.OwnNodesNodes.add.Goals as goal

pub returns-in-Ok-clause-adds : goal.returns-in-Ok-clause-adds
returns-in-Ok-clause-adds c = (
  c.in_ok-lodged.lodged,
  c.in_ok-lodged.ensures.opened,
  record { there = c.in-Ok.ensures.updates.1; others = λ other not. c.in-Ok.ensures.updates.2 other (apart c.args.setup.now.me other not) },
)

pub returns-clause-adds : goal.returns-clause-adds
returns-clause-adds c = (λ id. ap (λ es. lookup (is_at (nat_cmp id)) es) c.in-Err.ensures.err, tt)
