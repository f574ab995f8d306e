use Rattle.std.proofs.Common.{ap}
use Rattle.block_ledger.specs.Ledgers.{blocks_of, first_config}
use Rattle.block_ledger.proofs.ledger.Ledger.last_hash.Goals as goal

pub returns : goal.returns
unfolding blocks_of first_config
returns c = ap (λ p. p.last) c.args.self.now.blocks.in_order.behind
