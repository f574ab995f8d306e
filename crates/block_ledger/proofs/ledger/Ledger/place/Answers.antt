use Rattle.block_ledger.specs.Ledgers.{blocks_of, first_config}
use Rattle.block_ledger.proofs.ledger.Ledger.place.Goals as goal

pub returns : goal.returns
unfolding blocks_of first_config
returns c = c.args.self.now.blocks.in_order.behind
