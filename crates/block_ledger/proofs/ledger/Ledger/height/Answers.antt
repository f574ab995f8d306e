use Rattle.std.proofs.Common.{ap, ◌∙◌}
use Rattle.block_ledger.specs.Ledgers.{blocks_of}
use Rattle.block_ledger.proofs.Placing.{height_of_place}
use Rattle.block_ledger.proofs.ledger.Ledger.height.Goals as goal

pub returns : goal.returns
unfolding blocks_of
returns c = let blocks = c.args.self.now.blocks in ap (λ p. p.height) blocks.in_order.behind ∙ height_of_place blocks.place.config blocks.chain
