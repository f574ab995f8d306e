use Rattle.std.proofs.Common.{ap, sym, ◌∙◌, arith, take}
use Rattle.block_ledger.specs.Chains.{blocks_in}
use Rattle.block_ledger.specs.Ledgers.{blocks_of, first_config}
use Rattle.block_ledger.proofs.Placing.{config_stays, height_of_place}
use Rattle.block_ledger.proofs.ledger.Ledger.config_at.Goals as goal

pub returns-then-number-self : goal.returns-then-number-self
unfolding blocks_of first_config
returns-then-number-self c =
    let blocks = c.args.self.now.blocks in
    let height = ap (λ p. p.height) blocks.in_order.behind ∙ height_of_place blocks.place.config blocks.chain in
    (omega (arith, height, c.if-number-self.true), sym (config_stays blocks.place.config (blocks_in (take c.args.number blocks.chain))))

pub returns-else-number-self : goal.returns-else-number-self
unfolding blocks_of
returns-else-number-self c =
    let blocks = c.args.self.now.blocks in
    let height = ap (λ p. p.height) blocks.in_order.behind ∙ height_of_place blocks.place.config blocks.chain in
    omega (arith, height, c.if-number-self.false)
