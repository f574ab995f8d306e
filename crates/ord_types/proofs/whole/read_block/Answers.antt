use Rattle.std.proofs.Common.{arith}
use Rattle.ord_types.specs.Reading.{block_at}
use Rattle.ord_types.proofs.Answering.{found_from, only_from, stays_at}
use Rattle.ord_types.proofs.ValueLaws.{block_law, no_block}
use Rattle.ord_types.proofs.whole.read_block.Goals as goal

pub with_place-requires : goal.with_place-requires
with_place-requires c =
    stays_at block_law c.args.bytes.now c.at-reader.result c.args.at c.block-read.result c.block-read.new.self c.at-reader.ensures (λ i. omega (arith, c.type_inv.bytes i)) c.block-read.ensures

pub returns-clause-found : goal.returns-clause-found
returns-clause-found c =
    found_from block_law c.args.bytes.now c.at-reader.result c.args.at c.with_place.result c.at-reader.ensures no_block (λ i. omega (arith, c.type_inv.bytes i)) (c.with_place.ensures (block_at c.at-reader.result) c.block-read.ensures)

pub returns-clause-only : goal.returns-clause-only
returns-clause-only c = only_from block_law c.args.bytes.now c.at-reader.result c.args.at c.with_place.result c.at-reader.ensures (c.with_place.ensures (block_at c.at-reader.result) c.block-read.ensures)
