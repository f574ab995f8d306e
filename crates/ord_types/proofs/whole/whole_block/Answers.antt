use Rattle.std.proofs.Common.{arith}
use Rattle.ord_types.specs.Reading.{block_at}
use Rattle.ord_types.proofs.Answering.{found_of_all, only_of_all, stays_all}
use Rattle.ord_types.proofs.ValueLaws.{block_law}
use Rattle.ord_types.proofs.whole.whole_block.Goals as goal

pub all_of-requires : goal.all_of-requires
all_of-requires c = stays_all block_law c.args.bytes.now c.new-reader.result c.block-read.result c.block-read.new.self c.new-reader.ensures (λ i. omega (arith, c.type_inv.bytes i)) c.block-read.ensures

pub returns-clause-found : goal.returns-clause-found
returns-clause-found c =
    found_of_all block_law c.args.bytes.now c.new-reader.result c.all_of.result c.new-reader.ensures (λ i. omega (arith, c.type_inv.bytes i)) (c.all_of.ensures (block_at c.new-reader.result) c.block-read.ensures)

pub returns-clause-only : goal.returns-clause-only
returns-clause-only c = only_of_all block_law c.args.bytes.now c.new-reader.result c.all_of.result c.new-reader.ensures (c.all_of.ensures (block_at c.new-reader.result) c.block-read.ensures)
