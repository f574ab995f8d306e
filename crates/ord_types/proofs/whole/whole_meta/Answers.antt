use Rattle.std.proofs.Common.{arith}
use Rattle.ord_types.specs.Reading.{meta_at}
use Rattle.ord_types.proofs.Answering.{found_of_all, only_of_all, stays_all}
use Rattle.ord_types.proofs.ValueLaws.{meta_law}
use Rattle.ord_types.proofs.whole.whole_meta.Goals as goal

pub all_of-requires : goal.all_of-requires
all_of-requires c = stays_all meta_law c.args.bytes.now c.new-reader.result c.meta-read.result c.meta-read.new.self c.new-reader.ensures (λ i. omega (arith, c.type_inv.bytes i)) c.meta-read.ensures

pub returns-clause-found : goal.returns-clause-found
returns-clause-found c =
    found_of_all meta_law c.args.bytes.now c.new-reader.result c.all_of.result c.new-reader.ensures (λ i. omega (arith, c.type_inv.bytes i)) (c.all_of.ensures (meta_at c.new-reader.result) c.meta-read.ensures)

pub returns-clause-only : goal.returns-clause-only
returns-clause-only c = only_of_all meta_law c.args.bytes.now c.new-reader.result c.all_of.result c.new-reader.ensures (c.all_of.ensures (meta_at c.new-reader.result) c.meta-read.ensures)
