use Rattle.std.proofs.Common.{arith}
use Rattle.ord_types.specs.Reading.{header_at}
use Rattle.ord_types.proofs.Answering.{found_of_all, only_of_all, stays_all}
use Rattle.ord_types.proofs.ValueLaws.{header_law}
use Rattle.ord_types.proofs.whole.whole_header.Goals as goal

pub all_of-requires : goal.all_of-requires
all_of-requires c = stays_all header_law c.args.bytes.now c.new-reader.result c.header-read.result c.header-read.new.self c.new-reader.ensures (λ i. omega (arith, c.type_inv.bytes i)) c.header-read.ensures

pub returns-clause-found : goal.returns-clause-found
returns-clause-found c =
    found_of_all header_law c.args.bytes.now c.new-reader.result c.all_of.result c.new-reader.ensures (λ i. omega (arith, c.type_inv.bytes i)) (c.all_of.ensures (header_at c.new-reader.result) c.header-read.ensures)

pub returns-clause-only : goal.returns-clause-only
returns-clause-only c = only_of_all header_law c.args.bytes.now c.new-reader.result c.all_of.result c.new-reader.ensures (c.all_of.ensures (header_at c.new-reader.result) c.header-read.ensures)
