use Rattle.std.proofs.Common.{arith}
use Rattle.ord_types.specs.Reading.{header_at}
use Rattle.ord_types.proofs.Answering.{found_from, only_from, stays_at}
use Rattle.ord_types.proofs.ValueLaws.{header_law, no_header}
use Rattle.ord_types.proofs.whole.read_header.Goals as goal

pub with_place-requires : goal.with_place-requires
with_place-requires c =
    stays_at header_law c.args.bytes.now c.at-reader.result c.args.at c.header-read.result c.header-read.new.self c.at-reader.ensures (λ i. omega (arith, c.type_inv.bytes i)) c.header-read.ensures

pub returns-clause-found : goal.returns-clause-found
returns-clause-found c =
    found_from header_law c.args.bytes.now c.at-reader.result c.args.at c.with_place.result c.at-reader.ensures no_header (λ i. omega (arith, c.type_inv.bytes i)) (c.with_place.ensures (header_at c.at-reader.result) c.header-read.ensures)

pub returns-clause-only : goal.returns-clause-only
returns-clause-only c = only_from header_law c.args.bytes.now c.at-reader.result c.args.at c.with_place.result c.at-reader.ensures (c.with_place.ensures (header_at c.at-reader.result) c.header-read.ensures)
