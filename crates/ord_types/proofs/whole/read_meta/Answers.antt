use Rattle.std.proofs.Common.{arith}
use Rattle.ord_types.specs.Reading.{meta_at}
use Rattle.ord_types.proofs.Answering.{found_from, only_from, stays_at}
use Rattle.ord_types.proofs.ValueLaws.{meta_law, no_meta}
use Rattle.ord_types.proofs.whole.read_meta.Goals as goal

pub with_place-requires : goal.with_place-requires
with_place-requires c =
    stays_at meta_law c.args.bytes.now c.at-reader.result c.args.at c.meta-read.result c.meta-read.new.self c.at-reader.ensures (λ i. omega (arith, c.type_inv.bytes i)) c.meta-read.ensures

pub returns-clause-found : goal.returns-clause-found
returns-clause-found c =
    found_from meta_law c.args.bytes.now c.at-reader.result c.args.at c.with_place.result c.at-reader.ensures no_meta (λ i. omega (arith, c.type_inv.bytes i)) (c.with_place.ensures (meta_at c.at-reader.result) c.meta-read.ensures)

pub returns-clause-only : goal.returns-clause-only
returns-clause-only c = only_from meta_law c.args.bytes.now c.at-reader.result c.args.at c.with_place.result c.at-reader.ensures (c.with_place.ensures (meta_at c.at-reader.result) c.meta-read.ensures)
