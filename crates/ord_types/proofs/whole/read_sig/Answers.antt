use Rattle.std.proofs.Common.{arith}
use Rattle.ord_types.specs.Reading.{sig_at}
use Rattle.ord_types.proofs.Answering.{found_from, only_from, stays_at}
use Rattle.ord_types.proofs.ValueLaws.{sig_law, no_sig}
use Rattle.ord_types.proofs.whole.read_sig.Goals as goal

pub with_place-requires : goal.with_place-requires
with_place-requires c =
    stays_at sig_law c.args.bytes.now c.at-reader.result c.args.at c.sig-read.result c.sig-read.new.self c.at-reader.ensures (λ i. omega (arith, c.type_inv.bytes i)) c.sig-read.ensures

pub returns-clause-found : goal.returns-clause-found
returns-clause-found c =
    found_from sig_law c.args.bytes.now c.at-reader.result c.args.at c.with_place.result c.at-reader.ensures no_sig (λ i. omega (arith, c.type_inv.bytes i)) (c.with_place.ensures (sig_at c.at-reader.result) c.sig-read.ensures)

pub returns-clause-only : goal.returns-clause-only
returns-clause-only c = only_from sig_law c.args.bytes.now c.at-reader.result c.args.at c.with_place.result c.at-reader.ensures (c.with_place.ensures (sig_at c.at-reader.result) c.sig-read.ensures)
