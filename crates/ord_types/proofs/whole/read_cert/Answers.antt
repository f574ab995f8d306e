use Rattle.std.proofs.Common.{arith}
use Rattle.ord_types.specs.Reading.{cert_at}
use Rattle.ord_types.proofs.Answering.{found_from, only_from, stays_at}
use Rattle.ord_types.proofs.ValueLaws.{cert_law, no_cert}
use Rattle.ord_types.proofs.whole.read_cert.Goals as goal

pub with_place-requires : goal.with_place-requires
with_place-requires c =
    stays_at cert_law c.args.bytes.now c.at-reader.result c.args.at c.cert-read.result c.cert-read.new.self c.at-reader.ensures (λ i. omega (arith, c.type_inv.bytes i)) c.cert-read.ensures

pub returns-clause-found : goal.returns-clause-found
returns-clause-found c =
    found_from cert_law c.args.bytes.now c.at-reader.result c.args.at c.with_place.result c.at-reader.ensures no_cert (λ i. omega (arith, c.type_inv.bytes i)) (c.with_place.ensures (cert_at c.at-reader.result) c.cert-read.ensures)

pub returns-clause-only : goal.returns-clause-only
returns-clause-only c = only_from cert_law c.args.bytes.now c.at-reader.result c.args.at c.with_place.result c.at-reader.ensures (c.with_place.ensures (cert_at c.at-reader.result) c.cert-read.ensures)
