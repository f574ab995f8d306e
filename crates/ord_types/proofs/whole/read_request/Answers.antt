use Rattle.std.proofs.Common.{arith}
use Rattle.ord_types.specs.Reading.{request_at}
use Rattle.ord_types.proofs.Answering.{found_from, only_from, stays_at}
use Rattle.ord_types.proofs.ValueLaws.{request_law, no_request}
use Rattle.ord_types.proofs.whole.read_request.Goals as goal

pub with_place-requires : goal.with_place-requires
with_place-requires c =
    stays_at request_law c.args.bytes.now c.at-reader.result c.args.at c.request-read.result c.request-read.new.self c.at-reader.ensures (λ i. omega (arith, c.type_inv.bytes i)) c.request-read.ensures

pub returns-clause-found : goal.returns-clause-found
returns-clause-found c =
    found_from request_law c.args.bytes.now c.at-reader.result c.args.at c.with_place.result c.at-reader.ensures no_request (λ i. omega (arith, c.type_inv.bytes i)) (c.with_place.ensures (request_at c.at-reader.result) c.request-read.ensures)

pub returns-clause-only : goal.returns-clause-only
returns-clause-only c = only_from request_law c.args.bytes.now c.at-reader.result c.args.at c.with_place.result c.at-reader.ensures (c.with_place.ensures (request_at c.at-reader.result) c.request-read.ensures)
