use Rattle.std.proofs.Common.{arith}
use Rattle.ord_types.specs.Reading.{request_at}
use Rattle.ord_types.proofs.Answering.{found_of_all, only_of_all, stays_all}
use Rattle.ord_types.proofs.ValueLaws.{request_law}
use Rattle.ord_types.proofs.whole.whole_request.Goals as goal

pub all_of-requires : goal.all_of-requires
all_of-requires c = stays_all request_law c.args.bytes.now c.new-reader.result c.request-read.result c.request-read.new.self c.new-reader.ensures (λ i. omega (arith, c.type_inv.bytes i)) c.request-read.ensures

pub returns-clause-found : goal.returns-clause-found
returns-clause-found c =
    found_of_all request_law c.args.bytes.now c.new-reader.result c.all_of.result c.new-reader.ensures (λ i. omega (arith, c.type_inv.bytes i)) (c.all_of.ensures (request_at c.new-reader.result) c.request-read.ensures)

pub returns-clause-only : goal.returns-clause-only
returns-clause-only c = only_of_all request_law c.args.bytes.now c.new-reader.result c.all_of.result c.new-reader.ensures (c.all_of.ensures (request_at c.new-reader.result) c.request-read.ensures)
