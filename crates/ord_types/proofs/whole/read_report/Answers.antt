use Rattle.std.proofs.Common.{arith}
use Rattle.ord_types.specs.Reading.{report_at}
use Rattle.ord_types.proofs.Answering.{found_from, only_from, stays_at}
use Rattle.ord_types.proofs.ValueLaws.{report_law, no_report}
use Rattle.ord_types.proofs.whole.read_report.Goals as goal

pub with_place-requires : goal.with_place-requires
with_place-requires c =
    stays_at report_law c.args.bytes.now c.at-reader.result c.args.at c.report-read.result c.report-read.new.self c.at-reader.ensures (λ i. omega (arith, c.type_inv.bytes i)) c.report-read.ensures

pub returns-clause-found : goal.returns-clause-found
returns-clause-found c =
    found_from report_law c.args.bytes.now c.at-reader.result c.args.at c.with_place.result c.at-reader.ensures no_report (λ i. omega (arith, c.type_inv.bytes i)) (c.with_place.ensures (report_at c.at-reader.result) c.report-read.ensures)

pub returns-clause-only : goal.returns-clause-only
returns-clause-only c = only_from report_law c.args.bytes.now c.at-reader.result c.args.at c.with_place.result c.at-reader.ensures (c.with_place.ensures (report_at c.at-reader.result) c.report-read.ensures)
