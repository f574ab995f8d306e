use Rattle.std.proofs.Common.{arith}
use Rattle.ord_types.specs.Reading.{config_at}
use Rattle.ord_types.proofs.Answering.{found_from, only_from, stays_at}
use Rattle.ord_types.proofs.ValueLaws.{config_law, no_config}
use Rattle.ord_types.proofs.whole.read_config.Goals as goal

pub with_place-requires : goal.with_place-requires
with_place-requires c =
    stays_at config_law c.args.bytes.now c.at-reader.result c.args.at c.config-read.result c.config-read.new.self c.at-reader.ensures (λ i. omega (arith, c.type_inv.bytes i)) c.config-read.ensures

pub returns-clause-found : goal.returns-clause-found
returns-clause-found c =
    found_from config_law c.args.bytes.now c.at-reader.result c.args.at c.with_place.result c.at-reader.ensures no_config (λ i. omega (arith, c.type_inv.bytes i)) (c.with_place.ensures (config_at c.at-reader.result) c.config-read.ensures)

pub returns-clause-only : goal.returns-clause-only
returns-clause-only c = only_from config_law c.args.bytes.now c.at-reader.result c.args.at c.with_place.result c.at-reader.ensures (c.with_place.ensures (config_at c.at-reader.result) c.config-read.ensures)
