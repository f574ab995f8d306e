use Rattle.std.proofs.Common.{arith}
use Rattle.bft_wire.proofs.Fitting.{fits_found}
use Rattle.bft_wire.proofs.MessageLaws.{found_of, only_of}
use Rattle.bft_wire.proofs.codec.decode.Goals as goal

pub returns-clause-found : goal.returns-clause-found
returns-clause-found c = found_of c.args.bytes.now _ (λ i. omega (arith, c.type_inv.bytes i)) c.whole_message.ensures

pub returns-clause-only : goal.returns-clause-only
returns-clause-only c = only_of c.args.bytes.now _ c.whole_message.ensures

pub returns-clause-fits : goal.returns-clause-fits
returns-clause-fits c = fits_found c.args.bytes.now _ (found_of c.args.bytes.now _ (λ i. omega (arith, c.type_inv.bytes i)) c.whole_message.ensures)
