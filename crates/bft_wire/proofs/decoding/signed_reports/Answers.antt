use Rattle.std.proofs.Common.{◌+◌}
use Rattle.std.proofs.lemmas.Result.{err_from_is_err_and}
use Rattle.ord_types.proofs.Loops.{goes_on, ends, is_done}
use Rattle.bft_wire.specs.Reading.{signed_from_at, signed_reports_at}
use Rattle.bft_wire.proofs.Loops.{reports_loop}
use Rattle.bft_wire.proofs.decoding.signed_reports.Goals as goal

pub returns-in_err-signed : goal.returns-in_err-signed
returns-in_err-signed c =
    let p = err_from_is_err_and c.from_residual.result c.from_residual.ensures.1 in
    rw (p.1, p.2) (ends signed_from_at (λ least s. s.sig.signer + 1) signed_reports_at reports_loop c.loop.least c.in_err-signed.field-0.0 c.loop.reports c.args.count c.loop.counter c.loop.reader _ c.loop-test.true c.in_err-signed.ensures c.loop.invariant)

pub loop-preserved : goal.loop-preserved
loop-preserved c = rw (c.in_ok-push.ensures.ok, c.from-least.ensures) (goes_on signed_from_at (λ least s. s.sig.signer + 1) signed_reports_at reports_loop c.loop.least c.loop.reports c.args.count c.loop.counter c.loop.reader _ _ _ c.loop-test.true c.in_ok-signed.ensures c.loop.invariant)

pub returns : goal.returns
returns c = is_done signed_from_at (λ least s. s.sig.signer + 1) signed_reports_at reports_loop c.loop.least c.loop.reports c.args.count c.loop.counter c.loop.reader _ c.loop-test.false c.loop.invariant
