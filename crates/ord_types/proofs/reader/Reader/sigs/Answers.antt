use Rattle.std.proofs.Common.{◌+◌}
use Rattle.std.proofs.lemmas.Result.{err_from_is_err_and}
use Rattle.ord_types.specs.Reading.{sig_from_at, sigs_at}
use Rattle.ord_types.proofs.Loops.{goes_on, ends, is_done, sigs_loop}
use Rattle.ord_types.proofs.reader.Reader.sigs.Goals as goal

pub returns-in_err-sig : goal.returns-in_err-sig
returns-in_err-sig c =
    let p = err_from_is_err_and c.from_residual.result c.from_residual.ensures.1 in
    rw (p.1, p.2) (ends sig_from_at (λ least s. s.signer + 1) sigs_at sigs_loop c.loop.least c.in_err-sig.field-0.0 c.loop.sigs c.args.count c.loop.counter c.loop.self _ c.loop-test.true c.in_err-sig.ensures c.loop.invariant)

pub loop-preserved : goal.loop-preserved
loop-preserved c = rw (c.in_ok-push.ensures.ok, c.from-least.ensures) (goes_on sig_from_at (λ least s. s.signer + 1) sigs_at sigs_loop c.loop.least c.loop.sigs c.args.count c.loop.counter c.loop.self _ _ _ c.loop-test.true c.in_ok-sig.ensures c.loop.invariant)

pub returns : goal.returns
returns c = is_done sig_from_at (λ least s. s.signer + 1) sigs_at sigs_loop c.loop.least c.loop.sigs c.args.count c.loop.counter c.loop.self _ c.loop-test.false c.loop.invariant
