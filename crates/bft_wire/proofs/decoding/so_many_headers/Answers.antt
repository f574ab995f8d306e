use Rattle.std.proofs.lemmas.Result.{err_from_is_err_and}
use Rattle.ord_types.specs.Reading.{header_at, list_at}
use Rattle.ord_types.proofs.Loops.{goes_on, ends, is_done, list_loop}
use Rattle.bft_wire.proofs.decoding.so_many_headers.Goals as goal

pub returns-in_err-header : goal.returns-in_err-header
returns-in_err-header c =
    let p = err_from_is_err_and c.from_residual.result c.from_residual.ensures.1 in
    rw (p.1, p.2) (ends (λ (s : Unit {0}). header_at) (λ s x. tt) (λ (s : Unit {0}). list_at header_at) (list_loop header_at) tt c.in_err-header.field-0.0 c.loop.headers c.args.count c.loop.counter c.loop.reader _ c.loop-test.true c.in_err-header.ensures c.loop.invariant)

pub loop-preserved : goal.loop-preserved
loop-preserved c = rw (c.in_ok-push.ensures.ok) (goes_on (λ (s : Unit {0}). header_at) (λ s x. tt) (λ (s : Unit {0}). list_at header_at) (list_loop header_at) tt c.loop.headers c.args.count c.loop.counter c.loop.reader _ _ _ c.loop-test.true c.in_ok-header.ensures c.loop.invariant)

pub returns : goal.returns
returns c = is_done (λ (s : Unit {0}). header_at) (λ s x. tt) (λ (s : Unit {0}). list_at header_at) (list_loop header_at) tt c.loop.headers c.args.count c.loop.counter c.loop.reader _ c.loop-test.false c.loop.invariant
