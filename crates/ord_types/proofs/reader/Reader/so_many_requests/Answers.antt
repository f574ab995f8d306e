use Rattle.std.proofs.lemmas.Result.{err_from_is_err_and}
use Rattle.ord_types.specs.Reading.{list_at, request_at}
use Rattle.ord_types.proofs.Loops.{goes_on, ends, is_done, list_loop}
use Rattle.ord_types.proofs.reader.Reader.so_many_requests.Goals as goal

pub returns-in_err-request : goal.returns-in_err-request
returns-in_err-request c =
    let p = err_from_is_err_and c.from_residual-in_err-request.result c.from_residual-in_err-request.ensures.1 in
    rw (p.1, p.2) (ends (λ (s : Unit {0}). request_at) (λ s x. tt) (λ (s : Unit {0}). list_at request_at) (list_loop request_at) tt c.in_err-request.field-0.0 c.loop.requests c.args.count c.loop.counter c.loop.self _ c.loop-test.true c.in_err-request.ensures c.loop.invariant)

pub loop-preserved : goal.loop-preserved
loop-preserved c = rw (c.in_ok-push.ensures.ok) (goes_on (λ (s : Unit {0}). request_at) (λ s x. tt) (λ (s : Unit {0}). list_at request_at) (list_loop request_at) tt c.loop.requests c.args.count c.loop.counter c.loop.self _ _ _ c.loop-test.true c.in_ok-request.ensures c.loop.invariant)

pub returns : goal.returns
returns c = is_done (λ (s : Unit {0}). request_at) (λ s x. tt) (λ (s : Unit {0}). list_at request_at) (list_loop request_at) tt c.loop.requests c.args.count c.loop.counter c.loop.self _ c.loop-test.false c.loop.invariant
