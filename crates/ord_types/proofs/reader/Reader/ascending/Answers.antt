use Rattle.std.proofs.Common.{ℕ, ◌+◌}
use Rattle.std.specs.Prelude.{nat_le}
use Rattle.std.specs.Int.{w32}
use Rattle.std.proofs.lemmas.Result.{err_from_is_err_and}
use Rattle.ord_types.specs.Reading.{ascending_at, tested_at}
use Rattle.ord_types.proofs.Loops.{goes_on, ends, is_done, ascending_loop}
use Rattle.ord_types.proofs.reader.Reader.ascending.Goals as goal

pub returns-in_err-id : goal.returns-in_err-id
returns-in_err-id c =
    let p = err_from_is_err_and c.from_residual.result c.from_residual.ensures.1 in
    rw (p.1, p.2) (ends (λ (least : ℕ). tested_at w32 (λ id. nat_le least id)) (λ least id. id + 1) ascending_at ascending_loop c.loop.least c.in_err-id.field-0.0 c.loop.ids c.args.count c.loop.counter c.loop.self _ c.loop-test.true c.in_err-id.ensures c.loop.invariant)

pub loop-preserved : goal.loop-preserved
loop-preserved c = rw (c.in_ok-push.ensures.ok, c.from-least.ensures) (goes_on (λ (least : ℕ). tested_at w32 (λ id. nat_le least id)) (λ least id. id + 1) ascending_at ascending_loop c.loop.least c.loop.ids c.args.count c.loop.counter c.loop.self _ _ _ c.loop-test.true c.in_ok-id.ensures c.loop.invariant)

pub returns : goal.returns
returns c = is_done (λ (least : ℕ). tested_at w32 (λ id. nat_le least id)) (λ least id. id + 1) ascending_at ascending_loop c.loop.least c.loop.ids c.args.count c.loop.counter c.loop.self _ c.loop-test.false c.loop.invariant
