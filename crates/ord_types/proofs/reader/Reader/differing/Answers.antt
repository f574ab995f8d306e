use Rattle.std.proofs.Common.{◌++◌, ◌∷◌, []}
use Rattle.std.specs.Prelude.{not, ◌&&◌, nat_le}
use Rattle.std.specs.Int.{w32}
use Rattle.std.proofs.lemmas.Result.{err_from_is_err_and}
use Rattle.ord_types.specs.Members.{is_in}
use Rattle.ord_types.specs.Reading.{differing_at, tested_at}
use Rattle.ord_types.proofs.Loops.{goes_on, ends, is_done, differing_loop}
use Rattle.ord_types.proofs.reader.Reader.differing.Goals as goal

pub returns-in_err-id : goal.returns-in_err-id
returns-in_err-id c =
    let p = err_from_is_err_and c.from_residual.result c.from_residual.ensures.1 in
    rw (p.1, p.2) (ends (λ seen. tested_at w32 (λ id. nat_le 1 id && not (is_in id seen))) (λ seen id. seen ++ id ∷ []) differing_at differing_loop c.loop.ids c.in_err-id.field-0.0 c.loop.ids c.args.count c.loop.counter c.loop.self _ c.loop-test.true (rw c.as_slice.ensures at c.in_err-id.ensures) c.loop.invariant)

pub loop-preserved : goal.loop-preserved
loop-preserved c = rw (c.in_ok-push.ensures.ok) (goes_on (λ seen. tested_at w32 (λ id. nat_le 1 id && not (is_in id seen))) (λ seen id. seen ++ id ∷ []) differing_at differing_loop c.loop.ids c.loop.ids c.args.count c.loop.counter c.loop.self _ _ _ c.loop-test.true (rw c.as_slice.ensures at c.in_ok-id.ensures) c.loop.invariant)

pub returns : goal.returns
returns c = is_done (λ seen. tested_at w32 (λ id. nat_le 1 id && not (is_in id seen))) (λ seen id. seen ++ id ∷ []) differing_at differing_loop c.loop.ids c.loop.ids c.args.count c.loop.counter c.loop.self _ c.loop-test.false c.loop.invariant
