use Rattle.std.proofs.lemmas.Result.{err_from_is_err_and}
use Rattle.ord_types.specs.Reading.{vote_below_at, votes_at}
use Rattle.ord_types.proofs.Loops.{goes_on, ends, is_done, votes_loop}
use Rattle.ord_types.proofs.reader.Reader.votes.Goals as goal

pub returns-in_err-vote : goal.returns-in_err-vote
returns-in_err-vote c =
    let p = err_from_is_err_and c.from_residual.result c.from_residual.ensures.1 in
    rw (p.1, p.2) (ends vote_below_at (λ limit v. v.view) votes_at votes_loop c.loop.limit c.in_err-vote.field-0.0 c.loop.votes c.args.count c.loop.counter c.loop.self _ c.loop-test.true c.in_err-vote.ensures c.loop.invariant)

pub loop-preserved : goal.loop-preserved
loop-preserved c = rw (c.in_ok-push.ensures.ok) (goes_on vote_below_at (λ limit v. v.view) votes_at votes_loop c.loop.limit c.loop.votes c.args.count c.loop.counter c.loop.self _ _ _ c.loop-test.true c.in_ok-vote.ensures c.loop.invariant)

pub returns : goal.returns
returns c = is_done vote_below_at (λ limit v. v.view) votes_at votes_loop c.loop.limit c.loop.votes c.args.count c.loop.counter c.loop.self _ c.loop-test.false c.loop.invariant
