use Rattle.std.proofs.Common.{refl, sym, ◌∙◌}
use Rattle.bft_wal.proofs.Folding.{votes_next}
use Rattle.bft_wal.proofs.fold.newest_votes.Goals as goal

pub loop-init : goal.loop-init
loop-init c = rw c.new-votes.ensures refl

pub loop-preserved : goal.loop-preserved
loop-preserved c = rw c.in_ok-push.ensures.ok (votes_next c.loop.counter c.loop.limit c.args.accepted.now c.loop.votes _ c.in-Some.vote c.loop-test.true (sym c.newest_vote.ensures ∙ c.in-Some.is) c.loop.invariant)
