use Rattle.std.proofs.Common.{sym, ◌∙◌, arith, inl, inr}
use Rattle.safety_model.proofs.ToldVotes.{told_step, told_all, place_within}
use Rattle.safety_model.proofs.reports.are_acceptances.Goals as goal
use Rattle.safety_model.proofs.reports.are_acceptances.Goals.{then-loop-rest-test+else-place-limit, else-loop-rest-test}

pub returns-then-not-is_vote_at : goal.returns-then-not-is_vote_at
returns-then-not-is_vote_at c =
    let inv = c.loop-rest.invariant in
    let step = told_step _ c.args.votes.now c.args.facts.now c.args.member c.args.config c.args.number c.loop-rest.rest c.loop-rest.place c.args.limit c.index-facts-rest.result c.in-Some.vote (omega arith) inv.0 c.index-facts-rest.is (c.acceptance_of.ensures ∙ rw c.in-Some.is) c.if-place-limit.true inv.3 in
    sym (rw (sym c.is_vote_at.ensures ∙ c.if-not-is_vote_at.true) at step)

pub loop-rest-preserved-in-Some : goal.loop-rest-preserved-in-Some
loop-rest-preserved-in-Some c =
    let inv = c.loop-rest.invariant in
    let stands = sym c.is_vote_at.ensures ∙ c.if-not-is_vote_at.false in
    let within = place_within c.args.votes.now c.loop-rest.place c.in-Some.vote stands in
    let step = told_step _ c.args.votes.now c.args.facts.now c.args.member c.args.config c.args.number c.loop-rest.rest c.loop-rest.place c.args.limit c.index-facts-rest.result c.in-Some.vote (omega arith) inv.0 c.index-facts-rest.is (c.acceptance_of.ensures ∙ rw c.in-Some.is) c.if-place-limit.true inv.3 in
    (omega arith, omega arith, omega arith, rw stands at step)

pub returns : goal.returns
returns c =
    let inv = c.loop-rest.invariant in
    told_all _ c.args.votes.now c.args.facts.now c.args.member c.args.config c.args.number c.loop-rest.rest c.loop-rest.place c.args.limit inv.1 inv.2
    (elim c.loop-rest-test.branch [ then-loop-rest-test+else-place-limit w ↦ inr (omega arith) | else-loop-rest-test w ↦ inl (omega arith) ]) inv.3
