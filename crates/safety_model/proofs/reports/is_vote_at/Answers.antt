use Rattle.std.proofs.Common.{sym, ◌∙◌, length}
use Rattle.std.proofs.lemmas.Bool.{le-ltb}
use Rattle.safety_model.proofs.ToldVotes.{vote_at, vote_past}
use Rattle.safety_model.proofs.reports.is_vote_at.Goals as goal

pub returns-then-place-votes : goal.returns-then-place-votes
returns-then-place-votes c = c.same_vote.ensures ∙ sym (vote_at _ _ _ _ c.if-place-votes.true)

pub returns-else-place-votes : goal.returns-else-place-votes
returns-else-place-votes c = le-ltb c.args.place (length c.args.votes.now) c.if-place-votes.false ∙ sym (vote_past c.args.votes.now c.args.place c.args.vote.now c.if-place-votes.false)
