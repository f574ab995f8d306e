use Rattle.std.proofs.Common.{◌≡◌, ◌≤◌, ◌-◌, length, reverse, take, drop}
use Rattle.std.specs.Cmp.Lexicographic.{pointwise}
use Rattle.safety_model.specs.Reports.{accepted_at, vote_eq}
use Rattle.safety_model.proofs.reports.are_acceptances.Given as goal

abbrev pub invariant-loop-rest : goal.invariant-loop-rest
invariant-loop-rest l =
    (l.rest ≤ length l.facts) × (l.place ≤ length l.votes) × (l.place ≤ l.limit)
    × (pointwise vote_eq l.votes (take l.limit (accepted_at l.member l.config l.number (reverse l.facts)))
    ≡ pointwise vote_eq (drop l.place l.votes) (take (l.limit - l.place) (accepted_at l.member l.config l.number (reverse (take l.rest l.facts)))))

abbrev pub decreases-loop-rest : goal.decreases-loop-rest
decreases-loop-rest l = l.rest
