use Rattle.std.proofs.Common.{◌≡◌, reverse, take}
use Rattle.safety_model.specs.State.{last_delivered}
use Rattle.safety_model.specs.Rules.{is_last_certified_in}
use Rattle.safety_model.proofs.history.is_certified_in.Given as goal

abbrev pub invariant-loop-fact : goal.invariant-loop-fact
invariant-loop-fact l = l.certified ≡ is_last_certified_in l.config l.view (last_delivered l.member (reverse (take l.fact-index l.facts)))
