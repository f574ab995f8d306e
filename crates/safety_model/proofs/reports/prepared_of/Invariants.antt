use Rattle.std.proofs.Common.{◌≡◌, reverse, take}
use Rattle.safety_model.specs.Reports.{prepared_at}
use Rattle.safety_model.proofs.reports.prepared_of.Given as goal

abbrev pub invariant-loop-fact : goal.invariant-loop-fact
invariant-loop-fact l = l.greatest ≡ prepared_at l.member l.config l.number (reverse (take l.fact-index l.facts))
