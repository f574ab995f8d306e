use Rattle.std.proofs.Common.{◌≡◌, reverse, take}
use Rattle.safety_model.specs.State.{last_delivered}
use Rattle.safety_model.specs.Reports.{is_last, last_under}
use Rattle.safety_model.proofs.reports.is_last_told.Given as goal

abbrev pub invariant-loop-fact : goal.invariant-loop-fact
invariant-loop-fact l = l.answer ≡ is_last l.told (last_under l.config (last_delivered l.member (reverse (take l.fact-index l.facts))))
