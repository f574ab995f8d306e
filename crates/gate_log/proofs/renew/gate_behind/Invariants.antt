use Rattle.std.proofs.Common.{◌≡◌, take}
use Rattle.gate_log.specs.Format.{gate_after}
use Rattle.gate_log.proofs.renew.gate_behind.Given as goal

abbrev pub invariant-loop-entry : goal.invariant-loop-entry
invariant-loop-entry l = l.gate ≡ gate_after (take l.entry-index l.entries)
