use Rattle.std.proofs.Common.{◌≡◌, ◌+◌, ◌-◌, ◌^◌, min, take, drop}
use Rattle.gate_log.specs.Format.{gate_after}
use Rattle.gate_log.specs.Renew.{first_long}
use Rattle.gate_log.proofs.restart.list_too_long.Given as goal

abbrev pub invariant-loop-entry : goal.invariant-loop-entry
invariant-loop-entry l = record {
  size : l.size ≡ min (gate_after (take l.entry-index l.entries) + 1) (2 ^ 64 - 1);
  short : first_long l.entries ≡ first_long (drop l.entry-index l.entries);
}
