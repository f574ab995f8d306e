use Rattle.std.proofs.Common.{◌≤◌, length, drop}
use Rattle.gate_log.specs.Calls.{NoSync}
use Rattle.gate_log.proofs.history.History.last_sync.Given as goal

abbrev pub invariant-loop-end : goal.invariant-loop-end
invariant-loop-end l = record {
  within : l.end ≤ length l.self.calls.items;
  last : NoSync l.file (drop l.end l.self.calls.items);
}

abbrev pub decreases-loop-end : goal.decreases-loop-end
decreases-loop-end l = l.end
