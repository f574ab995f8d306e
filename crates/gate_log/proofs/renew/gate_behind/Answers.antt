use Rattle.std.proofs.Common.{◌+◌, arith}
use Rattle.gate_log.proofs.Entries.{gate_after_next, gate_after_take}
use Rattle.gate_log.proofs.renew.gate_behind.Goals as goal

pub overflow_add-gate : goal.overflow_add-gate
overflow_add-gate c = omega (arith, rw c.as_slice-entry-items.ensures at (gate_after_next c.as_slice-entry-items.result.now c.loop-entry.entry-index c.entry-item.result c.loop-entry-test.true c.entry-item.is), gate_after_take c.args.entries.now (c.loop-entry.entry-index + 1), c.requires)

pub overflow_add-gate-in-loop-entry : goal.overflow_add-gate-in-loop-entry
overflow_add-gate-in-loop-entry c = omega (arith, c.loop-entry.invariant, rw c.as_slice-entry-items.ensures at (gate_after_next c.as_slice-entry-items.result.now c.loop-entry.entry-index c.entry-item.result c.loop-entry-test.true c.entry-item.is), gate_after_take c.args.entries.now (c.loop-entry.entry-index + 1), c.requires)

pub loop-entry-preserved : goal.loop-entry-preserved
loop-entry-preserved c = omega (arith, c.loop-entry.invariant, rw c.as_slice-entry-items.ensures at (gate_after_next c.as_slice-entry-items.result.now c.loop-entry.entry-index c.entry-item.result c.loop-entry-test.true c.entry-item.is))
