use Rattle.std.proofs.Common.{◌+◌, ℕ, sym, ◌∙◌, ap, arith, Option, Some}
use Rattle.gate_log.specs.Format.{gate_after}
use Rattle.gate_log.specs.Renew.{long_or_large}
use Rattle.gate_log.proofs.Entries.{gate_after_next, first_long_next, first_long_here}
use Rattle.gate_log.proofs.restart.list_too_long.Goals as goal

pub loop-entry-preserved : goal.loop-entry-preserved
loop-entry-preserved c =
    let next = rw c.as_slice-entry-items.ensures at (gate_after_next c.as_slice-entry-items.result.now c.loop-entry.entry-index c.entry-item.result c.loop-entry-test.true c.entry-item.is) in
    let more = rw c.as_slice-entry-items.ensures at (first_long_next c.as_slice-entry-items.result.now c.loop-entry.entry-index c.entry-item.result c.loop-entry-test.true c.entry-item.is (omega arith)) in
    record {
      size = omega (arith, c.loop-entry.invariant.size, next);
      short = c.loop-entry.invariant.short ∙ more;
    }

pub returns-then-length-gt-MAX_ENTRY : goal.returns-then-length-gt-MAX_ENTRY
returns-then-length-gt-MAX_ENTRY c =
    let here = rw c.as_slice-entry-items.ensures at (first_long_here c.as_slice-entry-items.result.now c.loop-entry.entry-index c.entry-item.result c.loop-entry-test.true c.entry-item.is (omega arith)) in
    ap Some c.len-length.ensures ∙ ap (λ (o : Option ℕ). long_or_large o (gate_after c.args.entries.now + 1)) (sym (c.loop-entry.invariant.short ∙ here))
