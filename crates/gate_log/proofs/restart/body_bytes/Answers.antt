use Rattle.std.proofs.Common.{subst}
use Rattle.gate_log.specs.Renew.{AreShort}
use Rattle.gate_log.proofs.Entries.{next_entry, spelled_next}
use Rattle.gate_log.proofs.restart.body_bytes.Goals as goal

pub put_entry-requires : goal.put_entry-requires
put_entry-requires c =
    let here = rw c.as_slice-entry-items.ensures at (next_entry c.as_slice-entry-items.result.now c.loop-entry.entry-index c.entry-item.result c.loop-entry-test.true c.entry-item.is) in
    (subst AreShort here c.loop-entry.invariant.short).0

pub loop-entry-preserved : goal.loop-entry-preserved
loop-entry-preserved c =
    let here = rw c.as_slice-entry-items.ensures at (next_entry c.as_slice-entry-items.result.now c.loop-entry.entry-index c.entry-item.result c.loop-entry-test.true c.entry-item.is) in
    let within = rw c.as_slice-entry-items.ensures at c.loop-entry-test.true in
    let is = rw c.as_slice-entry-items.ensures at c.entry-item.is in
    record {
      short = (subst AreShort here c.loop-entry.invariant.short).1;
      whole = spelled_next c.args.entries.now c.loop-entry.entry-index c.entry-item.result c.loop-entry.bytes c.put_entry.new.bytes _ within is c.in_ok-put_entry.ensures c.loop-entry.invariant.whole;
    }
