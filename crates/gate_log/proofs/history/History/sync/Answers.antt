use Rattle.std.proofs.Common.{[], ◌∷◌, ◌∙◌, sym}
use Rattle.gate_log.specs.Disk.{now, after_sync}
use Rattle.gate_log.specs.Calls.{start, states_from}
use Rattle.gate_log.specs.declared.call.Call.TheVariants.{Synced}
use Rattle.gate_log.proofs.HistoryLemmas.{pushed, moves, sync_kept}
use Rattle.gate_log.proofs.history.History.sync.Goals as goal

pub invariant_of-self : goal.invariant_of-self
invariant_of-self c =
    let h = c.args.self.now in
    let kept = sync_kept (start h.began ∷ []) h.calls.items c.push.new.self.items c.args.file _ c.push.ensures.items in
    record {
      first_reads = h.first_reads ∙ sym (kept 0);
      second_reads = h.second_reads ∙ sym (kept 1);
      third_reads = h.third_reads ∙ sym (kept 2);
    }

pub returns-clause-ok : goal.returns-clause-ok
returns-clause-ok c =
    let h = c.args.self.now in
    moves c.args.file (after_sync (now (states_from (start h.began ∷ []) h.calls.items) c.args.file)) (states_from (start h.began ∷ []) h.calls.items) _
    (pushed (start h.began ∷ []) h.calls.items c.push.new.self.items (Synced c.args.file) c.in_ok-push.ensures.items)
