use Rattle.std.proofs.Common.{◌≡◌, ◌-◌, ℕ, List, [], ◌∷◌, length, take, drop, sym, ◌∙◌, ap, subst}
use Rattle.std.proofs.lemmas.List.{take_all, take_rest}
use Rattle.gate_log.specs.Disk.{File, now, synced_file}
use Rattle.gate_log.specs.Calls.{file_of, file_after, filled, start, states_from, NoSync}
use Rattle.gate_log.specs.History.{file_at}
use Rattle.gate_log.specs.declared.call.Call.{Call}
use Rattle.gate_log.proofs.HistoryLemmas.{each_reads}
use Rattle.gate_log.proofs.ReplayLemmas.{filled_next, no_sync_next, pending_same, pending_is}
use Rattle.gate_log.proofs.history.History.filled.Goals as goal

pub loop-call-init : goal.loop-call-init
loop-call-init c = record {
  bytes = c.in_ok-bytes.ensures.items ∙ c.get.ensures;
  last = subst (NoSync c.args.file) (sym (take_rest c.deref.result.now c.last_sync.result ∙ ap (drop c.last_sync.result) c.deref.ensures.value)) c.last_sync.ensures.last;
}

pub loop-call-preserved : goal.loop-call-preserved
loop-call-preserved c =
    let s = take (length c.deref.result.now - c.last_sync.result) (drop c.last_sync.result c.deref.result.now) in
    record {
      bytes = filled_next c.args.byte c.args.file (synced_file []) s c.loop-call.call-index c.call-item.result (file_of c.args.self.now.files c.args.file)
          c.loop-call.bytes.items c.fill.new.old.items c.loop-call-test.true c.call-item.is c.loop-call.invariant.last c.loop-call.invariant.bytes c.in_ok-fill.ensures;
      last = no_sync_next c.args.file s c.loop-call.call-index c.loop-call-test.true c.loop-call.invariant.last;
    }

pub returns : goal.returns
returns c =
    let h = c.args.self.now in
    let s = take (length c.deref.result.now - c.last_sync.result) (drop c.last_sync.result c.deref.result.now) in
    let state = now (states_from (start h.began ∷ []) h.calls.items) in
    let whole = take_all c.loop-call.call-index s c.loop-call-test.false ∙ take_rest c.deref.result.now c.last_sync.result ∙ ap (drop c.last_sync.result) c.deref.ensures.value in
    let nothing : [] ≡ (file_at h c.args.file c.last_sync.result).pending = sym (ap (λ (f : File). f.pending) c.last_sync.ensures.synced) in
    c.loop-call.invariant.bytes
    ∙ ap (λ (calls : List Call). filled c.args.byte (file_after c.args.file (synced_file []) calls).pending (file_of h.files c.args.file)) whole
    ∙ ap (λ (p : List (ℕ × ℕ)). filled c.args.byte p (file_of h.files c.args.file))
    (pending_same c.args.file (synced_file []) (file_at h c.args.file c.last_sync.result) (drop c.last_sync.result h.calls.items) nothing
    ∙ pending_is c.args.file (start h.began ∷ []) h.calls.items c.last_sync.result)
    ∙ ap (filled c.args.byte (state c.args.file).pending) (each_reads h.files state h.first_reads h.second_reads h.third_reads c.args.file c.requires)
