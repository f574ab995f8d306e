use Rattle.std.proofs.Common.{ℕ, List, [], ◌∷◌, ◌++◌, ◌∙◌, sym, ap, arith}
use Rattle.gate_log.specs.Disk.{State, now, after_write}
use Rattle.gate_log.specs.Calls.{start, states_from}
use Rattle.gate_log.specs.declared.call.Call.TheVariants.{Wrote}
use Rattle.gate_log.proofs.HistoryLemmas.{pushed, moves, each_reads, write_reads, ok_of}
use Rattle.gate_log.proofs.history.History.write_at.Goals as goal

pub invariant_of-self-else-is_err : goal.invariant_of-self-else-is_err
invariant_of-self-else-is_err c =
    let h = c.args.self.now in
    let before = now (states_from (start h.began ∷ []) h.calls.items) in
    let push = c.in_ok-push.ensures.items ∙ ap (λ (bytes : List ℕ). h.calls.items ++ Wrote c.args.file c.args.at bytes ∷ []) c.in_ok-copy.ensures in
    let more = pushed (start h.began ∷ []) h.calls.items c.push.new.self.items (Wrote c.args.file c.args.at c.args.bytes.now) push in
    let rewrote = ok_of c.write_at.result c.if-is_err.ensures.value c.write_at.ensures.ok in
    let reads = write_reads c.args.file c.args.at c.args.bytes.now h.files c.write_at.new.self before c.requires (each_reads h.files before h.first_reads h.second_reads h.third_reads) rewrote in
    record {
      first_reads = reads 0 (omega arith) ∙ sym (ap (λ (s : List State). (now s 0).reads) more);
      second_reads = reads 1 (omega arith) ∙ sym (ap (λ (s : List State). (now s 1).reads) more);
      third_reads = reads 2 (omega arith) ∙ sym (ap (λ (s : List State). (now s 2).reads) more);
    }

pub returns-clause-ok : goal.returns-clause-ok
returns-clause-ok c =
    let h = c.args.self.now in
    let push = c.in_ok-push.ensures.items ∙ ap (λ (bytes : List ℕ). h.calls.items ++ Wrote c.args.file c.args.at bytes ∷ []) c.in_ok-copy.ensures in
    moves c.args.file (after_write c.args.at c.args.bytes.now (now (states_from (start h.began ∷ []) h.calls.items) c.args.file)) (states_from (start h.began ∷ []) h.calls.items) _
    (pushed (start h.began ∷ []) h.calls.items c.push.new.self.items (Wrote c.args.file c.args.at c.args.bytes.now) push)
