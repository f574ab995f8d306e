use Rattle.std.proofs.Common.{List, [], ◌∷◌, take, ◌∙◌, ap}
use Rattle.std.proofs.lemmas.List.{take_all}
use Rattle.gate_log.specs.Disk.{synced_file}
use Rattle.gate_log.specs.Calls.{file_of, file_after, start}
use Rattle.gate_log.specs.declared.call.Call.{Call}
use Rattle.gate_log.proofs.ReplayLemmas.{bytes_next, kept_is}
use Rattle.gate_log.proofs.history.History.kept.Goals as goal

pub loop-call-preserved : goal.loop-call-preserved
loop-call-preserved c =
    bytes_next c.args.file (synced_file (file_of c.args.self.now.began c.args.file)) (take c.last_sync.result c.deref.result.now) c.loop-call.call-index c.call-item.result
    c.loop-call.bytes.items c.write_again.new.old.items c.loop-call-test.true c.call-item.is c.loop-call.invariant c.in_ok-write_again.ensures

pub returns : goal.returns
returns c =
    let h = c.args.self.now in
    let whole = take_all c.loop-call.call-index (take c.last_sync.result c.deref.result.now) c.loop-call-test.false in
    c.loop-call.invariant
    ∙ ap (λ (calls : List Call). (file_after c.args.file (synced_file (file_of h.began c.args.file)) calls).reads) (whole ∙ ap (take c.last_sync.result) c.deref.ensures.value)
    ∙ kept_is c.args.file (start h.began ∷ []) h.calls.items c.last_sync.result c.last_sync.ensures.synced c.last_sync.ensures.last
