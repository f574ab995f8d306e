use Rattle.std.proofs.Common.{◌∷◌, length, ap, sym, ◌∙◌, arith, length-append}
use Rattle.gate_log.specs.Disk.{File}
use Rattle.gate_log.specs.Format.{reading}
use Rattle.gate_log.proofs.Going.{leaves_same, leaves_none_more}
use Rattle.gate_log.proofs.Found.{has_front}
use Rattle.gate_log.proofs.OpenLemmas.{OpensEmpty, after_sync_leaves, after_sync_file, after_sync_new, read_after_sync, read_after_new}
use Rattle.gate_log.proofs.AppendRun.{still}
use Rattle.gate_log.proofs.log.GateLog.open.Goals as goal

pub gate_behind-gate-requires : goal.gate_behind-gate-requires
gate_behind-gate-requires g c =
    let read = sym c.in_ok-at.ensures ∙ c.in-Log.is in
    let f = has_front _ _ _ read in
    omega (arith, f.is_front.size, ap length f.is, length-append f.front (0 ∷ f.tail), c.deref.ensures.len)

pub invariant_of-result : goal.invariant_of-result
invariant_of-result g c =
    let read = sym c.in_ok-at.ensures ∙ c.in-Log.is in
    let f = has_front _ _ _ read in
    record {
      file_known = c.requires;
      gate_fits = omega (arith, f.is_front.size, ap length f.is, length-append f.front (0 ∷ f.tail), c.deref.ensures.len, c.gate_behind-gate.ensures);
    }

pub returns-in_err-bytes-clause-any_moment : goal.returns-in_err-bytes-clause-any_moment
returns-in_err-bytes-clause-any_moment g c = λ t.
    let left = g.met.D.Disk.reads_is_left c.args.disk.now c.args.file t in
    let sync = c.in_ok-sync.ensures.ok t in
    let t1 = still _ _ c.sync.ensures.tells t in
    let same = c.read_whole.ensures.same t1 in
    leaves_none_more _ _ _ _ _ (after_sync_leaves c.args.file _ _ left sync) same

pub returns-in_err-at-clause-any_moment : goal.returns-in_err-at-clause-any_moment
returns-in_err-at-clause-any_moment g c = λ t.
    let left = g.met.D.Disk.reads_is_left c.args.disk.now c.args.file t in
    let sync = c.in_ok-sync.ensures.ok t in
    let t1 = still _ _ c.sync.ensures.tells t in
    let same = c.read_whole.ensures.same t1 in
    leaves_none_more _ _ _ _ _ (after_sync_leaves c.args.file _ _ left sync) same

pub returns-in-Foreign-clause-any_moment : goal.returns-in-Foreign-clause-any_moment
returns-in-Foreign-clause-any_moment g c = λ t.
    let left = g.met.D.Disk.reads_is_left c.args.disk.now c.args.file t in
    let sync = c.in_ok-sync.ensures.ok t in
    let t1 = still _ _ c.sync.ensures.tells t in
    let same = c.read_whole.ensures.same t1 in
    leaves_none_more _ _ _ _ _ (after_sync_leaves c.args.file _ _ left sync) same

pub returns-in-Log-clause-any_moment : goal.returns-in-Log-clause-any_moment
returns-in-Log-clause-any_moment g c = λ t.
    let left = g.met.D.Disk.reads_is_left c.args.disk.now c.args.file t in
    let sync = c.in_ok-sync.ensures.ok t in
    let t1 = still _ _ c.sync.ensures.tells t in
    let same = c.read_whole.ensures.same t1 in
    leaves_none_more _ _ _ _ _ (after_sync_leaves c.args.file _ _ left sync) same

pub returns-in_err-log-in-Absent-clause-any_moment : goal.returns-in_err-log-in-Absent-clause-any_moment
returns-in_err-log-in-Absent-clause-any_moment g c = λ t.
    let left = g.met.D.Disk.reads_is_left c.args.disk.now c.args.file t in
    let sync = c.in_ok-sync.ensures.ok t in
    let t1 = still _ _ c.sync.ensures.tells t in
    let same = c.read_whole.ensures.same t1 in
    let t2 = still _ _ c.read_whole.ensures.tells t1 in
    let bytes = c.in_ok-bytes.ensures.bytes t1 ∙ ap (λ (f : File). f.reads) (after_sync_file c.args.file _ _ left sync) in
    let absent = ap reading (sym bytes) ∙ ap reading (sym c.deref.ensures.value) ∙ sym c.in_ok-at.ensures ∙ c.in-Absent.is in
    after_sync_new c.args.file _ _ left sync _ absent (leaves_same c.args.file OpensEmpty _ _ _ same (c.make_new.ensures.any_moment t2))

pub returns-clause-any_moment : goal.returns-clause-any_moment
returns-clause-any_moment g c = λ t.
    let left = g.met.D.Disk.reads_is_left c.args.disk.now c.args.file t in
    let sync = c.in_ok-sync.ensures.ok t in
    let t1 = still _ _ c.sync.ensures.tells t in
    let same = c.read_whole.ensures.same t1 in
    let t2 = still _ _ c.read_whole.ensures.tells t1 in
    let bytes = c.in_ok-bytes.ensures.bytes t1 ∙ ap (λ (f : File). f.reads) (after_sync_file c.args.file _ _ left sync) in
    let absent = ap reading (sym bytes) ∙ ap reading (sym c.deref.ensures.value) ∙ sym c.in_ok-at.ensures ∙ c.in-Absent.is in
    after_sync_new c.args.file _ _ left sync _ absent (leaves_same c.args.file OpensEmpty _ _ _ same (c.make_new.ensures.any_moment t2))

pub returns-in-Foreign-clause-cause : goal.returns-in-Foreign-clause-cause
returns-in-Foreign-clause-cause g c = tt

pub returns-in_err-bytes-clause-as_read : goal.returns-in_err-bytes-clause-as_read
returns-in_err-bytes-clause-as_read g c = λ t.
    let left = g.met.D.Disk.reads_is_left c.args.disk.now c.args.file t in
    let sync = c.in_ok-sync.ensures.ok t in
    let t1 = still _ _ c.sync.ensures.tells t in
    let same = c.read_whole.ensures.same t1 in
    leaves_none_more _ _ _ _ _ (read_after_sync c.args.file _ _ left sync) same

pub returns-in_err-at-clause-as_read : goal.returns-in_err-at-clause-as_read
returns-in_err-at-clause-as_read g c = λ t.
    let left = g.met.D.Disk.reads_is_left c.args.disk.now c.args.file t in
    let sync = c.in_ok-sync.ensures.ok t in
    let t1 = still _ _ c.sync.ensures.tells t in
    let same = c.read_whole.ensures.same t1 in
    leaves_none_more _ _ _ _ _ (read_after_sync c.args.file _ _ left sync) same

pub returns-in-Foreign-clause-as_read : goal.returns-in-Foreign-clause-as_read
returns-in-Foreign-clause-as_read g c = λ t.
    let left = g.met.D.Disk.reads_is_left c.args.disk.now c.args.file t in
    let sync = c.in_ok-sync.ensures.ok t in
    let t1 = still _ _ c.sync.ensures.tells t in
    let same = c.read_whole.ensures.same t1 in
    leaves_none_more _ _ _ _ _ (read_after_sync c.args.file _ _ left sync) same

pub returns-in-Log-clause-as_read : goal.returns-in-Log-clause-as_read
returns-in-Log-clause-as_read g c = λ t.
    let left = g.met.D.Disk.reads_is_left c.args.disk.now c.args.file t in
    let sync = c.in_ok-sync.ensures.ok t in
    let t1 = still _ _ c.sync.ensures.tells t in
    let same = c.read_whole.ensures.same t1 in
    leaves_none_more _ _ _ _ _ (read_after_sync c.args.file _ _ left sync) same

pub returns-in_err-log-in-Absent-clause-as_read : goal.returns-in_err-log-in-Absent-clause-as_read
returns-in_err-log-in-Absent-clause-as_read g c = λ t.
    let left = g.met.D.Disk.reads_is_left c.args.disk.now c.args.file t in
    let sync = c.in_ok-sync.ensures.ok t in
    let t1 = still _ _ c.sync.ensures.tells t in
    let same = c.read_whole.ensures.same t1 in
    let t2 = still _ _ c.read_whole.ensures.tells t1 in
    let bytes = c.in_ok-bytes.ensures.bytes t1 ∙ ap (λ (f : File). f.reads) (after_sync_file c.args.file _ _ left sync) in
    let absent = ap reading (sym bytes) ∙ ap reading (sym c.deref.ensures.value) ∙ sym c.in_ok-at.ensures ∙ c.in-Absent.is in
    read_after_new c.args.file _ _ left sync _ absent (leaves_same c.args.file OpensEmpty _ _ _ same (c.make_new.ensures.any_moment t2))

pub returns-clause-as_read : goal.returns-clause-as_read
returns-clause-as_read g c = λ t.
    let left = g.met.D.Disk.reads_is_left c.args.disk.now c.args.file t in
    let sync = c.in_ok-sync.ensures.ok t in
    let t1 = still _ _ c.sync.ensures.tells t in
    let same = c.read_whole.ensures.same t1 in
    let t2 = still _ _ c.read_whole.ensures.tells t1 in
    let bytes = c.in_ok-bytes.ensures.bytes t1 ∙ ap (λ (f : File). f.reads) (after_sync_file c.args.file _ _ left sync) in
    let absent = ap reading (sym bytes) ∙ ap reading (sym c.deref.ensures.value) ∙ sym c.in_ok-at.ensures ∙ c.in-Absent.is in
    read_after_new c.args.file _ _ left sync _ absent (leaves_same c.args.file OpensEmpty _ _ _ same (c.make_new.ensures.any_moment t2))
