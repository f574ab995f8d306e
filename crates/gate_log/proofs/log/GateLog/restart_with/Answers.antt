use Rattle.std.proofs.Common.{ℕ, ◌^◌, ◌<◌, List, ap, sym, ◌∙◌, subst}
use Rattle.gate_log.specs.Disk.{State, now}
use Rattle.gate_log.specs.Format.{reading, gate_after}
use Rattle.gate_log.specs.Renew.{AreShort, CanClose, IsSynced, IsOldOrAbsent, IsOldOrNew, IsNewOrAbsent}
use Rattle.gate_log.proofs.Entries.{fits}
use Rattle.gate_log.proofs.Going.{leaves_to, leaves_then, leaves_same}
use Rattle.gate_log.proofs.RestartLemmas.{is_synced, by_old, by_new, no_refusal}
use Rattle.gate_log.proofs.AppendRun.{still}
use Rattle.gate_log.proofs.log.GateLog.restart_with.Goals as goal

pub body_bytes-requires : goal.body_bytes-requires
body_bytes-requires g c = (fits c.args.entries.now (no_refusal c.list_too_long.result _ c.list_too_long.ensures c.in_default.not-Some)).short

pub head_of-requires : goal.head_of-requires
head_of-requires g c = λ at foreign. c.in_default-2.not-Foreign at (c.in_ok-at.ensures ∙ ap reading (c.deref.ensures.value ∙ sym c.deref-2.ensures.value) ∙ foreign)

pub close_head-requires-clause-synced : goal.close_head-requires-clause-synced
close_head-requires-clause-synced g c = λ t1.
    let t = still _ _ (sym c.read_whole.ensures.tells) t1 in
    subst (λ (m : List State). IsSynced (now m c.args.file)) (sym (c.read_whole.ensures.same t))
    (is_synced _ (c.requires.synced t) (g.met.D.Disk.reads_is_left c.args.disk.now c.args.file t))

pub close_head-requires-clause-head : goal.close_head-requires-clause-head
close_head-requires-clause-head g c = λ t1.
    let t = still _ _ (sym c.read_whole.ensures.tells) t1 in
    let read = c.deref-2.ensures.value ∙ c.in_ok-bytes.ensures.bytes t ∙ ap (λ (m : List State). (now m c.args.file).reads) (sym (c.read_whole.ensures.same t)) in
    subst (CanClose c.head_of.result) read c.head_of.ensures

pub write_log-requires-clause-entries : goal.write_log-requires-clause-entries
write_log-requires-clause-entries g c =
    let f = fits c.args.entries.now (no_refusal c.list_too_long.result _ c.list_too_long.ensures c.in_default.not-Some) in
    (subst AreShort (sym c.in_ok-copy.ensures) f.short, subst (λ (es : List (List ℕ)). gate_after es < 2 ^ 63) (sym c.in_ok-copy.ensures) f.small)

pub returns-in_err-close_head-clause-any_moment : goal.returns-in_err-close_head-clause-any_moment
returns-in_err-close_head-clause-any_moment g c = λ t.
    let same = c.read_whole.ensures.same t in
    let t1 = still _ _ c.read_whole.ensures.tells t in
    let reads = (now (g.D.Disk.moments c.args.disk.now) c.args.file).reads in
    let mid_reads = ap (λ (m : List State). (now m c.args.file).reads) same in
    let P = IsOldOrNew reads c.args.generation c.args.entries.now in
    let closed = leaves_to c.args.file _ P (λ k old. by_old reads c.args.generation c.args.entries.now k (subst (λ (l : List ℕ). IsOldOrAbsent l k) mid_reads old)) _ _ (c.close_head.ensures.any_moment t1) in
    leaves_same c.args.file P _ _ _ same closed

pub returns-in_err-log-clause-any_moment : goal.returns-in_err-log-clause-any_moment
returns-in_err-log-clause-any_moment g c = λ t.
    let same = c.read_whole.ensures.same t in
    let t1 = still _ _ c.read_whole.ensures.tells t in
    let reads = (now (g.D.Disk.moments c.args.disk.now) c.args.file).reads in
    let mid_reads = ap (λ (m : List State). (now m c.args.file).reads) same in
    let P = IsOldOrNew reads c.args.generation c.args.entries.now in
    let closed = leaves_to c.args.file _ P (λ k old. by_old reads c.args.generation c.args.entries.now k (subst (λ (l : List ℕ). IsOldOrAbsent l k) mid_reads old)) _ _ (c.close_head.ensures.any_moment t1) in
    let t2 = still _ _ c.close_head.ensures.tells t1 in
    let written = leaves_to c.args.file _ P (λ k new. by_new reads c.args.generation c.args.entries.now k (subst (λ (es : List (List ℕ)). IsNewOrAbsent c.args.generation es k) c.in_ok-copy.ensures new)) _ _ (c.write_log.ensures.any_moment t2) in
    leaves_same c.args.file P _ _ _ same (leaves_then c.args.file P _ _ _ closed written)

pub returns-clause-any_moment : goal.returns-clause-any_moment
returns-clause-any_moment g c = λ t.
    let same = c.read_whole.ensures.same t in
    let t1 = still _ _ c.read_whole.ensures.tells t in
    let reads = (now (g.D.Disk.moments c.args.disk.now) c.args.file).reads in
    let mid_reads = ap (λ (m : List State). (now m c.args.file).reads) same in
    let P = IsOldOrNew reads c.args.generation c.args.entries.now in
    let closed = leaves_to c.args.file _ P (λ k old. by_old reads c.args.generation c.args.entries.now k (subst (λ (l : List ℕ). IsOldOrAbsent l k) mid_reads old)) _ _ (c.close_head.ensures.any_moment t1) in
    let t2 = still _ _ c.close_head.ensures.tells t1 in
    let written = leaves_to c.args.file _ P (λ k new. by_new reads c.args.generation c.args.entries.now k (subst (λ (es : List (List ℕ)). IsNewOrAbsent c.args.generation es k) c.in_ok-copy.ensures new)) _ _ (c.write_log.ensures.any_moment t2) in
    leaves_same c.args.file P _ _ _ same (leaves_then c.args.file P _ _ _ closed written)

pub returns-in-Foreign-clause-cause : goal.returns-in-Foreign-clause-cause
returns-in-Foreign-clause-cause g c = no_refusal c.list_too_long.result _ c.list_too_long.ensures c.in_default.not-Some
