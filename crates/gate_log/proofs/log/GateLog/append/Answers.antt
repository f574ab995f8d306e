use Rattle.std.proofs.Common.{ℕ, List, ◌<◌, ◌^◌, [], ◌∷◌, ◌++◌, length, sym, ◌∙◌, ap, arith}
use Rattle.gate_log.specs.Format.{block, gate_after}
use Rattle.gate_log.specs.Disk.{synced_file}
use Rattle.gate_log.specs.declared.reading.Reading.TheVariants.{Log}
use Rattle.gate_log.proofs.Found.{has_front}
use Rattle.gate_log.proofs.Gates.{gate_after_more, front_ends}
use Rattle.gate_log.proofs.Appending.{beyond, finished_front}
use Rattle.gate_log.proofs.AppendRun.{short, still, first_failed, second_failed, third_failed, fourth_failed, fourth}
use Rattle.gate_log.proofs.RestartLemmas.{no_refusal}
use Rattle.gate_log.proofs.log.GateLog.append.Goals as goal

pub returns-in_err-write_at-clause-any_moment : goal.returns-in_err-write_at-clause-any_moment
returns-in_err-write_at-clause-any_moment g c = λ t.
    let r = c.requires t in
    let s = has_front _ _ r.bytes r.stands in
    let file = r.file ∙ ap synced_file s.is in
    let fits : length c.args.entry.now < 2 ^ 32 = short c.args.self.now.gate (length c.args.entry.now) c.too_long.result c.too_long.ensures c.in_default.not-Some in
    let bytes = c.deref.ensures.value ∙ c.in_ok-bytes.ensures in
    first_failed _ _ s.front s.tail c.args.entry.now s.is_front fits _ c.args.self.now.gate r.gate _ bytes _ file _ (c.in_err-write_at.ensures.err t)

pub returns-in_err-sync-clause-any_moment : goal.returns-in_err-sync-clause-any_moment
returns-in_err-sync-clause-any_moment g c = λ t.
    let r = c.requires t in
    let s = has_front _ _ r.bytes r.stands in
    let file = r.file ∙ ap synced_file s.is in
    let fits : length c.args.entry.now < 2 ^ 32 = short c.args.self.now.gate (length c.args.entry.now) c.too_long.result c.too_long.ensures c.in_default.not-Some in
    let bytes = c.deref.ensures.value ∙ c.in_ok-bytes.ensures in
    let t1 = still _ _ c.write_at.ensures.tells t in
    second_failed _ _ s.front s.tail c.args.entry.now s.is_front fits _ c.args.self.now.gate r.gate _ bytes _ file _ _ (c.in_ok-write_at.ensures.ok t) (c.in_err-sync.ensures.err t1)

pub returns-in_err-write_at-2-clause-any_moment : goal.returns-in_err-write_at-2-clause-any_moment
returns-in_err-write_at-2-clause-any_moment g c = λ t.
    let r = c.requires t in
    let s = has_front _ _ r.bytes r.stands in
    let file = r.file ∙ ap synced_file s.is in
    let fits : length c.args.entry.now < 2 ^ 32 = short c.args.self.now.gate (length c.args.entry.now) c.too_long.result c.too_long.ensures c.in_default.not-Some in
    let bytes = c.deref.ensures.value ∙ c.in_ok-bytes.ensures in
    let t1 = still _ _ c.write_at.ensures.tells t in
    let t2 = still _ _ c.sync.ensures.tells t1 in
    third_failed _ _ s.front s.tail c.args.entry.now s.is_front fits _ c.args.self.now.gate r.gate _ bytes _ file _ _ _ (c.in_ok-write_at.ensures.ok t) (c.in_ok-sync.ensures.ok t1) (c.in_err-write_at-2.ensures.err t2)

pub returns-in_err-sync-2-clause-any_moment : goal.returns-in_err-sync-2-clause-any_moment
returns-in_err-sync-2-clause-any_moment g c = λ t.
    let r = c.requires t in
    let s = has_front _ _ r.bytes r.stands in
    let file = r.file ∙ ap synced_file s.is in
    let fits : length c.args.entry.now < 2 ^ 32 = short c.args.self.now.gate (length c.args.entry.now) c.too_long.result c.too_long.ensures c.in_default.not-Some in
    let bytes = c.deref.ensures.value ∙ c.in_ok-bytes.ensures in
    let t1 = still _ _ c.write_at.ensures.tells t in
    let t2 = still _ _ c.sync.ensures.tells t1 in
    let t3 = still _ _ c.write_at-2.ensures.tells t2 in
    fourth_failed _ _ s.front s.tail c.args.entry.now s.is_front fits _ c.args.self.now.gate r.gate _ bytes _ file _ _ _ _ (c.in_ok-write_at.ensures.ok t) (c.in_ok-sync.ensures.ok t1) (c.in_ok-write_at-2.ensures.ok t2) (c.in_err-sync-2.ensures.err t3)

pub returns-clause-any_moment : goal.returns-clause-any_moment
returns-clause-any_moment g c = λ t.
    let r = c.requires t in
    let s = has_front _ _ r.bytes r.stands in
    let file = r.file ∙ ap synced_file s.is in
    let fits : length c.args.entry.now < 2 ^ 32 = short c.args.self.now.gate (length c.args.entry.now) c.too_long.result c.too_long.ensures c.in_default.not-Some in
    let bytes = c.deref.ensures.value ∙ c.in_ok-bytes.ensures in
    let t1 = still _ _ c.write_at.ensures.tells t in
    let t2 = still _ _ c.sync.ensures.tells t1 in
    let t3 = still _ _ c.write_at-2.ensures.tells t2 in
    (fourth _ _ s.front s.tail c.args.entry.now s.is_front fits _ c.args.self.now.gate r.gate _ bytes _ file _ _ _ _ (c.in_ok-write_at.ensures.ok t) (c.in_ok-sync.ensures.ok t1) (c.in_ok-write_at-2.ensures.ok t2) (c.in_ok-sync-2.ensures.ok t3)).went

pub returns-clause-settled : goal.returns-clause-settled
returns-clause-settled g c = λ t.
    let r = c.requires t in
    let s = has_front _ _ r.bytes r.stands in
    let file = r.file ∙ ap synced_file s.is in
    let fits : length c.args.entry.now < 2 ^ 32 = short c.args.self.now.gate (length c.args.entry.now) c.too_long.result c.too_long.ensures c.in_default.not-Some in
    let bytes = c.deref.ensures.value ∙ c.in_ok-bytes.ensures in
    let t1 = still _ _ c.write_at.ensures.tells t in
    let t2 = still _ _ c.sync.ensures.tells t1 in
    let t3 = still _ _ c.write_at-2.ensures.tells t2 in
    let more = gate_after_more c.args.self.now.entries c.args.entry.now in
    let run = fourth _ _ s.front s.tail c.args.entry.now s.is_front fits _ c.args.self.now.gate r.gate _ bytes _ file _ _ _ _ (c.in_ok-write_at.ensures.ok t) (c.in_ok-sync.ensures.ok t1) (c.in_ok-write_at-2.ensures.ok t2) (c.in_ok-sync-2.ensures.ok t3) in
    let entries = c.in_ok-push.ensures.ok ∙ ap (λ (e : List ℕ). c.args.self.now.entries ++ e ∷ []) c.in_ok-copy.ensures in
    let tail = beyond _ _ s.front s.tail c.args.entry.now s.is_front fits in
    record {
      bytes = (s.front ++ 1 ∷ block c.args.entry.now) ++ 0 ∷ tail;
      file = run.is;
      stands = front_ends _ _ (s.front ++ 1 ∷ block c.args.entry.now) tail (finished_front _ _ s.front s.tail c.args.entry.now s.is_front fits) ∙ ap (Log c.args.self.now.generation) (sym entries);
      gate = omega (arith, r.gate, more, ap gate_after entries);
    }

pub returns-clause-cause : goal.returns-clause-cause
returns-clause-cause g c = no_refusal c.too_long.result _ c.too_long.ensures c.in_default.not-Some
