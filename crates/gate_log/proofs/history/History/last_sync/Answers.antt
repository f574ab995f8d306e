use Rattle.std.proofs.Common.{◌≡◌, ◌-◌, ℕ, length, take, refl, sym, subst, arith}
use Rattle.std.proofs.lemmas.List.{drop_all}
use Rattle.gate_log.specs.Disk.{synced_file}
use Rattle.gate_log.specs.Calls.{file_of, file_after, NoSync}
use Rattle.gate_log.specs.Renew.{IsSynced}
use Rattle.gate_log.proofs.ReplayLemmas.{no_sync_before, synced_at}
use Rattle.gate_log.proofs.history.History.last_sync.Goals as goal

pub loop-end-init : goal.loop-end-init
loop-end-init c =
    let size : length c.args.self.now.calls.items ≡ c.len-end.result = omega (arith, c.args.self.now.calls.ok, c.len-end.ensures) in
    record {
      within = omega (arith, size);
      last = subst (NoSync c.args.file) (sym (drop_all c.len-end.result c.args.self.now.calls.items (omega (arith, size)))) tt;
    }

pub loop-end-preserved : goal.loop-end-preserved
loop-end-preserved c = record {
  within = omega (arith, c.loop-end.invariant.within);
  last = no_sync_before c.args.file c.args.self.now.calls.items c.loop-end.end (c.loop-end.end - 1) c.index.result.now (omega arith) (omega (arith, c.loop-end.invariant.within)) c.index.ensures
      (sym c.if-is_sync.ensures) c.loop-end.invariant.last;
}

pub returns-then-is_sync-clause-synced : goal.returns-then-is_sync-clause-synced
returns-then-is_sync-clause-synced c =
    let h = c.args.self.now in
    synced_at c.args.file (synced_file (file_of h.began c.args.file)) h.calls.items c.loop-end.end (c.loop-end.end - 1) c.index.result.now (omega arith) (omega (arith, c.loop-end.invariant.within)) c.index.ensures
    (sym c.if-is_sync.ensures)

pub returns-clause-synced : goal.returns-clause-synced
returns-clause-synced c =
    let h = c.args.self.now in
    let none : 0 ≡ c.loop-end.end = omega (arith, c.loop-end-test.false) in
    subst (λ (n : ℕ). IsSynced (file_after c.args.file (synced_file (file_of h.began c.args.file)) (take n h.calls.items))) none refl
