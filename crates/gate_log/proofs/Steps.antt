-- One write and the sync behind it, on a file that is all on the disk.
use Rattle.std.proofs.Common.{◌≡◌, ℕ, List, [], ◌∷◌, length, subst}
use Rattle.gate_log.specs.Disk.{State, IsLeft, Wrote, Synced, Tried, overwritten, after_write, synced_file}
use Rattle.gate_log.specs.Runs.{Leaves}
use Rattle.gate_log.proofs.Going.{So, wrote, tried, synced, unchanged}

-- the write leads from these bytes to those, and a crash on the way leaves what has P
pub record Step (P : List ℕ → Type 0) (from : List ℕ) (at : ℕ) (bytes to : List ℕ) : Type 0 where
  pub torn : (c : List ℕ) → IsLeft from ((at, length bytes) ∷ []) c → P c
  pub is : overwritten at bytes from ≡ to
  pub kept : (c : List ℕ) → IsLeft to [] c → P c

module _ (n : ℕ) (P : List ℕ → Type 0) (from : List ℕ) (at : ℕ) (bytes to : List ℕ) (step : Step P from at bytes to) (old m0 : List State) (so : So n P old m0 (synced_file from)) where
  pub write_failed : (m1 : List State) → Tried n at (length bytes) m0 m1 → Leaves n P old m1
  write_failed m1 call = tried n P old m0 m1 (synced_file from) at (length bytes) so call step.torn

  written : (m1 : List State) → Wrote n at bytes m0 m1 → So n P old m1 (after_write at bytes (synced_file from))
  written m1 call = wrote n P old m0 m1 (synced_file from) at bytes so call step.torn

  pub sync_failed : (m1 m2 : List State) → Wrote n at bytes m0 m1 → m2 ≡ m1 → Leaves n P old m2
  sync_failed m1 m2 call same = (unchanged n P old m1 m2 (after_write at bytes (synced_file from)) (written m1 call) same).went

  pub done : (m1 m2 : List State) → Wrote n at bytes m0 m1 → Synced n m1 m2 → So n P old m2 (synced_file to)
  done m1 m2 call sync =
      let kept : (c : List ℕ) → IsLeft (overwritten at bytes from) [] c → P c = λ c left. step.kept c (subst (λ (l : List ℕ). IsLeft l [] c) step.is left) in
      subst (λ (l : List ℕ). So n P old m2 (synced_file l)) step.is
      (synced n P old m1 m2 (after_write at bytes (synced_file from)) (written m1 call) sync kept)
