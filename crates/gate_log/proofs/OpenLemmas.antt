-- What an open leaves.
use Rattle.std.proofs.Common.{◌≡◌, inl, inr, ℕ, List, [], refl, sym, ◌∙◌, ap}
use Rattle.gate_log.specs.Disk.{State, now, MayLeave, Synced, synced_file}
use Rattle.gate_log.specs.Runs.{Leaves}
use Rattle.gate_log.specs.Format.{reading, opened_as}
use Rattle.gate_log.specs.Front.{IsReadOrNew}
use Rattle.gate_log.specs.Opening.{OpensAsBefore}
use Rattle.gate_log.specs.Renew.{IsOldOrAbsent, IsNewOrAbsent}
use Rattle.gate_log.specs.declared.reading.Reading.TheVariants.{Absent, Log}
use Rattle.gate_log.proofs.Left.{left_kept}
use Rattle.gate_log.proofs.Going.{So, so_far, synced, leaves_to, leaves_then}

-- it opens as an empty log of generation 1
abbrev pub OpensEmpty : List ℕ → Type 0
OpensEmpty c = opened_as (reading c) ≡ Log 1 []

pub empty_by_old : (old c : List ℕ) → reading old ≡ Absent → IsOldOrAbsent old c → OpensEmpty c
empty_by_old old c absent (inl none) = ap opened_as none
empty_by_old old c absent (inr same) = ap opened_as (same ∙ absent)

pub empty_by_new : (c : List ℕ) → IsNewOrAbsent 1 [] c → OpensEmpty c
empty_by_new c (inl none) = ap opened_as none
empty_by_new c (inr same) = ap opened_as same

module _ (n : ℕ) (m0 m1 : List State) (reads_left : MayLeave (now m0 n) (now m0 n).reads) (sync : Synced n m0 m1) where
  abbrev P : List ℕ → Type 0
  P = OpensAsBefore (now m0 n)

  as_read : (c : List ℕ) → opened_as (reading c) ≡ opened_as (reading (now m0 n).reads) → P c
  as_read c same = record { image = (now m0 n).reads; left = reads_left; same = same }

  run : So n P m0 m1 (synced_file (now m0 n).reads)
  run = synced n P m0 m0 m1 (now m0 n) (so_far n P m0 (now m0 n) refl) sync (λ c left. as_read c (ap (λ (l : List ℕ). opened_as (reading l)) (left_kept (now m0 n).reads c left)))

  -- the first sync
  pub after_sync_leaves : Leaves n P m0 m1
  after_sync_leaves = run.went

  pub after_sync_file : now m1 n ≡ synced_file (now m0 n).reads
  after_sync_file = run.is

  -- and what follows over an absent file
  pub after_sync_new : (m2 : List State) → reading (now m0 n).reads ≡ Absent → Leaves n OpensEmpty m1 m2 → Leaves n P m0 m2
  after_sync_new m2 absent went =
      leaves_then n P m0 m1 m2 run.went (leaves_to n OpensEmpty P (λ c empty. as_read c (empty ∙ sym (ap opened_as absent))) m1 m2 went)

  abbrev Q : List ℕ → Type 0
  Q = IsReadOrNew (now m0 n).reads

  read_run : So n Q m0 m1 (synced_file (now m0 n).reads)
  read_run = synced n Q m0 m0 m1 (now m0 n) (so_far n Q m0 (now m0 n) refl) sync (λ c left. inl (left_kept (now m0 n).reads c left))

  -- the same, of what was read
  pub read_after_sync : Leaves n Q m0 m1
  read_after_sync = read_run.went

  pub read_after_new : (m2 : List State) → reading (now m0 n).reads ≡ Absent → Leaves n OpensEmpty m1 m2 → Leaves n Q m0 m2
  read_after_new m2 absent went =
      leaves_then n Q m0 m1 m2 read_run.went (leaves_to n OpensEmpty Q (λ c empty. inr (absent, empty)) m1 m2 went)
