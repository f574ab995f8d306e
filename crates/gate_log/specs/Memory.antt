-- What a call of a disk in memory comes to.
use Rattle.std.specs.Prelude.{◌≡◌, ◌⊎◌, ℕ, ◌+◌, ◌-◌, ◌^◌, min, nat_eq, Bool, true, false, ◌||◌, List, []}
use Rattle.std.specs.List.{list_any}
use Rattle.gate_log.specs.Disk.{now, synced_file}
use Rattle.gate_log.specs.Arms.{after_counted, is_reached}
use Rattle.gate_log.specs.History.{states}
use Rattle.gate_log.specs.declared.arm.Arm.TheVariants.{Never}
use Rattle.gate_log.specs.declared.memory.MemDisk.{MemDisk}

-- a count after one call more; it stops at the last value of a u64
abbrev pub one_more : ℕ → ℕ
one_more n = min (n + 1) (2 ^ 64 - 1)

-- the next call is one of those that fail
abbrev pub fails_next : MemDisk → Bool
fails_next disk = list_any (λ call. nat_eq call (one_more disk.made)) disk.fails

-- An empty disk whose calls of these numbers fail.
pub record IsEmptyDisk (fails : List ℕ) (disk : MemDisk) : Type 0 where
  pub files : (f : ℕ) → now (states disk.history) f ≡ synced_file []
  pub fails_is : disk.fails ≡ fails
  pub made : disk.made ≡ 0
  pub arm : disk.arm ≡ Never
  pub faults : disk.faults ≡ 0

-- The call was counted among those of every kind, and no file changed.
pub record IsCalled (old new : MemDisk) : Type 0 where
  pub fails : new.fails ≡ old.fails
  pub made : new.made ≡ one_more old.made

-- The call changed no file, and it isn't one of those that can stop the disk.
pub record IsUncounted (old new : MemDisk) : Type 0 where
  pub states_same : states new.history ≡ states old.history
  pub arm : new.arm ≡ old.arm

-- The call was made on a disk that had not stopped. It failed exactly where it is listed, or the disk stopped at it.
pub record IsCounted (Made : Type 0) (old new : MemDisk) (failed : Bool) : Type 0 where
  pub running : is_reached old.arm ≡ false
  pub made : Made
  pub arm : new.arm ≡ after_counted old.arm
  pub fails : failed ≡ (fails_next old || is_reached new.arm)

-- A counted call of a disk: it was made, or there was no memory or the disk had stopped, and it did nothing and failed.
abbrev pub CountedCall : Type 0 → MemDisk → MemDisk → Bool → Type 0
CountedCall Made old new failed = IsCounted Made old new failed ⊎ (IsUncounted old new × (failed ≡ true))
