-- The four device calls of an append, one after another.
use Rattle.std.specs.Prelude.{nat_lt, if◌then◌else◌}
use Rattle.std.proofs.lemmas.Bool.Decides.{leb_tells}
use Rattle.std.proofs.Common.{inl, inr, suc, arith, Option, Some, None, ◌≡◌, ℕ, ◌+◌, ◌^◌, ◌<◌, Bool, List, [], ◌∷◌, ◌++◌, length, IsTrue, sym, ◌∙◌, ap, subst}
use Rattle.gate_log.specs.Disk.{State, now, IsLeft, Wrote, Synced, Tried, after_write, overwritten, synced_file}
use Rattle.gate_log.specs.Runs.{Leaves}
use Rattle.gate_log.specs.Format.{block, gate_after}
use Rattle.gate_log.proofs.Fronts.{IsFront}
use Rattle.gate_log.specs.Settled.{too_long}
use Rattle.gate_log.proofs.Going.{So, so_far, wrote, tried, synced, unchanged}
use Rattle.gate_log.proofs.Appending as step

-- an entry that isn't too long fits its length's four bytes
pub short : (gate n : ℕ) (r : Option ℕ) → r ≡ too_long gate n → ((m : ℕ) → r ≡ Some m → ⊥) → n < 2 ^ 32
short gate n r is other = elim (leb_tells (suc 4194304) n) [
  | inl long ↦ absurd (other n (is ∙ ap (λ (b : Bool). if b then Some n else if nat_lt (2 ^ 62) (gate + 6 + n) then Some (gate + 6 + n) else None) long.0))
  | inr fits ↦ omega (arith, fits.1)
]

-- it tells what it told
pub still : (before after : Bool) → after ≡ before → IsTrue before → IsTrue after
still before after same told = subst IsTrue (sym same) told

module _ (generation : ℕ) (entries : List (List ℕ)) (front tail entry : List ℕ) (is_front : IsFront generation entries front) (fits : length entry < 2 ^ 32)
    (n gate : ℕ) (gate_is : gate ≡ gate_after entries) (bytes : List ℕ) (bytes_are : bytes ≡ block entry ++ 0 ∷ [])
    (m0 : List State) (start : now m0 n ≡ synced_file (front ++ 0 ∷ tail)) where
  abbrev P : List ℕ → Type 0
  P = step.P generation entries front tail entry is_front fits

  abbrev staged : List ℕ
  staged = step.staged generation entries front tail entry is_front fits

  abbrev finished : List ℕ
  finished = step.finished generation entries front tail entry is_front fits

  zeroth : So n P m0 m0 (synced_file (front ++ 0 ∷ tail))
  zeroth = so_far n P m0 (synced_file (front ++ 0 ∷ tail)) start

  first_left : (c : List ℕ) → IsLeft (front ++ 0 ∷ tail) ((gate + 1, length bytes) ∷ []) c → P c
  first_left c left =
      step.first_crash generation entries front tail entry is_front fits c
      (subst (λ (g : ℕ). IsLeft (front ++ 0 ∷ tail) ((g + 1, length (block entry ++ 0 ∷ [])) ∷ []) c) gate_is
      (subst (λ (l : List ℕ). IsLeft (front ++ 0 ∷ tail) ((gate + 1, length l) ∷ []) c) bytes_are left))

  pub first : (m1 : List State) → Wrote n (gate + 1) bytes m0 m1 → So n P m0 m1 (after_write (gate + 1) bytes (synced_file (front ++ 0 ∷ tail)))
  first m1 call = wrote n P m0 m0 m1 (synced_file (front ++ 0 ∷ tail)) (gate + 1) bytes zeroth call first_left

  pub first_failed : (m1 : List State) → Tried n (gate + 1) (length bytes) m0 m1 → Leaves n P m0 m1
  first_failed m1 call = tried n P m0 m0 m1 (synced_file (front ++ 0 ∷ tail)) (gate + 1) (length bytes) zeroth call first_left

  is_staged : overwritten (gate + 1) bytes (front ++ 0 ∷ tail) ≡ staged
  is_staged =
      ap (λ (l : List ℕ). overwritten (gate + 1) l (front ++ 0 ∷ tail)) bytes_are
      ∙ ap (λ (g : ℕ). overwritten (g + 1) (block entry ++ 0 ∷ []) (front ++ 0 ∷ tail)) gate_is
      ∙ step.first_write generation entries front tail entry is_front fits

  pub second_failed : (m1 m2 : List State) → Wrote n (gate + 1) bytes m0 m1 → m2 ≡ m1 → Leaves n P m0 m2
  second_failed m1 m2 call same = (unchanged n P m0 m1 m2 _ (first m1 call) same).went

  pub second : (m1 m2 : List State) → Wrote n (gate + 1) bytes m0 m1 → Synced n m1 m2 → So n P m0 m2 (synced_file staged)
  second m1 m2 call sync =
      let all = overwritten (gate + 1) bytes (front ++ 0 ∷ tail) in
      let kept : (c : List ℕ) → IsLeft all [] c → P c = λ c left. step.first_kept generation entries front tail entry is_front fits c (subst (λ (l : List ℕ). IsLeft l [] c) is_staged left) in
      subst (λ (l : List ℕ). So n P m0 m2 (synced_file l)) is_staged
      (synced n P m0 m1 m2 (after_write (gate + 1) bytes (synced_file (front ++ 0 ∷ tail))) (first m1 call) sync kept)

  gate_left : (c : List ℕ) → IsLeft staged ((gate, 1) ∷ []) c → P c
  gate_left c left =
      step.gate_crash generation entries front tail entry is_front fits c
      (subst (λ (g : ℕ). IsLeft staged ((g, 1) ∷ []) c) gate_is left)

  pub third_failed : (m1 m2 m3 : List State) → Wrote n (gate + 1) bytes m0 m1 → Synced n m1 m2 → Tried n gate 1 m2 m3 → Leaves n P m0 m3
  third_failed m1 m2 m3 call sync open_gate = tried n P m0 m2 m3 (synced_file staged) gate 1 (second m1 m2 call sync) open_gate gate_left

  pub third : (m1 m2 m3 : List State) → Wrote n (gate + 1) bytes m0 m1 → Synced n m1 m2 → Wrote n gate (1 ∷ []) m2 m3 → So n P m0 m3 (after_write gate (1 ∷ []) (synced_file staged))
  third m1 m2 m3 call sync open_gate = wrote n P m0 m2 m3 (synced_file staged) gate (1 ∷ []) (second m1 m2 call sync) open_gate gate_left

  pub fourth_failed : (m1 m2 m3 m4 : List State) → Wrote n (gate + 1) bytes m0 m1 → Synced n m1 m2 → Wrote n gate (1 ∷ []) m2 m3 → m4 ≡ m3 → Leaves n P m0 m4
  fourth_failed m1 m2 m3 m4 call sync open_gate same = (unchanged n P m0 m3 m4 _ (third m1 m2 m3 call sync open_gate) same).went

  is_finished : overwritten gate (1 ∷ []) staged ≡ finished
  is_finished = ap (λ (g : ℕ). overwritten g (1 ∷ []) staged) gate_is ∙ step.gate_write generation entries front tail entry is_front fits

  pub fourth : (m1 m2 m3 m4 : List State) → Wrote n (gate + 1) bytes m0 m1 → Synced n m1 m2 → Wrote n gate (1 ∷ []) m2 m3 → Synced n m3 m4 → So n P m0 m4 (synced_file finished)
  fourth m1 m2 m3 m4 call sync open_gate last =
      let all = overwritten gate (1 ∷ []) staged in
      let kept : (c : List ℕ) → IsLeft all [] c → P c = λ c left. step.gate_kept generation entries front tail entry is_front fits c (subst (λ (l : List ℕ). IsLeft l [] c) is_finished left) in
      subst (λ (l : List ℕ). So n P m0 m4 (synced_file l)) is_finished
      (synced n P m0 m3 m4 (after_write gate (1 ∷ []) (synced_file staged)) (third m1 m2 m3 call sync open_gate) last kept)
