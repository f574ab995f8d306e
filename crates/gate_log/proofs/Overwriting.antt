-- Bytes that are grown, and then written over.
use Rattle.std.proofs.Common.{◌≡◌, inl, inr, ℕ, ◌+◌, ◌-◌, ◌≤◌, List, ◌++◌, length, take, drop, replicate, sym, ◌∙◌, ap, arith, length-append}
use Rattle.std.proofs.lemmas.List.{take-append-le, take_all, drop_all, take-replicate, length-replicate, append-nil}
use Rattle.std.proofs.Math.Seq.{take-append-add}
use Rattle.std.proofs.lemmas.Bool.Decides.{leb_tells}
use Rattle.gate_log.specs.Disk.{overwritten}

grown_front : (at n : ℕ) (old : List ℕ) → at ≤ n → take at (old ++ replicate (n - length old) 0) ≡ take at old ++ replicate (at - length old) 0
grown_front at n old below = elim (leb_tells at (length old)) [
  | inl within ↦
      let none : at - length old ≡ 0 = omega (arith, within.1) in
      take-append-le at old (replicate (n - length old) 0) within.1
      ∙ sym (ap (λ (k : ℕ). take at old ++ replicate k 0) none ∙ append-nil (take at old))
  | inr beyond ↦
      let more : at ≡ length old + (at - length old) = omega (arith, beyond.1) in
      ap (λ (k : ℕ). take k (old ++ replicate (n - length old) 0)) more
      ∙ take-append-add old (replicate (n - length old) 0) (at - length old)
      ∙ ap (λ (l : List ℕ). old ++ l) (take-replicate (at - length old) (n - length old) 0 (omega arith))
      ∙ ap (λ (l : List ℕ). l ++ replicate (at - length old) 0) (sym (take_all at old (omega (arith, beyond.1))))
]

grown_back : (n : ℕ) (old : List ℕ) → drop n (old ++ replicate (n - length old) 0) ≡ drop n old
grown_back n old = elim (leb_tells n (length old)) [
  | inl within ↦
      let none : n - length old ≡ 0 = omega (arith, within.1) in
      ap (λ (k : ℕ). drop n (old ++ replicate k 0)) none ∙ ap (drop n) (append-nil old)
  | inr beyond ↦
      drop_all n (old ++ replicate (n - length old) 0) (omega (arith, beyond.1, length-append old (replicate (n - length old) 0), length-replicate {A = ℕ} (n - length old) 0))
      ∙ sym (drop_all n old (omega (arith, beyond.1)))
]

-- what is written over bytes that reach far enough
pub overwritten_grown : (at : ℕ) (old grown new bytes : List ℕ) → grown ≡ old ++ replicate (at + length bytes - length old) 0 → new ≡ take at grown ++ bytes ++ drop (at + length bytes) grown
    → new ≡ overwritten at bytes old
overwritten_grown at old grown new bytes is written =
    written
    ∙ ap (λ (l : List ℕ). l ++ bytes ++ drop (at + length bytes) grown) (ap (take at) is ∙ grown_front at (at + length bytes) old (omega arith))
    ∙ ap (λ (l : List ℕ). take at old ++ replicate (at - length old) 0 ++ bytes ++ l) (ap (drop (at + length bytes)) is ∙ grown_back (at + length bytes) old)

-- they reach as far as the write
pub grown_enough : (n : ℕ) (old grown : List ℕ) → grown ≡ old ++ replicate (n - length old) 0 → n ≤ length grown
grown_enough n old grown is = omega (arith, ap length is, length-append old (replicate (n - length old) 0), length-replicate {A = ℕ} (n - length old) 0)
