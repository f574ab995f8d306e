-- When a file gets too long.
use Rattle.std.proofs.Common.{◌≡◌, ℕ, ◌+◌, ◌<◌, ◌≤◌, ◌^◌, Bool, true, false, if◌then◌else◌, refl, sym, ◌∙◌, ap, arith, Some, None}
use Rattle.std.specs.Prelude.{nat_lt}
use Rattle.std.specs.Option.{option_map}
use Rattle.std.proofs.lemmas.Bool.{ltb-true}
use Rattle.std.proofs.lemmas.Option.{none-some}
use Rattle.gate_log.specs.Settled.{too_long}
use Rattle.block_ledger.specs.declared.fault.LedgerFault.TheVariants as fault_of
use Rattle.block_ledger.specs.Answers.{limit_fault}

long_is : (gate n : ℕ) (long large : Bool) → nat_lt 4194304 n ≡ long → nat_lt (2 ^ 62) (gate + 6 + n) ≡ large → n ≤ 4194304
    → (if long then Some n else if large then Some (gate + 6 + n) else None) ≡ (if large then Some (gate + 6 + n) else None)
long_is gate n true large is at short = let lt = ltb-true 4194304 n is in absurd (omega arith)
long_is gate n false large is at short = refl

-- of a short entry only the file's length matters
pub too_long_short : (gate n : ℕ) → n ≤ 4194304 → too_long gate n ≡ (if nat_lt (2 ^ 62) (gate + 6 + n) then Some (gate + 6 + n) else None)
too_long_short gate n short = long_is gate n (nat_lt 4194304 n) (nat_lt (2 ^ 62) (gate + 6 + n)) refl refl short

limit_same : (large : Bool) (k : ℕ) → (if large then Some (fault_of.Limit k) else None) ≡ option_map fault_of.Limit (if large then Some k else None)
limit_same true k = refl
limit_same false k = refl

pub limit_is : (gate n : ℕ) → n ≤ 4194304 → limit_fault (gate + 1) n ≡ option_map fault_of.Limit (too_long gate n)
limit_is gate n short =
    let same : gate + 1 + 5 + n ≡ gate + 6 + n = omega arith in
    ap (λ k. if nat_lt (2 ^ 62) k then Some (fault_of.Limit k) else None) same ∙ limit_same (nat_lt (2 ^ 62) (gate + 6 + n)) (gate + 6 + n)
    ∙ ap (option_map fault_of.Limit) (sym (too_long_short gate n short))

large_only : (gate n k : ℕ) (large : Bool) → nat_lt (2 ^ 62) (gate + 6 + n) ≡ large → (if large then Some (gate + 6 + n) else None) ≡ Some k → 2 ^ 62 < gate + 6 + n
large_only gate n k true is h = ltb-true (2 ^ 62) (gate + 6 + n) is
large_only gate n k false is h = absurd (none-some k h)

-- a file that begins gets too long by no short entry
pub begins_short : (gate n k : ℕ) → gate ≡ 17 → n ≤ 4194304 → too_long gate n ≡ Some k → ⊥
begins_short gate n k first short h =
    let lt = large_only gate n k (nat_lt (2 ^ 62) (gate + 6 + n)) refl (sym (too_long_short gate n short) ∙ h) in
    omega arith
