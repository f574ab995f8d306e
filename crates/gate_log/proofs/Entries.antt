-- Lists of entries, one entry after another.
use Rattle.std.proofs.Common.{◌≡◌, ℕ, suc, ◌+◌, ◌-◌, ◌^◌, ◌<◌, ◌≤◌, inl, inr, min, List, [], ◌∷◌, ◌++◌, length, get_or, take, drop, refl, sym, ◌∙◌, ap, arith, append_assoc, take-append-drop, Option, Some, None, Bool, true, false}
use Rattle.std.specs.Prelude.{nat_lt, if◌then◌else◌}
use Rattle.std.proofs.lemmas.Bool.Decides.{leb_tells, nat_tests}
use Rattle.std.proofs.lemmas.List.{take_more, drop_more}
use Rattle.gate_log.specs.Format.{gate_after, block, spelled}
use Rattle.gate_log.specs.Renew.{AreShort, first_long, long_or_large, list_too_long}
use Rattle.gate_log.proofs.Gates.{gate_after_more}

-- the gate behind one entry more
pub gate_after_next : (entries : List (List ℕ)) (i : ℕ) (entry : List ℕ) → i < length entries → entry ≡ get_or entries i entry
    → gate_after (take (i + 1) entries) ≡ gate_after (take i entries) + 5 + length entry
gate_after_next entries i entry within is =
    ap gate_after (take_more entries i entry within) ∙ gate_after_more (take i entries) (get_or entries i entry)
    ∙ ap (λ (e : List ℕ). gate_after (take i entries) + 5 + length e) (sym is)

gate_after_front : (xs ys : List (List ℕ)) → gate_after xs ≤ gate_after (xs ++ ys)
gate_after_front [] [] = omega arith
gate_after_front [] (y ∷ ys) = omega (arith, gate_after_front [] ys)
gate_after_front (x ∷ xs) ys = omega (arith, gate_after_front xs ys)

-- the gates behind the first entries stand in front of the last one
pub gate_after_take : (entries : List (List ℕ)) (i : ℕ) → gate_after (take i entries) ≤ gate_after entries
gate_after_take entries i = omega (arith, gate_after_front (take i entries) (drop i entries), ap gate_after (take-append-drop i entries))

-- the entries from here on
pub next_entry : (entries : List (List ℕ)) (i : ℕ) (entry : List ℕ) → i < length entries → entry ≡ get_or entries i entry → drop i entries ≡ entry ∷ drop (i + 1) entries
next_entry entries i entry within is = drop_more entries i entry within ∙ ap (λ (e : List ℕ). e ∷ drop (i + 1) entries) (sym is)

-- a short entry in front isn't the first long one
pub first_long_next : (entries : List (List ℕ)) (i : ℕ) (entry : List ℕ) → i < length entries → entry ≡ get_or entries i entry → length entry ≤ 4194304
    → first_long (drop i entries) ≡ first_long (drop (i + 1) entries)
first_long_next entries i entry within is short =
    let test : nat_lt 4194304 (length entry) ≡ false = grind (arith, nat_tests) in
    ap first_long (next_entry entries i entry within is) ∙ rw test refl

-- a long entry is the first one
pub first_long_here : (entries : List (List ℕ)) (i : ℕ) (entry : List ℕ) → i < length entries → entry ≡ get_or entries i entry → 4194304 < length entry
    → first_long (drop i entries) ≡ Some (length entry)
first_long_here entries i entry within is long =
    let test : nat_lt 4194304 (length entry) ≡ true = grind (arith, nat_tests) in
    ap first_long (next_entry entries i entry within is) ∙ rw test refl

all_short : (entries : List (List ℕ)) → first_long entries ≡ None → AreShort entries
all_short [] none = tt
all_short (entry ∷ entries) none = elim (leb_tells (suc 4194304) (length entry)) [
  | inl long ↦ let some : first_long (entry ∷ entries) ≡ Some (length entry) = ap (λ (b : Bool). if b then Some (length entry) else first_long entries) long.0 in absurd (cc (some, none))
  | inr short ↦ let rest : first_long (entry ∷ entries) ≡ first_long entries = ap (λ (b : Bool). if b then Some (length entry) else first_long entries) short.0 in (omega (arith, short.1), all_short entries (sym rest ∙ none))
]

pub record Fits (entries : List (List ℕ)) : Type 0 where
  pub short : AreShort entries
  pub small : gate_after entries < 2 ^ 63

fits_by : (entries : List (List ℕ)) (first : Option ℕ) → first_long entries ≡ first → long_or_large first (gate_after entries + 1) ≡ None → Fits entries
fits_by entries (Some n) is none = absurd (cc)
fits_by entries None is none = elim (leb_tells (suc (2 ^ 62)) (gate_after entries + 1)) [
  | inl large ↦ let some : long_or_large None (gate_after entries + 1) ≡ Some (min (gate_after entries + 1) (2 ^ 64 - 1)) = ap (λ (b : Bool). if b then Some (min (gate_after entries + 1) (2 ^ 64 - 1)) else None) large.0 in absurd (cc (some, none))
  | inr small ↦ record { short = all_short entries is; small = omega (arith, small.1) }
]

-- what is known of a list that isn't refused
pub fits : (entries : List (List ℕ)) → list_too_long entries ≡ None → Fits entries
fits entries none = fits_by entries (first_long entries) refl none

-- one entry more is spelled
pub spelled_next : (entries : List (List ℕ)) (i : ℕ) (entry before after whole : List ℕ) → i < length entries → entry ≡ get_or entries i entry
    → after ≡ before ++ 1 ∷ block entry → before ++ spelled (drop i entries) ≡ whole → after ++ spelled (drop (i + 1) entries) ≡ whole
spelled_next entries i entry before after whole within is grown so_far =
    ap (λ (l : List ℕ). l ++ spelled (drop (i + 1) entries)) grown
    ∙ append_assoc before (1 ∷ block entry) (spelled (drop (i + 1) entries))
    ∙ ap (λ (l : List (List ℕ)). before ++ spelled l) (sym (next_entry entries i entry within is))
    ∙ so_far
