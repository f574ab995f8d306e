-- The place at which requests are first unlawful.
use Rattle.std.proofs.Common.{◌≡◌, ℕ, zero, suc, ◌+◌, ◌<◌, Bool, true, false, not, ◌&&◌, ◌||◌, if◌then◌else◌, List, [], ◌∷◌, length, take, refl, sym, ap, subst, ◌∙◌, arith, add-one, Some, None, inl, inr}
use Rattle.std.specs.Prelude.{◌↔◌, Option, nat_lt, nat_le, slice_get}
use Rattle.std.specs.List.{list_all}
use Rattle.std.specs.Option.{is_none, option_map_or}
use Rattle.std.proofs.lemmas.Bool.{both_ways, cases_order, lt-ltb}
use Rattle.std.proofs.lemmas.List.Sums.{sum_by-cons}
use Rattle.std.proofs.lemmas.Option.{none-some, same_Some}
use Rattle.chan_config.specs.Blocks.{Config, Request, are_lawful, is_normal, is_ordinary, total_size}
use Rattle.chan_config.specs.Refusals.{first_barred, first_unlawful, is_bad_alone, is_barred, size_of}
use Rattle.chan_config.specs.Laws.{FindsRightly, IsFirstUnlawful, is_unlawful}

none_where : (t : Bool) (at : ℕ) (o : Option ℕ) → is_none (if t then Some at else o) ≡ (not t && is_none o)
none_where true at o = refl
none_where false at o = refl

-- one request more, by its tests
one_more : (o n l : Bool) (most size before rest : ℕ)
    → (not ((nat_lt most size || not o || (o && not n)) || nat_lt most (before + size)) && (l && (n && nat_le ((before + size) + rest) most))) ≡ ((o && l) && (n && nat_le (before + (size + rest)) most))
one_more true true true most size before rest = grind arith
one_more true true false most size before rest = grind arith
one_more true false true most size before rest = grind arith
one_more true false false most size before rest = grind arith
one_more false n l most size before rest = grind arith

last_one : (o n : Bool) (most size before : ℕ)
    → (not ((nat_lt most size || not o || (o && not n)) || nat_lt most (before + size)) && true) ≡ ((o && true) && (n && nat_le (before + size) most))
last_one true true most size before = grind arith
last_one true false most size before = grind arith
last_one false n most size before = grind arith

total_one : (r : Request) → total_size (r ∷ []) ≡ size_of r
total_one r = omega arith

total_more : (r : Request) (rs : List Request) → total_size (r ∷ rs) ≡ size_of r + total_size rs
total_more r rs = sum_by-cons size_of r rs

-- none may not stand exactly where all are ordinary, in normal mode, and not too large together
none_barred : (c : Config) (rs : List Request) (at before : ℕ) (r : Request)
    → is_none (first_barred c at before (r ∷ rs)) ≡ (list_all is_ordinary (r ∷ rs) && (is_normal c && nat_le (before + total_size (r ∷ rs)) c.batch.absolute))
none_barred c [] at before r =
    none_where (is_barred c before r) at None ∙ last_one (is_ordinary r) (is_normal c) c.batch.absolute (size_of r) before
    ∙ ap (λ (n : ℕ). (is_ordinary r && true) && (is_normal c && nat_le (before + n) c.batch.absolute)) (sym (total_one r))
none_barred c (q ∷ rs) at before r =
    none_where (is_barred c before r) at (first_barred c (at + 1) (before + size_of r) (q ∷ rs))
    ∙ ap (λ (t : Bool). not (is_barred c before r) && t) (none_barred c rs (at + 1) (before + size_of r) q)
    ∙ one_more (is_ordinary r) (is_normal c) (list_all is_ordinary (q ∷ rs)) c.batch.absolute (size_of r) before (total_size (q ∷ rs))
    ∙ ap (λ (n : ℕ). list_all is_ordinary (r ∷ q ∷ rs) && (is_normal c && nat_le (before + n) c.batch.absolute)) (sym (total_more r (q ∷ rs)))

none_unlawful : (c : Config) (rs : List Request) → is_none (first_unlawful c rs) ≡ are_lawful c rs
none_unlawful c [] = refl
none_unlawful c (r ∷ rs) =
    let same : 0 + total_size (r ∷ rs) ≡ total_size (r ∷ rs) = omega arith in
    let some : nat_lt 0 (length (r ∷ rs)) ≡ true = lt-ltb 0 (length (r ∷ rs)) (omega arith) in
    let tests : Bool = list_all is_ordinary (r ∷ rs) && (is_normal c && nat_le (total_size (r ∷ rs)) c.batch.absolute) in
    none_barred c rs 0 0 r ∙ ap (λ (n : ℕ). list_all is_ordinary (r ∷ rs) && (is_normal c && nat_le n c.batch.absolute)) same
    ∙ ap (λ (t : Bool). t && tests) (sym some)

is_none-is : {A : Type 0} (o : Option A) → is_none o ≡ true → o ≡ None
is_none-is None h = refl
is_none-is (Some x) h = absurd (both_ways false refl h)

none_lawful : (c : Config) (rs : List Request) → (first_unlawful c rs ≡ None) ↔ (are_lawful c rs ≡ true)
none_lawful c rs =
    ((λ h. sym (none_unlawful c rs) ∙ ap is_none h), (λ h. is_none-is (first_unlawful c rs) (none_unlawful c rs ∙ h)))

-- the request at a place may not stand, where so many bytes came before these
barred_at : Config → ℕ → List Request → ℕ → Bool
barred_at c before rs i = option_map_or (λ one. is_bad_alone c one || nat_lt c.batch.absolute (before + total_size (take (suc i) rs))) (slice_get rs i) false

barred_first : (c : Config) (before : ℕ) (r : Request) (rs : List Request) → barred_at c before (r ∷ rs) 0 ≡ is_barred c before r
unfolding barred_at
barred_first c before r rs = ap (λ (n : ℕ). is_bad_alone c r || nat_lt c.batch.absolute n) (omega arith)

barred_next : (c : Config) (before : ℕ) (r : Request) (rs : List Request) (i : ℕ) → barred_at c before (r ∷ rs) (suc i) ≡ barred_at c (before + size_of r) rs i
unfolding barred_at
barred_next c before r rs i =
    let same : before + total_size (take (suc (suc i)) (r ∷ rs)) ≡ before + size_of r + total_size (take (suc i) rs) = omega (arith, total_more r (take (suc i) rs)) in
    ap (λ (n : ℕ). option_map_or (λ one. is_bad_alone c one || nat_lt c.batch.absolute n) (slice_get rs i) false) same

barred_unlawful : (c : Config) (r : Request) (rs : List Request) (i : ℕ) → is_unlawful c (r ∷ rs) i ≡ barred_at c 0 (r ∷ rs) i
unfolding barred_at
barred_unlawful c r rs i =
    let same : total_size (take (i + 1) (r ∷ rs)) ≡ 0 + total_size (take (suc i) (r ∷ rs)) = rw add-one (omega arith) in
    ap (λ (n : ℕ). option_map_or (λ one. is_bad_alone c one || nat_lt c.batch.absolute n) (slice_get (r ∷ rs) i) false) same

-- at this place a request may not stand, and at none before it
record IsFirst (test : ℕ → Bool) (i : ℕ) : Type 0 where
  here : test i ≡ true
  earlier : (j : ℕ) → j < i → test j ≡ false

-- the place that is found, and what is known there
record Found (test : ℕ → Bool) (at i : ℕ) : Type 0 where
  place : ℕ
  is : i ≡ at + place
  first : IsFirst test place

earlier_one : (test rest : ℕ → Bool) (k : ℕ) → test 0 ≡ false → ((j : ℕ) → test (suc j) ≡ rest j) → IsFirst rest k → (j : ℕ) → j < suc k → test j ≡ false
earlier_one test rest k good next first zero lt = good
earlier_one test rest k good next first (suc j) lt = next j ∙ first.earlier j (omega arith)

found_where : (c : Config) (r : Request) (rs : List Request) (at before i : ℕ) (t : Bool) → is_barred c before r ≡ t
    → (first_barred c (at + 1) (before + size_of r) rs ≡ Some i → Found (barred_at c (before + size_of r) rs) (at + 1) i)
    → (if t then Some at else first_barred c (at + 1) (before + size_of r) rs) ≡ Some i → Found (barred_at c before (r ∷ rs)) at i
found_where c r rs at before i true is later h =
    record {
      place = 0;
      is = sym (same_Some at i h) ∙ omega arith;
      first = record { here = barred_first c before r rs ∙ is; earlier = λ j lt. absurd (omega arith) };
    }
found_where c r rs at before i false is later h =
    let found = later h in
    record {
      place = suc found.place;
      is = found.is ∙ omega arith;
      first = record {
        here = barred_next c before r rs found.place ∙ found.first.here;
        earlier = earlier_one (barred_at c before (r ∷ rs)) (barred_at c (before + size_of r) rs) found.place (barred_first c before r rs ∙ is) (barred_next c before r rs) found.first;
      };
    }

found : (c : Config) (rs : List Request) (at before i : ℕ) → first_barred c at before rs ≡ Some i → Found (barred_at c before rs) at i
found c [] at before i h = absurd (none-some i h)
found c (r ∷ rs) at before i h = found_where c r rs at before i (is_barred c before r) refl (found c rs (at + 1) (before + size_of r) i) h

absent_where : (c : Config) (r : Request) (rs : List Request) (at before j : ℕ) (t : Bool) → is_barred c before r ≡ t
    → (first_barred c (at + 1) (before + size_of r) rs ≡ None → (j : ℕ) → barred_at c (before + size_of r) rs j ≡ false)
    → (if t then Some at else first_barred c (at + 1) (before + size_of r) rs) ≡ None → barred_at c before (r ∷ rs) j ≡ false
absent_where c r rs at before j true is later h = absurd (none-some at (sym h))
absent_where c r rs at before zero false is later h = barred_first c before r rs ∙ is
absent_where c r rs at before (suc j) false is later h = barred_next c before r rs j ∙ later h j

absent : (c : Config) (rs : List Request) (at before : ℕ) → first_barred c at before rs ≡ None → (j : ℕ) → barred_at c before rs j ≡ false
unfolding barred_at
absent c [] at before h j = refl
absent c (r ∷ rs) at before h j = absent_where c r rs at before j (is_barred c before r) refl (absent c rs (at + 1) (before + size_of r)) h

-- what is found is first
found_unlawful : (c : Config) (rs : List Request) (i : ℕ) → first_unlawful c rs ≡ Some i → IsFirstUnlawful c rs i
found_unlawful c [] i h =
    let is = same_Some 0 i h in
    record { here = subst (λ k. is_unlawful c [] k ≡ true) is refl; earlier = λ j lt. absurd (omega arith) }
found_unlawful c (r ∷ rs) i h =
    let at = found c (r ∷ rs) 0 0 i h in
    let is : at.place ≡ i = omega (arith, at.is) in
    record {
      here = barred_unlawful c r rs i ∙ subst (λ k. barred_at c 0 (r ∷ rs) k ≡ true) is at.first.here;
      earlier = λ j lt. barred_unlawful c r rs j ∙ at.first.earlier j (omega arith);
    }

-- only one place is first
one_first : (c : Config) (rs : List Request) (i j : ℕ) → IsFirstUnlawful c rs i → IsFirstUnlawful c rs j → i ≡ j
one_first c rs i j a b = elim (cases_order i j) [
  | inl same ↦ same
  | inr (inl lt) ↦ absurd (both_ways (is_unlawful c rs i) (b.earlier i lt) a.here)
  | inr (inr lt) ↦ absurd (both_ways (is_unlawful c rs j) (a.earlier j lt) b.here)
]

absent_unlawful : (c : Config) (rs : List Request) (i : ℕ) → first_unlawful c rs ≡ None → is_unlawful c rs i ≡ false
absent_unlawful c [] i h = absurd (none-some 0 (sym h))
absent_unlawful c (r ∷ rs) i h = barred_unlawful c r rs i ∙ absent c (r ∷ rs) 0 0 h i

first_found : (c : Config) (rs : List Request) (i : ℕ) (o : Option ℕ) → first_unlawful c rs ≡ o → IsFirstUnlawful c rs i → o ≡ Some i
first_found c rs i None is first = absurd (both_ways (is_unlawful c rs i) (absent_unlawful c rs i is) first.here)
first_found c rs i (Some j) is first = ap (λ k. Some k) (one_first c rs j i (found_unlawful c rs j is) first)

pub finds_rightly : (c : Config) (rs : List Request) → FindsRightly c rs
finds_rightly c rs = record {
  none = none_lawful c rs;
  each = λ i. ((λ h. found_unlawful c rs i h), (λ first. first_found c rs i (first_unlawful c rs) refl first));
}
