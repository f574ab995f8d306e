-- Two quorums share a correct member.
use Rattle.std.proofs.Common.{◌≡◌, ℕ, ◌+◌, ◌<◌, ◌≤◌, Bool, true, false, ◌||◌, ◌&&◌, cond, List, [], ◌∷◌, length, refl, suc, arith, ap, ◌∙◌, inl, inr}
use Rattle.std.specs.Prelude.{◌==◌, not}
use Rattle.std.proofs.lemmas.Bool.{eqb-true, or_cases}
use Rattle.ord_types.specs.Members.{how_many, is_in}
use Rattle.safety_model.specs.Blocks.{Config}
use Rattle.safety_model.specs.Rules.{HasQuorum, bound_of, count, faulty}

-- more ids pass p than q, so one passes p and not q
more_cases : (p q : ℕ → Bool) (x : ℕ) (k l : ℕ) (a b : Bool) → p x ≡ a → q x ≡ b → (k < l → (m : ℕ) × (p m ≡ true) × (q m ≡ false)) → cond b 1 0 + k < cond a 1 0 + l → (m : ℕ) × (p m ≡ true) × (q m ≡ false)
more_cases p q x k l true false ea eb rest h = (x, ea, eb)
more_cases p q x k l true true ea eb rest h = rest (omega arith)
more_cases p q x k l false true ea eb rest h = rest (omega arith)
more_cases p q x k l false false ea eb rest h = rest (omega arith)

pub more_have : (p q : ℕ → Bool) (ids : List ℕ) → how_many q ids < how_many p ids → (m : ℕ) × (p m ≡ true) × (q m ≡ false)
more_have p q [] h = absurd (omega arith)
more_have p q (x ∷ xs) h = more_cases p q x (how_many q xs) (how_many p xs) (p x) (q x) refl refl (more_have p q xs) h

-- counts of two tests, and of both together
both_step : (a b : Bool) (k l m n : ℕ) → k + l ≤ m + n → (cond a 1 0 + k) + (cond b 1 0 + l) ≤ (cond (a && b) 1 0 + m) + suc n
both_step true true k l m n h = omega arith
both_step true false k l m n h = omega arith
both_step false true k l m n h = omega arith
both_step false false k l m n h = omega arith

pub both_count : (p q : ℕ → Bool) (ids : List ℕ) → how_many p ids + how_many q ids ≤ how_many (λ m. p m && q m) ids + length ids
both_count p q [] = omega arith
both_count p q (x ∷ xs) = both_step (p x) (q x) (how_many p xs) (how_many q xs) (how_many (λ m. p m && q m) xs) (length xs) (both_count p q xs)

-- a test that passes more often is counted more often
more_step : (a b : Bool) (k l : ℕ) → (a ≡ true → b ≡ true) → k ≤ l → cond a 1 0 + k ≤ cond b 1 0 + l
more_step true true k l h le = omega arith
more_step true false k l h le = cc (h refl)
more_step false true k l h le = omega arith
more_step false false k l h le = omega arith

pub how_many_more : (p q : ℕ → Bool) (ids : List ℕ) → ((m : ℕ) → p m ≡ true → q m ≡ true) → how_many p ids ≤ how_many q ids
how_many_more p q [] h = omega arith
how_many_more p q (x ∷ xs) h = more_step (p x) (q x) (how_many p xs) (how_many q xs) (h x) (how_many_more p q xs h)

strip : (b p q : Bool) → ((b || p) && (b || q)) ≡ true → b ≡ false → (p ≡ true) × (q ≡ true)
strip false true true h e = (refl, refl)
strip false true false h e = (cc)
strip false false q h e = (cc)
strip true p q h e = (cc)

-- one of two quorums' members has both properties and is correct
pub two_quorums : (byz : List ℕ) (c : Config) (p q : ℕ → Bool) → faulty byz c ≤ bound_of c → HasQuorum byz c p → HasQuorum byz c q → (m : ℕ) × (is_in m byz ≡ false) × (p m ≡ true) × (q m ≡ true)
two_quorums byz c p q bound hp hq =
    let counted = both_count (λ m. is_in m byz || p m) (λ m. is_in m byz || q m) c.members in
    let more : how_many (λ m. is_in m byz) c.members < how_many (λ m. (is_in m byz || p m) && (is_in m byz || q m)) c.members = omega arith in
    let found = more_have (λ m. (is_in m byz || p m) && (is_in m byz || q m)) (λ m. is_in m byz) c.members more in
    let both = strip (is_in found.0 byz) (p found.0) (q found.0) found.1 found.2 in
    (found.0, found.2, both.0, both.1)

-- more than the bound have a property, so a correct one has it
or_strip : (b p : Bool) → (b || p) ≡ true → b ≡ false → p ≡ true
or_strip false true h e = refl
or_strip false false h e = (cc)
or_strip true p h e = (cc)

pub one_correct : (byz : List ℕ) (c : Config) (p : ℕ → Bool) → faulty byz c ≤ bound_of c → bound_of c < count byz c p → (m : ℕ) × (is_in m byz ≡ false) × (p m ≡ true)
one_correct byz c p bound h =
    let more : how_many (λ m. is_in m byz) c.members < how_many (λ m. is_in m byz || p m) c.members = omega arith in
    let found = more_have (λ m. is_in m byz || p m) (λ m. is_in m byz) c.members more in
    (found.0, found.2, or_strip (is_in found.0 byz) (p found.0) found.1 found.2)

-- different ids of a list that all pass are no more than pass in all of it
less_step : (t a : Bool) (k l : ℕ) → k ≤ l → cond (t && not a) 1 0 + k ≤ cond t 1 0 + l
less_step true true k l le = omega arith
less_step true false k l le = omega arith
less_step false a k l le = omega arith

pub all_less : (test : ℕ → Bool) (x : ℕ) (ids : List ℕ) → how_many (λ m. test m && not (m == x)) ids ≤ how_many test ids
all_less test x [] = omega arith
all_less test x (y ∷ ys) = less_step (test y) (y == x) (how_many (λ m. test m && not (m == x)) ys) (how_many test ys) (all_less test x ys)

one_step : (t a : Bool) (k l : ℕ) → t ≡ true → a ≡ true → k ≤ l → cond (t && not a) 1 0 + k + 1 ≤ cond t 1 0 + l
one_step true true k l et ea le = omega arith
one_step true false k l et ea le = absurd (cc)
one_step false a k l et ea le = absurd (cc)

rest_step : (t a : Bool) (k l : ℕ) → k + 1 ≤ l → cond (t && not a) 1 0 + k + 1 ≤ cond t 1 0 + l
rest_step true true k l le = omega arith
rest_step true false k l le = omega arith
rest_step false a k l le = omega arith

pub one_less : (test : ℕ → Bool) (x : ℕ) (ids : List ℕ) → is_in x ids ≡ true → test x ≡ true → how_many (λ m. test m && not (m == x)) ids + 1 ≤ how_many test ids
one_less test x [] in' t = absurd (cc)
one_less test x (y ∷ ys) in' t =
    let k = how_many (λ m. test m && not (m == x)) ys in
    let l = how_many test ys in
    elim (or_cases (y == x) (is_in x ys) in') [
      | inl here ↦
          (let same = eqb-true y x here in
          let ty : test y ≡ true = ap test same ∙ t in
          one_step (test y) (y == x) k l ty here (all_less test x ys))
      | inr there ↦ rest_step (test y) (y == x) k l (one_less test x ys there t)
    ]
