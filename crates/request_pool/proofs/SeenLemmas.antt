-- An index of ids.
use Rattle.std.proofs.Common.{◌≡◌, ℕ, zero, suc, ◌+◌, ◌-◌, ◌≤◌, Bool, true, false, ◌||◌, if◌then◌else◌, List, [], ◌∷◌, ◌++◌, length, drop, refl, sym, ap, subst, ◌∙◌, arith, length-append}
use Rattle.std.specs.List.{list_any}
use Rattle.std.proofs.lemmas.Bool.{both_ways}
use Rattle.circular_buffer.specs.Buffer.{keep_last}
use Rattle.indexmap.specs.IndexSet.{insert_all, insert_key}
use Rattle.request_pool.specs.Slots.{AreAmong}
use Rattle.request_pool.specs.Waiting.{ReqId, contains_id, id_eq}
use Rattle.request_pool.proofs.Ids.{id_same, id_self}

or_right : (a b : Bool) → b ≡ true → (a || b) ≡ true
or_right true b h = refl
or_right false b h = h

front_has : (x : ReqId) (s t : List ReqId) → contains_id x s ≡ true → contains_id x (s ++ t) ≡ true
front_has x [] t h = absurd (both_ways false refl h)
front_has x (y ∷ s) t h = step (id_eq x y) h (front_has x s t)
  where
    step : (b : Bool) → (b || contains_id x s) ≡ true → (contains_id x s ≡ true → contains_id x (s ++ t) ≡ true) → (b || contains_id x (s ++ t)) ≡ true
    step true h rest = refl
    step false h rest = rest h

end_has : (x : ReqId) (s : List ReqId) → contains_id x (s ++ x ∷ []) ≡ true
end_has x [] = ap (λ (b : Bool). b || false) (id_self x)
end_has x (y ∷ s) = or_right (id_eq x y) (contains_id x (s ++ x ∷ [])) (end_has x s)

-- ONE MORE

keeps_one : (k x : ReqId) (s : List ReqId) → contains_id x s ≡ true → contains_id x (insert_key id_eq s k) ≡ true
keeps_one k x s h = step (list_any (id_eq k) s)
  where
    step : (t : Bool) → contains_id x (if t then s else s ++ k ∷ []) ≡ true
    step true = h
    step false = front_has x s (k ∷ []) h

has_added : (k : ReqId) (s : List ReqId) → contains_id k (insert_key id_eq s k) ≡ true
has_added k s = step (list_any (id_eq k) s) refl
  where
    step : (t : Bool) → list_any (id_eq k) s ≡ t → contains_id k (if t then s else s ++ k ∷ []) ≡ true
    step true e = e
    step false e = end_has k s

pub one_longer : (k : ReqId) (s : List ReqId) → length (insert_key id_eq s k) ≤ length s + 1
one_longer k s = step (list_any (id_eq k) s)
  where
    step : (t : Bool) → length (if t then s else s ++ k ∷ []) ≤ length s + 1
    step true = omega arith
    step false = omega (arith, length-append s (k ∷ []))

among_kept : (k : ReqId) (xs s : List ReqId) → AreAmong xs s → AreAmong xs (insert_key id_eq s k)
among_kept k [] s h = tt
among_kept k (x ∷ xs) s h = (keeps_one k x s h.0, among_kept k xs s h.1)

among_append : (xs ys s : List ReqId) → AreAmong xs s → AreAmong ys s → AreAmong (xs ++ ys) s
among_append [] ys s h l = l
among_append (x ∷ xs) ys s h l = (h.0, among_append xs ys s h.1 l)

among_drop : (n : ℕ) (xs s : List ReqId) → AreAmong xs s → AreAmong (drop n xs) s
among_drop zero [] s h = tt
among_drop zero (x ∷ xs) s h = h
among_drop (suc n) [] s h = tt
among_drop (suc n) (x ∷ xs) s h = among_drop n xs s h.1

-- the last ids, where one more came
pub among_last : (n : ℕ) (xs s : List ReqId) (k : ReqId) → AreAmong xs s → AreAmong (keep_last n (xs ++ k ∷ [])) (insert_key id_eq s k)
among_last n xs s k h =
    among_drop (length (xs ++ k ∷ []) - n) (xs ++ k ∷ []) (insert_key id_eq s k)
    (among_append xs (k ∷ []) (insert_key id_eq s k) (among_kept k xs s h) (has_added k s, tt))

-- MANY

pub many_longer : (xs s : List ReqId) → length (insert_all id_eq s xs) ≤ length s + length xs
many_longer [] s = omega arith
many_longer (x ∷ xs) s =
    let one = one_longer x s in
    let rest = many_longer xs (insert_key id_eq s x) in
    omega (arith, one, rest)

keeps_all : (x : ReqId) (xs s : List ReqId) → contains_id x s ≡ true → contains_id x (insert_all id_eq s xs) ≡ true
keeps_all x [] s h = h
keeps_all x (y ∷ xs) s h = keeps_all x xs (insert_key id_eq s y) (keeps_one y x s h)

among_all_kept : (xs ys s : List ReqId) → AreAmong ys s → AreAmong ys (insert_all id_eq s xs)
among_all_kept xs [] s h = tt
among_all_kept xs (y ∷ ys) s h = (keeps_all y xs s h.0, among_all_kept xs ys s h.1)

among_added : (xs s : List ReqId) → AreAmong xs (insert_all id_eq s xs)
among_added [] s = tt
among_added (x ∷ xs) s = (keeps_all x xs (insert_key id_eq s x) (has_added x s), among_added xs (insert_key id_eq s x))

-- both parts of the ids, where they are added in turn
pub among_both : (xs ys all : List ReqId) → xs ++ ys ≡ all → AreAmong all (insert_all id_eq (insert_all id_eq [] xs) ys)
among_both xs ys all is =
    subst (λ (l : List ReqId). AreAmong l (insert_all id_eq (insert_all id_eq [] xs) ys)) is
    (among_append xs ys (insert_all id_eq (insert_all id_eq [] xs) ys) (among_all_kept ys xs (insert_all id_eq [] xs) (among_added xs [])) (among_added ys (insert_all id_eq [] xs)))

pub both_short : (xs ys all : List ReqId) → xs ++ ys ≡ all → length (insert_all id_eq (insert_all id_eq [] xs) ys) ≤ length all
both_short xs ys all is =
    let first = many_longer xs [] in
    let second = many_longer ys (insert_all id_eq [] xs) in
    let size = length-append xs ys in
    let same = ap length is in
    omega (arith, first, second, size, same)

-- WHAT ISN'T THERE

pub not_among : (id : ReqId) (xs s : List ReqId) → AreAmong xs s → contains_id id s ≡ false → contains_id id xs ≡ false
not_among id [] s h none = refl
not_among id (x ∷ xs) s h none = step (id_eq id x) refl (not_among id xs s h.1 none)
  where
    step : (b : Bool) → id_eq id x ≡ b → contains_id id xs ≡ false → (b || contains_id id xs) ≡ false
    step true e rest = absurd (both_ways (contains_id id s) none (ap (λ (y : ReqId). contains_id y s) (id_same id x e) ∙ h.0))
    step false e rest = rest
