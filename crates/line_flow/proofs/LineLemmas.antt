-- Lemmas on lines.
use Rattle.std.proofs.Common.{◌≡◌, ◌≢◌, ℕ, suc, zero, ◌+◌, ◌-◌, ◌<◌, ◌≤◌, List, [], ◌∷◌, ◌++◌, length, get_or, take, drop, sym, ap, ◌∙◌, refl, arith}
use Rattle.std.proofs.lemmas.List.{drop-take, drop-drop, drop_more, take-append-drop, length-take, length-append, append_assoc, append-nil}
use Rattle.std.proofs.lemmas.Bool.{ne_eqb}
use Rattle.std.specs.List.{onto_first}
use Rattle.line_flow.specs.Lines.{lines, IsUnbroken, first_length}

-- a part of a list, cut at one of its elements
pub part_cut : (xs : List ℕ) (from to at b : ℕ) → from ≤ to → to ≤ length xs → at < length (take (to - from) (drop from xs)) → get_or (take (to - from) (drop from xs)) at 0 ≡ b
    → take at (take (to - from) (drop from xs)) ++ b ∷ take (to - (from + (at + 1))) (drop (from + (at + 1)) xs) ≡ take (to - from) (drop from xs)
part_cut xs from to at b h k l e =
    let within : at < to - from = omega (arith, length-take (to - from) (drop from xs)) in
    let rest : ℕ = to - (from + (at + 1)) in
    let sizes : (at + 1) + rest ≡ to - from = omega arith in
    let tail : drop (at + 1) (take (to - from) (drop from xs)) ≡ take rest (drop (from + (at + 1)) xs) =
    ap (λ (n : ℕ). drop (at + 1) (take n (drop from xs))) (sym sizes) ∙ drop-take (at + 1) rest (drop from xs) ∙ ap (λ (ys : List ℕ). take rest ys) (drop-drop (at + 1) from xs) in
    let split = take-append-drop at (take (to - from) (drop from xs)) in
    let more = drop_more (take (to - from) (drop from xs)) at 0 l in
    rw (← tail, ← e, ← more) split

pub IsUnbroken-append : (xs ys : List ℕ) → IsUnbroken xs → IsUnbroken ys → IsUnbroken (xs ++ ys)
IsUnbroken-append [] ys h k = k
IsUnbroken-append (x ∷ xs) ys h k = (h.0, IsUnbroken-append xs ys h.1 k)

-- no line feed stands at any place below n
pub IsUnbroken-take : (xs : List ℕ) (n : ℕ) → ((k : ℕ) → k < n → k < length xs → get_or xs k 0 ≢ 10) → IsUnbroken (take n xs)
IsUnbroken-take xs zero h = tt
IsUnbroken-take [] (suc n) h = tt
IsUnbroken-take (x ∷ xs) (suc n) h = (h 0 (omega arith) (omega arith), IsUnbroken-take xs n (λ k l m. h (suc k) (omega arith) (omega arith)))

pub IsUnbroken-whole : (xs : List ℕ) → ((k : ℕ) → k < length xs → get_or xs k 0 ≢ 10) → IsUnbroken xs
IsUnbroken-whole [] h = tt
IsUnbroken-whole (x ∷ xs) h = (h 0 (omega arith), IsUnbroken-whole xs (λ k l. h (suc k) (omega arith)))

pub lines_break : (front rest : List ℕ) → IsUnbroken front → lines (front ++ 10 ∷ rest) ≡ front ∷ lines rest
unfolding lines
lines_break [] rest h = refl
lines_break (b ∷ front) rest h = rw (ne_eqb b 10 h.0, lines_break front rest h.1) refl

pub lines_last : (front : List ℕ) → IsUnbroken front → 0 < length front → lines front ≡ front ∷ []
unfolding lines
lines_last [] h l = absurd (omega arith)
lines_last (b ∷ []) h l = rw (ne_eqb b 10 h.0) refl
lines_last (b ∷ c ∷ front) h l = rw (ne_eqb b 10 h.0, lines_last (c ∷ front) h.1 (omega arith)) refl

first_length-onto : (b : ℕ) (ls : List (List ℕ)) → first_length (onto_first b ls) ≡ suc (first_length ls)
first_length-onto b [] = refl
first_length-onto b (line ∷ more) = refl

pub first_length_from : (front rest : List ℕ) → IsUnbroken front → length front ≤ first_length (lines (front ++ rest))
unfolding lines
first_length_from [] rest h = omega arith
first_length_from (b ∷ front) rest h = rw (ne_eqb b 10 h.0, first_length-onto) (omega (arith, first_length_from front rest h.1))

-- A reader that met a line feed: what stood before it was `before`, then `taken`, then `last`.
pub lines_cut : (all before taken line more last : List ℕ) → line ++ 10 ∷ more ≡ before ++ taken → before ++ (taken ++ last) ≡ all → IsUnbroken line → lines all ≡ line ∷ lines (more ++ last)
lines_cut all before taken line more last met whole unbroken =
    let regrouped : line ++ 10 ∷ (more ++ last) ≡ before ++ (taken ++ last) =
    sym (append_assoc line (10 ∷ more) last) ∙ ap (λ (xs : List ℕ). xs ++ last) met ∙ append_assoc before taken last in
    ap lines (sym (regrouped ∙ whole)) ∙ lines_break line (more ++ last) unbroken

-- A reader that came to the end.
pub lines_end : (all line rest : List ℕ) → line ++ rest ≡ all → rest ≡ [] → IsUnbroken line → 0 < length line → lines all ≡ line ∷ lines rest
unfolding lines
lines_end all line rest whole none unbroken some =
    let is_all : line ≡ all = sym (append-nil line) ∙ ap (λ (xs : List ℕ). line ++ xs) (sym none) ∙ whole in
    ap lines (sym is_all) ∙ lines_last line unbroken some ∙ ap (λ (xs : List ℕ). line ∷ lines xs) (sym none)

-- A line that is too long by bytes that are not taken any more.
pub lines_long : (before taken more : List ℕ) (limit : ℕ) → IsUnbroken before → IsUnbroken taken → limit < length before + length taken → limit < first_length (lines (before ++ (taken ++ more)))
lines_long before taken more limit unbroken plain long =
    let front : length (before ++ taken) ≤ first_length (lines ((before ++ taken) ++ more)) = first_length_from (before ++ taken) more (IsUnbroken-append before taken unbroken plain) in
    let size = length-append before taken in
    rw (← append_assoc before taken more) (omega arith)

-- the same, where a line feed stands at a place of these bytes
pub cut_long : (before taken more : List ℕ) (at limit : ℕ) → IsUnbroken before → IsUnbroken (take at taken) → at ≤ length taken → limit < length before + at → limit < first_length (lines (before ++ (taken ++ more)))
cut_long before taken more at limit unbroken plain within long =
    let size : length (take at taken) ≡ at = omega (arith, length-take at taken) in
    let parts : take at taken ++ (drop at taken ++ more) ≡ taken ++ more = sym (append_assoc (take at taken) (drop at taken) more) ∙ ap (λ (xs : List ℕ). xs ++ more) (take-append-drop at taken) in
    rw parts at (lines_long before (take at taken) (drop at taken ++ more) limit unbroken plain (omega arith))
