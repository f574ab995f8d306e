-- What calls that read answer, by the law of their reading.
use Rattle.std.proofs.Common.{◌≡◌, ℕ, ◌+◌, ◌-◌, ◌<◌, ◌≤◌, List, [], ◌∷◌, ◌++◌, length, drop, Result, Ok, Err, refl, sym, ap, subst, ◌∙◌, arith, inl, inr}
use Rattle.std.specs.Prelude.{IfOk}
use Rattle.std.proofs.lemmas.Bool.{cases_lt}
use Rattle.std.proofs.lemmas.List.{append-nil, drop-drop, drop_at, length-append, length-drop, nil_from_length}
use Rattle.ord_types.specs.Reading.{Reading}
use Rattle.ord_types.specs.Faults.{Answers, AnswersAt, AnswersWhole, IsSpelled, IsSpelledAt, Reads, ReadsSpelling, ReadsWhole, StaysWithin, all_or, placed, whole}
use Rattle.ord_types.specs.declared.fault.Flaw.{Flaw}
use Rattle.ord_types.specs.declared.fault.Flaw.TheVariants.{Short, Bad}
use Rattle.ord_types.specs.declared.fault.Halt.{Halt}
use Rattle.ord_types.specs.declared.fault.Halt.TheVariants as halt_of
use Rattle.ord_types.specs.declared.fault.ReadFault.{ReadFault}
use Rattle.ord_types.proofs.Laws.{IsBytes, IsBytes-drop, Law, Spelled, read_again, read_whole, spelled}

abbrev pair : {X : Type 0} → X → ℕ → X × ℕ
pair x n = (x, n)

-- the parts of what was placed
placed_parts : {X : Type 0} (size : ℕ) (x y : X) (rest : List ℕ) (place : ℕ) → placed size (Ok (x, rest)) ≡ Ok (y, place) → (x ≡ y) × (size - length rest ≡ place)
placed_parts {X} size x y rest place e =
    let p : pair x (size - length rest) ≡ pair y place = cc in
    (ap (λ (q : X × ℕ). q.0) p, ap (λ (q : X × ℕ). q.1) p)

-- nothing was left behind what is all
all_parts : {X : Type 0} (size : ℕ) (x : X) (rest : List ℕ) (y : X) → all_or size x rest ≡ Ok y → (x ≡ y) × (rest ≡ [])
all_parts size x [] y e = (cc, refl)
all_parts size x (b ∷ rest) y e = absurd cc

module _ {X : Type 0} {at : Reading X} {Has : X → Type 0} {text : X → List ℕ} (law : Law at (Spelled Has text)) where
  -- a reading stays in the bytes
  stays_within : (bytes : List ℕ) (size : ℕ) (read : Result X Halt) (left : List ℕ) → IsBytes bytes → length bytes ≤ size → Reads read left (at bytes) → StaysWithin size read left
  stays_within bytes size (Ok x) left fits le e = let s = spelled law bytes x left fits e in omega (arith, ap length s.1, length-append (text x) left)
  stays_within bytes size (Err halt_of.NoMemory) left fits le e = tt
  stays_within bytes size (Err (halt_of.Flawed Short)) left fits le e = tt
  stays_within bytes size (Err (halt_of.Flawed (Bad n))) left fits le e = omega (arith, law.inside bytes n fits e)

  only_at : (bytes : List ℕ) (from : ℕ) (result : Result (X × ℕ) ReadFault) → AnswersAt at result bytes from → ReadsSpelling Has text result bytes from
  only_at bytes from result answered x rest may le e =
      let read : at (drop from bytes) ≡ Ok (x, rest) = ap at e ∙ read_again law x rest may in
      let place : length bytes - length rest ≡ from + length (text x) = omega (arith, ap length e, length-append (text x) rest, length-drop from bytes) in
      subst (Answers result) (ap (placed (length bytes)) read ∙ ap (λ (n : ℕ). Ok (x, n)) place) answered

  only_whole : (bytes : List ℕ) (result : Result X ReadFault) → AnswersWhole at result bytes → ReadsWhole Has text result bytes
  only_whole bytes result answered x may e = subst (Answers result) (ap (whole (length bytes)) (ap at e ∙ read_whole law x may)) answered

  -- nothing is read of no bytes
  starts_inside : (bytes : List ℕ) (from : ℕ) (x : X) (rest : List ℕ) → at [] ≡ Err Short → at (drop from bytes) ≡ Ok (x, rest) → from < length bytes
  starts_inside bytes from x rest none e =
      elim (cases_lt from (length bytes)) [
        | inl lt ↦ lt
        | inr le ↦
            let nothing : drop from bytes ≡ [] = nil_from_length (drop from bytes) (omega (arith, length-drop from bytes)) in
            absurd (cc (ap at nothing, none, e))
      ]

  found_there : (bytes : List ℕ) (from : ℕ) (found : X × ℕ) (read : Result (X × List ℕ) Flaw) → at [] ≡ Err Short → IsBytes bytes → at (drop from bytes) ≡ read → placed (length bytes) read ≡ Ok found → IsSpelledAt Has text bytes from found
  found_there bytes from found (Ok y) none fits e is =
      let s = spelled law (drop from bytes) y.0 y.1 (IsBytes-drop from bytes fits) e in
      let lt = starts_inside bytes from y.0 y.1 none e in
      let p = placed_parts (length bytes) y.0 found.0 y.1 found.1 is in
      let len : length bytes ≡ from + length (text y.0) + length y.1 = omega (arith, ap length s.1, length-append (text y.0) y.1, length-drop from bytes) in
      let behind : from + length (text y.0) ≡ found.1 = omega (arith, p.1) in
      let rest : drop (from + length (text y.0)) bytes ≡ y.1 = sym (drop-drop (length (text y.0)) from bytes) ∙ ap (drop (length (text y.0))) s.1 ∙ drop_at (text y.0) y.1 (length (text y.0)) refl in
      let made : IsSpelledAt Has text bytes from (pair y.0 (from + length (text y.0))) = record { spelling = s.0; stands = s.1 ∙ ap (λ r. text y.0 ++ r) (sym rest); behind = refl; within = omega arith } in
      subst (λ n. IsSpelledAt Has text bytes from (pair found.0 n)) behind (subst (λ x. IsSpelledAt Has text bytes from (pair x (from + length (text y.0)))) p.0 made)
  found_there bytes from found (Err f) none fits e is = absurd cc

  found_at : (bytes : List ℕ) (from : ℕ) (result : Result (X × ℕ) ReadFault) → at [] ≡ Err Short → IsBytes bytes → AnswersAt at result bytes from → IfOk result (IsSpelledAt Has text bytes from)
  found_at bytes from (Ok found) none fits answered = found_there bytes from found (at (drop from bytes)) none fits refl answered
  found_at bytes from (Err fault) none fits answered = tt

  found_all : (bytes : List ℕ) (x : X) (read : Result (X × List ℕ) Flaw) → IsBytes bytes → at bytes ≡ read → whole (length bytes) read ≡ Ok x → IsSpelled Has text bytes x
  found_all bytes x (Ok y) fits e is =
      let s = spelled law bytes y.0 y.1 fits e in
      let a = all_parts (length bytes) y.0 y.1 x is in
      subst (IsSpelled Has text bytes) a.0 (record { spelling = s.0; is = s.1 ∙ ap (λ r. text y.0 ++ r) a.1 ∙ append-nil (text y.0) })
  found_all bytes x (Err f) fits e is = absurd cc

  found_whole : (bytes : List ℕ) (result : Result X ReadFault) → IsBytes bytes → AnswersWhole at result bytes → IfOk result (IsSpelled Has text bytes)
  found_whole bytes (Ok x) fits answered = found_all bytes x (at bytes) fits refl answered
  found_whole bytes (Err fault) fits answered = tt

  -- THE SAME, OF A READER THAT BEGINS THERE

  pub stays_at : (bytes start : List ℕ) (from : ℕ) (read : Result X Halt) (left : List ℕ) → start ≡ drop from bytes → IsBytes bytes → Reads read left (at start) → StaysWithin (length bytes) read left
  stays_at bytes start from read left is fits e =
      stays_within (drop from bytes) (length bytes) read left (IsBytes-drop from bytes fits) (omega (arith, length-drop from bytes)) (subst (λ b. Reads read left (at b)) is e)

  pub found_from : (bytes start : List ℕ) (from : ℕ) (result : Result (X × ℕ) ReadFault) → start ≡ drop from bytes → at [] ≡ Err Short → IsBytes bytes → Answers result (placed (length bytes) (at start)) → IfOk result (IsSpelledAt Has text bytes from)
  found_from bytes start from result is none fits answered = found_at bytes from result none fits (subst (λ b. Answers result (placed (length bytes) (at b))) is answered)

  pub only_from : (bytes start : List ℕ) (from : ℕ) (result : Result (X × ℕ) ReadFault) → start ≡ drop from bytes → Answers result (placed (length bytes) (at start)) → ReadsSpelling Has text result bytes from
  only_from bytes start from result is answered = only_at bytes from result (subst (λ b. Answers result (placed (length bytes) (at b))) is answered)

  pub stays_all : (bytes start : List ℕ) (read : Result X Halt) (left : List ℕ) → start ≡ bytes → IsBytes bytes → Reads read left (at start) → StaysWithin (length bytes) read left
  stays_all bytes start read left is fits e = stays_within bytes (length bytes) read left fits (omega arith) (subst (λ b. Reads read left (at b)) is e)

  pub found_of_all : (bytes start : List ℕ) (result : Result X ReadFault) → start ≡ bytes → IsBytes bytes → Answers result (whole (length bytes) (at start)) → IfOk result (IsSpelled Has text bytes)
  found_of_all bytes start result is fits answered = found_whole bytes result fits (subst (λ b. Answers result (whole (length bytes) (at b))) is answered)

  pub only_of_all : (bytes start : List ℕ) (result : Result X ReadFault) → start ≡ bytes → Answers result (whole (length bytes) (at start)) → ReadsWhole Has text result bytes
  only_of_all bytes start result is answered = only_whole bytes result (subst (λ b. Answers result (whole (length bytes) (at b))) is answered)
