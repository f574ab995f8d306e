-- A write that is torn, and heads that are closed.
use Rattle.std.proofs.Common.{◌≡◌, ◌≢◌, inl, inr, ℕ, ◌<◌, ◌≤◌, List, [], ◌∷◌, ◌++◌, length, get_or, drop, refl, sym, ◌∙◌, ap, subst, arith, true, false, eq-eqb, Result, Ok, Err, OnOk}
use Rattle.std.specs.Prelude.{◌==◌}
use Rattle.std.proofs.lemmas.List.{append-nil, drop_all, drop_more}
use Rattle.std.proofs.lemmas.Bool.{cases_eq, ne_eqb}
use Rattle.std.proofs.lemmas.Bool.Decides.{leb_tells}
use Rattle.gate_log.specs.Disk.{File, IsLeft, synced_file, overwritten}
use Rattle.gate_log.specs.Written.{write_fine, whole_fine}
use Rattle.gate_log.specs.Format.{header, common, reading, generation_of}
use Rattle.gate_log.specs.Renew.{HasHead, IsClosed, IsOldOrAbsent}
use Rattle.gate_log.specs.declared.reading.Reading.TheVariants.{Absent, Foreign}
use Rattle.gate_log.proofs.Left.{left_kept, left_between, overwritten_between, one_item}
use Rattle.gate_log.proofs.Readings.{short_absent, closed_absent, wrong_header}
use Rattle.gate_log.proofs.Steps.{Step}

-- a write through to the disk leaves what one that is torn leaves
pub torn : (from : List ℕ) (at : ℕ) (bytes : List ℕ) → Step (IsLeft from ((at, length bytes) ∷ [])) from at bytes (overwritten at bytes from)
torn from at bytes = record {
  torn = λ c left. left;
  is = refl;
  kept = λ c left. subst (IsLeft from ((at, length bytes) ∷ [])) (sym (left_kept (overwritten at bytes from) c left)) (write_fine (synced_file from) at bytes (whole_fine from));
}

-- what follows of an answer Ok
pub on_ok : {T E A B : Type 0} (result : Result T E) → (A → B) → OnOk result A → OnOk result B
on_ok (Ok _) to has = to has
on_ok (Err _) to has = has

-- a closed head gate
pub shut_absent : (rest : List ℕ) → reading (header ++ 0 ∷ rest) ≡ Absent
shut_absent [] = short_absent (header ++ 0 ∷ []) (omega arith)
shut_absent (x ∷ rest) = closed_absent (header ++ 0 ∷ x ∷ rest) (omega arith) (omega arith) refl

-- an open head gate may hold any byte but 0
same_open : (g h : ℕ) (rest : List ℕ) → g ≢ 0 → h ≢ 0 → reading (header ++ g ∷ rest) ≡ reading (header ++ h ∷ rest)
unfolding reading generation_of
same_open g h rest ng nh =
    let a : (g == 0) ≡ false = ne_eqb g 0 ng in
    let b : (h == 0) ≡ false = ne_eqb h 0 nh in
    rw (a, b) refl

-- What a write of a closed head leaves: an absent file, or what the file stood for. At its end the head gate is closed.
pub record Closes (from : List ℕ) (at : ℕ) (bytes : List ℕ) : Type 0 where
  pub crash : (c : List ℕ) → IsLeft from ((at, length bytes) ∷ []) c → IsOldOrAbsent from c
  pub rest : List ℕ
  pub is : overwritten at bytes from ≡ header ++ 0 ∷ rest

abbrev pub blank : List ℕ
blank = header ++ 0 ∷ []

pub closes_new : (from : List ℕ) → length from ≤ 9 → Closes from 0 blank
closes_new from short = record {
  crash = λ c left.
      let between = left_between [] from 0 9 c refl left in
      let rest : drop 9 from ≡ [] = drop_all 9 from short in
      let is : c ≡ between.inside = between.is ∙ ap (λ (l : List ℕ). between.inside ++ l) rest ∙ append-nil between.inside in
      inl (short_absent c (omega (arith, between.no_longer, ap length is)));
  rest = [];
  is = overwritten_between [] from blank 0 refl ∙ ap (λ (l : List ℕ). blank ++ l) (drop_all 9 from short) ∙ append-nil blank;
}

pub closes_begun : (from bytes : List ℕ) → HasHead 0 from → Closes from 9 bytes
closes_begun from bytes head = record {
  crash = λ c left.
      let between = left_between (header ++ 0 ∷ []) head.rest 9 (length bytes) c refl (subst (λ (l : List ℕ). IsLeft l ((9, length bytes) ∷ []) c) head.is left) in
      inl (ap reading between.is ∙ shut_absent (between.inside ++ drop (length bytes) head.rest));
  rest = bytes ++ drop (length bytes) head.rest;
  is = ap (overwritten 9 bytes) head.is ∙ overwritten_between (header ++ 0 ∷ []) head.rest bytes 9 refl;
}

pub closes_open : (from : List ℕ) (gate : ℕ) → gate ≢ 0 → HasHead gate from → Closes from 8 (0 ∷ [])
closes_open from gate was_open head = record {
  crash = λ c left.
      let between = left_between header (gate ∷ head.rest) 8 1 c refl (subst (λ (l : List ℕ). IsLeft l ((8, 1) ∷ []) c) head.is left) in
      let g = get_or between.inside 0 0 in
      let one : between.inside ≡ g ∷ [] = one_item between.inside (between.whole (omega arith)) in
      let is : c ≡ header ++ g ∷ head.rest = between.is ∙ ap (λ (l : List ℕ). header ++ (l ++ head.rest)) one in
      elim (cases_eq g 0) [
        | inl shut ↦ inl (ap reading (is ∙ ap (λ (k : ℕ). header ++ k ∷ head.rest) shut) ∙ shut_absent head.rest)
        | inr is_open ↦ inr (ap reading is ∙ same_open g gate head.rest is_open was_open ∙ ap reading (sym head.is))
      ];
  rest = head.rest;
  is = ap (overwritten 8 (0 ∷ [])) head.is ∙ overwritten_between header (gate ∷ head.rest) (0 ∷ []) 8 refl;
}

-- the file at the end of such a write
pub closed_by : (from : List ℕ) (at : ℕ) (bytes : List ℕ) (file : File) → Closes from at bytes → file ≡ synced_file (overwritten at bytes from) → IsClosed file
closed_by from at bytes file closes is = record { rest = closes.rest; is = is ∙ ap synced_file closes.is }

-- bytes with the whole header in front
common_whole : (xs ys : List ℕ) → length xs ≤ common xs ys → ys ≡ xs ++ drop (length xs) ys
common_whole [] ys h = refl
common_whole (x ∷ xs) [] h = absurd (omega arith)
common_whole (x ∷ xs) (y ∷ ys) h = elim (cases_eq x y) [
  | inl same ↦
      let test : (x == y) ≡ true = eq-eqb x y same in
      let more : length xs ≤ common xs ys = omega (arith, rw test at h) in
      ap (λ (z : ℕ). z ∷ ys) (sym same) ∙ ap (λ (l : List ℕ). x ∷ l) (common_whole xs ys more)
  | inr other ↦
      let test : (x == y) ≡ false = ne_eqb x y other in
      absurd (omega (arith, rw test at h))
]

-- how the head of a file that isn't foreign can be closed
pub short_head : (bytes : List ℕ) → ((at : ℕ) → reading bytes ≢ Foreign at) → common header bytes < 8 → length bytes ≤ 9
short_head bytes known wrong = elim (leb_tells 10 (length bytes)) [
  | inl long ↦ absurd (known (common header bytes) (wrong_header bytes (omega (arith, long.1)) wrong))
  | inr short ↦ omega (arith, short.1)
]

pub has_head : (bytes : List ℕ) → 9 ≤ length bytes → 8 ≤ common header bytes → HasHead (get_or bytes 8 0) bytes
has_head bytes long right = record {
  rest = drop 9 bytes;
  is = common_whole header bytes right ∙ ap (λ (l : List ℕ). header ++ l) (drop_more bytes 8 0 (omega arith));
}
