-- The entries in front of a broken gate reach up to it.
use Rattle.std.proofs.Common.{◌≡◌, ◌≢◌, inl, inr, ℕ, zero, suc, ◌+◌, ◌-◌, ◌^◌, ◌<◌, ◌≤◌, List, [], ◌∷◌, ◌++◌, length, get_or, take, drop, Result, Ok, Err, sym, ◌∙◌, ap, subst, arith, append_assoc, length-append, length-take, length-drop, take-append-drop}
use Rattle.std.specs.Prelude.{slice_index}
use Rattle.std.proofs.lemmas.Bool.{cases_eq}
use Rattle.std.proofs.lemmas.Bool.Decides.{leb_tells}
use Rattle.std.proofs.lemmas.List.{drop_at, get_or_append_left}
use Rattle.std.proofs.Math.Seq.{take-add}
use Rattle.gate_log.specs.declared.reading.Reading.{Reading}
use Rattle.gate_log.specs.declared.reading.Reading.TheVariants.{Absent, Foreign, Log}
use Rattle.gate_log.specs.Format.{header, common, entry_length, generation_of, behind, walk, read_as, reading, gate_after}
use Rattle.gate_log.specs.Front.{entries_before, entries_of}
use Rattle.gate_log.proofs.Gates.{walk_closed, walk_short, walk_open, walk_enough}
use Rattle.gate_log.proofs.Readings.{wrong_header, closed_absent, bad_generation, good}
use Rattle.gate_log.proofs.Found.{common-append, entry-front, entry_length-front, generation_of-append}

abbrev W : Type 0
W = Result (List (List ℕ)) ℕ

-- the bytes up to a place, and a closed gate
abbrev cut : ℕ → List ℕ → List ℕ
cut n bytes = take n bytes ++ 0 ∷ []

-- What stands in front of this place are entries that reach up to it.
record Broke (at place : ℕ) (bytes : List ℕ) : Type 0 where
  entries : List (List ℕ)
  front : at ≤ place
  inside : place ≤ at + length bytes
  size : gate_after entries + at ≡ place + 17
  leads : (n : ℕ) → length (cut (place - at) bytes) ≤ n → walk n at (cut (place - at) bytes) ≡ Ok entries

at_once : (at place : ℕ) (bytes : List ℕ) → at ≡ place → Broke at place bytes
at_once at place bytes same =
    let none : place - at ≡ 0 = omega (arith, same) in
    record {
      entries = [];
      front = omega (arith, same);
      inside = omega (arith, same);
      size = omega (arith, same);
      leads = λ n enough. ap (λ (k : ℕ). walk n at (cut k bytes)) none ∙ walk_enough n at (0 ∷ []) (omega (arith, enough, length-append (take (place - at) bytes) (0 ∷ []))) ∙ walk_closed 0 at [];
    }

one_more : (at place gate : ℕ) (rest : List ℕ) → gate ≢ 0 → 5 + entry_length rest ≤ length rest
    → Broke (at + 5 + entry_length rest) place (drop (4 + entry_length rest) rest) → Broke at place (gate ∷ rest)
one_more at place gate rest is_open long w =
    let len = entry_length rest in
    let entry = take len (drop 4 rest) in
    let taken = take (4 + len) rest in
    let k = place - (at + 5 + len) in
    let more = cut k (drop (4 + len) rest) in
    let all = taken ++ more in
    let far : place - at ≡ suc (4 + len + k) = omega (arith, w.front) in
    let taken_size : length taken ≡ 4 + len = omega (arith, length-take (4 + len) rest, long) in
    let entry_size : length entry ≡ len = omega (arith, length-take len (drop 4 rest), length-drop 4 rest, long) in
    let all_size : length all ≡ 4 + len + length more = omega (arith, length-append taken more, taken_size) in
    let more_size : length more ≡ length (take k (drop (4 + len) rest)) + 1 = omega (arith, length-append (take k (drop (4 + len) rest)) (0 ∷ [])) in
    let len_is : entry_length all ≡ len = entry_length-front rest more len (omega (arith, long)) in
    let Opens : ℕ → Type 0 = λ m. walk (suc (length all)) at (gate ∷ all) ≡ behind (take m (drop 4 all)) (walk (length all) (at + 5 + m) (drop (4 + m) all)) in
    let opens : Opens len = subst Opens len_is (walk_open (length all) at gate all is_open (omega (arith, len_is, all_size, more_size))) in
    let entry_is : take len (drop 4 all) ≡ entry = entry-front rest more len (omega (arith, long)) in
    let rest_is : drop (4 + len) all ≡ more = drop_at taken more (4 + len) taken_size in
    let cut_is : cut (place - at) (gate ∷ rest) ≡ gate ∷ all =
    ap (λ (m : ℕ). cut m (gate ∷ rest)) far
    ∙ ap (λ (l : List ℕ). gate ∷ (l ++ 0 ∷ [])) (take-add (4 + len) k rest)
    ∙ ap (λ (l : List ℕ). gate ∷ l) (append_assoc taken (take k (drop (4 + len) rest)) (0 ∷ [])) in
    record {
      entries = entry ∷ w.entries;
      front = omega (arith, w.front);
      inside = omega (arith, w.inside, length-drop (4 + len) rest, long);
      size = omega (arith, w.size, entry_size);
      leads = λ n enough.
          ap (walk n at) cut_is
          ∙ walk_enough n at (gate ∷ all) (omega (arith, enough, ap length cut_is))
          ∙ opens
          ∙ ap (λ (l : List ℕ). behind l (walk (length all) (at + 5 + len) (drop (4 + len) all))) entry_is
          ∙ ap (λ (l : List ℕ). behind entry (walk (length all) (at + 5 + len) l)) rest_is
          ∙ ap (λ (v : W). behind entry v) (w.leads (length all) (omega (arith, all_size)));
    }

behind_broken : (entry : List ℕ) (walked : W) (place : ℕ) → behind entry walked ≡ Err place → walked ≡ Err place
behind_broken entry (Ok more) place is = absurd (cc)
behind_broken entry (Err at) place is = is

broke : (n at place : ℕ) (bytes : List ℕ) → length bytes ≤ n → walk n at bytes ≡ Err place → Broke at place bytes
unfolding walk
broke zero at place [] enough is = at_once at place [] (cc)
broke zero at place (x ∷ bytes) enough is = absurd (omega arith)
broke (suc n) at place [] enough is = at_once at place [] (cc)
broke (suc n) at place (gate ∷ rest) enough is = elim (cases_eq gate 0) [
  | inl shut ↦
      let ended : walk (suc n) at (gate ∷ rest) ≡ Ok [] = ap (λ (g : ℕ). walk (suc n) at (g ∷ rest)) shut ∙ walk_closed n at rest in
      absurd (cc (ended, is))
  | inr is_open ↦ elim (leb_tells (5 + entry_length rest) (length rest)) [
    | inl long ↦
        let len = entry_length rest in
        let later = behind_broken (take len (drop 4 rest)) (walk n (at + 5 + len) (drop (4 + len) rest)) place (sym (walk_open n at gate rest is_open long.1) ∙ is) in
        one_more at place gate rest is_open long.1 (broke n (at + 5 + len) place (drop (4 + len) rest) (omega (arith, enough, length-drop (4 + len) rest)) later)
    | inr short ↦
        let broken : walk (suc n) at (gate ∷ rest) ≡ Err at = walk_short n at gate rest is_open (omega (arith, short.1)) in
        let both : Err at ≡ Err place = sym broken ∙ is in
        at_once at place (gate ∷ rest) (cc)
  ]
]

-- what is so of a file with a broken gate
record IsBroken (place : ℕ) (bytes : List ℕ) : Type 0 where
  long : 17 < length bytes
  right : 8 ≤ common header bytes
  is_open : slice_index bytes 8 ≢ 0
  low : 1 ≤ generation_of bytes
  high : generation_of bytes < 2 ^ 62
  walk_is : walk (length bytes) 17 (drop 17 bytes) ≡ Err place

err_walk : (place g : ℕ) (w : W) → read_as g w ≡ Foreign place → w ≡ Err place
err_walk place g (Ok found) is = absurd (cc)
err_walk place g (Err at) is = cc

foreign_same : (a b : ℕ) → Foreign a ≡ Foreign b → a ≡ b
foreign_same a b is = cc

is_broken : (place : ℕ) (bytes : List ℕ) → 17 < length bytes → 17 ≤ place → reading bytes ≡ Foreign place → IsBroken place bytes
is_broken place bytes long far is = elim (leb_tells 8 (common header bytes)) [
  | inr wrong ↦ absurd (omega (arith, far, wrong.1, foreign_same _ _ (sym (wrong_header bytes (omega (arith, long)) (omega (arith, wrong.1))) ∙ is)))
  | inl right ↦ elim (cases_eq (slice_index bytes 8) 0) [
    | inl shut ↦ let no : reading bytes ≡ Absent = closed_absent bytes (omega (arith, long)) right.1 shut in absurd (cc (no, is))
    | inr is_open ↦ elim (leb_tells 1 (generation_of bytes)) [
      | inr none ↦ absurd (omega (arith, far, foreign_same _ _ (sym (bad_generation bytes long right.1 is_open (inl (omega (arith, none.1)))) ∙ is)))
      | inl low ↦ elim (leb_tells (2 ^ 62) (generation_of bytes)) [
        | inl large ↦ absurd (omega (arith, far, foreign_same _ _ (sym (bad_generation bytes long right.1 is_open (inr large.1)) ∙ is)))
        | inr high ↦
            record {
              long = long;
              right = right.1;
              is_open = is_open;
              low = low.1;
              high = omega (arith, high.1);
              walk_is = err_walk place (generation_of bytes) _ (sym (good bytes long right.1 is_open low.1 (omega (arith, high.1))) ∙ is);
            }
      ]
    ]
  ]
]

pub front_reaches : (place : ℕ) (bytes : List ℕ) → 17 < length bytes → 17 ≤ place → reading bytes ≡ Foreign place → gate_after (entries_before place bytes) ≡ place
front_reaches place bytes long far is =
    let b = is_broken place bytes long far is in
    let w = broke (length bytes) 17 place (drop 17 bytes) (omega (arith, length-drop 17 bytes)) b.walk_is in
    let head = take 17 bytes in
    let size : length head ≡ 17 = omega (arith, length-take 17 bytes, long) in
    let whole : head ++ drop 17 bytes ≡ bytes = take-append-drop 17 bytes in
    let more = cut (place - 17) (drop 17 bytes) in
    let new = head ++ more in
    let joined : cut place bytes ≡ new =
    ap (λ (n : ℕ). cut n bytes) (omega (arith, far))
    ∙ ap (λ (l : List ℕ). l ++ 0 ∷ []) (take-add 17 (place - 17) bytes)
    ∙ append_assoc head (take (place - 17) (drop 17 bytes)) (0 ∷ []) in
    let right : 8 ≤ common header new = omega (arith, common-append header head more (omega (arith, size)), common-append header head (drop 17 bytes) (omega (arith, size)), ap (common header) whole, b.right) in
    let same_gate : slice_index new 8 ≡ slice_index bytes 8 = get_or_append_left head more 0 8 (omega (arith, size)) ∙ sym (get_or_append_left head (drop 17 bytes) 0 8 (omega (arith, size))) ∙ ap (λ (l : List ℕ). get_or l 8 0) whole in
    let same_generation : generation_of new ≡ generation_of bytes = generation_of-append head more (omega (arith, size)) ∙ sym (generation_of-append head (drop 17 bytes) (omega (arith, size))) ∙ ap generation_of whole in
    let new_size : length new ≡ 17 + length more = omega (arith, length-append head more, size) in
    let more_size : length more ≡ length (take (place - 17) (drop 17 bytes)) + 1 = omega (arith, length-append (take (place - 17) (drop 17 bytes)) (0 ∷ [])) in
    let rest_is : drop 17 new ≡ more = drop_at head more 17 size in
    let reads : reading (cut place bytes) ≡ Log (generation_of new) w.entries =
    ap reading joined
    ∙ good new (omega (arith, new_size, more_size)) right (λ shut. b.is_open (sym same_gate ∙ shut)) (omega (arith, same_generation, b.low)) (omega (arith, same_generation, b.high))
    ∙ ap (λ (l : List ℕ). read_as (generation_of new) (walk (length new) 17 l)) rest_is
    ∙ ap (read_as (generation_of new)) (w.leads (length new) (omega (arith, new_size))) in
    ap (λ (r : Reading). gate_after (entries_of r)) reads ∙ omega (arith, w.size)
