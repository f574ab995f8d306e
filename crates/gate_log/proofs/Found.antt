-- A file that stands for a log is a front, a closed gate, and rubbish.
use Rattle.std.proofs.Common.{◌≡◌, ◌≢◌, inl, inr, ℕ, zero, suc, ◌+◌, ◌^◌, ◌<◌, ◌≤◌, List, [], ◌∷◌, ◌++◌, length, get_or, take, drop, Result, Ok, Err, refl, sym, ◌∙◌, ap, subst, arith, append_assoc, length-append, length-take, length-drop, take-append-drop}
use Rattle.std.specs.Prelude.{◌==◌, slice_index, if◌then◌else◌}
use Rattle.std.proofs.lemmas.Bool.{cases_eq}
use Rattle.std.proofs.lemmas.Bool.Decides.{leb_tells}
use Rattle.std.proofs.lemmas.List.{take_at, drop_at, get_or_append_left}
use Rattle.gate_log.specs.declared.reading.Reading.TheVariants.{Absent, Foreign, Log}
use Rattle.gate_log.specs.Format.{header, common, entry_length, generation_of, behind, walk, read_as, reading, gate_after}
use Rattle.gate_log.proofs.Fronts.{IsFront, onto}
use Rattle.gate_log.proofs.Gates.{walk_closed, walk_short, walk_open, walk_enough}
use Rattle.gate_log.proofs.Readings.{short_absent, wrong_header, closed_absent, cut_short, bad_generation, good}

abbrev W : Type 0
W = Result (List (List ℕ)) ℕ

-- These bytes are a front with these entries, a closed gate, and a rest.
record Walked (entries : List (List ℕ)) (at : ℕ) (bytes : List ℕ) : Type 0 where
  front : List ℕ
  tail : List ℕ
  is : bytes ≡ front ++ 0 ∷ tail
  size : length front + 17 ≡ gate_after entries
  leads : (n gate : ℕ) (rest : List ℕ) → length (front ++ gate ∷ rest) ≤ n → walk n at (front ++ gate ∷ rest) ≡ onto entries (walk (length (gate ∷ rest)) (at + length front) (gate ∷ rest))

-- an entry in front of others, if there are others
record Put (entry : List ℕ) (walked : W) (entries : List (List ℕ)) : Type 0 where
  more : List (List ℕ)
  walked_is : walked ≡ Ok more
  all : entry ∷ more ≡ entries

put_before : (entry : List ℕ) (walked : W) (entries : List (List ℕ)) → behind entry walked ≡ Ok entries → Put entry walked entries
put_before entry (Ok more) entries is = record { more = more; walked_is = refl; all = cc }
put_before entry (Err at) entries is = absurd (cc)

four : (k : ℕ) → 4 + k ≡ suc (suc (suc (suc k)))
four k = omega arith

-- the length of an entry stands in its first four bytes
pub entry_length-front : (rest more : List ℕ) (k : ℕ) → 4 ≤ length rest → entry_length (take (4 + k) rest ++ more) ≡ entry_length rest
unfolding entry_length
entry_length-front (a ∷ b ∷ c ∷ d ∷ rest) more k h = ap (λ (m : ℕ). entry_length (take m (a ∷ b ∷ c ∷ d ∷ rest) ++ more)) (four k)
entry_length-front (a ∷ b ∷ c ∷ []) more k h = absurd (omega arith)
entry_length-front (a ∷ b ∷ []) more k h = absurd (omega arith)
entry_length-front (a ∷ []) more k h = absurd (omega arith)
entry_length-front [] more k h = absurd (omega arith)

pub entry-front : (rest more : List ℕ) (k : ℕ) → 4 + k ≤ length rest → take k (drop 4 (take (4 + k) rest ++ more)) ≡ take k (drop 4 rest)
entry-front (a ∷ b ∷ c ∷ d ∷ rest) more k h =
    ap (λ (m : ℕ). take k (drop 4 (take m (a ∷ b ∷ c ∷ d ∷ rest) ++ more))) (four k)
    ∙ take_at (take k rest) more k (omega (arith, h, length-take k rest))
entry-front (a ∷ b ∷ c ∷ []) more k h = absurd (omega arith)
entry-front (a ∷ b ∷ []) more k h = absurd (omega arith)
entry-front (a ∷ []) more k h = absurd (omega arith)
entry-front [] more k h = absurd (omega arith)

no_entries : (at gate : ℕ) (rest : List ℕ) → gate ≡ 0 → Walked [] at (gate ∷ rest)
no_entries at gate rest shut = record {
  front = [];
  tail = rest;
  is = ap (λ (g : ℕ). g ∷ rest) shut;
  size = omega arith;
  leads = λ n g r enough. walk_enough n at (g ∷ r) enough ∙ ap (λ (k : ℕ). walk (length (g ∷ r)) k (g ∷ r)) (omega arith);
}

one_entry : (at gate : ℕ) (rest : List ℕ) (more : List (List ℕ)) → gate ≢ 0 → 5 + entry_length rest ≤ length rest
    → Walked more (at + 5 + entry_length rest) (drop (4 + entry_length rest) rest)
    → Walked (take (entry_length rest) (drop 4 rest) ∷ more) at (gate ∷ rest)
one_entry at gate rest more is_open long w =
    let len = entry_length rest in
    let entry = take len (drop 4 rest) in
    let taken = take (4 + len) rest in
    let taken_size : length taken ≡ 4 + len = omega (arith, length-take (4 + len) rest) in
    let entry_size : length entry ≡ len = omega (arith, length-take len (drop 4 rest), length-drop 4 rest) in
    record {
      front = gate ∷ (taken ++ w.front);
      tail = w.tail;
      is = ap (λ (l : List ℕ). gate ∷ l) (sym (take-append-drop (4 + len) rest) ∙ ap (λ (l : List ℕ). taken ++ l) w.is ∙ sym (append_assoc taken w.front (0 ∷ w.tail)));
      size = omega (arith, w.size, entry_size, taken_size, length-append taken w.front);
      leads = λ n g r enough.
          let more_bytes = w.front ++ g ∷ r in
          let all = taken ++ more_bytes in
          let joined : (taken ++ w.front) ++ g ∷ r ≡ all = append_assoc taken w.front (g ∷ r) in
          let all_size : length all ≡ 4 + len + length more_bytes = omega (arith, length-append taken more_bytes, taken_size) in
          let more_size : length more_bytes ≡ length w.front + suc (length r) = omega (arith, length-append w.front (g ∷ r)) in
          let len_is : entry_length all ≡ len = entry_length-front rest more_bytes len (omega arith) in
          let OpensTo : ℕ → Type 0 = λ k. walk (suc (length all)) at (gate ∷ all) ≡ behind (take k (drop 4 all)) (walk (length all) (at + 5 + k) (drop (4 + k) all)) in
          let opens : OpensTo len = subst OpensTo len_is (walk_open (length all) at gate all is_open (omega (arith, len_is, all_size, more_size))) in
          let entry_is : take len (drop 4 all) ≡ entry = entry-front rest more_bytes len (omega arith) in
          let rest_is : drop (4 + len) all ≡ more_bytes = drop_at taken more_bytes (4 + len) taken_size in
          walk_enough n at (gate ∷ ((taken ++ w.front) ++ g ∷ r)) enough
          ∙ ap (λ (l : List ℕ). walk (suc (length l)) at (gate ∷ l)) joined
          ∙ opens
          ∙ ap (λ (l : List ℕ). behind l (walk (length all) (at + 5 + len) (drop (4 + len) all))) entry_is
          ∙ ap (λ (l : List ℕ). behind entry (walk (length all) (at + 5 + len) l)) rest_is
          ∙ ap (λ (v : W). behind entry v) (w.leads (length all) g r (omega (arith, all_size)))
          ∙ ap (λ (k : ℕ). behind entry (onto more (walk (length (g ∷ r)) k (g ∷ r)))) (omega (arith, taken_size, length-append taken w.front));
    }

walked : (n at : ℕ) (bytes : List ℕ) (entries : List (List ℕ)) → walk n at bytes ≡ Ok entries → Walked entries at bytes
unfolding walk
walked zero at bytes entries is = absurd (cc)
walked (suc n) at [] entries is = absurd (cc)
walked (suc n) at (gate ∷ rest) entries is = elim (cases_eq gate 0) [
  | inl shut ↦
      let ended : walk (suc n) at (gate ∷ rest) ≡ Ok [] = ap (λ (g : ℕ). walk (suc n) at (g ∷ rest)) shut ∙ walk_closed n at rest in
      let none : [] ≡ entries = cc (ended, is) in
      subst (λ (es : List (List ℕ)). Walked es at (gate ∷ rest)) none (no_entries at gate rest shut)
  | inr is_open ↦ elim (leb_tells (5 + entry_length rest) (length rest)) [
    | inl long ↦
        let len = entry_length rest in
        let put = put_before (take len (drop 4 rest)) (walk n (at + 5 + len) (drop (4 + len) rest)) entries (sym (walk_open n at gate rest is_open long.1) ∙ is) in
        subst (λ (es : List (List ℕ)). Walked es at (gate ∷ rest)) put.all
        (one_entry at gate rest put.more is_open long.1 (walked n (at + 5 + len) (drop (4 + len) rest) put.more put.walked_is))
    | inr short ↦ let broken : walk (suc n) at (gate ∷ rest) ≡ Err at = walk_short n at gate rest is_open (omega (arith, short.1)) in absurd (cc (broken, is))
  ]
]

-- what is so of the bytes of a log
pub record IsLog (generation : ℕ) (entries : List (List ℕ)) (bytes : List ℕ) : Type 0 where
  pub long : 17 < length bytes
  pub right : 8 ≤ common header bytes
  pub is_open : slice_index bytes 8 ≢ 0
  pub low : 1 ≤ generation_of bytes
  pub high : generation_of bytes < 2 ^ 62
  pub generation_is : generation_of bytes ≡ generation
  pub walk_is : walk (length bytes) 17 (drop 17 bytes) ≡ Ok entries

of_walk : (generation : ℕ) (entries : List (List ℕ)) (g : ℕ) (w : W) → read_as g w ≡ Log generation entries → (g ≡ generation) × (w ≡ Ok entries)
of_walk generation entries g (Ok found) is = (cc, cc)
of_walk generation entries g (Err at) is = absurd (cc)

pub is_log : (generation : ℕ) (entries : List (List ℕ)) (bytes : List ℕ) → reading bytes ≡ Log generation entries → IsLog generation entries bytes
is_log generation entries bytes is = elim (leb_tells 10 (length bytes)) [
  | inr short ↦ let no : reading bytes ≡ Absent = short_absent bytes (omega (arith, short.1)) in absurd (cc (no, is))
  | inl long ↦ elim (leb_tells 8 (common header bytes)) [
    | inr wrong ↦ let no : reading bytes ≡ Foreign (common header bytes) = wrong_header bytes (omega (arith, long.1)) (omega (arith, wrong.1)) in absurd (cc (no, is))
    | inl right ↦ elim (cases_eq (slice_index bytes 8) 0) [
      | inl shut ↦ let no : reading bytes ≡ Absent = closed_absent bytes (omega (arith, long.1)) right.1 shut in absurd (cc (no, is))
      | inr is_open ↦ elim (leb_tells 18 (length bytes)) [
        | inr cut ↦ let no : reading bytes ≡ Foreign (length bytes) = cut_short bytes (omega (arith, long.1)) right.1 is_open (omega (arith, cut.1)) in absurd (cc (no, is))
        | inl whole ↦ elim (leb_tells 1 (generation_of bytes)) [
          | inr zero_generation ↦ let no : reading bytes ≡ Foreign 9 = bad_generation bytes (omega (arith, whole.1)) right.1 is_open (inl (omega (arith, zero_generation.1))) in absurd (cc (no, is))
          | inl low ↦ elim (leb_tells (2 ^ 62) (generation_of bytes)) [
            | inl large ↦ let no : reading bytes ≡ Foreign 9 = bad_generation bytes (omega (arith, whole.1)) right.1 is_open (inr large.1) in absurd (cc (no, is))
            | inr high ↦
                let both = of_walk generation entries (generation_of bytes) (walk (length bytes) 17 (drop 17 bytes)) (sym (good bytes (omega (arith, whole.1)) right.1 is_open low.1 (omega (arith, high.1))) ∙ is) in
                record { long = omega (arith, whole.1); right = right.1; is_open = is_open; low = low.1; high = omega (arith, high.1); generation_is = both.0; walk_is = both.1 }
          ]
        ]
      ]
    ]
  ]
]

pub common-append : (xs ys more : List ℕ) → length xs ≤ length ys → common xs (ys ++ more) ≡ common xs ys
common-append [] ys more h = refl
common-append (x ∷ xs) [] more h = absurd (omega arith)
common-append (x ∷ xs) (y ∷ ys) more h = ap (λ (n : ℕ). if x == y then suc n else 0) (common-append xs ys more (omega arith))

pub generation_of-append : (bytes more : List ℕ) → 17 ≤ length bytes → generation_of (bytes ++ more) ≡ generation_of bytes
unfolding generation_of
generation_of-append bytes more h =
    let at : (i : ℕ) → i < 17 → get_or (bytes ++ more) i 0 ≡ get_or bytes i 0 = λ i below. get_or_append_left bytes more 0 i (omega arith) in
    cc (at 9 (omega arith), at 10 (omega arith), at 11 (omega arith), at 12 (omega arith), at 13 (omega arith), at 14 (omega arith), at 15 (omega arith), at 16 (omega arith))

-- the front of a log, its closed gate, and the rest
pub record HasFront (generation : ℕ) (entries : List (List ℕ)) (bytes : List ℕ) : Type 0 where
  pub front : List ℕ
  pub tail : List ℕ
  pub is : bytes ≡ front ++ 0 ∷ tail
  pub is_front : IsFront generation entries front

pub has_front : (generation : ℕ) (entries : List (List ℕ)) (bytes : List ℕ) → reading bytes ≡ Log generation entries → HasFront generation entries bytes
has_front generation entries bytes is =
    let log = is_log generation entries bytes is in
    let w = walked (length bytes) 17 (drop 17 bytes) entries log.walk_is in
    let head = take 17 bytes in
    let size : length head ≡ 17 = omega (arith, length-take 17 bytes, log.long) in
    let whole : head ++ drop 17 bytes ≡ bytes = take-append-drop 17 bytes in
    record {
      front = head ++ w.front;
      tail = w.tail;
      is = sym whole ∙ ap (λ (l : List ℕ). head ++ l) w.is ∙ sym (append_assoc head w.front (0 ∷ w.tail));
      is_front = record {
        size = omega (arith, size, w.size, length-append head w.front);
        leads = λ gate rest.
            let more = w.front ++ gate ∷ rest in
            let new = head ++ more in
            let joined : (head ++ w.front) ++ gate ∷ rest ≡ new = append_assoc head w.front (gate ∷ rest) in
            let right : 8 ≤ common header new = omega (arith, common-append header head more (omega arith), common-append header head (drop 17 bytes) (omega arith), ap (common header) whole, log.right) in
            let same_gate : slice_index new 8 ≡ slice_index bytes 8 = get_or_append_left head more 0 8 (omega arith) ∙ sym (get_or_append_left head (drop 17 bytes) 0 8 (omega arith)) ∙ ap (λ (l : List ℕ). get_or l 8 0) whole in
            let same_generation : generation_of new ≡ generation = generation_of-append head more (omega arith) ∙ sym (generation_of-append head (drop 17 bytes) (omega arith)) ∙ ap generation_of whole ∙ log.generation_is in
            let new_size : length new ≡ 17 + length w.front + suc (length rest) = omega (arith, length-append head more, length-append w.front (gate ∷ rest), size) in
            let rest_is : drop 17 new ≡ more = drop_at head more 17 size in
            ap reading joined
            ∙ good new (omega (arith, new_size)) right (λ shut. log.is_open (sym same_gate ∙ shut)) (omega (arith, same_generation, log.generation_is, log.low)) (omega (arith, same_generation, log.generation_is, log.high))
            ∙ ap (λ (g : ℕ). read_as g (walk (length new) 17 (drop 17 new))) same_generation
            ∙ ap (λ (l : List ℕ). read_as generation (walk (length new) 17 l)) rest_is
            ∙ ap (read_as generation) (w.leads (length new) gate rest (omega (arith, new_size, length-append w.front (gate ∷ rest))))
            ∙ ap (λ (k : ℕ). read_as generation (onto entries (walk (length (gate ∷ rest)) k (gate ∷ rest)))) (omega (arith, w.size));
      };
    }
