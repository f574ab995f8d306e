-- What a file stands for, in front of its first closed gate and behind.
use Rattle.std.proofs.Common.{◌≡◌, ◌≢◌, ◌⊎◌, inl, inr, ℕ, zero, suc, ◌+◌, ◌^◌, ◌<◌, ◌≤◌, List, [], ◌∷◌, ◌++◌, length, take, drop, Result, Ok, Err, refl, sym, ◌∙◌, ap, subst, arith, append_assoc, length-append, length-drop, true, false}
use Rattle.std.specs.Prelude.{◌==◌, if◌then◌else◌, nat_lt}
use Rattle.std.proofs.lemmas.Bool.{ne_eqb, cases_eq}
use Rattle.std.proofs.lemmas.Bool.Decides.{nat_tests}
use Rattle.std.proofs.lemmas.Nat.{from_be_bytes-to_be_bytes_4}
use Rattle.std.proofs.lemmas.List.{take_at, drop_at}
use Rattle.gate_log.specs.declared.reading.Reading.TheVariants.{Log}
use Rattle.gate_log.specs.Format.{entry_length, behind, walk, read_as, reading, block, gate_after}
use Rattle.gate_log.proofs.Fronts.{onto, IsFront}

-- the length that stands in front of an entry
pub entry_length-block : (entry rest : List ℕ) → length entry < 2 ^ 32 → entry_length (block entry ++ rest) ≡ length entry
unfolding entry_length
entry_length-block entry rest fits = from_be_bytes-to_be_bytes_4 (length entry) fits

-- a closed gate ends the walk
pub walk_closed : (n at : ℕ) (rest : List ℕ) → walk (suc n) at (0 ∷ rest) ≡ Ok []
unfolding walk
walk_closed n at rest = refl

-- an open gate that isn't followed by enough
pub walk_short : (n at gate : ℕ) (rest : List ℕ) → gate ≢ 0 → length rest < 5 + entry_length rest → walk (suc n) at (gate ∷ rest) ≡ Err at
unfolding walk
walk_short n at gate rest is_open short =
    let shut : (gate == 0) ≡ false = ne_eqb gate 0 is_open in
    let less : nat_lt (length rest) (5 + entry_length rest) ≡ true = grind (arith, nat_tests) in
    rw (shut, less) refl

-- an open gate with a whole entry behind it
pub walk_open : (n at gate : ℕ) (rest : List ℕ) → gate ≢ 0 → 5 + entry_length rest ≤ length rest
    → walk (suc n) at (gate ∷ rest) ≡ behind (take (entry_length rest) (drop 4 rest)) (walk n (at + 5 + entry_length rest) (drop (4 + entry_length rest) rest))
unfolding walk
walk_open n at gate rest is_open long =
    let shut : (gate == 0) ≡ false = ne_eqb gate 0 is_open in
    let less : nat_lt (length rest) (5 + entry_length rest) ≡ false = grind (arith, nat_tests) in
    rw (shut, less) refl

-- two counts of gates, each enough
same_walk : (n m at : ℕ) (bytes : List ℕ) → length bytes ≤ n → length bytes ≤ m → walk n at bytes ≡ walk m at bytes
unfolding walk
same_walk zero zero at bytes a b = refl
same_walk zero (suc m) at [] a b = refl
same_walk zero (suc m) at (x ∷ bytes) a b = absurd (omega arith)
same_walk (suc n) zero at [] a b = refl
same_walk (suc n) zero at (x ∷ bytes) a b = absurd (omega arith)
same_walk (suc n) (suc m) at [] a b = refl
same_walk (suc n) (suc m) at (gate ∷ rest) a b =
    let len = entry_length rest in
    let more : walk n (at + 5 + len) (drop (4 + len) rest) ≡ walk m (at + 5 + len) (drop (4 + len) rest) =
    same_walk n m (at + 5 + len) (drop (4 + len) rest) (omega (arith, length-drop (4 + len) rest)) (omega (arith, length-drop (4 + len) rest)) in
    ap (λ (w : Result (List (List ℕ)) ℕ). if gate == 0 then Ok [] else if nat_lt (length rest) (5 + len) then Err at else behind (take len (drop 4 rest)) w) more

-- enough gates looked at are all of them
pub walk_enough : (n at : ℕ) (bytes : List ℕ) → length bytes ≤ n → walk n at bytes ≡ walk (length bytes) at bytes
walk_enough n at bytes enough = same_walk n (length bytes) at bytes enough (omega arith)

length-block : (entry : List ℕ) → length (block entry) ≡ 4 + length entry
length-block entry = omega arith

-- a whole entry behind an open gate
pub walk_block : (at gate : ℕ) (entry : List ℕ) (next : ℕ) (rest : List ℕ) → gate ≢ 0 → length entry < 2 ^ 32
    → walk (length (gate ∷ block entry ++ next ∷ rest)) at (gate ∷ block entry ++ next ∷ rest) ≡ behind entry (walk (length (next ∷ rest)) (at + 5 + length entry) (next ∷ rest))
walk_block at gate entry next rest is_open fits =
    let all = block entry ++ next ∷ rest in
    let len : entry_length all ≡ length entry = entry_length-block entry (next ∷ rest) fits in
    let size : length all ≡ 4 + length entry + length (next ∷ rest) = omega (arith, length-append entry (next ∷ rest)) in
    let long : 5 + entry_length all ≤ length all = omega (arith, len, size) in
    let Step : ℕ → Type 0 = λ k. walk (suc (length all)) at (gate ∷ all) ≡ behind (take k (drop 4 all)) (walk (length all) (at + 5 + k) (drop (4 + k) all)) in
    let step : Step (length entry) = subst Step len (walk_open (length all) at gate all is_open long) in
    let is_entry : take (length entry) (drop 4 all) ≡ entry = take_at entry (next ∷ rest) (length entry) refl in
    let is_rest : drop (4 + length entry) all ≡ next ∷ rest = drop_at (block entry) (next ∷ rest) (4 + length entry) (omega arith) in
    step
    ∙ ap (λ (l : List ℕ). behind l (walk (length all) (at + 5 + length entry) (drop (4 + length entry) all))) is_entry
    ∙ ap (λ (l : List ℕ). behind entry (walk (length all) (at + 5 + length entry) l)) is_rest
    ∙ ap (λ (w : Result (List (List ℕ)) ℕ). behind entry w) (walk_enough (length all) (at + 5 + length entry) (next ∷ rest) (omega (arith, size)))

pub onto_ended : (entries : List (List ℕ)) → onto entries (Ok []) ≡ Ok entries
onto_ended [] = refl
onto_ended (e ∷ entries) = ap (λ (w : Result (List (List ℕ)) ℕ). behind e w) (onto_ended entries)

pub onto_more : (entries : List (List ℕ)) (e : List ℕ) (w : Result (List (List ℕ)) ℕ) → onto (entries ++ e ∷ []) w ≡ onto entries (behind e w)
onto_more [] e w = refl
onto_more (x ∷ entries) e w = ap (λ (v : Result (List (List ℕ)) ℕ). behind x v) (onto_more entries e w)

pub gate_after_more : (entries : List (List ℕ)) (e : List ℕ) → gate_after (entries ++ e ∷ []) ≡ gate_after entries + 5 + length e
gate_after_more [] e = omega arith
gate_after_more (x ∷ entries) e = omega (arith, gate_after_more entries e)

-- a closed gate ends the log, whatever stands behind it
pub front_ends : (generation : ℕ) (entries : List (List ℕ)) (front : List ℕ) (rest : List ℕ) → IsFront generation entries front → reading (front ++ 0 ∷ rest) ≡ Log generation entries
front_ends generation entries front rest is_front =
    is_front.leads 0 rest
    ∙ ap (λ (w : Result (List (List ℕ)) ℕ). read_as generation (onto entries w)) (walk_closed (length rest) (gate_after entries) rest)
    ∙ ap (read_as generation) (onto_ended entries)

-- an open gate and an entry go on
pub front_more : (generation : ℕ) (entries : List (List ℕ)) (front : List ℕ) (gate : ℕ) (entry : List ℕ) → IsFront generation entries front → gate ≢ 0 → length entry < 2 ^ 32
    → IsFront generation (entries ++ entry ∷ []) (front ++ gate ∷ block entry)
front_more generation entries front gate entry is_front is_open fits = record {
  size = omega (arith, length-append front (gate ∷ block entry), is_front.size, gate_after_more entries entry);
  leads = λ next rest.
      let W : ℕ → Result (List (List ℕ)) ℕ = λ at. walk (length (next ∷ rest)) at (next ∷ rest) in
      let at = gate_after entries in
      let place : at + 5 + length entry ≡ gate_after (entries ++ entry ∷ []) = sym (gate_after_more entries entry) in
      ap reading (append_assoc front (gate ∷ block entry) (next ∷ rest))
      ∙ is_front.leads gate (block entry ++ next ∷ rest)
      ∙ ap (λ (w : Result (List (List ℕ)) ℕ). read_as generation (onto entries w)) (walk_block at gate entry next rest is_open fits)
      ∙ ap (λ (n : ℕ). read_as generation (onto entries (behind entry (W n)))) place
      ∙ ap (read_as generation) (sym (onto_more entries entry (W (gate_after (entries ++ entry ∷ [])))));
}

-- whatever the gate in front of a whole entry holds, the entry counts or it doesn't
pub front_either : (generation : ℕ) (entries : List (List ℕ)) (front : List ℕ) (gate : ℕ) (entry rest : List ℕ) → IsFront generation entries front → length entry < 2 ^ 32
    → (reading (front ++ gate ∷ (block entry ++ 0 ∷ rest)) ≡ Log generation entries) ⊎ (reading (front ++ gate ∷ (block entry ++ 0 ∷ rest)) ≡ Log generation (entries ++ entry ∷ []))
front_either generation entries front gate entry rest is_front fits = elim (cases_eq gate 0) [
  | inl shut ↦ inl (ap (λ (g : ℕ). reading (front ++ g ∷ (block entry ++ 0 ∷ rest))) shut ∙ front_ends generation entries front (block entry ++ 0 ∷ rest) is_front)
  | inr is_open ↦
      let more = front_more generation entries front gate entry is_front is_open fits in
      inr (ap reading (sym (append_assoc front (gate ∷ block entry) (0 ∷ rest))) ∙ front_ends generation (entries ++ entry ∷ []) (front ++ gate ∷ block entry) rest more)
]
