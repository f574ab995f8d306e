-- What stands behind the head gate of a log that is begun, and how the head gate is opened.
use Rattle.std.proofs.Common.{◌≡◌, ◌≢◌, inl, inr, ℕ, ◌^◌, ◌<◌, ◌≤◌, List, [], ◌∷◌, ◌++◌, length, get_or, drop, refl, sym, ◌∙◌, ap, subst, arith, append_assoc}
use Rattle.std.specs.Int.{w64, to_be_bytes}
use Rattle.std.proofs.lemmas.Nat.{from_be_bytes-to_be_bytes_8}
use Rattle.std.proofs.lemmas.List.{append-nil}
use Rattle.std.proofs.lemmas.Bool.{cases_eq}
use Rattle.gate_log.specs.Disk.{IsLeft, overwritten}
use Rattle.gate_log.specs.Format.{header, reading, generation_of, walk, read_as, block, spelled, body}
use Rattle.gate_log.specs.Renew.{AreShort, IsNewOrAbsent}
use Rattle.gate_log.specs.declared.reading.Reading.TheVariants.{Log}
use Rattle.gate_log.proofs.Fronts.{IsFront}
use Rattle.gate_log.proofs.Gates.{front_ends, front_more, walk_enough}
use Rattle.gate_log.proofs.Readings.{good}
use Rattle.gate_log.proofs.Left.{left_between, overwritten_between, one_item}
use Rattle.gate_log.proofs.Torn.{shut_absent}

-- entries behind open gates
abbrev opened : List (List ℕ) → List ℕ
opened [] = []
opened (entry ∷ entries) = 1 ∷ (block entry ++ opened entries)

spelled_opened : (entries : List (List ℕ)) → spelled entries ≡ opened entries ++ 0 ∷ []
spelled_opened [] = refl
spelled_opened (entry ∷ entries) =
    ap (λ (l : List ℕ). 1 ∷ (block entry ++ l)) (spelled_opened entries)
    ∙ ap (λ (l : List ℕ). 1 ∷ l) (sym (append_assoc (block entry) (opened entries) (0 ∷ [])))

generation_of-spelled : (generation gate next : ℕ) (rest : List ℕ) → generation < 2 ^ 62 → generation_of (header ++ gate ∷ (to_be_bytes w64 generation ++ next ∷ rest)) ≡ generation
unfolding generation_of
generation_of-spelled generation gate next rest high = from_be_bytes-to_be_bytes_8 generation (omega arith)

front_empty : (generation gate : ℕ) → 1 ≤ generation → generation < 2 ^ 62 → gate ≢ 0 → IsFront generation [] (header ++ gate ∷ to_be_bytes w64 generation)
front_empty generation gate low high is_open = record {
  size = omega arith;
  leads = λ next rest.
      let all = header ++ gate ∷ (to_be_bytes w64 generation ++ next ∷ rest) in
      let spelled_is : generation_of all ≡ generation = generation_of-spelled generation gate next rest high in
      good all (omega arith) (omega arith) is_open (omega (arith, spelled_is)) (omega (arith, spelled_is))
      ∙ ap (λ (g : ℕ). read_as g (walk (length all) 17 (next ∷ rest))) spelled_is
      ∙ ap (read_as generation) (walk_enough (length all) 17 (next ∷ rest) (omega arith));
}

front_all : (generation : ℕ) (before entries : List (List ℕ)) (front : List ℕ) → IsFront generation before front → AreShort entries → IsFront generation (before ++ entries) (front ++ opened entries)
front_all generation before [] front is_front short =
    subst (λ (es : List (List ℕ)). IsFront generation es (front ++ [])) (sym (append-nil before))
    (subst (IsFront generation before) (sym (append-nil front)) is_front)
front_all generation before (entry ∷ entries) front is_front short =
    let more = front_more generation before front 1 entry is_front (omega arith) (omega (arith, short.0)) in
    let all = front_all generation (before ++ entry ∷ []) entries (front ++ 1 ∷ block entry) more short.1 in
    subst (λ (es : List (List ℕ)). IsFront generation es (front ++ opened (entry ∷ entries))) (append_assoc before (entry ∷ []) entries)
    (subst (IsFront generation ((before ++ entry ∷ []) ++ entries)) (append_assoc front (1 ∷ block entry) (opened entries)) all)

-- what stands behind the head gate of such a log, up to the last gate
pub record IsBody (generation : ℕ) (entries : List (List ℕ)) (bytes : List ℕ) : Type 0 where
  pub inner : List ℕ
  pub is : bytes ≡ inner ++ 0 ∷ []
  pub front : (gate : ℕ) → gate ≢ 0 → IsFront generation entries (header ++ gate ∷ inner)

pub body_is : (generation : ℕ) (entries : List (List ℕ)) → 1 ≤ generation → generation < 2 ^ 62 → AreShort entries → IsBody generation entries (body generation entries)
body_is generation entries low high short = record {
  inner = to_be_bytes w64 generation ++ opened entries;
  is = ap (λ (l : List ℕ). to_be_bytes w64 generation ++ l) (spelled_opened entries);
  front = λ gate is_open. front_all generation [] entries (header ++ gate ∷ to_be_bytes w64 generation) (front_empty generation gate low high is_open) short;
}

module _ (generation : ℕ) (entries : List (List ℕ)) (rest bytes : List ℕ) (is_body : IsBody generation entries bytes) where
  abbrev P : List ℕ → Type 0
  P = IsNewOrAbsent generation entries

  abbrev beyond : List ℕ
  beyond = drop (length bytes) rest

  abbrev pub filled : List ℕ
  filled = header ++ 0 ∷ (is_body.inner ++ 0 ∷ beyond)

  abbrev pub begun : List ℕ
  begun = (header ++ 1 ∷ is_body.inner) ++ 0 ∷ beyond

  pub fill_crash : (c : List ℕ) → IsLeft (header ++ 0 ∷ rest) ((9, length bytes) ∷ []) c → P c
  fill_crash c left =
      let between = left_between (header ++ 0 ∷ []) rest 9 (length bytes) c refl left in
      inl (ap reading between.is ∙ shut_absent (between.inside ++ drop (length bytes) rest))

  pub fill_write : overwritten 9 bytes (header ++ 0 ∷ rest) ≡ filled
  fill_write =
      overwritten_between (header ++ 0 ∷ []) rest bytes 9 refl
      ∙ ap (λ (l : List ℕ). header ++ 0 ∷ (l ++ beyond)) is_body.is
      ∙ ap (λ (l : List ℕ). header ++ 0 ∷ l) (append_assoc is_body.inner (0 ∷ []) beyond)

  pub head_crash : (c : List ℕ) → IsLeft filled ((8, 1) ∷ []) c → P c
  head_crash c left =
      let between = left_between header (0 ∷ (is_body.inner ++ 0 ∷ beyond)) 8 1 c refl left in
      let gate = get_or between.inside 0 0 in
      let one : between.inside ≡ gate ∷ [] = one_item between.inside (between.whole (omega arith)) in
      let is : c ≡ header ++ gate ∷ (is_body.inner ++ 0 ∷ beyond) = between.is ∙ ap (λ (l : List ℕ). header ++ (l ++ (is_body.inner ++ 0 ∷ beyond))) one in
      elim (cases_eq gate 0) [
        | inl shut ↦ inl (ap reading (is ∙ ap (λ (g : ℕ). header ++ g ∷ (is_body.inner ++ 0 ∷ beyond)) shut) ∙ shut_absent (is_body.inner ++ 0 ∷ beyond))
        | inr is_open ↦ inr (ap reading (is ∙ sym (append_assoc header (gate ∷ is_body.inner) (0 ∷ beyond)))
            ∙ front_ends generation entries (header ++ gate ∷ is_body.inner) beyond (is_body.front gate is_open))
      ]

  pub head_write : overwritten 8 (1 ∷ []) filled ≡ begun
  head_write = overwritten_between header (0 ∷ (is_body.inner ++ 0 ∷ beyond)) (1 ∷ []) 8 refl ∙ sym (append_assoc header (1 ∷ is_body.inner) (0 ∷ beyond))

  pub stands : reading begun ≡ Log generation entries
  stands = front_ends generation entries (header ++ 1 ∷ is_body.inner) beyond (is_body.front 1 (omega arith))
