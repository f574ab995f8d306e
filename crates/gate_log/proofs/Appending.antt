-- What each device call of an append leaves.
use Rattle.std.proofs.Common.{◌≡◌, inl, inr, ℕ, ◌+◌, ◌^◌, ◌<◌, List, [], ◌∷◌, ◌++◌, length, get_or, drop, sym, ◌∙◌, ap, subst, arith, append_assoc, length-append}
use Rattle.gate_log.specs.Disk.{IsLeft, overwritten}
use Rattle.gate_log.specs.Format.{reading, block, gate_after}
use Rattle.gate_log.proofs.Fronts.{IsFront}
use Rattle.gate_log.specs.Settled.{IsWithOrWithout}
use Rattle.gate_log.proofs.Left.{left_kept, left_between, overwritten_between, one_item}
use Rattle.gate_log.proofs.Gates.{front_ends, front_more, front_either}

module _ (generation : ℕ) (entries : List (List ℕ)) (front tail entry : List ℕ) (is_front : IsFront generation entries front) (fits : length entry < 2 ^ 32) where
  abbrev pub P : List ℕ → Type 0
  P = IsWithOrWithout generation entries entry

  abbrev pub before : List ℕ
  before = front ++ 0 ∷ tail

  abbrev pub bytes : List ℕ
  bytes = block entry ++ 0 ∷ []

  abbrev pub beyond : List ℕ
  beyond = drop (length bytes) tail

  abbrev pub staged : List ℕ
  staged = front ++ 0 ∷ (block entry ++ 0 ∷ beyond)

  abbrev pub finished : List ℕ
  finished = (front ++ 1 ∷ block entry) ++ 0 ∷ beyond

  split : before ≡ (front ++ 0 ∷ []) ++ tail
  split = sym (append_assoc front (0 ∷ []) tail)

  size : length (front ++ 0 ∷ []) ≡ gate_after entries + 1
  size = omega (arith, is_front.size, length-append front (0 ∷ []))

  pub first_crash : (c : List ℕ) → IsLeft before ((gate_after entries + 1, length bytes) ∷ []) c → P c
  first_crash c left =
      let between = left_between (front ++ 0 ∷ []) tail (gate_after entries + 1) (length bytes) c size
      (subst (λ (l : List ℕ). IsLeft l ((gate_after entries + 1, length bytes) ∷ []) c) split left) in
      inl (ap reading (between.is ∙ append_assoc front (0 ∷ []) (between.inside ++ beyond)) ∙ front_ends generation entries front (between.inside ++ beyond) is_front)

  pub first_write : overwritten (gate_after entries + 1) bytes before ≡ staged
  first_write =
      ap (overwritten (gate_after entries + 1) bytes) split
      ∙ overwritten_between (front ++ 0 ∷ []) tail bytes (gate_after entries + 1) size
      ∙ append_assoc front (0 ∷ []) (bytes ++ beyond)
      ∙ ap (λ (l : List ℕ). front ++ 0 ∷ l) (append_assoc (block entry) (0 ∷ []) beyond)

  pub first_kept : (c : List ℕ) → IsLeft staged [] c → P c
  first_kept c left = inl (ap reading (left_kept staged c left) ∙ front_ends generation entries front (block entry ++ 0 ∷ beyond) is_front)

  pub gate_crash : (c : List ℕ) → IsLeft staged ((gate_after entries, 1) ∷ []) c → P c
  gate_crash c left =
      let between = left_between front (0 ∷ (block entry ++ 0 ∷ beyond)) (gate_after entries) 1 c is_front.size left in
      let gate = get_or between.inside 0 0 in
      let one : between.inside ≡ gate ∷ [] = one_item between.inside (between.whole (omega arith)) in
      let is : c ≡ front ++ gate ∷ (block entry ++ 0 ∷ beyond) = between.is ∙ ap (λ (l : List ℕ). front ++ (l ++ (block entry ++ 0 ∷ beyond))) one in
      subst P (sym is) (front_either generation entries front gate entry beyond is_front fits)

  pub gate_write : overwritten (gate_after entries) (1 ∷ []) staged ≡ finished
  gate_write =
      overwritten_between front (0 ∷ (block entry ++ 0 ∷ beyond)) (1 ∷ []) (gate_after entries) is_front.size
      ∙ sym (append_assoc front (1 ∷ block entry) (0 ∷ beyond))

  pub finished_front : IsFront generation (entries ++ entry ∷ []) (front ++ 1 ∷ block entry)
  finished_front = front_more generation entries front 1 entry is_front (omega arith) fits

  pub gate_kept : (c : List ℕ) → IsLeft finished [] c → P c
  gate_kept c left = inr (ap reading (left_kept finished c left) ∙ front_ends generation (entries ++ entry ∷ []) (front ++ 1 ∷ block entry) beyond finished_front)
