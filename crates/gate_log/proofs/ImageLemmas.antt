-- The image that a crash of a disk in memory leaves is one that a crash may leave.
use Rattle.std.proofs.Common.{◌≡◌, ◌⊎◌, inl, inr, ℕ, ◌+◌, ◌<◌, ◌≤◌, max, List, [], ◌∷◌, ◌++◌, length, replicate, refl, sym, ◌∙◌, subst, arith, append_assoc}
use Rattle.std.proofs.lemmas.List.{length-replicate}
use Rattle.std.proofs.lemmas.Bool.{cases_eq}
use Rattle.gate_log.specs.Disk.{File, State, now, IsLeft, MayLeave, IsOutside, greatest_end, Wrote, Tried, overwritten}
use Rattle.gate_log.specs.Written.{length-overwritten, outside_same, write_fine}
use Rattle.gate_log.specs.Calls.{filled, left_by}
use Rattle.gate_log.specs.declared.image.Image.{Image}
use Rattle.gate_log.specs.declared.image.Image.TheVariants.{Keep, Undo, Fill}

greatest_least : (n : ℕ) (ranges : List (ℕ × ℕ)) → n ≤ greatest_end n ranges
greatest_least n [] = omega arith
greatest_least n (range ∷ ranges) = omega (arith, greatest_least n ranges)

end_in : (n : ℕ) (before : List (ℕ × ℕ)) (range : ℕ × ℕ) (ranges : List (ℕ × ℕ)) → range.0 + range.1 ≤ greatest_end n (before ++ range ∷ ranges)
end_in n [] range ranges = omega arith
end_in n (b ∷ before) range ranges = omega (arith, end_in n before range ranges)

outside_in : (i : ℕ) (before : List (ℕ × ℕ)) (range : ℕ × ℕ) (ranges : List (ℕ × ℕ)) → IsOutside i (before ++ range ∷ ranges) → (i < range.0) ⊎ (range.0 + range.1 ≤ i)
outside_in i [] range ranges outside = outside.0
outside_in i (b ∷ before) range ranges outside = outside_in i before range ranges outside.1

fill_left : (byte : ℕ) (kept : List ℕ) (before ranges : List (ℕ × ℕ)) (bytes : List ℕ) → IsLeft kept (before ++ ranges) bytes → IsLeft kept (before ++ ranges) (filled byte ranges bytes)
fill_left byte kept before [] bytes left = left
fill_left byte kept before (range ∷ ranges) bytes left =
    let join : (before ++ range ∷ []) ++ ranges ≡ before ++ range ∷ ranges = append_assoc before (range ∷ []) ranges in
    let part = filled byte ranges bytes in
    let so_far : IsLeft kept (before ++ range ∷ ranges) part =
    subst (λ (r : List (ℕ × ℕ)). IsLeft kept r part) join (fill_left byte kept (before ++ range ∷ []) ranges bytes (subst (λ (r : List (ℕ × ℕ)). IsLeft kept r bytes) (sym join) left)) in
    let fill = replicate range.1 byte in
    let fill_size : length fill ≡ range.1 = length-replicate range.1 byte in
    let size : length (overwritten range.0 fill part) ≡ max (range.0 + length fill) (length part) = length-overwritten range.0 fill part in
    record {
      no_shorter = omega (arith, size, so_far.no_shorter);
      no_longer = omega (arith, size, fill_size, so_far.no_longer, end_in (length kept) before range ranges);
      same = λ i within outside.
          let away : (i < range.0) ⊎ (range.0 + length fill ≤ i) = subst (λ (n : ℕ). (i < range.0) ⊎ (range.0 + n ≤ i)) (sym fill_size) (outside_in i before range ranges outside) in
          outside_same range.0 fill part i (omega (arith, within, so_far.no_shorter)) away ∙ so_far.same i within outside;
    }

pub left_by_left : (image : Image) (file : File) → MayLeave file file.reads → MayLeave file (left_by image file)
left_by_left Keep file left = left
left_by_left Undo file left = record { no_shorter = omega arith; no_longer = greatest_least (length file.kept) file.pending; same = λ i within outside. refl }
left_by_left (Fill byte) file left = fill_left byte file.kept [] file.pending file.reads left

-- what holds of three files
pub below_three : (P : ℕ → Type 0) → P 0 → P 1 → P 2 → (f : ℕ) → f < 3 → P f
below_three P first second third f within = elim (cases_eq f 0) [
  | inl is ↦ subst P (sym is) first
  | inr not_first ↦ elim (cases_eq f 1) [
    | inl is ↦ subst P (sym is) second
    | inr not_second ↦ let is : 2 ≡ f = omega arith in subst P is third
  ]
]

-- a write that was made and failed
pub made_but_failed : (f at : ℕ) (bytes : List ℕ) (old new : List State) → MayLeave (now old f) (now old f).reads → Wrote f at bytes old new → Tried f at (length bytes) old new
made_but_failed f at bytes old new left wrote = inr
    (record {
      reads = overwritten at bytes (now old f).reads;
      left = write_fine (now old f) at bytes left;
      same = λ i within short away. outside_same at bytes (now old f).reads i within away;
      moves = wrote;
    })
