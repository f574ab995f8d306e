-- Rows of what is known, one for each member.
use Rattle.std.proofs.Common.{◌≡◌, ℕ, ◌≤◌, ◌<◌, Bool, true, false, cond, max, List, [], ◌∷◌, map, Option, Some, None, refl, sym, ap, subst, ◌∙◌, inl, inr, arith, ◌==◌, ◌&&◌, ◌||◌, not}
use Rattle.std.proofs.lemmas.Bool.{cases_Bool, cases_eq, eq-eqb, eqb-true, ne_eqb, or_parts, not-true}
use Rattle.std.specs.Prelude.{nat_lt}
use Rattle.ord_types.specs.Members.{is_in}
use Rattle.safety_model.specs.Choosing.{AreDifferent}
use Rattle.change_model.specs.declared.known.Known.{Known}
use Rattle.change_model.specs.Answers.{known_of, with_row}

-- rows that are the same for each member
pub rows_equal : (f g : ℕ → Known) → ((m : ℕ) → f m ≡ g m) → (members : List ℕ) → map f members ≡ map g members
rows_equal f g same [] = refl
rows_equal f g same (m ∷ ms) = ap (λ (k : Known). k ∷ map f ms) (same m) ∙ ap (λ (ks : List Known). g m ∷ ks) (rows_equal f g same ms)

-- an id that isn't among these
pub rows_same : (f g : ℕ → Known) (from : ℕ) (members : List ℕ) → is_in from members ≡ false → ((m : ℕ) → (m == from) ≡ false → f m ≡ g m) → map f members ≡ map g members
rows_same f g from [] absent same = refl
rows_same f g from (m ∷ ms) absent same =
    let parts = or_parts (m == from) (is_in from ms) absent in
    ap (λ (k : Known). k ∷ map f ms) (same m parts.0) ∙ ap (λ (ks : List Known). g m ∷ ks) (rows_same f g from ms parts.1 same)

-- another row for one member
pub rows_with : (f g : ℕ → Known) (from : ℕ) (members : List ℕ) → AreDifferent members → ((m : ℕ) → (f m).member ≡ m) → (g from).member ≡ from
    → ((m : ℕ) → (m == from) ≡ false → f m ≡ g m) → with_row (g from) (map f members) ≡ map g members
rows_with f g from [] different named is same = refl
rows_with f g from (m ∷ ms) different named is same =
    elim (cases_Bool (m == from)) [
      | inl here ↦
          let e = eqb-true m from here in
          let hit : ((f m).member == (g from).member) ≡ true = eq-eqb _ _ (named m ∙ e ∙ sym is) in
          let rest = rows_same f g from ms (ap (λ (i : ℕ). is_in i ms) (sym e) ∙ not-true (is_in m ms) different.0) same in
          rw hit (ap (λ (ks : List Known). g from ∷ ks) rest ∙ ap (λ (i : ℕ). g i ∷ map g ms) (sym e))
      | inr other ↦
          let miss : ((f m).member == (g from).member) ≡ false = ap (λ (i : ℕ). i == (g from).member) (named m) ∙ ap (λ (i : ℕ). m == i) is ∙ other in
          rw miss (ap (λ (k : Known). k ∷ with_row (g from) (map f ms)) (same m other) ∙ ap (λ (ks : List Known). g m ∷ ks) (rows_with f g from ms different.1 named is same))
    ]

-- the row of a member
pub row_found : (f : ℕ → Known) (from : ℕ) (members : List ℕ) → ((m : ℕ) → (f m).member ≡ m) → is_in from members ≡ true → known_of from (map f members) ≡ Some (f from)
row_found f from [] named among = cc
row_found f from (m ∷ ms) named among =
    elim (cases_Bool (m == from)) [
      | inl here ↦
          let hit : ((f m).member == from) ≡ true = ap (λ (i : ℕ). i == from) (named m) ∙ here in
          rw hit (ap (λ (i : ℕ). Some (f i)) (eqb-true m from here))
      | inr other ↦
          let miss : ((f m).member == from) ≡ false = ap (λ (i : ℕ). i == from) (named m) ∙ other in
          rw miss (row_found f from ms named (rw other at among))
    ]

-- who has no row
pub row_missing : (f : ℕ → Known) (from : ℕ) (members : List ℕ) → ((m : ℕ) → (f m).member ≡ m) → is_in from members ≡ false → known_of from (map f members) ≡ None
row_missing f from [] named absent = refl
row_missing f from (m ∷ ms) named absent =
    let parts = or_parts (m == from) (is_in from ms) absent in
    let miss : ((f m).member == from) ≡ false = ap (λ (i : ℕ). i == from) (named m) ∙ parts.0 in
    rw miss (row_missing f from ms named parts.1)

-- a row that becomes another one where that is due, and the others stay
pub rows_stay : (f g : ℕ → Known) (from : ℕ) → g from ≡ f from → ((m : ℕ) → (m == from) ≡ false → f m ≡ g m) → (members : List ℕ) → map f members ≡ map g members
rows_stay f g from here there members =
    rows_equal f g (λ m. elim (cases_Bool (m == from)) [
      | inl y ↦ subst (λ (i : ℕ). f i ≡ g i) (sym (eqb-true m from y)) (sym here)
      | inr n ↦ there m n
    ]) members
