-- Two lists, compared from a place on.
use Rattle.std.proofs.Common.{◌≡◌, ℕ, ◌+◌, ◌≤◌, ◌<◌, Bool, true, ◌&&◌, List, [], ◌∷◌, length, get_or, drop, sym, ap, ◌∙◌}
use Rattle.std.specs.Cmp.Lexicographic.{pointwise}
use Rattle.std.proofs.lemmas.List.{drop_more}
use Rattle.std.proofs.Math.ListN.{drop_of_length-le}

pub pairs_step : {X : Type 0} (test : X → X → Bool) (xs ys : List X) (k : ℕ) (x y : X) → k < length xs → k < length ys → x ≡ get_or xs k x → y ≡ get_or ys k y
    → pointwise test (drop k xs) (drop k ys) ≡ (test x y && pointwise test (drop (k + 1) xs) (drop (k + 1) ys))
pairs_step test xs ys k x y lx ly ex ey =
    let dx : drop k xs ≡ x ∷ drop (k + 1) xs = drop_more xs k x lx ∙ ap (λ z. z ∷ drop (k + 1) xs) (sym ex) in
    let dy : drop k ys ≡ y ∷ drop (k + 1) ys = drop_more ys k y ly ∙ ap (λ z. z ∷ drop (k + 1) ys) (sym ey) in
    ap (λ zs. pointwise test zs (drop k ys)) dx ∙ ap (λ zs. pointwise test (x ∷ drop (k + 1) xs) zs) dy

pub pairs_end : {X : Type 0} (test : X → X → Bool) (xs ys : List X) (k : ℕ) → length xs ≤ k → length ys ≤ k → pointwise test (drop k xs) (drop k ys) ≡ true
pairs_end test xs ys k lx ly = ap (λ zs. pointwise test zs (drop k ys)) (drop_of_length-le xs lx) ∙ ap (λ zs. pointwise test [] zs) (drop_of_length-le ys ly)
