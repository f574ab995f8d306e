-- A text of pieces, one for each value, as far as a loop over the slice of the list has come.
use Rattle.std.proofs.Common.{◌≡◌, ℕ, ◌+◌, ◌<◌, ◌≤◌, List, [], ◌∷◌, ◌++◌, length, get_or, take, sym, ◌∙◌, ap, subst, append-nil}
use Rattle.std.specs.List.{flat_map}
use Rattle.std.proofs.lemmas.List.{take_all, take_more}
use Rattle.std.proofs.lemmas.Grind.{flat_map-append}

-- all pieces
pub all_pieces : {X : Type 0} (f : X → List ℕ) (xs slice : List X) (i : ℕ) → slice ≡ xs → length slice ≤ i → flat_map f (take i xs) ≡ flat_map f xs
all_pieces f xs slice i same h = ap (λ t. flat_map f t) (take_all i xs (subst (λ t. length t ≤ i) same h))

one_more : {X : Type 0} (f : X → List ℕ) (xs : List X) (i : ℕ) (x : X) → i < length xs → x ≡ get_or xs i x → flat_map f (take i xs) ++ f x ≡ flat_map f (take (i + 1) xs)
one_more f xs i x h is =
    ap (λ t. flat_map f (take i xs) ++ t) (ap f is ∙ sym (append-nil (f (get_or xs i x))))
    ∙ sym (flat_map-append f (take i xs) (get_or xs i x ∷ []))
    ∙ ap (λ t. flat_map f t) (sym (take_more xs i x h))

-- one piece more
pub one_piece_more : {X : Type 0} (f : X → List ℕ) (xs slice : List X) (i : ℕ) (x : X) → slice ≡ xs → i < length slice → x ≡ get_or slice i x → flat_map f (take i xs) ++ f x ≡ flat_map f (take (i + 1) xs)
one_piece_more f xs slice i x same h is =
    one_more f xs i x (subst (λ t. i < length t) same h) (subst (λ t. x ≡ get_or t i x) same is)
