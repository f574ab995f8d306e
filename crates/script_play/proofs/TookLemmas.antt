-- Lemmas on what a sink took.
use Rattle.std.proofs.Common.{◌≡◌, ℕ, List, [], ◌++◌, sym, ap, ◌∙◌, refl, Option, IsSome}
use Rattle.std.proofs.lemmas.List.{append_assoc, append-nil}
use Rattle.ord_types.specs.Told.{told, Took, TookAllBut, TookFront}

pub TookAllBut-from_whole : (old new : Option (List ℕ)) (whole printed left : List ℕ) → Took old new printed → whole ≡ printed ++ left → TookAllBut old new whole left
TookAllBut-from_whole old new whole printed left took is = record { tells = took.tells; front = printed; whole = is; grown = took.grown }

pub TookFront-from_front : (old new : Option (List ℕ)) (whole printed left : List ℕ) → TookFront old new printed → whole ≡ printed ++ left → TookFront old new whole
TookFront-from_front old new whole printed left took is = (
  took.0 ++ left,
  record {
    tells = took.1.tells;
    front = took.1.front;
    whole = is ∙ ap (λ (xs : List ℕ). xs ++ left) took.1.whole ∙ append_assoc took.1.front took.0 left;
    grown = took.1.grown;
  },
)

pub TookFront-none : (told_bytes : Option (List ℕ)) (whole : List ℕ) → IsSome told_bytes → TookFront told_bytes told_bytes whole
TookFront-none o whole tells = (whole, record { tells = tells; front = []; whole = refl; grown = sym (append-nil (told o)) })

pub TookAllBut-trans : (a b c : Option (List ℕ)) (x y z : List ℕ) → TookAllBut a b x y → TookAllBut b c y z → TookAllBut a c x z
TookAllBut-trans a b c x y z p q = record {
  tells = q.tells;
  front = p.front ++ q.front;
  whole = p.whole ∙ ap (λ (xs : List ℕ). p.front ++ xs) q.whole ∙ sym (append_assoc p.front q.front z);
  grown = q.grown ∙ ap (λ (xs : List ℕ). xs ++ q.front) p.grown ∙ append_assoc (told a) p.front q.front;
}

pub Took-from_all : (a b : Option (List ℕ)) (x : List ℕ) → TookAllBut a b x [] → Took a b x
Took-from_all a b x p = record { tells = p.tells; grown = p.grown ∙ ap (λ (xs : List ℕ). told a ++ xs) (sym (append-nil p.front) ∙ sym p.whole) }

pub TookAllBut-start : (o : Option (List ℕ)) (whole : List ℕ) → IsSome o → TookAllBut o o whole whole
TookAllBut-start o whole tells = record { tells = tells; front = []; whole = refl; grown = sym (append-nil (told o)) }

pub TookFront-trans : (a b c : Option (List ℕ)) (x y : List ℕ) → TookAllBut a b x y → TookFront b c y → TookFront a c x
TookFront-trans a b c x y p q = (q.0, TookAllBut-trans a b c x y q.0 p q.1)
