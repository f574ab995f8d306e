-- What holds of the reading and the spelling of a value.
use Rattle.std.specs.Prelude.{◌≡◌, ℕ, ◌+◌, ◌<◌, List, [], ◌∷◌, ◌++◌, length, get_or, Ok, Err}
use Rattle.ord_types.specs.Reading.{Reading}
use Rattle.ord_types.specs.declared.fault.Flaw.TheVariants.{Short, Bad}

-- each is a byte
abbrev pub IsBytes : List ℕ → Type 0
IsBytes bytes = (i : ℕ) → get_or bytes i 0 < 256

-- What was put is read again, whatever follows, and what is read is spelled there. No spelling begins another, and one that is
-- cut anywhere ends inside the value. A field that breaks its rule does so whatever follows, and the bytes before it end inside
-- a value.
pub record HasOneSpelling {X : Type 0} (at : Reading X) (HasSpelling : X → Type 0) (text : X → List ℕ) : Type 0 where
  pub again : (x : X) (rest : List ℕ) → HasSpelling x → at (text x ++ rest) ≡ Ok (x, rest)
  pub spelled : (bytes : List ℕ) (x : X) (rest : List ℕ) → IsBytes bytes → at bytes ≡ Ok (x, rest) → HasSpelling x × (bytes ≡ text x ++ rest)
  pub alone : (x y : X) (rest : List ℕ) → HasSpelling x → HasSpelling y → text x ++ rest ≡ text y → (x ≡ y) × (rest ≡ [])
  pub cut : (x : X) (front behind : List ℕ) (next : ℕ) → HasSpelling x → text x ≡ front ++ next ∷ behind → at front ≡ Err Short
  pub broken : (bytes : List ℕ) (left : ℕ) (more : List ℕ) → at bytes ≡ Err (Bad left) → at (bytes ++ more) ≡ Err (Bad (left + length more))
  pub before : (front back : List ℕ) → IsBytes (front ++ back) → at (front ++ back) ≡ Err (Bad (length back)) → at front ≡ Err Short
