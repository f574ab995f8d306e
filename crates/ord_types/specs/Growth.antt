-- What a writer took, one piece after another.
use Rattle.std.specs.Prelude.{◌≡◌, ℕ, Bool, false, List, [], ◌++◌, refl}
use Rattle.std.proofs.Common.{sym, ◌∙◌, ap, subst, append_assoc, append-nil}
use Rattle.sha2.specs.Hashers.{Holds256}
use Rattle.sha2.specs.declared.Sha256.{Sha256}

-- the bytes grew by a front of the text, and by all of it where memory has not run out
pub record Grew (before : List ℕ) (ran_out_before : Bool) (after : List ℕ) (ran_out : Bool) (text : List ℕ) : Type 0 where
  pub front : List ℕ
  pub grown : after ≡ before ++ front
  pub had_room : ran_out ≡ false → ran_out_before ≡ false
  pub whole : ran_out ≡ false → front ≡ text

pub grew_nothing : (bytes : List ℕ) (ran_out : Bool) → Grew bytes ran_out bytes ran_out []
grew_nothing bytes ran_out = record { front = []; grown = sym (append-nil bytes); had_room = λ e. e; whole = λ _. refl }

pub grew_both : (x y z : List ℕ) (p q r : Bool) (xs ys : List ℕ) → Grew x p y q xs → Grew y q z r ys → Grew x p z r (xs ++ ys)
grew_both x y z p q r xs ys h k =
    record {
      front = h.front ++ k.front;
      grown = k.grown ∙ ap (λ t. t ++ k.front) h.grown ∙ append_assoc x h.front k.front;
      had_room = λ e. h.had_room (k.had_room e);
      whole = λ e. ap (λ t. t ++ k.front) (h.whole (k.had_room e)) ∙ ap (λ t. xs ++ t) (k.whole e);
    }

-- the second hasher holds the text after what the first one holds
abbrev pub Hashed : Sha256 → Sha256 → List ℕ → Type 0
Hashed a b text = (m : List ℕ) → Holds256 a m → Holds256 b (m ++ text)

pub hashed_nothing : (a : Sha256) → Hashed a a []
hashed_nothing a m h = subst (Holds256 a) (sym (append-nil m)) h

pub hashed_both : (a b c : Sha256) (xs ys : List ℕ) → Hashed a b xs → Hashed b c ys → Hashed a c (xs ++ ys)
hashed_both a b c xs ys h k m held = subst (Holds256 c) (append_assoc m xs ys) (k _ (h m held))
