-- What a writer took that counts bytes.
use Rattle.std.specs.Prelude.{◌≡◌, ℕ, ◌-◌, ◌^◌, min, List, [], ◌++◌, length}
use Rattle.std.proofs.Common.{sym, subst, append_assoc, append-nil}

-- how many bytes the text has, or the last number of the count's type
abbrev pub IsCount : ℕ → List ℕ → Type 0
IsCount count text = count ≡ min (length text) (2 ^ 64 - 1)

-- what was counted before a text is counted with it
abbrev pub Counted : ℕ → ℕ → List ℕ → Type 0
Counted before after more = (text : List ℕ) → IsCount before text → IsCount after (text ++ more)

pub counted_nothing : (count : ℕ) → Counted count count []
counted_nothing count text h = subst (IsCount count) (sym (append-nil text)) h

pub counted_both : (first second third : ℕ) (xs ys : List ℕ) → Counted first second xs → Counted second third ys → Counted first third (xs ++ ys)
counted_both first second third xs ys h k text is = subst (IsCount third) (append_assoc text xs ys) (k (text ++ xs) (h text is))
