-- What a writer took that counts bytes, or that writes them over a buffer.
use Rattle.std.specs.Prelude.{◌≡◌, ℕ, ◌-◌, ◌^◌, ◌≤◌, min, List, [], ◌++◌, length, drop}
use Rattle.std.proofs.Common.{sym, subst, append_assoc, append-nil}

-- what is true of a text is true of it with more behind it
abbrev pub Adds : (List ℕ → Type 0) → (List ℕ → Type 0) → List ℕ → Type 0
Adds Before After more = (text : List ℕ) → Before text → After (text ++ more)

pub adds_nothing : (Is : List ℕ → Type 0) → Adds Is Is []
adds_nothing Is text h = subst Is (sym (append-nil text)) h

pub adds_both : (First Second Third : List ℕ → Type 0) (xs ys : List ℕ) → Adds First Second xs → Adds Second Third ys → Adds First Third (xs ++ ys)
adds_both First Second Third xs ys h k text is = subst Third (append_assoc text xs ys) (k (text ++ xs) (h text is))

-- how many bytes the text has, or the last number of the count's type
abbrev pub IsCount : ℕ → List ℕ → Type 0
IsCount count text = count ≡ min (length text) (2 ^ 64 - 1)

abbrev pub Counted : ℕ → ℕ → List ℕ → Type 0
Counted before after more = Adds (IsCount before) (IsCount after) more

-- the text, if it is no longer than the buffer was, stands at its front, up to the place; behind it stands what was there
abbrev pub HasFront : List ℕ → List ℕ → ℕ → List ℕ → Type 0
HasFront buffer out place text = length text ≤ length buffer → (place ≡ length text) × (out ≡ text ++ drop (length text) buffer)

abbrev pub Placed : List ℕ → ℕ → List ℕ → ℕ → List ℕ → Type 0
Placed out place out_after place_after more = (buffer : List ℕ) → Adds (HasFront buffer out place) (HasFront buffer out_after place_after) more

pub placed_nothing : (out : List ℕ) (place : ℕ) → Placed out place out place []
placed_nothing out place buffer = adds_nothing (HasFront buffer out place)

pub placed_both : (a b c : List ℕ) (p q r : ℕ) (xs ys : List ℕ) → Placed a p b q xs → Placed b q c r ys → Placed a p c r (xs ++ ys)
placed_both a b c p q r xs ys h k buffer = adds_both (HasFront buffer a p) (HasFront buffer b q) (HasFront buffer c r) xs ys (h buffer) (k buffer)
