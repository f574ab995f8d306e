-- The lines of later parts.
use Rattle.std.specs.Prelude.{ℕ, ◌||◌, ◌&&◌, not, Bool, true, false, List, [], ◌∷◌, nat_eq, codes}
use Rattle.std.specs.List.{list_any, starts_with}
use Rattle.std.specs.Str.{bytes_eq}
use Rattle.script.specs.Words.{Word}

-- a first word of a later part
unfoldable pub is_later_word : List ℕ → Bool
is_later_word text =
    bytes_eq text (codes "byz-change") || bytes_eq text (codes "byz-report") || bytes_eq text (codes "config") || bytes_eq text (codes "join")

-- a word begins like an option of `genesis` of a later part
unfoldable pub is_later_option : List ℕ → Bool
is_later_option text =
    starts_with nat_eq text (codes "rotation=") || starts_with nat_eq text (codes "wait=") || starts_with nat_eq text (codes "pool=")
    || starts_with nat_eq text (codes "extra=")

-- `genesis` of the kind `raft`, with an option of a later part, or without the batch of one request
unfoldable pub is_later_genesis : List Word → Bool
is_later_genesis [] = true
is_later_genesis (kind ∷ more) =
    bytes_eq kind.text (codes "raft") || list_any (λ word. is_later_option word.text) more || not (list_any (λ word. bytes_eq word.text (codes "batch=1")) (kind ∷ more))

-- a line of a later part, by its first word and those behind it
abbrev pub is_later : List ℕ → List Word → Bool
is_later first more = is_later_word first || (bytes_eq first (codes "genesis") && is_later_genesis more)

-- the words of a line of a later part
abbrev pub is_later_line : List Word → Bool
is_later_line [] = false
is_later_line (word ∷ more) = is_later word.text more
