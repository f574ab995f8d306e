-- What a word may spell.
use Rattle.std.specs.Prelude.{ℕ, ◌++◌, ◌+◌, ◌-◌, ◌*◌, ◌^◌, ◌==◌, ◌&&◌, Bool, List, [], ◌∷◌, nat_lt, nat_le, nat_eq, length, drop, if◌then◌else◌, Option, Some, None, option_map, option_and_then, codes}
use Rattle.std.specs.List.{slice_split, starts_with}
use Rattle.std.specs.Str.{bytes_eq}
use Rattle.script.specs.declared.command.Range.{Range}
use Rattle.script.specs.declared.command.Image.{Image}
use Rattle.script.specs.declared.command.Image.TheVariants.{Keep, Undo, Fill}
use Rattle.script.specs.declared.command.VoteKind.{VoteKind}
use Rattle.script.specs.declared.command.VoteKind.TheVariants.{Prepare, Commit}

abbrev pub is_digit : ℕ → Bool
is_digit b = nat_le 48 b && nat_le b 57

-- the digits add to the number so far, and no number passes the most
abbrev pub digits_from : ℕ → ℕ → List ℕ → Option ℕ
digits_from most n [] = Some n
digits_from most n (b ∷ more) = if is_digit b && nat_le (10 * n + (b - 48)) most then digits_from most (10 * n + (b - 48)) more else None

-- a decimal number, at most the most, without leading zeros
unfoldable pub number_of : ℕ → List ℕ → Option ℕ
number_of most [] = None
number_of most (b ∷ []) = digits_from most 0 (b ∷ [])
number_of most (b ∷ c ∷ more) = if b == 48 then None else digits_from most 0 (b ∷ c ∷ more)

-- a number that isn't 0
abbrev pub not_zero : Option ℕ → Option ℕ
not_zero found = option_and_then (λ n. if n == 0 then None else Some n) found

-- an id: 1 to 2^32 - 1
abbrev pub id_of : List ℕ → Option ℕ
id_of text = not_zero (number_of (2 ^ 32 - 1) text)

-- a count of ticks: 1 to 10,000
abbrev pub ticks_of : List ℕ → Option ℕ
ticks_of text = not_zero (number_of 10000 text)

-- the place of a device call: 1 to 1,000,000
abbrev pub device_call_of : List ℕ → Option ℕ
device_call_of text = not_zero (number_of 1000000 text)

-- a hex digit in lower case
abbrev pub nibble : ℕ → Option ℕ
nibble b = if is_digit b then Some (b - 48) else (if nat_le 97 b && nat_le b 102 then Some (b - 87) else None)

abbrev pub pair_of : Option ℕ → Option ℕ → Option ℕ
pair_of None low = None
pair_of (Some high) None = None
pair_of (Some high) (Some low) = Some (16 * high + low)

abbrev pub onto : Option ℕ → Option (List ℕ) → Option (List ℕ)
onto None more = None
onto (Some b) None = None
onto (Some b) (Some more) = Some (b ∷ more)

abbrev pub pairs_of : List ℕ → Option (List ℕ)
pairs_of [] = Some []
pairs_of (a ∷ []) = None
pairs_of (a ∷ b ∷ more) = onto (pair_of (nibble a) (nibble b)) (pairs_of more)

-- bytes in hex, a dash for none
unfoldable pub hex_of : List ℕ → Option (List ℕ)
hex_of text = if bytes_eq text (codes "-") then Some [] else (if length text == 0 then None else pairs_of text)

-- the payload of a request: at most 65,536 bytes
unfoldable pub payload_of : List ℕ → Option (List ℕ)
payload_of text = option_and_then (λ bytes. if nat_le (length bytes) 65536 then Some bytes else None) (hex_of text)

-- the parts of what stands behind a separator, if there is one
abbrev pub parts_left : ℕ → Option (List ℕ) → List (List ℕ)
parts_left separator None = []
parts_left separator (Some text) = slice_split (λ b. b == separator) text

-- the first values, and then those that are found
abbrev pub behind : {A : Type 0} → List A → Option (List A) → Option (List A)
behind front found = option_map (λ more. front ++ more) found

-- ids above the last one, at most so many
abbrev pub ids_from : ℕ → ℕ → List (List ℕ) → Option (List ℕ)
ids_from last room [] = Some []
ids_from last room (text ∷ more) = option_and_then (λ id. if nat_lt last id && nat_lt 0 room then option_map (λ ids. id ∷ ids) (ids_from id (room - 1) more) else None) (number_of (2 ^ 32 - 1) text)

-- 1 to 31 ids joined by commas, strictly ascending
unfoldable pub ids_of : List ℕ → Option (List ℕ)
ids_of text = ids_from 0 31 (slice_split (λ b. b == 44) text)

-- ids that are given
abbrev pub given_ids_of : List ℕ → Option (Option (List ℕ))
given_ids_of text = option_map (λ ids. Some ids) (ids_of text)

-- `batch=N`, the count of requests in a batch: 1 to 1,000
unfoldable pub batch_of : List ℕ → Option ℕ
batch_of text = if starts_with nat_eq text (codes "batch=") then not_zero (number_of 1000 (drop 6 text)) else None

-- a batch that is given
abbrev pub given_batch_of : List ℕ → Option (Option ℕ)
given_batch_of text = option_map (λ n. Some n) (batch_of text)

-- `byz=IDS`
unfoldable pub byzantine_of : List ℕ → Option (List ℕ)
byzantine_of text = if starts_with nat_eq text (codes "byz=") then ids_of (drop 4 text) else None

-- `prepare` or `commit`
unfoldable pub vote_kind_of : List ℕ → Option VoteKind
vote_kind_of text = if bytes_eq text (codes "prepare") then Some Prepare else (if bytes_eq text (codes "commit") then Some Commit else None)

-- the byte that two hex digits spell
abbrev pub byte_of : List ℕ → Option ℕ
byte_of [] = None
byte_of (high ∷ []) = None
byte_of (high ∷ low ∷ []) = pair_of (nibble high) (nibble low)
byte_of (high ∷ low ∷ other ∷ more) = None

-- `keep`, `drop` or `fill=HH`
unfoldable pub image_of : List ℕ → Option Image
image_of text =
    if bytes_eq text (codes "keep") then Some Keep
    else (if bytes_eq text (codes "drop") then Some Undo
    else (if starts_with nat_eq text (codes "fill=") then option_map (λ b. Fill b) (byte_of (drop 5 text)) else None))

-- the number of an entry, a block or a view: below 2^62
abbrev pub entry_of : List ℕ → Option ℕ
entry_of text = number_of (2 ^ 62 - 1) text

abbrev pub in_order : ℕ → ℕ → Option Range
in_order first last = if nat_le first last then Some (record { first = first; last = last }) else None

-- one number, or a first and a last one, not below it
abbrev pub range_of_parts : List (List ℕ) → Option Range
range_of_parts [] = None
range_of_parts (one ∷ []) = option_map (λ n. record { first = n; last = n }) (entry_of one)
range_of_parts (first ∷ last ∷ []) = option_and_then (λ from. option_and_then (λ to. in_order from to) (entry_of last)) (entry_of first)
range_of_parts (first ∷ last ∷ other ∷ more) = None

-- NUMBER or FIRST-LAST
unfoldable pub range_of : List ℕ → Option Range
range_of text = range_of_parts (slice_split (λ b. b == 45) text)

abbrev pub ranges_from : List (List ℕ) → Option (List Range)
ranges_from [] = Some []
ranges_from (text ∷ more) = option_and_then (λ range. option_map (λ ranges. range ∷ ranges) (ranges_from more)) (range_of text)

-- one or more ranges joined by commas
unfoldable pub ranges_of : List ℕ → Option (List Range)
ranges_of text = ranges_from (slice_split (λ b. b == 44) text)
