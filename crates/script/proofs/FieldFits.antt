-- What the grammar lets into a field.
use Rattle.std.proofs.Common.{slice_index, codes, ◌≡◌, ℕ, zero, suc, ◌+◌, ◌-◌, ◌*◌, ◌^◌, ◌<◌, ◌≤◌, List, [], ◌∷◌, length, cond, Bool, true, false, refl, ap, arith, Option, Some, None, ◌&&◌, option_map, option_and_then, nat_lt, nat_le, nat_eq, drop, ◌==◌, IfSome, All}
use Rattle.std.proofs.lemmas.Option.{option_and_then_some}
use Rattle.std.proofs.lemmas.Bool.{ltb-true, leb-true, eqb-false}
use Rattle.std.proofs.lemmas.List.Elements.{All-cons}
use Rattle.std.proofs.lemmas.List.Splits.{length-slice_split}
use Rattle.std.specs.List.{slice_split, starts_with}
use Rattle.std.specs.Str.{bytes_eq}
use Rattle.std.specs.List.Sorted.{IsStrictlyIncreasing}
use Rattle.script.specs.declared.command.Range.{Range}
use Rattle.script.specs.declared.command.Image.{Image}
use Rattle.script.specs.declared.command.Image.TheVariants.{Keep, Undo, Fill}
use Rattle.script.specs.Fields.{digits_from, is_digit, nibble, pair_of, onto, pairs_of, number_of, not_zero, id_of, ticks_of, device_call_of, hex_of, payload_of, ids_from, ids_of, given_ids_of, byzantine_of, byte_of, image_of, entry_of, in_order, range_of_parts, range_of, ranges_from, ranges_of}
use Rattle.script.specs.Commands.{IsId, AreIds, AreByzantine, AreBytes, IsRange, AreRanges, IsImage}

pub picked : {A : Type 0} (b : Bool) (x : Option A) (y : A) → cond b x None ≡ Some y → (b ≡ true) × (x ≡ Some y)
picked true x y e = (refl, e)
picked false x y e = absurd (cc)

pub passed : {A : Type 0} (b : Bool) (x : Option A) (y : A) → cond b None x ≡ Some y → (b ≡ false) × (x ≡ Some y)
passed true x y e = absurd (cc)
passed false x y e = (refl, e)

pub both : (a b : Bool) → (a && b) ≡ true → (a ≡ true) × (b ≡ true)
both true b e = (refl, e)
both false b e = absurd (cc)

pub mapped : {A B : Type 0} (f : A → B) (o : Option A) (y : B) → option_map f o ≡ Some y → (x : A) × (o ≡ Some x) × (f x ≡ y)
mapped f None y e = absurd (cc)
mapped f (Some x) y e = let same : f x ≡ y = cc in (x, refl, same)

digits_below : (most n m : ℕ) (text : List ℕ) → digits_from most n text ≡ Some m → n ≤ most → m ≤ most
digits_below most n m [] e h = let same : n ≡ m = cc in omega arith
digits_below most n m (b ∷ more) e h =
    let test = picked (is_digit b && nat_le (10 * n + (b - 48)) most) (digits_from most (10 * n + (b - 48)) more) m e in
    digits_below most (10 * n + (b - 48)) m more test.1 (leb-true _ _ (both (is_digit b) (nat_le (10 * n + (b - 48)) most) test.0).1)

pub number_below : (most : ℕ) (text : List ℕ) (n : ℕ) → number_of most text ≡ Some n → n ≤ most
unfolding number_of
number_below most [] n e = absurd (cc)
number_below most (b ∷ []) n e = digits_below most 0 n (b ∷ []) e (omega arith)
number_below most (b ∷ c ∷ more) n e = digits_below most 0 n (b ∷ c ∷ more) (passed (b == 48) (digits_from most 0 (b ∷ c ∷ more)) n e).1 (omega arith)

pub not_zero_fits : (found : Option ℕ) (n : ℕ) → not_zero found ≡ Some n → (found ≡ Some n) × (1 ≤ n)
not_zero_fits None n e = absurd (cc)
not_zero_fits (Some m) n e =
    let test = passed (m == 0) (Some m) n e in
    let same : m ≡ n = cc (test.1) in
    (test.1, omega (arith, eqb-false m 0 test.0))

pub id_fits : (text : List ℕ) (n : ℕ) → id_of text ≡ Some n → IsId n
id_fits text n e =
    let found = not_zero_fits (number_of (2 ^ 32 - 1) text) n e in
    record { positive = found.1; below = number_below (2 ^ 32 - 1) text n found.0 }

nibble_below : (b n : ℕ) → nibble b ≡ Some n → n < 16
nibble_below b n e = go (is_digit b) (nat_le 97 b && nat_le b 102) (λ t. leb-true b 57 (both (nat_le 48 b) (nat_le b 57) t).1) (λ t. leb-true b 102 (both (nat_le 97 b) (nat_le b 102) t).1) e
  where
    go : (digit letter : Bool) → (digit ≡ true → b ≤ 57) → (letter ≡ true → b ≤ 102) → cond digit (Some (b - 48)) (cond letter (Some (b - 87)) None) ≡ Some n → n < 16
    go true letter low high e = let same : b - 48 ≡ n = cc in omega (arith, low refl)
    go false true low high e = let same : b - 87 ≡ n = cc in omega (arith, high refl)
    go false false low high e = absurd (cc)

pair_below : (high low : Option ℕ) (b : ℕ) → ((n : ℕ) → high ≡ Some n → n < 16) → ((n : ℕ) → low ≡ Some n → n < 16) → pair_of high low ≡ Some b → b < 256
pair_below None low b h l e = absurd (cc)
pair_below (Some high) None b h l e = absurd (cc)
pair_below (Some high) (Some low) b h l e = let same : 16 * high + low ≡ b = cc in omega (arith, h high refl, l low refl)

onto_bytes : (first : Option ℕ) (rest : Option (List ℕ)) (bytes : List ℕ) → ((b : ℕ) → first ≡ Some b → b < 256) → ((more : List ℕ) → rest ≡ Some more → AreBytes more) → onto first rest ≡ Some bytes → AreBytes bytes
onto_bytes None rest bytes f r e = absurd (cc)
onto_bytes (Some b) None bytes f r e = absurd (cc)
onto_bytes (Some b) (Some more) bytes f r e = let same : b ∷ more ≡ bytes = cc in rw (← same) (f b refl, r more refl)

pairs_fit : (text bytes : List ℕ) → pairs_of text ≡ Some bytes → AreBytes bytes
pairs_fit [] bytes e = let same : [] ≡ bytes = cc in rw (← same) tt
pairs_fit (a ∷ []) bytes e = absurd (cc)
pairs_fit (a ∷ b ∷ more) bytes e =
    onto_bytes (pair_of (nibble a) (nibble b)) (pairs_of more) bytes (λ n. pair_below (nibble a) (nibble b) n (nibble_below a) (nibble_below b)) (pairs_fit more) e

pub hex_fits : (text bytes : List ℕ) → hex_of text ≡ Some bytes → AreBytes bytes
unfolding hex_of
hex_fits text bytes e = go (bytes_eq text (codes "-")) e
  where
    go : (dash : Bool) → cond dash (Some []) (cond (length text == 0) None (pairs_of text)) ≡ Some bytes → AreBytes bytes
    go true e = let same : [] ≡ bytes = cc in rw (← same) tt
    go false e = pairs_fit text bytes (passed (length text == 0) (pairs_of text) bytes e).1

pub record IsPayload (bytes : List ℕ) : Type 0 where
  pub few : length bytes ≤ 65536
  pub are_bytes : AreBytes bytes

pub payload_fits : (text payload : List ℕ) → payload_of text ≡ Some payload → IsPayload payload
unfolding payload_of
payload_fits text payload e =
    option_and_then_some (λ bytes. cond (nat_le (length bytes) 65536) (Some bytes) None) (hex_of text) payload e
    (λ bytes read is.
    let test = picked (nat_le (length bytes) 65536) (Some bytes) payload is in
    let same : bytes ≡ payload = cc (test.1) in
    rw (← same) (record { few = leb-true (length bytes) 65536 test.0; are_bytes = hex_fits text bytes read }))

-- ids that were read, above the last one
record Rise (last room : ℕ) (parts : List (List ℕ)) (ids : List ℕ) : Type 0 where
  pub few : length ids ≤ room
  pub same : length ids ≡ length parts
  pub ascending : IsStrictlyIncreasing (last ∷ ids)
  pub each : All IsId ids

rise_none : (last room : ℕ) → Rise last room [] []
rise_none last room = record { few = omega arith; same = refl; ascending = λ k h. absurd (omega arith); each = λ k d h. absurd (omega arith) }

increasing_at : (last id : ℕ) (ids : List ℕ) → last < id → IsStrictlyIncreasing (id ∷ ids) → (k : ℕ) → k + 1 < length (last ∷ id ∷ ids) → slice_index (last ∷ id ∷ ids) k < slice_index (last ∷ id ∷ ids) (k + 1)
increasing_at last id ids h more zero l = h
increasing_at last id ids h more (suc k) l =
    let next : suc k + 1 ≡ suc (k + 1) = omega arith in
    rw next (more k (omega arith))

increasing_rest : (last : ℕ) (ids : List ℕ) → IsStrictlyIncreasing (last ∷ ids) → IsStrictlyIncreasing ids
increasing_rest last ids h = λ k l.
    let next : suc k + 1 ≡ suc (k + 1) = omega arith in
    rw next at (h (suc k) (omega arith))

rise_more : (last room id : ℕ) (text : List ℕ) (more : List (List ℕ)) (rest ids : List ℕ) → id ∷ rest ≡ ids → last < id → 0 < room → id ≤ 2 ^ 32 - 1 → Rise id (room - 1) more rest → Rise last room (text ∷ more) ids
rise_more last room id text more rest ids is above some below rise =
    rw (← is) (record {
      few = omega (arith, rise.few);
      same = ap suc rise.same;
      ascending = increasing_at last id rest above rise.ascending;
      each = All-cons IsId id rest (record { positive = omega arith; below = below }) rise.each;
    })

ids_rise : (last room : ℕ) (parts : List (List ℕ)) (ids : List ℕ) → ids_from last room parts ≡ Some ids → Rise last room parts ids
ids_rise last room [] ids e = let none : [] ≡ ids = cc in rw (← none) (rise_none last room)
ids_rise last room (text ∷ more) ids e =
    option_and_then_some (λ id. cond (nat_lt last id && nat_lt 0 room) (option_map (λ xs. id ∷ xs) (ids_from id (room - 1) more)) None) (number_of (2 ^ 32 - 1) text) ids e
    (λ id read is.
    let found = picked (nat_lt last id && nat_lt 0 room) (option_map (λ xs. id ∷ xs) (ids_from id (room - 1) more)) ids is in
    let rest = mapped (λ xs. id ∷ xs) (ids_from id (room - 1) more) ids found.1 in
    let tests = both (nat_lt last id) (nat_lt 0 room) found.0 in
    rise_more last room id text more rest.0 ids rest.2 (ltb-true last id tests.0) (ltb-true 0 room tests.1) (number_below (2 ^ 32 - 1) text id read) (ids_rise id (room - 1) more rest.0 rest.1))

pub ids_fit : (text ids : List ℕ) → ids_of text ≡ Some ids → AreIds ids
unfolding ids_of
ids_fit text ids e =
    let rise = ids_rise 0 31 (slice_split (λ b. b == 44) text) ids e in
    record { some = omega (arith, rise.same, length-slice_split (λ b. b == 44) text); few = rise.few; ascending = increasing_rest 0 ids rise.ascending; each = rise.each }

pub byzantine_fit : (text ids : List ℕ) → byzantine_of text ≡ Some ids → AreByzantine ids
unfolding byzantine_of
byzantine_fit text ids e =
    let found = ids_fit (drop 4 text) ids (picked (starts_with nat_eq text (codes "byz=")) (ids_of (drop 4 text)) ids e).1 in
    record { few = found.few; ascending = found.ascending; each = found.each }

pub given_ids_fit : (text : List ℕ) (only : Option (List ℕ)) → given_ids_of text ≡ Some only → IfSome only AreIds
given_ids_fit text only e =
    let found = mapped (λ ids. Some ids) (ids_of text) only e in
    rw (← found.2) (ids_fit text found.0 found.1)

in_order_fits : (first last : ℕ) (range : Range) → last ≤ 2 ^ 62 - 1 → in_order first last ≡ Some range → IsRange range
in_order_fits first last range h e =
    let test = picked (nat_le first last) (Some (record { first = first; last = last })) range e in
    let same : record { first = first; last = last } ≡ range = cc (test.1) in
    rw (← same) (record { in_order = leb-true first last test.0; below = h })

range_parts_fit : (parts : List (List ℕ)) (range : Range) → range_of_parts parts ≡ Some range → IsRange range
range_parts_fit [] range e = absurd (cc)
range_parts_fit (one ∷ []) range e =
    let found = mapped (λ n. record { first = n; last = n }) (entry_of one) range e in
    rw (← found.2) (record { in_order = omega arith; below = number_below (2 ^ 62 - 1) one found.0 found.1 })
range_parts_fit (first ∷ last ∷ []) range e =
    option_and_then_some (λ from. option_and_then (λ to. in_order from to) (entry_of last)) (entry_of first) range e
    (λ from read is. option_and_then_some (λ to. in_order from to) (entry_of last) range is
    (λ to ends made. in_order_fits from to range (number_below (2 ^ 62 - 1) last to ends) made))
range_parts_fit (first ∷ last ∷ other ∷ more) range e = absurd (cc)

pub range_fits : (text : List ℕ) (range : Range) → range_of text ≡ Some range → IsRange range
unfolding range_of
range_fits text range e = range_parts_fit (slice_split (λ b. b == 45) text) range e

-- ranges that were read
record Read (parts : List (List ℕ)) (ranges : List Range) : Type 0 where
  pub same : length ranges ≡ length parts
  pub each : All IsRange ranges

ranges_read : (parts : List (List ℕ)) (ranges : List Range) → ranges_from parts ≡ Some ranges → Read parts ranges
ranges_read [] ranges e = let none : [] ≡ ranges = cc in rw (← none) (record { same = refl; each = λ k d h. absurd (omega arith) })
ranges_read (text ∷ more) ranges e =
    option_and_then_some (λ range. option_map (λ rest. range ∷ rest) (ranges_from more)) (range_of text) ranges e
    (λ range read is.
    let rest = mapped (λ rest. range ∷ rest) (ranges_from more) ranges is in
    let found = ranges_read more rest.0 rest.1 in
    rw (← rest.2) (record { same = ap suc found.same; each = All-cons IsRange range rest.0 (range_fits text range read) found.each }))

pub ranges_fit : (text : List ℕ) (ranges : List Range) → ranges_of text ≡ Some ranges → AreRanges ranges
unfolding ranges_of
ranges_fit text ranges e =
    let found = ranges_read (slice_split (λ b. b == 44) text) ranges e in
    record { some = omega (arith, found.same, length-slice_split (λ b. b == 44) text); each = found.each }

pub ticks_fit : (text : List ℕ) (n : ℕ) → ticks_of text ≡ Some n → (1 ≤ n) × (n ≤ 10000)
ticks_fit text n e =
    let found = not_zero_fits (number_of 10000 text) n e in
    (found.1, number_below 10000 text n found.0)

pub device_call_fits : (text : List ℕ) (n : ℕ) → device_call_of text ≡ Some n → (1 ≤ n) × (n ≤ 1000000)
device_call_fits text n e =
    let found = not_zero_fits (number_of 1000000 text) n e in
    (found.1, number_below 1000000 text n found.0)

pub byte_fits : (text : List ℕ) (b : ℕ) → byte_of text ≡ Some b → b < 256
byte_fits [] b e = absurd (cc)
byte_fits (high ∷ []) b e = absurd (cc)
byte_fits (high ∷ low ∷ []) b e = pair_below (nibble high) (nibble low) b (nibble_below high) (nibble_below low) e
byte_fits (high ∷ low ∷ other ∷ more) b e = absurd (cc)

fill_fits : (text : List ℕ) (image : Image) → option_map (λ b. Fill b) (byte_of text) ≡ Some image → IsImage image
fill_fits text image e =
    let found = mapped (λ b. Fill b) (byte_of text) image e in
    rw (← found.2) (byte_fits text found.0 found.1)

pub image_fits : (text : List ℕ) (image : Image) → image_of text ≡ Some image → IsImage image
unfolding image_of
image_fits text image e = go (bytes_eq text (codes "keep")) (bytes_eq text (codes "drop")) (starts_with nat_eq text (codes "fill=")) e
  where
    go : (keep undo fill : Bool) → cond keep (Some Keep) (cond undo (Some Undo) (cond fill (option_map (λ b. Fill b) (byte_of (drop 5 text))) None)) ≡ Some image → IsImage image
    go true undo fill e = let same : Keep ≡ image = cc in rw (← same) tt
    go false true fill e = let same : Undo ≡ image = cc in rw (← same) tt
    go false false fill e = fill_fits (drop 5 text) image (picked fill (option_map (λ b. Fill b) (byte_of (drop 5 text))) image e).1
