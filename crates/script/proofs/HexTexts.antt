-- Bytes that are printed in hex are read, and what is read as bytes was printed.
use Rattle.std.proofs.Common.{codes, ◌≡◌, ℕ, ◌+◌, ◌-◌, ◌*◌, ◌/◌, ◌%◌, ◌<◌, ◌≤◌, List, [], ◌∷◌, length, cond, Bool, true, false, refl, ap, ◌∙◌, arith, Option, Some, None, ◌&&◌, nat_lt, nat_le, ◌==◌}
use Rattle.std.proofs.lemmas.Bool.{leb-true, ne_eqb}
use Rattle.std.proofs.lemmas.Bool.Decides.{nat_tests}
use Rattle.std.proofs.lemmas.Slice.Eq.{bytes_eq-Decides}
use Rattle.std.specs.Str.{bytes_eq}
use Rattle.script.specs.Fields.{is_digit, nibble, pair_of, onto, pairs_of, hex_of, payload_of}
use Rattle.script.specs.Commands.{AreBytes}
use Rattle.script.specs.Printed.{hex_digit, hex_pairs, hex_text}
use Rattle.script.proofs.FieldFits.{passed, both}
use Rattle.script.proofs.NumberTexts.{IsPlain}

nibble_prints : (n : ℕ) → n < 16 → nibble (hex_digit n) ≡ Some n
nibble_prints n h = go (nat_lt n 10) refl
  where
    go : (low : Bool) → nat_lt n 10 ≡ low → nibble (cond low (48 + n) (87 + n)) ≡ Some n
    go true e =
        let from : nat_le 48 (48 + n) ≡ true = grind (arith, nat_tests) in
        let to : nat_le (48 + n) 57 ≡ true = grind (arith, nat_tests) in
        let is : 48 + n - 48 ≡ n = omega arith in
        rw (from, to, is) refl
    go false e =
        let digit : nat_le (87 + n) 57 ≡ false = grind (arith, nat_tests) in
        let low : nat_le 48 (87 + n) ≡ true = grind (arith, nat_tests) in
        let from : nat_le 97 (87 + n) ≡ true = grind (arith, nat_tests) in
        let to : nat_le (87 + n) 102 ≡ true = grind (arith, nat_tests) in
        let is : 87 + n - 87 ≡ n = omega arith in
        rw (low, digit, from, to, is) refl

pub pair_prints : (b : ℕ) → b < 256 → pair_of (nibble (hex_digit (b / 16))) (nibble (hex_digit (b % 16))) ≡ Some b
pair_prints b h =
    let is : 16 * (b / 16) + b % 16 ≡ b = omega arith in
    rw (nibble_prints (b / 16) (omega arith), nibble_prints (b % 16) (omega arith), is) refl

pairs_print : (bytes : List ℕ) → AreBytes bytes → pairs_of (hex_pairs bytes) ≡ Some bytes
pairs_print [] h = refl
pairs_print (b ∷ more) h = rw (pair_prints b h.0, pairs_print more h.1) refl

digit_is_no : (n b : ℕ) → b < 48 → (hex_digit n == b) ≡ false
digit_is_no n b h = go (nat_lt n 10)
  where
    go : (low : Bool) → (cond low (48 + n) (87 + n) == b) ≡ false
    go true = ne_eqb (48 + n) b (λ is. omega arith)
    go false = ne_eqb (87 + n) b (λ is. omega arith)

read_pairs : (text : List ℕ) → bytes_eq text (codes "-") ≡ false → (length text == 0) ≡ false → hex_of text ≡ pairs_of text
unfolding hex_of
read_pairs text dash some = rw (dash, some) refl

pub hex_prints : (bytes : List ℕ) → AreBytes bytes → hex_of (hex_text bytes) ≡ Some bytes
unfolding hex_of
hex_prints [] h = refl
hex_prints (b ∷ more) h =
    let dash : bytes_eq (hex_text (b ∷ more)) (codes "-") ≡ false = rw (digit_is_no (b / 16) 45 (omega arith)) refl in
    let some : (length (hex_text (b ∷ more)) == 0) ≡ false = ne_eqb (length (hex_text (b ∷ more))) 0 (λ is. absurd (omega arith)) in
    read_pairs (hex_text (b ∷ more)) dash some ∙ pairs_print (b ∷ more) h

pub payload_prints : (bytes : List ℕ) → AreBytes bytes → length bytes ≤ 65536 → payload_of (hex_text bytes) ≡ Some bytes
unfolding payload_of
payload_prints bytes h few =
    let fits : nat_le (length bytes) 65536 ≡ true = grind (arith, nat_tests) in
    rw (hex_prints bytes h, fits) refl

pub pairs_plain : (separator : ℕ) (bytes : List ℕ) → separator < 48 → IsPlain separator (hex_pairs bytes)
pairs_plain separator [] h = tt
pairs_plain separator (b ∷ more) h = (digit_is_no (b / 16) separator h, (digit_is_no (b % 16) separator h, pairs_plain separator more h))

-- no blank
pub hex_plain : (bytes : List ℕ) → IsPlain 32 (hex_text bytes)
hex_plain [] = (refl, tt)
hex_plain (b ∷ more) = pairs_plain 32 (b ∷ more) (omega arith)

-- a hex digit that was read
record WasDigit (b n : ℕ) : Type 0 where
  pub below : n < 16
  pub spelled : b ≡ hex_digit n

nibble_was : (b n : ℕ) → nibble b ≡ Some n → WasDigit b n
nibble_was b n e = go (is_digit b) (nat_le 97 b && nat_le b 102) (both (nat_le 48 b) (nat_le b 57)) (both (nat_le 97 b) (nat_le b 102)) e
  where
    go : (digit letter : Bool) → (digit ≡ true → (nat_le 48 b ≡ true) × (nat_le b 57 ≡ true)) → (letter ≡ true → (nat_le 97 b ≡ true) × (nat_le b 102 ≡ true))
        → cond digit (Some (b - 48)) (cond letter (Some (b - 87)) None) ≡ Some n → WasDigit b n
    go true letter low high e =
        let same : b - 48 ≡ n = cc in
        let from = leb-true 48 b (low refl).0 in
        let to = leb-true b 57 (low refl).1 in
        let small : nat_lt n 10 ≡ true = grind (arith, nat_tests) in
        record { below = omega arith; spelled = rw small (omega arith) }
    go false true low high e =
        let same : b - 87 ≡ n = cc in
        let from = leb-true 97 b (high refl).0 in
        let to = leb-true b 102 (high refl).1 in
        let large : nat_lt n 10 ≡ false = grind (arith, nat_tests) in
        record { below = omega arith; spelled = rw large (omega arith) }
    go false false low high e = absurd (cc)

-- two hex digits that were read
pub record WerePair (a b byte : ℕ) : Type 0 where
  pub high : a ≡ hex_digit (byte / 16)
  pub low : b ≡ hex_digit (byte % 16)

pub pair_was : (a b byte : ℕ) → pair_of (nibble a) (nibble b) ≡ Some byte → WerePair a b byte
pair_was a b byte e = go (nibble a) (nibble b) (nibble_was a) (nibble_was b) e
  where
    go : (high low : Option ℕ) → ((n : ℕ) → high ≡ Some n → WasDigit a n) → ((n : ℕ) → low ≡ Some n → WasDigit b n) → pair_of high low ≡ Some byte → WerePair a b byte
    go None low h l e = absurd (cc)
    go (Some high) None h l e = absurd (cc)
    go (Some high) (Some low) h l e =
        let same : 16 * high + low ≡ byte = cc in
        let first = h high refl in
        let second = l low refl in
        let upper : byte / 16 ≡ high = omega (arith, first.below, second.below) in
        let lower : byte % 16 ≡ low = omega (arith, first.below, second.below) in
        record { high = rw upper first.spelled; low = rw lower second.spelled }

pairs_were : (text bytes : List ℕ) → pairs_of text ≡ Some bytes → text ≡ hex_pairs bytes
pairs_were [] bytes e = let same : [] ≡ bytes = cc in rw (← same) refl
pairs_were (a ∷ []) bytes e = absurd (cc)
pairs_were (a ∷ b ∷ more) bytes e = go (pair_of (nibble a) (nibble b)) (pairs_of more) (pair_was a b) (pairs_were more) e
  where
    go : (pair : Option ℕ) (rest : Option (List ℕ)) → ((byte : ℕ) → pair ≡ Some byte → WerePair a b byte) → ((left : List ℕ) → rest ≡ Some left → more ≡ hex_pairs left)
        → onto pair rest ≡ Some bytes → a ∷ b ∷ more ≡ hex_pairs bytes
    go None rest p r e = absurd (cc)
    go (Some byte) None p r e = absurd (cc)
    go (Some byte) (Some left) p r e =
        let same : byte ∷ left ≡ bytes = cc in
        let pair = p byte refl in
        let others = r left refl in
        rw (← same, ← pair.high, ← pair.low, ← others) refl

-- pairs of one byte or more are no dash
pairs_text : (text bytes : List ℕ) → (length text == 0) ≡ false → text ≡ hex_pairs bytes → text ≡ hex_text bytes
pairs_text text [] some e = let none : length text ≡ 0 = ap (λ (t : List ℕ). length t) e in absurd (let no : (length text == 0) ≡ true = grind (arith, nat_tests) in cc (no, some))
pairs_text text (b ∷ more) some e = e

pub hex_was : (text bytes : List ℕ) → hex_of text ≡ Some bytes → text ≡ hex_text bytes
unfolding hex_of
hex_was text bytes e = go (bytes_eq text (codes "-")) (bytes_eq-Decides text (codes "-")).0 e
  where
    go : (dash : Bool) → (dash ≡ true → text ≡ codes "-") → cond dash (Some []) (cond (length text == 0) None (pairs_of text)) ≡ Some bytes → text ≡ hex_text bytes
    go true is e = let same : [] ≡ bytes = cc in rw (← same) (is refl)
    go false is e = let test = passed (length text == 0) (pairs_of text) bytes e in pairs_text text bytes test.0 (pairs_were text bytes test.1)
