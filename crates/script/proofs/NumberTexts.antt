-- A decimal number that is printed is read, and what is read as one was printed.
use Rattle.std.proofs.Common.{◌≡◌, ℕ, zero, suc, ◌+◌, ◌-◌, ◌*◌, ◌^◌, ◌<◌, ◌≤◌, List, [], ◌∷◌, ◌++◌, length, get_or, Bool, true, false, refl, sym, ap, ◌∙◌, arith, rules, Option, Some, None, ◌&&◌, nat_le, ◌==◌}
use Rattle.std.proofs.lemmas.Bool.{ne_eqb, eq-eqb}
use Rattle.std.proofs.lemmas.List.Elements.{All-from_recursion}
use Rattle.std.proofs.lemmas.List.Splits.{slice_split_at, slice_split_none}
use Rattle.std.specs.List.{AllByRecursion, join_with_byte, slice_split}
use Rattle.std.proofs.lemmas.Bool.Decides.{nat_tests}
use Rattle.std.proofs.lemmas.Str.Parse.{IsNumeralModel, numerals_by_fold}
use Rattle.std.proofs.lemmas.Fmt.{digits_decimal, digits_value-decimal, decimal-digits_value, decimal_nonempty, first_decimal, decimal_digit}
use Rattle.std.specs.Fmt.{decimal}
use Rattle.script.specs.Fields.{digits_from, is_digit, number_of, not_zero}
use Rattle.script.proofs.FieldFits.{picked, passed, both, number_below}

abbrev are_digits : List ℕ → Bool
are_digits [] = true
are_digits (b ∷ more) = is_digit b && are_digits more

abbrev value_on : ℕ → List ℕ → ℕ
value_on n [] = n
value_on n (b ∷ more) = value_on (10 * n + (b - 48)) more

own : IsNumeralModel (λ text. are_digits text ≡ true) (value_on 0)
own = numerals_by_fold _ (search rules) value_on (search rules)

value_grows : (n : ℕ) (text : List ℕ) → n ≤ value_on n text
value_grows n [] = omega arith
value_grows n (b ∷ more) = omega (arith, value_grows (10 * n + (b - 48)) more)

digits_read : (most n : ℕ) (text : List ℕ) → are_digits text ≡ true → value_on n text ≤ most → digits_from most n text ≡ Some (value_on n text)
digits_read most n [] d h = refl
digits_read most n (b ∷ more) d h =
    let tests = both (is_digit b) (are_digits more) d in
    let within : nat_le (10 * n + (b - 48)) most ≡ true = grind (arith, nat_tests, value_grows (10 * n + (b - 48)) more) in
    rw (tests.0, within) (digits_read most (10 * n + (b - 48)) more tests.1 h)

-- digits that were read
record WereRead (n m : ℕ) (text : List ℕ) : Type 0 where
  pub digits : are_digits text ≡ true
  pub value : value_on n text ≡ m

digits_were : (most n m : ℕ) (text : List ℕ) → digits_from most n text ≡ Some m → WereRead n m text
digits_were most n m [] e = record { digits = refl; value = cc }
digits_were most n m (b ∷ more) e =
    let test = picked (is_digit b && nat_le (10 * n + (b - 48)) most) (digits_from most (10 * n + (b - 48)) more) m e in
    let rest = digits_were most (10 * n + (b - 48)) m more test.1 in
    record { digits = rw ((both (is_digit b) (nat_le (10 * n + (b - 48)) most) test.0).0) rest.digits; value = rest.value }

number_read : (most : ℕ) (text : List ℕ) → are_digits text ≡ true → 0 < length text → (get_or text 0 0 ≡ 48 → length text ≡ 1) → value_on 0 text ≤ most
    → number_of most text ≡ Some (value_on 0 text)
unfolding number_of
number_read most [] d some lead h = absurd (omega arith)
number_read most (b ∷ []) d some lead h = digits_read most 0 (b ∷ []) d h
number_read most (b ∷ c ∷ more) d some lead h =
    let high : (b == 48) ≡ false = ne_eqb b 48 (λ is. let one : length (b ∷ c ∷ more) ≡ 1 = lead is in absurd (omega arith)) in
    rw high (digits_read most 0 (b ∷ c ∷ more) d h)

no_leading_zero : (n : ℕ) → n < 2 ^ 64 → get_or (decimal n) 0 0 ≡ 48 → length (decimal n) ≡ 1
no_leading_zero zero h e = ap (λ (text : List ℕ). length text) (decimal_digit 0 (omega arith))
no_leading_zero (suc n) h e = absurd (omega (arith, first_decimal (suc n) (omega arith) h))

pub number_prints : (most n : ℕ) → n ≤ most → n < 2 ^ 64 → number_of most (decimal n) ≡ Some n
number_prints most n below h =
    let value : value_on 0 (decimal n) ≡ n = digits_value-decimal own n h in
    number_read most (decimal n) (digits_decimal own n h) (decimal_nonempty n h) (no_leading_zero n h) (omega arith) ∙ ap (λ (m : ℕ). Some m) value

was_decimal : (text : List ℕ) (n : ℕ) → WereRead 0 n text → 0 < length text → (get_or text 0 0 ≡ 48 → length text ≡ 1) → n < 2 ^ 64 → text ≡ decimal n
was_decimal text n were some lead h =
    sym (decimal-digits_value own text were.digits some lead (rw were.value h)) ∙ ap (λ (m : ℕ). decimal m) were.value

-- what is read as a number was printed
pub number_was : (most : ℕ) (text : List ℕ) (n : ℕ) → most < 2 ^ 64 → number_of most text ≡ Some n → text ≡ decimal n
unfolding number_of
number_was most text n h e = go text e (number_below most text n e)
  where
    go : (text : List ℕ) → number_of most text ≡ Some n → n ≤ most → text ≡ decimal n
    go [] e below = absurd (cc)
    go (b ∷ []) e below = was_decimal (b ∷ []) n (digits_were most 0 n (b ∷ []) e) (omega arith) (λ _. refl) (omega arith)
    go (b ∷ c ∷ more) e below =
        let test = passed (b == 48) (digits_from most 0 (b ∷ c ∷ more)) n e in
        was_decimal (b ∷ c ∷ more) n (digits_were most 0 n (b ∷ c ∷ more) test.1) (omega arith)
        (λ is. let no : (b == 48) ≡ true = grind (arith, nat_tests) in absurd (cc (no, test.0))) (omega arith)

pub not_zero_prints : (found : Option ℕ) (n : ℕ) → found ≡ Some n → 1 ≤ n → not_zero found ≡ Some n
not_zero_prints None n e h = absurd (cc)
not_zero_prints (Some m) n e h =
    let same : m ≡ n = cc in
    let some : (m == 0) ≡ false = ne_eqb m 0 (λ is. absurd (omega arith)) in
    rw some e

-- no byte is the separator
abbrev pub IsPlain : ℕ → List ℕ → Type 0
IsPlain separator text = AllByRecursion (λ b. (b == separator) ≡ false) text

digits_plain : (separator : ℕ) → is_digit separator ≡ false → (text : List ℕ) → are_digits text ≡ true → IsPlain separator text
digits_plain separator other [] d = tt
digits_plain separator other (b ∷ more) d =
    let tests = both (is_digit b) (are_digits more) d in
    (ne_eqb b separator (λ is. let digit : is_digit separator ≡ true = rw is at tests.0 in absurd (cc (digit, other))), digits_plain separator other more tests.1)

pub decimal_plain : (separator n : ℕ) → is_digit separator ≡ false → n < 2 ^ 64 → IsPlain separator (decimal n)
decimal_plain separator n other h = digits_plain separator other (decimal n) (digits_decimal own n h)

pub append_plain : (separator : ℕ) (front rest : List ℕ) → IsPlain separator front → IsPlain separator rest → IsPlain separator (front ++ rest)
append_plain separator [] rest p q = q
append_plain separator (b ∷ front) rest p q = (p.0, append_plain separator front rest p.1 q)

pub join_plain : (separator other : ℕ) (parts : List (List ℕ)) → (other == separator) ≡ false → AllByRecursion (IsPlain separator) parts → IsPlain separator (join_with_byte other parts)
join_plain separator other [] apart plain = tt
join_plain separator other (part ∷ []) apart plain = plain.0
join_plain separator other (part ∷ next ∷ parts) apart plain =
    append_plain separator part (other ∷ join_with_byte other (next ∷ parts)) plain.0 (apart, join_plain separator other (next ∷ parts) apart plain.1)

-- plain parts that are joined and cut again
pub split_joined : (separator : ℕ) (part : List ℕ) (parts : List (List ℕ)) → AllByRecursion (IsPlain separator) (part ∷ parts)
    → slice_split (λ b. b == separator) (join_with_byte separator (part ∷ parts)) ≡ part ∷ parts
split_joined separator part [] plain = slice_split_none (λ b. b == separator) part (All-from_recursion (λ b. (b == separator) ≡ false) part plain.0)
split_joined separator part (next ∷ parts) plain =
    slice_split_at (λ b. b == separator) part separator (join_with_byte separator (next ∷ parts)) (All-from_recursion (λ b. (b == separator) ≡ false) part plain.0) (eq-eqb separator separator refl)
    ∙ ap (λ (more : List (List ℕ)). part ∷ more) (split_joined separator next parts plain.1)
