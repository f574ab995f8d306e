-- Ids and ranges that are printed are read, and what is read as such was printed.
use Rattle.std.proofs.Common.{◌≡◌, ℕ, ◌+◌, ◌-◌, ◌^◌, ◌<◌, ◌≤◌, inl, inr, List, [], ◌∷◌, ◌++◌, length, map, cond, true, false, refl, sym, ap, ◌∙◌, arith, Some, None, ◌&&◌, option_map, option_and_then, nat_lt, nat_le, ◌==◌}
use Rattle.std.proofs.lemmas.Bool.{eq-eqb}
use Rattle.std.proofs.lemmas.Bool.Decides.{nat_tests}
use Rattle.std.proofs.lemmas.Option.{option_and_then_some}
use Rattle.std.proofs.lemmas.List.Elements.{All-from_recursion, recursion_from_All}
use Rattle.std.proofs.lemmas.List.Splits.{slice_split_at, slice_split_none, join_with_byte-slice_split}
use Rattle.std.specs.List.{AllByRecursion, AllZip, join_with_byte, slice_split}
use Rattle.std.specs.Fmt.{decimal}
use Rattle.ord_types.specs.Grammar.{Ascend}
use Rattle.script.specs.declared.command.Range.{Range}
use Rattle.script.specs.Fields.{is_digit, number_of, ids_from, ids_of, entry_of, in_order, range_of_parts, range_of, ranges_from, ranges_of}
use Rattle.script.specs.Commands.{IsId, AreIds, IsRange, AreRanges}
use Rattle.script.specs.Printed.{ids_text, first_last_text}
use Rattle.script.specs.Forms.{SpellsRange}
use Rattle.script.proofs.FieldFits.{picked, both, mapped}
use Rattle.script.proofs.IdLemmas.{ids_spelled}
use Rattle.script.proofs.NumberTexts.{number_prints, number_was, IsPlain, decimal_plain, append_plain, join_plain, split_joined}

ids_read : (last room : ℕ) (ids : List ℕ) → Ascend (last + 1) ids → AllByRecursion IsId ids → length ids ≤ room → ids_from last room (map decimal ids) ≡ Some ids
ids_read last room [] up each few = refl
ids_read last room (id ∷ more) up each few =
    let above : nat_lt last id ≡ true = (let from : last + 1 ≤ id = up.0 in grind (arith, nat_tests)) in
    let left : nat_lt 0 room ≡ true = grind (arith, nat_tests) in
    let below : id ≤ 2 ^ 32 - 1 = each.0.below in
    let number : number_of (2 ^ 32 - 1) (decimal id) ≡ Some id = number_prints (2 ^ 32 - 1) id below (omega arith) in
    rw (number, above, left, ids_read id (room - 1) more up.1 each.1 (omega arith)) refl

decimals_plain : (separator : ℕ) → ((n : ℕ) → n < 2 ^ 64 → IsPlain separator (decimal n)) → (ids : List ℕ) → AllByRecursion IsId ids → AllByRecursion (IsPlain separator) (map decimal ids)
decimals_plain separator plain [] each = tt
decimals_plain separator plain (id ∷ more) each = ((let below : id ≤ 2 ^ 32 - 1 = each.0.below in plain id (omega arith)), decimals_plain separator plain more each.1)

pub ids_print : (ids : List ℕ) → AreIds ids → ids_of (ids_text ids) ≡ Some ids
unfolding ids_of
ids_print [] are = absurd (let some = are.some in omega arith)
ids_print (id ∷ more) are =
    let each = recursion_from_All IsId (id ∷ more) are.each in
    let spelled = ids_spelled (id ∷ more) are in
    let cut = split_joined 44 (decimal id) (map decimal more) (decimals_plain 44 (λ n. decimal_plain 44 n refl) (id ∷ more) each) in
    rw cut (ids_read 0 31 (id ∷ more) spelled.ascending each are.few)

pub ids_plain_of : (separator : ℕ) → is_digit separator ≡ false → (44 == separator) ≡ false → (ids : List ℕ) → AreIds ids → IsPlain separator (ids_text ids)
ids_plain_of separator other apart ids are =
    join_plain separator 44 (map decimal ids) apart (decimals_plain separator (λ n. decimal_plain separator n other) ids (recursion_from_All IsId ids are.each))

-- no blank
pub ids_plain : (ids : List ℕ) → AreIds ids → IsPlain 32 (ids_text ids)
ids_plain ids are = ids_plain_of 32 refl refl ids are

ids_cons : (text : List ℕ) (id : ℕ) (more : List (List ℕ)) (rest ids : List ℕ) → id ∷ rest ≡ ids → text ≡ decimal id → more ≡ map decimal rest → text ∷ more ≡ map decimal ids
ids_cons text id more rest ids is first others = rw (← is, first, others) refl

ids_were : (last room : ℕ) (parts : List (List ℕ)) (ids : List ℕ) → ids_from last room parts ≡ Some ids → parts ≡ map decimal ids
ids_were last room [] ids e = let none : [] ≡ ids = cc in rw (← none) refl
ids_were last room (text ∷ more) ids e =
    option_and_then_some (λ id. cond (nat_lt last id && nat_lt 0 room) (option_map (λ xs. id ∷ xs) (ids_from id (room - 1) more)) None) (number_of (2 ^ 32 - 1) text) ids e
    (λ id read is.
    let found = picked (nat_lt last id && nat_lt 0 room) (option_map (λ xs. id ∷ xs) (ids_from id (room - 1) more)) ids is in
    let rest = mapped (λ xs. id ∷ xs) (ids_from id (room - 1) more) ids found.1 in
    let others : more ≡ map decimal rest.0 = ids_were id (room - 1) more rest.0 rest.1 in
    let first : text ≡ decimal id = number_was (2 ^ 32 - 1) text id (omega arith) read in
    ids_cons text id more rest.0 ids rest.2 first others)

pub ids_was : (text ids : List ℕ) → ids_of text ≡ Some ids → text ≡ ids_text ids
unfolding ids_of
ids_was text ids e = sym (join_with_byte-slice_split 44 text) ∙ ap (λ (parts : List (List ℕ)). join_with_byte 44 parts) (ids_were 0 31 (slice_split (λ b. b == 44) text) ids e)

-- the number of an entry, read
entry_reads : (n : ℕ) → n ≤ 2 ^ 62 - 1 → entry_of (decimal n) ≡ Some n
entry_reads n h = number_prints (2 ^ 62 - 1) n h (omega arith)

two_parts : (first last : ℕ) → first < 2 ^ 64 → last < 2 ^ 64 → slice_split (λ b. b == 45) (decimal first ++ 45 ∷ decimal last) ≡ decimal first ∷ decimal last ∷ []
two_parts first last f l =
    slice_split_at (λ b. b == 45) (decimal first) 45 (decimal last) (All-from_recursion (λ b. (b == 45) ≡ false) (decimal first) (decimal_plain 45 first refl f)) (eq-eqb 45 45 refl)
    ∙ ap (λ (more : List (List ℕ)). decimal first ∷ more) (slice_split_none (λ b. b == 45) (decimal last) (All-from_recursion (λ b. (b == 45) ≡ false) (decimal last) (decimal_plain 45 last refl l)))

one_part : (n : ℕ) → n < 2 ^ 64 → slice_split (λ b. b == 45) (decimal n) ≡ decimal n ∷ []
one_part n h = slice_split_none (λ b. b == 45) (decimal n) (All-from_recursion (λ b. (b == 45) ≡ false) (decimal n) (decimal_plain 45 n refl h))

first_last_reads : (range : Range) → IsRange range → range_of (first_last_text range) ≡ Some range
unfolding range_of
first_last_reads range is =
    let up : range.first ≤ range.last = is.in_order in
    let below : range.last ≤ 2 ^ 62 - 1 = is.below in
    let order : nat_le range.first range.last ≡ true = grind (arith, nat_tests) in
    rw (two_parts range.first range.last (omega arith) (omega arith), entry_reads range.first (omega arith), entry_reads range.last below, order) refl

one_reads : (range : Range) → IsRange range → range.first ≡ range.last → range_of (decimal range.first) ≡ Some range
unfolding range_of
one_reads range is same =
    let below : range.last ≤ 2 ^ 62 - 1 = is.below in
    rw (one_part range.first (omega arith), entry_reads range.first (omega arith)) (ap (λ (n : ℕ). Some (record { first = range.first; last = n })) same)

pub range_reads : (range : Range) (text : List ℕ) → IsRange range → SpellsRange range text → range_of text ≡ Some range
range_reads range text is (inl both) = rw both (first_last_reads range is)
range_reads range text is (inr one) = rw one.1 (one_reads range is one.0)

range_plain : (separator : ℕ) → (45 == separator) ≡ false → ((n : ℕ) → n < 2 ^ 64 → IsPlain separator (decimal n)) → (range : Range) (text : List ℕ) → IsRange range → SpellsRange range text → IsPlain separator text
range_plain separator apart plain range text is (inl both) =
    let up : range.first ≤ range.last = is.in_order in
    let below : range.last ≤ 2 ^ 62 - 1 = is.below in
    rw both (append_plain separator (decimal range.first) (45 ∷ decimal range.last) (plain range.first (omega arith)) (apart, plain range.last (omega arith)))
range_plain separator apart plain range text is (inr one) =
    let below : range.last ≤ 2 ^ 62 - 1 = is.below in
    let same : range.first ≡ range.last = one.0 in
    rw one.1 (plain range.first (omega arith))

pub parts_plain : (separator : ℕ) → (45 == separator) ≡ false → ((n : ℕ) → n < 2 ^ 64 → IsPlain separator (decimal n)) → (ranges : List Range) (parts : List (List ℕ)) → AllByRecursion IsRange ranges
    → AllZip SpellsRange ranges parts → AllByRecursion (IsPlain separator) parts
parts_plain separator apart plain [] [] are each = tt
parts_plain separator apart plain [] (text ∷ parts) are each = absurd each
parts_plain separator apart plain (range ∷ ranges) [] are each = absurd each
parts_plain separator apart plain (range ∷ ranges) (text ∷ parts) are each =
    (range_plain separator apart plain range text are.0 each.0, parts_plain separator apart plain ranges parts are.1 each.1)

parts_read : (ranges : List Range) (parts : List (List ℕ)) → AllByRecursion IsRange ranges → AllZip SpellsRange ranges parts → ranges_from parts ≡ Some ranges
parts_read [] [] are each = refl
parts_read [] (text ∷ parts) are each = absurd each
parts_read (range ∷ ranges) [] are each = absurd each
parts_read (range ∷ ranges) (text ∷ parts) are each = rw (range_reads range text are.0 each.0, parts_read ranges parts are.1 each.1) refl

pub ranges_print : (ranges : List Range) (parts : List (List ℕ)) → AreRanges ranges → AllZip SpellsRange ranges parts → ranges_of (join_with_byte 44 parts) ≡ Some ranges
unfolding ranges_of
ranges_print [] parts are each = absurd (let some = are.some in omega arith)
ranges_print (range ∷ ranges) [] are each = absurd each
ranges_print (range ∷ ranges) (text ∷ parts) are each =
    let all = recursion_from_All IsRange (range ∷ ranges) are.each in
    let cut = split_joined 44 text parts (parts_plain 44 refl (λ n. decimal_plain 44 n refl) (range ∷ ranges) (text ∷ parts) all each) in
    rw cut (parts_read (range ∷ ranges) (text ∷ parts) all each)

-- no blank
pub ranges_plain : (ranges : List Range) (parts : List (List ℕ)) → AreRanges ranges → AllZip SpellsRange ranges parts → IsPlain 32 (join_with_byte 44 parts)
ranges_plain ranges parts are each =
    join_plain 32 44 parts refl (parts_plain 32 refl (λ n. decimal_plain 32 n refl) ranges parts (recursion_from_All IsRange ranges are.each) each)

entry_was : (text : List ℕ) (n : ℕ) → entry_of text ≡ Some n → text ≡ decimal n
entry_was text n e = number_was (2 ^ 62 - 1) text n (omega arith) e

in_order_was : (first last : ℕ) (range : Range) → in_order first last ≡ Some range → (first ≡ range.first) × (last ≡ range.last)
in_order_was first last range e =
    let test = picked (nat_le first last) (Some (record { first = first; last = last })) range e in
    let same : record { first = first; last = last } ≡ range = cc (test.1) in
    (ap (λ (r : Range). r.first) same, ap (λ (r : Range). r.last) same)

range_were : (text : List ℕ) (parts : List (List ℕ)) (range : Range) → text ≡ join_with_byte 45 parts → range_of_parts parts ≡ Some range → SpellsRange range text
range_were text [] range is e = absurd (cc)
range_were text (one ∷ []) range is e =
    let found = mapped (λ n. record { first = n; last = n }) (entry_of one) range e in
    let first : found.0 ≡ range.first = ap (λ (r : Range). r.first) found.2 in
    let last : found.0 ≡ range.last = ap (λ (r : Range). r.last) found.2 in
    inr (sym first ∙ last, is ∙ entry_was one found.0 found.1 ∙ ap (λ (n : ℕ). decimal n) first)
range_were text (first ∷ last ∷ []) range is e =
    option_and_then_some (λ from. option_and_then (λ to. in_order from to) (entry_of last)) (entry_of first) range e
    (λ from read made. option_and_then_some (λ to. in_order from to) (entry_of last) range made
    (λ to ends order.
    let same = in_order_was from to range order in
    inl (is ∙ rw (entry_was first from read, entry_was last to ends, same.0, same.1) refl)))
range_were text (first ∷ last ∷ other ∷ more) range is e = absurd (cc)

range_was : (text : List ℕ) (range : Range) → range_of text ≡ Some range → SpellsRange range text
unfolding range_of
range_was text range e = range_were text (slice_split (λ b. b == 45) text) range (sym (join_with_byte-slice_split 45 text)) e

parts_were : (parts : List (List ℕ)) (ranges : List Range) → ranges_from parts ≡ Some ranges → AllZip SpellsRange ranges parts
parts_were [] ranges e = let none : [] ≡ ranges = cc in rw (← none) tt
parts_were (text ∷ more) ranges e =
    option_and_then_some (λ range. option_map (λ rest. range ∷ rest) (ranges_from more)) (range_of text) ranges e
    (λ range read is.
    let rest = mapped (λ rest. range ∷ rest) (ranges_from more) ranges is in
    rw (← rest.2) (range_was text range read, parts_were more rest.0 rest.1))

pub ranges_was : (text : List ℕ) (ranges : List Range) → ranges_of text ≡ Some ranges → AllZip SpellsRange ranges (slice_split (λ b. b == 44) text)
unfolding ranges_of
ranges_was text ranges e = parts_were (slice_split (λ b. b == 44) text) ranges e
