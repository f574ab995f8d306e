-- The fold, one record after another.
use Rattle.std.proofs.Common.{◌≡◌, inl, inr, ℕ, suc, ◌+◌, ◌-◌, ◌<◌, ◌≤◌, true, false, List, [], ◌∷◌, ◌++◌, length, get_or, take, Option, Some, None, filter_map, option_map, refl, sym, ◌∙◌, ap, arith, append_assoc}
use Rattle.std.specs.Prelude.{nat_le, max}
use Rattle.std.specs.List.{last_or}
use Rattle.std.proofs.lemmas.Bool.Decides.{leb_tells}
use Rattle.std.proofs.lemmas.List.{append-nil, take_more}
use Rattle.std.proofs.lemmas.List.Elements.{filter_map-append}
use Rattle.bft_wal.specs.Fold.{Acceptance, acceptance_in, added, bound_in, entered_view, extended, greatest, in_front, later, later_than, left_view, newest_vote, newest_votes, view_voted, counted, preparation_in, raised, replaced, tail_in, tally_of, vote_in}
use Rattle.ord_types.specs.declared.values.Vote.{Vote}
use Rattle.bft_wal.specs.Opening.{records_in}
use Rattle.bft_wal.specs.Reading.{record_in}
use Rattle.bft_wal.specs.Records.{WalRecord}

-- the newest so far and the newest of those behind it
abbrev pub over : {X : Type 0} → (X → ℕ) → Option X → Option X → Option X
over view None rest = rest
over view (Some best) rest = later view best rest

le : {X : Type 0} (view : X → ℕ) (x y : X) → view x ≤ view y → nat_le (view x) (view y) ≡ true
le view x y h = elim (leb_tells (view x) (view y)) [ inl a ↦ a.0 | inr b ↦ absurd (omega (arith, h, b.1)) ]

gt : {X : Type 0} (view : X → ℕ) (x y : X) → view y < view x → nat_le (view x) (view y) ≡ false
gt view x y h = elim (leb_tells (view x) (view y)) [ inl a ↦ absurd (omega (arith, h, a.1)) | inr b ↦ b.0 ]

pub over_next : {X : Type 0} (view : X → ℕ) (best : Option X) (x : X) (rest : Option X) → over view best (later view x rest) ≡ over view (Some (later_than view best x)) rest
over_next view None x rest = refl
over_next view (Some b) x None = elim (leb_tells (view b) (view x)) [
  | inl a ↦ rw a.0 refl
  | inr a ↦ rw a.0 refl
]
over_next view (Some b) x (Some y) = elim (leb_tells (view b) (view x)) [
  | inl a ↦ elim (leb_tells (view x) (view y)) [
    | inl c ↦ rw (a.0, c.0, le view b y (omega (arith, a.1, c.1))) refl
    | inr c ↦ rw (a.0, c.0, a.0) refl
  ]
  | inr a ↦ elim (leb_tells (view x) (view y)) [
    | inl c ↦ rw (a.0, c.0) refl
    | inr c ↦ rw (a.0, c.0, gt view b y (omega (arith, a.1, c.1)), a.0) refl
  ]
]

-- GREATEST AND LAST, WITH ONE MORE

greatest_more : (ns : List ℕ) (o : Option ℕ) → greatest (ns ++ extended [] o) ≡ raised (greatest ns) o
greatest_more [] None = refl
greatest_more [] (Some n) = omega arith
greatest_more (m ∷ ns) None = ap (λ k. max m k) (greatest_more ns None)
greatest_more (m ∷ ns) (Some n) = omega (arith, greatest_more ns (Some n))

last_more : {X : Type 0} (first : Option X) (xs : List X) (o : Option X) → last_or first (xs ++ extended [] o) ≡ replaced (last_or first xs) o
last_more first [] None = refl
last_more first [] (Some x) = refl
last_more first (y ∷ xs) o = last_more (Some y) xs o

extended_is : {X : Type 0} (xs : List X) (o : Option X) → xs ++ extended [] o ≡ extended xs o
extended_is xs None = append-nil xs
extended_is xs (Some x) = refl

one : {X Y : Type 0} (f : X → Option Y) (x : X) (o : Option Y) → f x ≡ o → filter_map f (x ∷ []) ≡ extended [] o
one f x None is = rw is refl
one f x (Some y) is = rw is refl

mapped_more : {X Y : Type 0} (f : X → Option Y) (xs : List X) (x : X) → filter_map f (xs ++ x ∷ []) ≡ filter_map f xs ++ extended [] (f x)
mapped_more f xs x = filter_map-append f xs (x ∷ []) ∙ ap (λ l. filter_map f xs ++ l) (one f x (f x) refl)

pub tally_more : (c h : ℕ) (rs : List WalRecord) (r : WalRecord) → tally_of c h (rs ++ r ∷ []) ≡ added (tally_of c h rs) r
tally_more c h rs r =
    let view = ap greatest (mapped_more (entered_view c) rs r) ∙ greatest_more (filter_map (entered_view c) rs) (entered_view c r) in
    let left = ap greatest (mapped_more (left_view c) rs r) ∙ greatest_more (filter_map (left_view c) rs) (left_view c r) in
    let bound = ap (last_or None) (mapped_more (bound_in c) rs r) ∙ last_more None (filter_map (bound_in c) rs) (bound_in c r) in
    let accepted = mapped_more (acceptance_in c h) rs r ∙ extended_is (filter_map (acceptance_in c h) rs) (acceptance_in c h r) in
    let prepared = mapped_more (preparation_in c h) rs r ∙ extended_is (filter_map (preparation_in c h) rs) (preparation_in c h r) in
    let voted = ap (last_or None) (mapped_more vote_in rs r) ∙ last_more None (filter_map vote_in rs) (vote_in r) in
    let tail = ap (last_or None) (mapped_more (tail_in h) rs r) ∙ last_more None (filter_map (tail_in h) rs) (tail_in h r) in
    rw (view, left, bound, accepted, prepared, voted, tail) refl

counted_more : (c h : ℕ) (rs : List WalRecord) (o : Option WalRecord) → tally_of c h (rs ++ extended [] o) ≡ counted (tally_of c h rs) o
counted_more c h rs None = ap (tally_of c h) (append-nil rs)
counted_more c h rs (Some r) = tally_more c h rs r

-- an entry more is counted
pub entry_counted : (c h : ℕ) (entries : List (List ℕ)) (i : ℕ) (entry : List ℕ) → i < length entries → entry ≡ get_or entries i entry
    → counted (tally_of c h (records_in (take i entries))) (record_in entry) ≡ tally_of c h (records_in (take (i + 1) entries))
entry_counted c h entries i entry within is =
    sym (ap (λ (es : List (List ℕ)). tally_of c h (records_in es)) (take_more entries i entry within ∙ ap (λ (e : List ℕ). take i entries ++ e ∷ []) (sym is))
    ∙ ap (tally_of c h) (mapped_more record_in (take i entries) entry)
    ∙ counted_more c h (records_in (take i entries)) (record_in entry))

-- THE VOTES, one after another

pub votes_next : (i : ℕ) (limit : Option ℕ) (accepted : List Acceptance) (votes total : List Vote) (vote : Vote) → i < 32 → newest_vote limit accepted ≡ Some vote
    → votes ++ newest_votes (32 - i) limit accepted ≡ total → (votes ++ vote ∷ []) ++ newest_votes (32 - (i + 1)) (Some vote.view) accepted ≡ total
votes_next i limit accepted votes total vote below found so_far =
    let k : 32 - i ≡ suc (32 - (i + 1)) = omega arith in
    let here : newest_votes (32 - i) limit accepted ≡ vote ∷ newest_votes (32 - (i + 1)) (Some vote.view) accepted =
    ap (λ n. newest_votes n limit accepted) k ∙ ap (λ o. in_front o (newest_votes (32 - (i + 1)) (option_map view_voted o) accepted)) found in
    append_assoc votes (vote ∷ []) (newest_votes (32 - (i + 1)) (Some vote.view) accepted) ∙ ap (λ l. votes ++ l) (sym here) ∙ so_far

pub votes_end : (i : ℕ) (limit : Option ℕ) (accepted : List Acceptance) (votes total : List Vote) → i < 32 → newest_vote limit accepted ≡ None
    → votes ++ newest_votes (32 - i) limit accepted ≡ total → votes ≡ total
votes_end i limit accepted votes total below found so_far =
    let k : 32 - i ≡ suc (32 - (i + 1)) = omega arith in
    let here : newest_votes (32 - i) limit accepted ≡ [] =
    ap (λ n. newest_votes n limit accepted) k ∙ ap (λ o. in_front o (newest_votes (32 - (i + 1)) (option_map view_voted o) accepted)) found in
    sym (append-nil votes) ∙ ap (λ l. votes ++ l) (sym here) ∙ so_far

pub votes_full : (i : ℕ) (limit : Option ℕ) (accepted : List Acceptance) (votes total : List Vote) → 32 ≤ i
    → votes ++ newest_votes (32 - i) limit accepted ≡ total → votes ≡ total
votes_full i limit accepted votes total past so_far =
    let k : 32 - i ≡ 0 = omega arith in
    sym (append-nil votes) ∙ ap (λ n. votes ++ newest_votes n limit accepted) (sym k) ∙ so_far
