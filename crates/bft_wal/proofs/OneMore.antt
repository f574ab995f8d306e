-- What one more record changes of what is durable.
use Rattle.std.proofs.Common.{◌≡◌, inl, inr, ℕ, zero, suc, ◌<◌, ◌≤◌, Bool, true, false, cond, List, [], ◌∷◌, ◌++◌, take, Option, Some, None, IfSome, filter, option_map, refl, sym, ◌∙◌, ap, subst, arith}
use Rattle.std.specs.Prelude.{nat_le, nat_lt, ◌==◌, ◌&&◌, ◌||◌, if◌then◌else◌}
use Rattle.std.specs.List.{last_or, list_any}
use Rattle.std.specs.Str.{bytes_eq}
use Rattle.std.proofs.lemmas.Bool.{eq-eqb}
use Rattle.std.proofs.lemmas.Bool.Decides.{leb_tells}
use Rattle.std.proofs.lemmas.List.{append-nil}
use Rattle.std.proofs.lemmas.List.Elements.{filter-append}
use Rattle.ord_types.specs.Hashes.{block_hash}
use Rattle.ord_types.specs.declared.values.Block.{Block}
use Rattle.ord_types.specs.declared.values.Vote.{Vote}
use Rattle.bft_wal.specs.Fold.{Acceptance, added, block_of, choice_of, durable_of, extended, folded, has_digest, in_front, is_accepted, is_below, later, later_than, newest, newest_below, newest_prepared, newest_vote, newest_votes, raised, replaced, tally_of, view_accepted, view_voted, with_block, with_its}
use Rattle.bft_wal.specs.Laws.{AcceptingAdds, AreBelow, EnteringAdds, IsNew, LeavingAdds, NothingElseAdds, PreparingAdds, TailingAdds, VotingAdds}
use Rattle.bft_wal.specs.Records.{WalRecord}
use Rattle.bft_wal.specs.declared.record.WalRecord.TheVariants as record_of
use Rattle.bft_wal.proofs.Folding.{tally_more}

folded_more : (c h : ℕ) (rs : List WalRecord) (r : WalRecord) → durable_of c h (rs ++ r ∷ []) ≡ folded (added (tally_of c h rs) r)
folded_more c h rs r = ap folded (tally_more c h rs r)

here : (c h : ℕ) → ((c == c) && (h == h)) ≡ true
here c h = rw (eq-eqb c c refl, eq-eqb h h refl) refl

-- ONE FIELD

pub leaving : LeavingAdds
leaving c h rs view =
    let d = durable_of c h rs in
    folded_more c h rs (record_of.Left c view) ∙ ap (λ (b : Bool). record d { left = raised d.left (if b then Some view else None) }) (eq-eqb c c refl)

pub entering : EnteringAdds
entering c h rs view number carried =
    let d = durable_of c h rs in
    folded_more c h rs (record_of.Entered c view number carried)
    ∙ ap (λ (b : Bool). record d { view = raised d.view (if b then Some view else None); bound = replaced d.bound (if b then Some (number, choice_of carried) else None) }) (eq-eqb c c refl)

pub voting : VotingAdds
voting c h rs term candidate = folded_more c h rs (record_of.Voted term candidate)

pub tailing : TailingAdds
tailing c h rs term block =
    let d = durable_of c h rs in
    folded_more c h rs (record_of.Tail term h block) ∙ ap (λ (b : Bool). record d { tail = replaced d.tail (if b then Some (term, block) else None) }) (eq-eqb h h refl)

pub others : NothingElseAdds
others c h rs (record_of.Accepted config view number block) not =
    let t = tally_of c h rs in
    folded_more c h rs (record_of.Accepted config view number block)
    ∙ ap (λ (b : Bool). folded (record t { accepted = extended t.accepted (if b then Some (record { vote = record { view = view; digest = block_hash block }; block = block }) else None) })) not
others c h rs (record_of.Prepared config view number digest) not =
    let t = tally_of c h rs in
    folded_more c h rs (record_of.Prepared config view number digest)
    ∙ ap (λ (b : Bool). folded (record t { prepared = extended t.prepared (if b then Some (record { view = view; digest = digest }) else None) })) not
others c h rs (record_of.Left config view) not =
    let d = durable_of c h rs in
    folded_more c h rs (record_of.Left config view) ∙ ap (λ (b : Bool). record d { left = raised d.left (if b then Some view else None) }) not
others c h rs (record_of.Entered config view number carried) not =
    let d = durable_of c h rs in
    folded_more c h rs (record_of.Entered config view number carried)
    ∙ ap (λ (b : Bool). record d { view = raised d.view (if b then Some view else None); bound = replaced d.bound (if b then Some (number, choice_of carried) else None) }) not
others c h rs (record_of.Voted term candidate) not = absurd cc
others c h rs (record_of.Tail term number block) not =
    let d = durable_of c h rs in
    folded_more c h rs (record_of.Tail term number block) ∙ ap (λ (b : Bool). record d { tail = replaced d.tail (if b then Some (term, block) else None) }) not

-- THE NEWEST

le : (m n : ℕ) → m ≤ n → nat_le m n ≡ true
le m n h = elim (leb_tells m n) [ inl a ↦ a.0 | inr b ↦ absurd (omega (arith, h, b.1)) ]

gt : (m n : ℕ) → n < m → nat_le m n ≡ false
gt m n h = elim (leb_tells m n) [ inl a ↦ absurd (omega (arith, h, a.1)) | inr b ↦ b.0 ]

module _ {X : Type 0} (view : X → ℕ) where
  alone : (y x : X) → later view y (Some x) ≡ Some (later_than view (Some y) x)
  alone y x = elim (leb_tells (view y) (view x)) [
    | inl a ↦ rw a.0 refl
    | inr a ↦ rw a.0 refl
  ]

  later_more : (y : X) (n : Option X) (x : X) → later view y (Some (later_than view n x)) ≡ Some (later_than view (later view y n) x)
  later_more y None x = alone y x
  later_more y (Some z) x = elim (leb_tells (view y) (view z)) [
    | inl a ↦ elim (leb_tells (view z) (view x)) [
      | inl b ↦ rw (a.0, b.0, le (view y) (view x) (omega (arith, a.1, b.1))) refl
      | inr b ↦ rw (a.0, b.0, a.0) refl
    ]
    | inr a ↦ elim (leb_tells (view z) (view x)) [
      | inl b ↦ rw (a.0, b.0) (alone y x)
      | inr b ↦ rw (a.0, b.0, a.0, gt (view y) (view x) (omega (arith, a.1, b.1))) refl
    ]
  ]

  pub newest_more : (xs : List X) (x : X) → newest view (xs ++ x ∷ []) ≡ Some (later_than view (newest view xs) x)
  newest_more [] x = refl
  newest_more (y ∷ xs) x = ap (later view y) (newest_more xs x) ∙ later_more y (newest view xs) x

  later_newer : (o : Option X) (x : X) → IfSome o (λ y. view y ≤ view x) → later_than view o x ≡ x
  later_newer None x h = refl
  later_newer (Some y) x h = rw (le (view y) (view x) h) refl

  -- the newest has what all have
  later_has : (P : X → Type 0) (x : X) (o : Option X) → P x → IfSome o P → IfSome (later view x o) P
  later_has P x None p q = p
  later_has P x (Some y) p q = elim (leb_tells (view x) (view y)) [
    | inl a ↦ rw a.0 q
    | inr a ↦ rw a.0 p
  ]

  kept_has : (P : X → Type 0) (x : X) (xs : List X) (b : Bool) → (b ≡ true → P x) → IfSome (newest view xs) P → IfSome (newest view (cond b (x ∷ xs) xs)) P
  kept_has P x xs true p q = later_has P x (newest view xs) (p refl) q
  kept_has P x xs false p q = q

  pub newest_passes : (test : X → Bool) (xs : List X) → IfSome (newest view (filter test xs)) (λ y. test y ≡ true)
  newest_passes test [] = tt
  newest_passes test (x ∷ xs) = kept_has (λ y. test y ≡ true) x (filter test xs) (test x) (λ e. e) (newest_passes test xs)

  -- where the newest is below a limit, all are
  all_below : (limit : ℕ) (x : X) (o : Option X) → IfSome (later view x o) (λ y. view y < limit) → (view x < limit) × IfSome o (λ y. view y < limit)
  all_below limit x None h = (h, tt)
  all_below limit x (Some y) h = elim (leb_tells (view x) (view y)) [
    | inl a ↦ let k : view y < limit = rw a.0 at h in (omega (arith, a.1, k), k)
    | inr a ↦ let k : view x < limit = rw a.0 at h in (k, omega (arith, a.1, k))
  ]

any_more : {X : Type 0} (test : X → Bool) (xs : List X) (x : X) → test x ≡ false → list_any test (xs ++ x ∷ []) ≡ list_any test xs
any_more test [] x misses = rw misses refl
any_more test (y ∷ xs) x misses = ap (λ b. test y || b) (any_more test xs x misses)

one_filtered : {X : Type 0} (test : X → Bool) (x : X) (b : Bool) → test x ≡ b → filter test (x ∷ []) ≡ cond b (x ∷ []) []
one_filtered test x b is = ap (λ (c : Bool). cond c (x ∷ []) []) is

filter_without : {X : Type 0} (test : X → Bool) (xs : List X) (x : X) → test x ≡ false → filter test (xs ++ x ∷ []) ≡ filter test xs
filter_without test xs x misses = filter-append test xs (x ∷ []) ∙ ap (λ l. filter test xs ++ l) (one_filtered test x false misses) ∙ append-nil (filter test xs)

filter_with : {X : Type 0} (test : X → Bool) (xs : List X) (x : X) → test x ≡ true → filter test (xs ++ x ∷ []) ≡ filter test xs ++ x ∷ []
filter_with test xs x passes = filter-append test xs (x ∷ []) ∙ ap (λ l. filter test xs ++ l) (one_filtered test x true passes)

-- WHICH BLOCKS WERE ACCEPTED

record HasBlock (o : Option Block) : Type 0 where
  block : Block
  is : o ≡ Some block

some_last : (first : Acceptance) (xs : List Acceptance) → HasBlock (block_of (last_or (Some first) xs))
some_last first [] = record { block = first.block; is = refl }
some_last first (x ∷ xs) = some_last x xs

any_last : (test : Acceptance → Bool) (xs : List Acceptance) → list_any test xs ≡ true → HasBlock (block_of (last_or None (filter test xs)))
any_last test [] any = absurd cc
any_last test (x ∷ xs) any = by_test (test x) any (any_last test xs)
  where
    by_test : (b : Bool) → (b || list_any test xs) ≡ true → (list_any test xs ≡ true → HasBlock (block_of (last_or None (filter test xs)))) → HasBlock (block_of (last_or None (cond b (x ∷ filter test xs) (filter test xs))))
    by_test true any rest = some_last x (filter test xs)
    by_test false any rest = rest any

last_any : (test : Acceptance → Bool) (xs : List Acceptance) (block : Block) → block_of (last_or None (filter test xs)) ≡ Some block → list_any test xs ≡ true
last_any test [] block is = absurd cc
last_any test (x ∷ xs) block is = by_test (test x) is (last_any test xs block)
  where
    by_test : (b : Bool) → block_of (last_or None (cond b (x ∷ filter test xs) (filter test xs))) ≡ Some block → (block_of (last_or None (filter test xs)) ≡ Some block → list_any test xs ≡ true) → (b || list_any test xs) ≡ true
    by_test true is rest = refl
    by_test false is rest = rest is

-- ONE MORE PREPARATION

-- the prepared vote is the newest one
prepared_vote : (accepted : List Acceptance) (o : Option Vote) (view : ℕ) → IfSome o (λ v. is_accepted accepted v ≡ true) → IfSome (with_block accepted o) (λ p. p.0.view ≤ view) → IfSome o (λ v. v.view ≤ view)
prepared_vote accepted None view h k = tt
prepared_vote accepted (Some v) view h k =
    let b = any_last (has_digest v.digest) accepted h in
    subst (λ (o : Option Block). IfSome (with_its v o) (λ p. p.0.view ≤ view)) b.is k

pub preparing : PreparingAdds
preparing c h rs view digest block last_is newer =
    let t = tally_of c h rs in
    let v : Vote = record { view = view; digest = digest } in
    let yes : is_accepted t.accepted v ≡ true = last_any (has_digest digest) t.accepted block last_is in
    let old = newest_prepared t.accepted t.prepared in
    let not_newer = prepared_vote t.accepted old view (newest_passes view_voted (is_accepted t.accepted) t.prepared) newer in
    let newest_is : newest_prepared t.accepted (t.prepared ++ v ∷ []) ≡ Some v =
    ap (newest view_voted) (filter_with (is_accepted t.accepted) t.prepared v yes)
    ∙ newest_more view_voted (filter (is_accepted t.accepted) t.prepared) v
    ∙ ap Some (later_newer view_voted old v not_newer) in
    folded_more c h rs (record_of.Prepared c view h digest)
    ∙ ap (λ (b : Bool). folded (record t { prepared = extended t.prepared (if b then Some v else None) })) (here c h)
    ∙ ap (λ (o : Option Vote). record (folded t) { prepared = with_block t.accepted o }) newest_is
    ∙ ap (λ (o : Option Block). record (folded t) { prepared = with_its v o }) last_is

-- ONE MORE ACCEPTANCE

no_limit : (xs : List Acceptance) → filter (is_below None) xs ≡ xs
no_limit [] = refl
no_limit (x ∷ xs) = ap (λ l. x ∷ l) (no_limit xs)

lt : (m n : ℕ) → m < n → nat_lt m n ≡ true
lt m n h = le (suc m) n h

not_lt : (m n : ℕ) → n ≤ m → nat_lt m n ≡ false
not_lt m n h = gt (suc m) n (omega (arith, h))

lt_is : (m n : ℕ) → nat_lt m n ≡ true → m < n
lt_is m n h = elim (leb_tells (suc m) n) [ inl a ↦ omega (arith, a.1) | inr b ↦ let no : nat_lt m n ≡ false = b.0 in absurd (cc (no, h)) ]

under_limit : (limit : ℕ) (xs : List Acceptance) → IfSome (newest view_accepted xs) (λ y. view_accepted y < limit) → filter (is_below (Some limit)) xs ≡ xs
under_limit limit [] h = refl
under_limit limit (x ∷ xs) h =
    let k = all_below view_accepted limit x (newest view_accepted xs) h in
    ap (λ (b : Bool). cond b (x ∷ filter (is_below (Some limit)) xs) (filter (is_below (Some limit)) xs)) (lt (view_accepted x) limit k.0) ∙ ap (λ l. x ∷ l) (under_limit limit xs k.1)

-- an acceptance that isn't below the limit
above_limit : (n limit : ℕ) (xs : List Acceptance) (a : Acceptance) → limit ≤ view_accepted a → newest_votes n (Some limit) (xs ++ a ∷ []) ≡ newest_votes n (Some limit) xs
above_limit zero limit xs a high = refl
above_limit (suc n) limit xs a high =
    let same : newest_vote (Some limit) (xs ++ a ∷ []) ≡ newest_vote (Some limit) xs =
    ap (λ l. option_map (λ (b : Acceptance). b.vote) (newest view_accepted l)) (filter_without (is_below (Some limit)) xs a (not_lt (view_accepted a) limit high)) in
    ap (λ o. in_front o (newest_votes n (option_map view_voted o) (xs ++ a ∷ []))) same
    ∙ goes_on (newest_below (Some limit) xs) (newest_passes view_accepted (is_below (Some limit)) xs) (λ lower below. above_limit n lower xs a below)
  where
    goes_on : (o : Option Acceptance) → IfSome o (λ b. is_below (Some limit) b ≡ true) → ((lower : ℕ) → lower ≤ view_accepted a → newest_votes n (Some lower) (xs ++ a ∷ []) ≡ newest_votes n (Some lower) xs)
        → in_front (option_map (λ (b : Acceptance). b.vote) o) (newest_votes n (option_map view_voted (option_map (λ (b : Acceptance). b.vote) o)) (xs ++ a ∷ []))
        ≡ in_front (option_map (λ (b : Acceptance). b.vote) o) (newest_votes n (option_map view_voted (option_map (λ (b : Acceptance). b.vote) o)) xs)
    goes_on None h rest = refl
    goes_on (Some b) h rest = ap (λ l. b.vote ∷ l) (rest (view_accepted b) (omega (arith, high, lt_is (view_accepted b) limit h)))

limit_free : (n limit : ℕ) (xs : List Acceptance) → IfSome (newest view_accepted xs) (λ y. view_accepted y < limit) → newest_votes n (Some limit) xs ≡ newest_votes n None xs
limit_free zero limit xs h = refl
limit_free (suc n) limit xs h =
    let same : newest_vote (Some limit) xs ≡ newest_vote None xs =
    ap (λ l. option_map (λ (b : Acceptance). b.vote) (newest view_accepted l)) (under_limit limit xs h ∙ sym (no_limit xs)) in
    ap (λ o. in_front o (newest_votes n (option_map view_voted o) xs)) same

front_votes : (n : ℕ) (limit : Option ℕ) (xs : List Acceptance) → take n (newest_votes (suc n) limit xs) ≡ newest_votes n limit xs
front_votes zero limit xs = refl
front_votes (suc n) limit xs = goes_on (newest_vote limit xs) (front_votes n)
  where
    goes_on : (o : Option Vote) → ((lower : Option ℕ) (ys : List Acceptance) → take n (newest_votes (suc n) lower ys) ≡ newest_votes n lower ys)
        → take (suc n) (in_front o (newest_votes (suc n) (option_map view_voted o) xs)) ≡ in_front o (newest_votes n (option_map view_voted o) xs)
    goes_on None rest = refl
    goes_on (Some v) rest = ap (λ l. v ∷ l) (rest (Some v.view) xs)

-- the newest so far is below what all votes are below
first_below : (n view : ℕ) (xs : List Acceptance) → AreBelow view (newest_votes (suc n) None xs) → IfSome (newest view_accepted xs) (λ y. view_accepted y < view)
first_below n view xs h = subst (λ (l : List Acceptance). IfSome (newest view_accepted l) (λ y. view_accepted y < view)) (no_limit xs) (of_first (newest_below None xs) (newest_votes n (option_map view_voted (newest_vote None xs)) xs) h)
  where
    of_first : (o : Option Acceptance) (votes : List Vote) → AreBelow view (in_front (option_map (λ (b : Acceptance). b.vote) o) votes) → IfSome o (λ y. view_accepted y < view)
    of_first None votes h = tt
    of_first (Some y) votes h = h.0

newest_is : (xs : List Acceptance) (a : Acceptance) → IfSome (newest view_accepted xs) (λ y. view_accepted y < view_accepted a) → newest_below None (xs ++ a ∷ []) ≡ Some a
newest_is xs a h =
    ap (newest view_accepted) (no_limit (xs ++ a ∷ []))
    ∙ newest_more view_accepted xs a
    ∙ ap Some (later_newer view_accepted (newest view_accepted xs) a (not_above (newest view_accepted xs) h))
  where
    not_above : (o : Option Acceptance) → IfSome o (λ y. view_accepted y < view_accepted a) → IfSome o (λ y. view_accepted y ≤ view_accepted a)
    not_above None h = tt
    not_above (Some y) h = omega (arith, h)

votes_more : (n : ℕ) (xs : List Acceptance) (a : Acceptance) → IfSome (newest view_accepted xs) (λ y. view_accepted y < view_accepted a)
    → newest_votes (suc n) None (xs ++ a ∷ []) ≡ take (suc n) (a.vote ∷ newest_votes (suc n) None xs)
votes_more n xs a h =
    ap (λ o. in_front (option_map (λ (b : Acceptance). b.vote) o) (newest_votes n (option_map view_voted (option_map (λ (b : Acceptance). b.vote) o)) (xs ++ a ∷ []))) (newest_is xs a h)
    ∙ ap (λ l. a.vote ∷ l) (above_limit n (view_accepted a) xs a (omega arith) ∙ limit_free n (view_accepted a) xs h ∙ sym (front_votes n None xs))

-- no preparation is for the block
same_accepted : (xs : List Acceptance) (a : Acceptance) (votes : List Vote) → IsNew a.vote.digest votes → filter (is_accepted (xs ++ a ∷ [])) votes ≡ filter (is_accepted xs) votes
same_accepted xs a [] h = refl
same_accepted xs a (v ∷ votes) h =
    let rest = same_accepted xs a votes h.1 in
    ap (λ (b : Bool). cond b (v ∷ filter (is_accepted (xs ++ a ∷ [])) votes) (filter (is_accepted (xs ++ a ∷ [])) votes)) (any_more (has_digest v.digest) xs a h.0)
    ∙ ap (λ l. cond (is_accepted xs v) (v ∷ l) l) rest

new_one : (digest : List ℕ) (test : Vote → Bool) (votes : List Vote) → IsNew digest votes → IfSome (newest view_voted (filter test votes)) (λ v. bytes_eq digest v.digest ≡ false)
new_one digest test [] h = tt
new_one digest test (v ∷ votes) h = kept_has view_voted (λ w. bytes_eq digest w.digest ≡ false) v (filter test votes) (test v) (λ e. h.0) (new_one digest test votes h.1)

same_block : (xs : List Acceptance) (a : Acceptance) (o : Option Vote) → IfSome o (λ v. bytes_eq a.vote.digest v.digest ≡ false) → with_block (xs ++ a ∷ []) o ≡ with_block xs o
same_block xs a None h = refl
same_block xs a (Some v) h = ap (λ l. with_its v (block_of (last_or None l))) (filter_without (has_digest v.digest) xs a h)

same_prepared : (xs : List Acceptance) (a : Acceptance) (votes : List Vote) → IsNew a.vote.digest votes → with_block (xs ++ a ∷ []) (newest_prepared (xs ++ a ∷ []) votes) ≡ with_block xs (newest_prepared xs votes)
same_prepared xs a votes h =
    ap (λ l. with_block (xs ++ a ∷ []) (newest view_voted l)) (same_accepted xs a votes h)
    ∙ same_block xs a (newest_prepared xs votes) (new_one a.vote.digest (is_accepted xs) votes h)

pub accepting : AcceptingAdds
accepting c h rs view block below new =
    let t = tally_of c h rs in
    let a : Acceptance = record { vote = record { view = view; digest = block_hash block }; block = block } in
    let older = first_below 31 view t.accepted below in
    folded_more c h rs (record_of.Accepted c view h block)
    ∙ ap (λ (b : Bool). folded (record t { accepted = extended t.accepted (if b then Some a else None) })) (here c h)
    ∙ ap (λ (votes : List Vote). record (folded (record t { accepted = t.accepted ++ a ∷ [] })) { accepted = votes }) (votes_more 31 t.accepted a older)
    ∙ ap (λ (o : Option Acceptance). record (folded (record t { accepted = t.accepted ++ a ∷ [] })) { accepted = take 32 (a.vote ∷ newest_votes 32 None t.accepted); block = block_of o }) (newest_is t.accepted a older)
    ∙ ap (λ (p : Option (Vote × Block)). record (folded t) { accepted = take 32 (a.vote ∷ newest_votes 32 None t.accepted); block = Some block; prepared = p }) (same_prepared t.accepted a t.prepared new)
