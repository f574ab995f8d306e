-- A node that stands so goes on so.
use Rattle.std.proofs.Common.{◌≡◌, inl, inr, ℕ, suc, ◌<◌, ◌≤◌, Bool, true, false, ◌||◌, ◌&&◌, List, [], ◌∷◌, ◌++◌, max, Option, Some, None, filter_map, option_map, refl, sym, ◌∙◌, ap, subst, arith}
use Rattle.std.specs.Prelude.{◌==◌, if◌then◌else◌}
use Rattle.std.specs.List.{AllByRecursion, list_any}
use Rattle.std.specs.Str.{bytes_eq}
use Rattle.std.proofs.lemmas.Slice.Eq.{bytes_eq-Decides}
use Rattle.std.proofs.lemmas.Bool.{eq-eqb}
use Rattle.std.proofs.lemmas.Bool.Decides.{eqb_tells}
use Rattle.std.proofs.lemmas.List.{append-nil}
use Rattle.std.proofs.lemmas.List.Elements.{filter_map-append}
use Rattle.std.proofs.lemmas.List.Folds.{list_any-append}
use Rattle.std.proofs.lemmas.Option.{none-some, same_Some}
use Rattle.ord_types.specs.Hashes.{block_hash}
use Rattle.ord_types.specs.declared.values.Block.{Block}
use Rattle.ord_types.specs.declared.values.Place.{Place}
use Rattle.ord_types.specs.declared.values.Vote.{Vote}
use Rattle.bft_wal.specs.Fold.{acceptance_in, block_of, durable_of, entered_view, greatest, has_digest, in_front, is_accepted, is_below, left_view, newest, newest_below, newest_prepared, last_block, newest_vote, newest_votes, preparation_in, view_accepted, view_voted, with_block, with_its}
use Rattle.bft_wal.specs.declared.record.WalRecord.{WalRecord}
use Rattle.bft_wal.specs.declared.record.WalRecord.TheVariants.{Accepted, Prepared, Left, Entered}
use Rattle.bft_wal.proofs.OneMore.{entering, leaving}
use Rattle.view_model.specs.Acts.{View}
use Rattle.bft_node.specs.Returning.{accepted_in, is_prepared_in, view_at}
use Rattle.bft_node.specs.Standing.{IsBacked, NothingAhead}
use Rattle.bft_node.proofs.Folds.{all_more, all_to, any_last, filter_all, newest_has, newest_last}

-- the type of acceptances, which the log doesn't export
abbrev domain : {A B : Type 0} → (A → B) → Type 0
domain {A = A} f = A

abbrev Acceptance : Type 0
Acceptance = domain view_accepted

-- ONE RECORD MORE

more_none : {Y : Type 0} (f : WalRecord → Option Y) (rs : List WalRecord) (r : WalRecord) → f r ≡ None → filter_map f (rs ++ r ∷ []) ≡ filter_map f rs
more_none f rs r is = filter_map-append f rs (r ∷ []) ∙ rw is (append-nil (filter_map f rs))

more_some : {Y : Type 0} (f : WalRecord → Option Y) (rs : List WalRecord) (r : WalRecord) (y : Y) → f r ≡ Some y → filter_map f (rs ++ r ∷ []) ≡ filter_map f rs ++ y ∷ []
more_some f rs r y is = filter_map-append f rs (r ∷ []) ∙ rw is refl

same : (n : ℕ) → (n == n) ≡ true
same n = eq-eqb n n refl

above : (n m : ℕ) → n < m → (n == m) ≡ false
above n m lt = elim (eqb_tells n m) [ inl a ↦ absurd (omega (arith, lt, a.1)) | inr b ↦ b.0 ]

and_false : (a b : Bool) → b ≡ false → (a && b) ≡ false
and_false true b h = h
and_false false b h = refl

none_if : {Y : Type 0} (b : Bool) (y : Y) → b ≡ false → (if b then Some y else None) ≡ None
none_if b y h = rw h refl

-- WHAT IS FOUND, from what counts

all_below : (xs : List Acceptance) → AllByRecursion (λ a. is_below None a ≡ true) xs
all_below [] = tt
all_below (x ∷ xs) = (refl, all_below xs)

newest_is : (xs : List Acceptance) → newest_below None xs ≡ newest view_accepted xs
newest_is xs = ap (newest view_accepted) (filter_all (is_below None) xs (all_below xs))

-- the block of an acceptance of this view
abbrev block_if : ℕ → Option Acceptance → Option Block
block_if view None = None
block_if view (Some a) = if view_accepted a == view then Some a.block else None

-- a vote of this view
abbrev voted_in : ℕ → Option Vote → Bool
voted_in view None = false
voted_in view (Some vote) = vote.view == view

front_block : (view : ℕ) (o : Option Acceptance) (votes : List Vote) → accepted_in view (in_front (option_map (λ (a : Acceptance). a.vote) o) votes) (block_of o) ≡ block_if view o
front_block view None votes = refl
front_block view (Some a) votes = refl

found_block : (view n : ℕ) (xs : List Acceptance) → accepted_in view (newest_votes (suc n) None xs) (block_of (newest_below None xs)) ≡ block_if view (newest view_accepted xs)
found_block view n xs =
    front_block view (newest_below None xs) (newest_votes n (option_map view_voted (newest_vote None xs)) xs) ∙ ap (block_if view) (newest_is xs)

with_its_is : (view : ℕ) (vote : Vote) (a : Acceptance) (o : Option Block) → o ≡ Some a.block → is_prepared_in view (with_its vote o) ≡ (vote.view == view)
with_its_is view vote a o is = rw is refl

with_block_is : (view : ℕ) (xs : List Acceptance) (o : Option Vote) → ((vote : Vote) → o ≡ Some vote → is_accepted xs vote ≡ true) → is_prepared_in view (with_block xs o) ≡ voted_in view o
with_block_is view xs None h = refl
with_block_is view xs (Some vote) h =
    let found = any_last (has_digest vote.digest) None xs (h vote refl) in
    with_its_is view vote found.0 (last_block vote.digest xs) (ap block_of found.1)

found_prepared : (view : ℕ) (xs : List Acceptance) (votes : List Vote) → AllByRecursion (λ (vote : Vote). is_accepted xs vote ≡ true) votes
    → is_prepared_in view (with_block xs (newest_prepared xs votes)) ≡ voted_in view (newest view_voted votes)
found_prepared view xs votes all =
    ap (λ (l : List Vote). is_prepared_in view (with_block xs (newest view_voted l))) (filter_all (is_accepted xs) votes all)
    ∙ with_block_is view xs (newest view_voted votes) (λ vote is. newest_has view_voted (λ (v : Vote). is_accepted xs v ≡ true) votes vote all is)

-- what a view is made of
abbrev pub parts : ℕ → Place → ℕ → ℕ → Option Block → Bool → View
parts me place view left accepted prepared =
    record {
      me = me;
      config = place.config.number;
      members = place.config.members;
      height = place.height;
      view = view;
      left = left;
      accepted = accepted;
      is_prepared = prepared;
      kept = [];
    }

pub same_parts : (me : ℕ) (place : Place) (v v' l l' : ℕ) (a a' : Option Block) (p p' : Bool) → v ≡ v' → l ≡ l' → a ≡ a' → p ≡ p' → parts me place v l a p ≡ parts me place v' l' a' p'
same_parts me place v v' l l' a a' p p' e f g h = rw (e, f, g, h) refl

-- what counts at a configuration and a height
abbrev pub acceptances : ℕ → ℕ → List WalRecord → List Acceptance
acceptances e s rs = filter_map (acceptance_in e s) rs

abbrev pub preparations : ℕ → ℕ → List WalRecord → List Vote
preparations e s rs = filter_map (preparation_in e s) rs

abbrev pub viewed : ℕ → List WalRecord → ℕ
viewed e rs = greatest (filter_map (entered_view e) rs)

abbrev pub lefts : ℕ → List WalRecord → ℕ
lefts e rs = greatest (filter_map (left_view e) rs)

-- what is found, where what was prepared was accepted
pub found_is : (me : ℕ) (place : Place) (e s : ℕ) (rs : List WalRecord) → AllByRecursion (λ (vote : Vote). is_accepted (acceptances e s rs) vote ≡ true) (preparations e s rs)
    → view_at me place (durable_of e s rs)
    ≡ parts me place (viewed e rs) (lefts e rs) (block_if (viewed e rs) (newest view_accepted (acceptances e s rs))) (voted_in (viewed e rs) (newest view_voted (preparations e s rs)))
found_is me place e s rs all =
    same_parts me place (viewed e rs) (viewed e rs) (lefts e rs) (lefts e rs) _ _ _ _ refl refl
    (found_block (viewed e rs) 31 (acceptances e s rs)) (found_prepared (viewed e rs) (acceptances e s rs) (preparations e s rs) all)

backed_votes : (e s v : ℕ) (rs : List WalRecord) → IsBacked e s v rs → AllByRecursion (λ (vote : Vote). is_accepted (acceptances e s rs) vote ≡ true) (preparations e s rs)
backed_votes e s v rs backed =
    all_to (λ (vote : Vote). (vote.view ≤ v) × (is_accepted (acceptances e s rs) vote ≡ true)) (λ (vote : Vote). is_accepted (acceptances e s rs) vote ≡ true) (λ vote h. h.1) (preparations e s rs) backed.prepared

-- a record more that adds neither an acceptance nor a preparation
same_backed : (e s v : ℕ) (rs : List WalRecord) (r : WalRecord)
    → acceptances e s (rs ++ r ∷ []) ≡ acceptances e s rs → preparations e s (rs ++ r ∷ []) ≡ preparations e s rs
    → IsBacked e s v rs → IsBacked e s v (rs ++ r ∷ [])
same_backed e s v rs r accepted prepared backed =
    record {
      accepted = subst (AllByRecursion (λ (a : Acceptance). view_accepted a ≤ v)) (sym accepted) backed.accepted;
      prepared =
          subst (λ (xs : List Acceptance). AllByRecursion (λ (vote : Vote). (vote.view ≤ v)
          × (is_accepted xs vote ≡ true)) (preparations e s (rs ++ r ∷ []))) (sym accepted)
          (subst (AllByRecursion (λ (vote : Vote). (vote.view ≤ v)
          × (is_accepted (acceptances e s rs) vote ≡ true))) (sym prepared) backed.prepared);
    }

-- in a greater view
raised_backed : (e s v to : ℕ) (rs : List WalRecord) → v ≤ to → IsBacked e s v rs → IsBacked e s to rs
raised_backed e s v to rs le backed =
    record {
      accepted =
          all_to (λ (a : Acceptance). view_accepted a ≤ v) (λ (a : Acceptance). view_accepted a ≤ to)
          (λ a h. omega (arith, le, h)) (acceptances e s rs) backed.accepted;
      prepared =
          all_to (λ (vote : Vote). (vote.view ≤ v) × (is_accepted (acceptances e s rs) vote ≡ true))
          (λ (vote : Vote). (vote.view ≤ to) × (is_accepted (acceptances e s rs) vote ≡ true))
          (λ vote h. (omega (arith, le, h.0), h.1)) (preparations e s rs) backed.prepared;
    }

greater : (m n : ℕ) → m ≤ n → max m n ≡ n
greater m n le = omega (arith, le)

under : (n m : ℕ) → n < m → (n == m) ≡ false
under n m lt = elim (eqb_tells n m) [ inl a ↦ absurd (omega (arith, lt, a.1)) | inr b ↦ b.0 ]

-- AN ACCEPTANCE MORE

abbrev voted_for : ℕ → Block → Acceptance
voted_for v b = record { vote = record { view = v; digest = block_hash b }; block = b }

abbrev pub vote_of : ℕ → List ℕ → Vote
vote_of v d = record { view = v; digest = d }

module _ (rs : List WalRecord) (e v s : ℕ) (b : Block) where
  accepted_here : acceptances e s (rs ++ Accepted e v s b ∷ []) ≡ acceptances e s rs ++ voted_for v b ∷ []
  accepted_here = more_some (acceptance_in e s) rs (Accepted e v s b) (voted_for v b) (rw (same e, same s) refl)

  accepted_above : (n : ℕ) → s < n → acceptances e n (rs ++ Accepted e v s b ∷ []) ≡ acceptances e n rs
  accepted_above n lt = more_none (acceptance_in e n) rs (Accepted e v s b) (none_if ((e == e) && (s == n)) (voted_for v b) (and_false (e == e) (s == n) (above s n lt)))

  prepared_kept : (n : ℕ) → preparations e n (rs ++ Accepted e v s b ∷ []) ≡ preparations e n rs
  prepared_kept n = more_none (preparation_in e n) rs (Accepted e v s b) refl

  viewed_kept : viewed e (rs ++ Accepted e v s b ∷ []) ≡ viewed e rs
  viewed_kept = ap greatest (more_none (entered_view e) rs (Accepted e v s b) refl)

  left_kept : lefts e (rs ++ Accepted e v s b ∷ []) ≡ lefts e rs
  left_kept = ap greatest (more_none (left_view e) rs (Accepted e v s b) refl)

  still_accepted : (x : Acceptance) (vote : Vote) → is_accepted (acceptances e s rs) vote ≡ true → is_accepted (acceptances e s rs ++ x ∷ []) vote ≡ true
  still_accepted x vote h = list_any-append (has_digest vote.digest) (acceptances e s rs) (x ∷ []) ∙ rw h refl

  pub accepted_backed : IsBacked e s v rs → IsBacked e s v (rs ++ Accepted e v s b ∷ [])
  accepted_backed backed =
      record {
        accepted = subst (AllByRecursion (λ (a : Acceptance). view_accepted a ≤ v)) (sym accepted_here) (all_more (λ (a : Acceptance). view_accepted a ≤ v) (acceptances e s rs) (voted_for v b) backed.accepted (omega arith));
        prepared = subst (λ (xs : List Acceptance). AllByRecursion (λ (vote : Vote). (vote.view ≤ v) × (is_accepted xs vote ≡ true)) (preparations e s (rs ++ Accepted e v s b ∷ []))) (sym accepted_here)
            (subst (AllByRecursion (λ (vote : Vote). (vote.view ≤ v) × (is_accepted (acceptances e s rs ++ voted_for v b ∷ []) vote ≡ true))) (sym (prepared_kept s))
            (all_to _ _ (λ (vote : Vote) h. (h.0, still_accepted (voted_for v b) vote h.1)) (preparations e s rs) backed.prepared));
      }

  pub accepted_ahead : NothingAhead e s rs → NothingAhead e s (rs ++ Accepted e v s b ∷ [])
  accepted_ahead ahead =
      record { accepted = λ n lt. accepted_above n lt ∙ ahead.accepted n lt; prepared = λ n lt. prepared_kept n ∙ ahead.prepared n lt }

  pub accepted_found : (me : ℕ) (place : Place) → v ≡ viewed e rs → IsBacked e s v rs
      → view_at me place (durable_of e s (rs ++ Accepted e v s b ∷ [])) ≡ record (view_at me place (durable_of e s rs)) { accepted = Some b }
  accepted_found me place is backed =
      let rs' : List WalRecord = rs ++ Accepted e v s b ∷ [] in
      let newest' : newest view_accepted (acceptances e s rs') ≡ Some (voted_for v b) =
      ap (newest view_accepted) accepted_here ∙ newest_last view_accepted (acceptances e s rs) (voted_for v b) backed.accepted in
      let here : (v == viewed e rs) ≡ true = eq-eqb v (viewed e rs) is in
      let block : block_if (viewed e rs') (newest view_accepted (acceptances e s rs')) ≡ Some b =
      ap (λ o. block_if (viewed e rs') o) newest' ∙ ap (λ n. block_if n (Some (voted_for v b))) viewed_kept ∙ rw here refl in
      let votes : voted_in (viewed e rs') (newest view_voted (preparations e s rs')) ≡ voted_in (viewed e rs) (newest view_voted (preparations e s rs)) =
      ap (λ n. voted_in n (newest view_voted (preparations e s rs'))) viewed_kept ∙ ap (λ l. voted_in (viewed e rs) (newest view_voted l)) (prepared_kept s) in
      found_is me place e s rs' (backed_votes e s v rs' (accepted_backed backed))
      ∙ same_parts me place _ (viewed e rs) _ (lefts e rs) _ (Some b) _ (voted_in (viewed e rs) (newest view_voted (preparations e s rs))) viewed_kept left_kept block votes
      ∙ ap (λ (w : View). record w { accepted = Some b }) (sym (found_is me place e s rs (backed_votes e s v rs backed)))

-- A PREPARATION MORE

module _ (rs : List WalRecord) (e v s : ℕ) (d : List ℕ) where
  prepared_here : preparations e s (rs ++ Prepared e v s d ∷ []) ≡ preparations e s rs ++ vote_of v d ∷ []
  prepared_here = more_some (preparation_in e s) rs (Prepared e v s d) (vote_of v d) (rw (same e, same s) refl)

  prepared_above : (n : ℕ) → s < n → preparations e n (rs ++ Prepared e v s d ∷ []) ≡ preparations e n rs
  prepared_above n lt = more_none (preparation_in e n) rs (Prepared e v s d) (none_if ((e == e) && (s == n)) (vote_of v d) (and_false (e == e) (s == n) (above s n lt)))

  accepted_kept : (n : ℕ) → acceptances e n (rs ++ Prepared e v s d ∷ []) ≡ acceptances e n rs
  accepted_kept n = more_none (acceptance_in e n) rs (Prepared e v s d) refl

  viewed_kept' : viewed e (rs ++ Prepared e v s d ∷ []) ≡ viewed e rs
  viewed_kept' = ap greatest (more_none (entered_view e) rs (Prepared e v s d) refl)

  left_kept' : lefts e (rs ++ Prepared e v s d ∷ []) ≡ lefts e rs
  left_kept' = ap greatest (more_none (left_view e) rs (Prepared e v s d) refl)

  pub prepared_backed : is_accepted (acceptances e s rs) (vote_of v d) ≡ true → IsBacked e s v rs → IsBacked e s v (rs ++ Prepared e v s d ∷ [])
  prepared_backed has backed =
      record {
        accepted = subst (AllByRecursion (λ (a : Acceptance). view_accepted a ≤ v)) (sym (accepted_kept s)) backed.accepted;
        prepared = subst (λ (xs : List Acceptance). AllByRecursion (λ (vote : Vote). (vote.view ≤ v) × (is_accepted xs vote ≡ true)) (preparations e s (rs ++ Prepared e v s d ∷ []))) (sym (accepted_kept s))
            (subst (AllByRecursion (λ (vote : Vote). (vote.view ≤ v) × (is_accepted (acceptances e s rs) vote ≡ true))) (sym prepared_here)
            (all_more _ (preparations e s rs) (vote_of v d) backed.prepared (omega arith, has)));
      }

  pub prepared_ahead : NothingAhead e s rs → NothingAhead e s (rs ++ Prepared e v s d ∷ [])
  prepared_ahead ahead =
      record { accepted = λ n lt. accepted_kept n ∙ ahead.accepted n lt; prepared = λ n lt. prepared_above n lt ∙ ahead.prepared n lt }

  pub prepared_found : (me : ℕ) (place : Place) → v ≡ viewed e rs → is_accepted (acceptances e s rs) (vote_of v d) ≡ true → IsBacked e s v rs
      → view_at me place (durable_of e s (rs ++ Prepared e v s d ∷ [])) ≡ record (view_at me place (durable_of e s rs)) { is_prepared = true }
  prepared_found me place is has backed =
      let rs' : List WalRecord = rs ++ Prepared e v s d ∷ [] in
      let below : AllByRecursion (λ (vote : Vote). vote.view ≤ v) (preparations e s rs) = all_to (λ (vote : Vote). (vote.view ≤ v) × (is_accepted (acceptances e s rs) vote ≡ true)) (λ (vote : Vote). vote.view ≤ v) (λ vote h. h.0) (preparations e s rs) backed.prepared in
      let newest' : newest view_voted (preparations e s rs') ≡ Some (vote_of v d) =
      ap (newest view_voted) prepared_here ∙ newest_last view_voted (preparations e s rs) (vote_of v d) below in
      let here : (v == viewed e rs) ≡ true = eq-eqb v (viewed e rs) is in
      let block : block_if (viewed e rs') (newest view_accepted (acceptances e s rs')) ≡ block_if (viewed e rs) (newest view_accepted (acceptances e s rs)) =
      ap (λ n. block_if n (newest view_accepted (acceptances e s rs'))) viewed_kept' ∙ ap (λ l. block_if (viewed e rs) (newest view_accepted l)) (accepted_kept s) in
      let votes : voted_in (viewed e rs') (newest view_voted (preparations e s rs')) ≡ true =
      ap (λ o. voted_in (viewed e rs') o) newest' ∙ ap (λ n. voted_in n (Some (vote_of v d))) viewed_kept' ∙ here in
      found_is me place e s rs' (backed_votes e s v rs' (prepared_backed has backed))
      ∙ same_parts me place _ (viewed e rs) _ (lefts e rs) _ (block_if (viewed e rs) (newest view_accepted (acceptances e s rs))) _ true viewed_kept' left_kept' block votes
      ∙ ap (λ (w : View). record w { is_prepared = true }) (sym (found_is me place e s rs (backed_votes e s v rs backed)))

-- WHAT STANDS AS ACCEPTED WAS ACCEPTED

abbrev IsHash : Acceptance → Type 0
IsHash a = a.vote.digest ≡ block_hash a.block

some_if : {Y : Type 0} (b : Bool) (x y : Y) → (if b then Some x else None) ≡ Some y → x ≡ y
some_if true x y h = same_Some x y h
some_if false x y h = absurd (none-some y h)

hash_in : (e s : ℕ) (r : WalRecord) (y : Acceptance) → acceptance_in e s r ≡ Some y → IsHash y
hash_in e s (Accepted config view number block) y h = subst IsHash (some_if ((config == e) && (number == s)) (voted_for view block) y h) refl
hash_in e s r y h = absurd (none-some y h)

one_found : {Y : Type 0} (P : Y → Type 0) (f : WalRecord → Option Y) (r : WalRecord) (o : Option Y) → f r ≡ o → ((y : Y) → o ≡ Some y → P y) → AllByRecursion P (filter_map f (r ∷ []))
one_found P f r None is h = rw is tt
one_found P f r (Some y) is h = rw is (h y refl, tt)

all_both : {X : Type 0} (P : X → Type 0) (xs ys : List X) → AllByRecursion P xs → AllByRecursion P ys → AllByRecursion P (xs ++ ys)
all_both P [] ys all rest = rest
all_both P (x ∷ xs) ys all rest = (all.0, all_both P xs ys all.1 rest)

hashes_in : (e s : ℕ) (rs : List WalRecord) → AllByRecursion IsHash (acceptances e s rs)
hashes_in e s [] = tt
hashes_in e s (r ∷ rs) =
    subst (AllByRecursion IsHash) (sym (filter_map-append (acceptance_in e s) (r ∷ []) rs))
    (all_both IsHash (filter_map (acceptance_in e s) (r ∷ [])) (acceptances e s rs) (one_found IsHash (acceptance_in e s) r (acceptance_in e s r) refl (hash_in e s r)) (hashes_in e s rs))

abbrev IsAmong : List Acceptance → Acceptance → Type 0
IsAmong xs a = list_any (has_digest a.vote.digest) xs ≡ true

digest_same : (d : List ℕ) → bytes_eq d d ≡ true
digest_same d = (bytes_eq-Decides d d).1 refl

or_true : (a b : Bool) → b ≡ true → (a || b) ≡ true
or_true true b h = refl
or_true false b h = h

all_among : (xs : List Acceptance) → AllByRecursion (IsAmong xs) xs
all_among [] = tt
all_among (x ∷ xs) = (
  rw (digest_same x.vote.digest) refl,
  all_to (IsAmong xs) (IsAmong (x ∷ xs)) (λ a h. or_true (has_digest a.vote.digest x) (list_any (has_digest a.vote.digest) xs) h) xs (all_among xs),
)

block_shown : (view : ℕ) (o : Option Acceptance) (d : List ℕ) → option_map block_hash (block_if view o) ≡ Some d → (a : Acceptance) × (o ≡ Some a) × (block_hash a.block ≡ d)
block_shown view None d h = absurd (none-some d h)
block_shown view (Some a) d h = (a, refl, hash_if (view_accepted a == view) a.block d h)
  where
    hash_if : (b : Bool) (block : Block) (d : List ℕ) → option_map block_hash (if b then Some block else None) ≡ Some d → block_hash block ≡ d
    hash_if true block d h = same_Some (block_hash block) d h
    hash_if false block d h = absurd (none-some d h)

-- the digest of the block that is found as accepted is one that was accepted
pub found_accepted : (me : ℕ) (place : Place) (e s v : ℕ) (rs : List WalRecord) (d : List ℕ) → IsBacked e s v rs
    → option_map block_hash (view_at me place (durable_of e s rs)).accepted ≡ Some d → is_accepted (acceptances e s rs) (vote_of v d) ≡ true
found_accepted me place e s v rs d backed h =
    let shown = block_shown (viewed e rs) (newest view_accepted (acceptances e s rs)) d
    (ap (λ (w : View). option_map block_hash w.accepted) (sym (found_is me place e s rs (backed_votes e s v rs backed))) ∙ h) in
    let hash = newest_has view_accepted IsHash (acceptances e s rs) shown.0 (hashes_in e s rs) shown.1 in
    let among = newest_has view_accepted (IsAmong (acceptances e s rs)) (acceptances e s rs) shown.0 (all_among (acceptances e s rs)) shown.1 in
    subst (λ (digest : List ℕ). list_any (has_digest digest) (acceptances e s rs) ≡ true) (hash ∙ shown.2) among

-- ANOTHER NUMBER

pub nothing_found : (me : ℕ) (place : Place) (e s : ℕ) (rs : List WalRecord) → acceptances e s rs ≡ [] → preparations e s rs ≡ []
    → view_at me place (durable_of e s rs) ≡ parts me place (viewed e rs) (lefts e rs) None false
nothing_found me place e s rs none no_vote =
    found_is me place e s rs (subst (AllByRecursion (λ (vote : Vote). is_accepted (acceptances e s rs) vote ≡ true)) (sym no_vote) tt)
    ∙ same_parts me place (viewed e rs) (viewed e rs) (lefts e rs) (lefts e rs) _ None _ false refl refl
    (ap (λ (l : List Acceptance). block_if (viewed e rs) (newest view_accepted l)) none)
    (ap (λ (l : List Vote). voted_in (viewed e rs) (newest view_voted l)) no_vote)

pub nothing_backed : (e s v : ℕ) (rs : List WalRecord) → acceptances e s rs ≡ [] → preparations e s rs ≡ [] → IsBacked e s v rs
nothing_backed e s v rs none no_vote =
    record {
      accepted = subst (AllByRecursion (λ (a : Acceptance). view_accepted a ≤ v)) (sym none) tt;
      prepared = subst (AllByRecursion (λ (vote : Vote). (vote.view ≤ v) × (is_accepted (acceptances e s rs) vote ≡ true))) (sym no_vote) tt;
    }

-- A LEAVING MORE

abbrev pub leaves_for : ℕ → View → View
leaves_for v w = record w { left = v }

module _ (rs : List WalRecord) (e v s : ℕ) where
  accepted_left : (n : ℕ) → acceptances e n (rs ++ Left e v ∷ []) ≡ acceptances e n rs
  accepted_left n = more_none (acceptance_in e n) rs (Left e v) refl

  prepared_left : (n : ℕ) → preparations e n (rs ++ Left e v ∷ []) ≡ preparations e n rs
  prepared_left n = more_none (preparation_in e n) rs (Left e v) refl

  pub left_ahead : NothingAhead e s rs → NothingAhead e s (rs ++ Left e v ∷ [])
  left_ahead ahead =
      record {
        accepted = λ n lt. accepted_left n ∙ ahead.accepted n lt;
        prepared = λ n lt. prepared_left n ∙ ahead.prepared n lt;
      }

  pub left_backed : (view : ℕ) → IsBacked e s view rs → IsBacked e s view (rs ++ Left e v ∷ [])
  left_backed view backed = same_backed e s view rs (Left e v) (accepted_left s) (prepared_left s) backed

  pub left_found : (me : ℕ) (place : Place) → lefts e rs ≤ v
      → view_at me place (durable_of e s (rs ++ Left e v ∷ [])) ≡ leaves_for v (view_at me place (durable_of e s rs))
  left_found me place le =
      ap (view_at me place) (leaving e s rs v)
      ∙ ap (λ n. leaves_for n (view_at me place (durable_of e s rs))) (greater (lefts e rs) v le)

-- AN ENTERING MORE

abbrev pub enters_in : ℕ → View → View
enters_in v w = record w { view = v; accepted = None; is_prepared = false; kept = [] }

-- no acceptance and no vote of a lower view is of this one
block_below : (view : ℕ) (o : Option Acceptance) → ((a : Acceptance) → o ≡ Some a → view_accepted a < view)
    → block_if view o ≡ None
block_below view None below = refl
block_below view (Some a) below = rw (under (view_accepted a) view (below a refl)) refl

vote_below : (view : ℕ) (o : Option Vote) → ((vote : Vote) → o ≡ Some vote → vote.view < view)
    → voted_in view o ≡ false
vote_below view None below = refl
vote_below view (Some vote) below = under vote.view view (below vote refl)

module _ (rs : List WalRecord) (e v s number : ℕ) (carried : Option Vote) where
  abbrev entered : WalRecord
  entered = Entered e v number carried

  accepted_entered : (n : ℕ) → acceptances e n (rs ++ entered ∷ []) ≡ acceptances e n rs
  accepted_entered n = more_none (acceptance_in e n) rs entered refl

  prepared_entered : (n : ℕ) → preparations e n (rs ++ entered ∷ []) ≡ preparations e n rs
  prepared_entered n = more_none (preparation_in e n) rs entered refl

  pub entered_ahead : NothingAhead e s rs → NothingAhead e s (rs ++ entered ∷ [])
  entered_ahead ahead =
      record {
        accepted = λ n lt. accepted_entered n ∙ ahead.accepted n lt;
        prepared = λ n lt. prepared_entered n ∙ ahead.prepared n lt;
      }

  pub entered_backed : (view : ℕ) → view ≤ v → IsBacked e s view rs → IsBacked e s v (rs ++ entered ∷ [])
  entered_backed view le backed =
      same_backed e s v rs entered (accepted_entered s) (prepared_entered s) (raised_backed e s view v rs le backed)

  pub entered_found : (me : ℕ) (place : Place) (view : ℕ) → view ≡ viewed e rs → view < v → IsBacked e s view rs
      → view_at me place (durable_of e s (rs ++ entered ∷ [])) ≡ enters_in v (view_at me place (durable_of e s rs))
  entered_found me place view is lt backed =
      let xs : List Acceptance = acceptances e s rs in
      let votes : List Vote = preparations e s rs in
      let above : max (viewed e rs) v ≡ v = greater (viewed e rs) v (omega (arith, is, lt)) in
      let block : block_if v (newest view_accepted xs) ≡ None =
      block_below v (newest view_accepted xs)
      (λ a at. omega (arith, lt, newest_has view_accepted (λ (b : Acceptance). view_accepted b ≤ view) xs a backed.accepted at)) in
      let vote : voted_in v (newest view_voted votes) ≡ false =
      vote_below v (newest view_voted votes)
      (λ a at. omega (
        arith,
        lt,
        (newest_has view_voted
            (λ (b : Vote). (b.view ≤ view) × (is_accepted xs b ≡ true)) votes a backed.prepared at).0,
      )) in
      ap (view_at me place) (entering e s rs v number carried)
      ∙ same_parts me place (max (viewed e rs) v) v (lefts e rs) (lefts e rs) _ None _ false above refl
      (ap (λ n. accepted_in n (newest_votes 32 None xs) (block_of (newest_below None xs))) above
      ∙ found_block v 31 xs ∙ block)
      (ap (λ n. is_prepared_in n (with_block xs (newest_prepared xs votes))) above
      ∙ found_prepared v xs votes (backed_votes e s view rs backed) ∙ vote)
