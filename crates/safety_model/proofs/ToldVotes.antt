-- A list of told votes, compared with the acceptances of a history from the newest back.
use Rattle.std.proofs.Common.{◌≡◌, ℕ, ◌+◌, ◌≤◌, ◌<◌, Bool, true, false, ◌&&◌, List, [], ◌∷◌, ◌++◌, length, get_or, take, drop, reverse, zero, suc, eqb, ◌-◌, ◌⊎◌, inl, inr, refl, sym, ap, ◌∙◌, arith}
use Rattle.std.specs.Cmp.Lexicographic.{pointwise}
use Rattle.std.proofs.lemmas.Bool.{eq-eqb, ne_eqb, cases_eq}
use Rattle.safety_model.specs.Facts.{Vote, Fact}
use Rattle.safety_model.specs.Reports.{accepted_votes, accepted_at, vote_eq, is_vote_at}
use Rattle.safety_model.proofs.Histories.{history_more}

-- how the votes from a place on compare with the acceptances of a history
told_from : List Vote → ℕ → ℕ → List Vote → Bool
told_from votes place limit more = pointwise vote_eq (drop place votes) (take (limit - place) more)

vote_same_at : (votes : List Vote) (place : ℕ) (vote : Vote) (more : List Vote) (room : ℕ) → pointwise vote_eq (drop place votes) (take (suc room) (vote ∷ more)) ≡ (is_vote_at votes place vote && pointwise vote_eq (drop (suc place) votes) (take room more))
vote_same_at [] zero vote more room = refl
vote_same_at [] (suc place) vote more room = refl
vote_same_at (a ∷ as') zero vote more room = refl
vote_same_at (a ∷ as') (suc place) vote more room = vote_same_at as' place vote more room

-- one fact further back
pub told_none : (votes : List Vote) (xs : List Fact) (i e s k place limit : ℕ) (f : Fact) → k < length xs → f ≡ get_or xs k f → accepted_votes i e s f ≡ [] → accepted_at i e s (reverse (take (k + 1) xs)) ≡ accepted_at i e s (reverse (take k xs))
told_none votes xs i e s k place limit f lt is none = ap (accepted_at i e s) (history_more xs k f lt is) ∙ ap (λ (vs : List Vote). vs ++ accepted_at i e s (reverse (take k xs))) none

pub told_one : (votes : List Vote) (xs : List Fact) (i e s k place limit : ℕ) (f : Fact) (vote : Vote) → k < length xs → f ≡ get_or xs k f → accepted_votes i e s f ≡ vote ∷ [] → place < limit
    → pointwise vote_eq (drop place votes) (take (limit - place) (accepted_at i e s (reverse (take (k + 1) xs)))) ≡ (is_vote_at votes place vote && pointwise vote_eq (drop (place + 1) votes) (take (limit - (place + 1)) (accepted_at i e s (reverse (take k xs)))))
told_one votes xs i e s k place limit f vote lt is one room =
    let more = accepted_at i e s (reverse (take k xs)) in
    let all : accepted_at i e s (reverse (take (k + 1) xs)) ≡ vote ∷ more = ap (accepted_at i e s) (history_more xs k f lt is) ∙ ap (λ (vs : List Vote). vs ++ more) one in
    let left : limit - place ≡ suc (limit - (place + 1)) = omega arith in
    let next : suc place ≡ place + 1 = omega arith in
    ap (λ (vs : List Vote). pointwise vote_eq (drop place votes) (take (limit - place) vs)) all
    ∙ ap (λ (n : ℕ). pointwise vote_eq (drop place votes) (take n (vote ∷ more))) left
    ∙ vote_same_at votes place vote more (limit - (place + 1))
    ∙ ap (λ (n : ℕ). is_vote_at votes place vote && pointwise vote_eq (drop n votes) (take (limit - (place + 1)) more)) next

pub vote_at : (votes : List Vote) (place : ℕ) (vote d : Vote) → place < length votes → is_vote_at votes place vote ≡ vote_eq (get_or votes place d) vote
vote_at [] place vote d lt = absurd (omega arith)
vote_at (a ∷ as') zero vote d lt = refl
vote_at (a ∷ as') (suc place) vote d lt = vote_at as' place vote d (omega arith)

pub vote_past : (votes : List Vote) (place : ℕ) (vote : Vote) → length votes ≤ place → is_vote_at votes place vote ≡ false
vote_past [] place vote le = refl
vote_past (a ∷ as') zero vote le = absurd (omega arith)
vote_past (a ∷ as') (suc place) vote le = vote_past as' place vote (omega arith)

-- a vote stands at a place within the list
pub place_within : (votes : List Vote) (place : ℕ) (vote : Vote) → is_vote_at votes place vote ≡ true → place < length votes
place_within [] place vote h = absurd (cc)
place_within (a ∷ as') zero vote h = omega arith
place_within (a ∷ as') (suc place) vote h = (let rest = place_within as' place vote h in omega arith)

eqb_up : (a b : ℕ) → eqb a b ≡ eqb (suc a) (suc b)
eqb_up a b = elim (cases_eq a b) [
  | inl e ↦ eq-eqb a b e ∙ sym (eq-eqb (suc a) (suc b) (omega arith))
  | inr n ↦ ne_eqb a b n ∙ sym (ne_eqb (suc a) (suc b) (λ (e : suc a ≡ suc b). n (omega arith)))
]

-- at the end the votes are told where none is left
pub told_end : (votes : List Vote) (place room : ℕ) (more : List Vote) → place ≤ length votes → (room ≡ 0) ⊎ (more ≡ []) → pointwise vote_eq (drop place votes) (take room more) ≡ eqb place (length votes)
told_end [] zero room more le ended = elim ended [ inl z ↦ ap (λ (n : ℕ). pointwise vote_eq [] (take n more)) z | inr e ↦ end_nil room more e ]
  where
    end_nil : (room : ℕ) (more : List Vote) → more ≡ [] → pointwise vote_eq [] (take room more) ≡ true
    end_nil zero more e = refl
    end_nil (suc room) more e = rw e
told_end [] (suc place) room more le ended = absurd (omega arith)
told_end (a ∷ as') zero room more le ended = elim ended [ inl z ↦ ap (λ (n : ℕ). pointwise vote_eq (a ∷ as') (take n more)) z ∙ sym apart | inr e ↦ end_one room more e ∙ sym apart ]
  where
    apart : eqb 0 (length (a ∷ as')) ≡ false
    apart = ne_eqb 0 (length (a ∷ as')) (λ (e : 0 ≡ length (a ∷ as')). omega arith)

    end_one : (room : ℕ) (more : List Vote) → more ≡ [] → pointwise vote_eq (a ∷ as') (take room more) ≡ false
    end_one zero more e = refl
    end_one (suc room) more e = rw e
told_end (a ∷ as') (suc place) room more le ended = told_end as' place room more (omega arith) ended ∙ eqb_up place (length as')

-- a step of the loop that walks back
pub told_step : (whole : Bool) (votes : List Vote) (xs : List Fact) (i e s rest place limit : ℕ) (f : Fact) (vote : Vote) → 0 < rest → rest ≤ length xs → f ≡ get_or xs (rest - 1) f → accepted_votes i e s f ≡ vote ∷ [] → place < limit
    → whole ≡ pointwise vote_eq (drop place votes) (take (limit - place) (accepted_at i e s (reverse (take rest xs))))
    → whole ≡ (is_vote_at votes place vote && pointwise vote_eq (drop (place + 1) votes) (take (limit - (place + 1)) (accepted_at i e s (reverse (take (rest - 1) xs)))))
told_step whole votes xs i e s rest place limit f vote pos le is one room so =
    let same : rest ≡ (rest - 1) + 1 = omega arith in
    so ∙ ap (λ (n : ℕ). pointwise vote_eq (drop place votes) (take (limit - place) (accepted_at i e s (reverse (take n xs))))) same
    ∙ told_one votes xs i e s (rest - 1) place limit f vote (omega arith) is one room

pub told_all : (whole : Bool) (votes : List Vote) (xs : List Fact) (i e s rest place limit : ℕ) → place ≤ length votes → place ≤ limit → (rest ≡ 0) ⊎ (limit ≤ place)
    → whole ≡ pointwise vote_eq (drop place votes) (take (limit - place) (accepted_at i e s (reverse (take rest xs)))) → eqb place (length votes) ≡ whole
told_all whole votes xs i e s rest place limit le lim ended so =
    sym (so ∙ told_end votes place (limit - place) (accepted_at i e s (reverse (take rest xs))) le (elim ended [
      | inl z ↦ inr (ap (λ (n : ℕ). accepted_at i e s (reverse (take n xs))) z)
      | inr l ↦ inl (omega arith)
    ]))
