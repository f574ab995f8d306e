-- What a true report tells stays true of every view below its target.
use Rattle.std.proofs.Common.{◌≡◌, ℕ, ◌≤◌, ◌<◌, Bool, true, false, ◌&&◌, cond, zero, suc, List, [], ◌∷◌, ◌++◌, take, refl, sym, ap, subst, ◌∙◌, ◌⊎◌, inl, inr, arith, Option, Some, None}
use Rattle.std.specs.Prelude.{◌==◌, nat_le}
use Rattle.std.specs.Cmp.Lexicographic.{pointwise}
use Rattle.std.specs.List.{list_any}
use Rattle.std.specs.Str.{bytes_eq}
use Rattle.std.proofs.lemmas.Bool.{and_parts, and_from, or_cases, or_left, or_right, eqb-true, eq-eqb, leb-true, leb-false, cases_Bool, cases_cond}
use Rattle.safety_model.specs.Facts.{Vote, Report, Fact, History, Stands}
use Rattle.safety_model.specs.declared.fact.Fact.TheVariants.{Accepted, Prepared, Reported}
use Rattle.safety_model.specs.State.{Setup, height, view, left}
use Rattle.safety_model.specs.Reports.{prepared_votes, accepted_votes, greater_vote, prepared_at, accepted_at, is_told, vote_eq, is_true_report, told_limit, tells_accepted}
use Rattle.safety_model.specs.Rules.{Allowed, IsRun}
use Rattle.safety_model.proofs.Moments.{stands_later, moment, order}
use Rattle.safety_model.proofs.FactTests.{bytes_same}
use Rattle.safety_model.proofs.StateFacts.{view_later, left_later, height_later}
use Rattle.safety_model.proofs.RuleFacts.{accepted_rules, prepared_rules, reported_rules}
use Rattle.safety_model.proofs.OneView.{prepared_once}

-- who accepted or prepared was there, and never goes back
pub record Reached (su : Setup) (h : History) (i e v s : ℕ) : Type 0 where
  pub number : s ≤ height i h
  pub view : v ≤ view i e h

pub accepted_reached : (su : Setup) (h : History) → IsRun su h → (i e v s : ℕ) (d : List ℕ) → Stands h (Accepted i e v s d) → Reached su h i e v s
accepted_reached su h run i e v s d a =
    let m = moment su h (Accepted i e v s d) run a in
    let rules = accepted_rules su m.at i e v s d m.allowed in
    let up = height_later i m.at h m.once in
    let views = view_later i e m.at h m.once in
    let r5 = rules.number in let r6 = rules.inside in
    record { number = omega arith; view = omega arith }

pub prepared_reached : (su : Setup) (h : History) → IsRun su h → (i e v s : ℕ) (d : List ℕ) → Stands h (Prepared i e v s d) → Reached su h i e v s
prepared_reached su h run i e v s d a =
    let m = moment su h (Prepared i e v s d) run a in
    let rules = prepared_rules su m.at i e v s d m.allowed in
    let up = height_later i m.at h m.once in
    let views = view_later i e m.at h m.once in
    let r5 = rules.number in let r6 = rules.inside in
    record { number = omega arith; view = omega arith }

-- who reported for a view left for it
pub reported_left : (su : Setup) (h : History) → IsRun su h → (i e v : ℕ) (r : Report) → Stands h (Reported i e v r) → v ≤ left i e h
reported_left su h run i e v r a =
    let m = moment su h (Reported i e v r) run a in
    let rules = reported_rules su m.at i e v r m.allowed in
    let up = left_later i e m.at h m.once in
    let r11 = rules.left in
    omega arith

pub vote_same : (a b : Vote) → vote_eq a b ≡ true → a ≡ b
vote_same a b h =
    let p = and_parts (a.view == b.view) (bytes_eq a.digest b.digest) h in
    let ev = eqb-true a.view b.view p.0 in let ed = bytes_same a.digest b.digest p.1 in
    let make : ℕ → List ℕ → Vote = λ v d. record { view = v; digest = d } in
    ap (λ v. make v a.digest) ev ∙ ap (λ d. make b.view d) ed

-- the preparation that is told: it stands, and none is of a greater view
pub record Greatest (h : History) (i e s v : ℕ) : Type 0 where
  pub vote : Vote
  pub is : prepared_at i e s h ≡ Some vote
  pub least : v ≤ vote.view
  pub stands : Stands h (Prepared i e vote.view s vote.digest)

abbrev one_vote : ℕ → List ℕ → Vote
one_vote v d = record { view = v; digest = d }

abbrev first_or : Vote → List Vote → Vote
first_or w [] = w
first_or w (v ∷ vs) = v

prepared_votes_itself : (i e v s : ℕ) (d : List ℕ) → prepared_votes i e s (Prepared i e v s d) ≡ record { view = v; digest = d } ∷ []
prepared_votes_itself i e v s d =
    let y : (i == i && e == e && s == s) ≡ true = and_from _ _ (and_from _ _ (eq-eqb i i refl) (eq-eqb e e refl)) (eq-eqb s s refl) in
    rw y

prepared_cases : (i e s j e' v s' : ℕ) (d : List ℕ) (w : Vote) (ws : List Vote) (b : Bool) → ((j == i) && (e' == e) && (s' == s)) ≡ b → cond b (record { view = v; digest = d } ∷ []) [] ≡ w ∷ ws → Prepared j e' v s' d ≡ Prepared i e w.view s w.digest
prepared_cases i e s j e' v s' d w ws true eb h =
    let p = and_parts ((j == i) && (e' == e)) (s' == s) eb in
    let q = and_parts (j == i) (e' == e) p.0 in
    let ej = eqb-true j i q.0 in let ee = eqb-true e' e q.1 in let es = eqb-true s' s p.1 in
    let ew : one_vote v d ≡ w = ap (λ ws. first_or w ws) h in
    let ev : v ≡ w.view = ap (λ w. w.view) ew in let ed : d ≡ w.digest = ap (λ w. w.digest) ew in
    (cc)
prepared_cases i e s j e' v s' d w ws false eb h = (cc)

prepared_votes_is : (i e s : ℕ) (f : Fact) (w : Vote) (ws : List Vote) → prepared_votes i e s f ≡ w ∷ ws → f ≡ Prepared i e w.view s w.digest
prepared_votes_is i e s (Prepared j e' v s' d) w ws h = prepared_cases i e s j e' v s' d w ws ((j == i) && (e' == e) && (s' == s)) refl h
prepared_votes_is i e s f w ws h = (cc)

greater_cases : (vs : List Vote) (o : Option Vote) (w : Vote) → greater_vote vs o ≡ Some w → ((us : List Vote) × (vs ≡ w ∷ us)) ⊎ (o ≡ Some w)
greater_cases [] o w h = inr h
greater_cases (u ∷ us) None w h = inl (us, (cc))
greater_cases (u ∷ us) (Some x) w h =
    elim (cases_cond (nat_le x.view u.view) (Some u) (Some x) (Some w) (sym h)) [
      | inl y ↦ inl (us, (cc))
      | inr n ↦ inr (sym n)
    ]

-- a greater vote, or the same
record AtLeast (o : Option Vote) (v : ℕ) : Type 0 where
  pub vote : Vote
  pub is : o ≡ Some vote
  pub least : v ≤ vote.view

greater_old : (vs : List Vote) (o : Option Vote) (v : ℕ) → AtLeast o v → AtLeast (greater_vote vs o) v
greater_old [] o v a = a
greater_old (u ∷ us) o v a =
    elim (cases_Bool (nat_le a.vote.view u.view)) [
      | inl y ↦ record { vote = u; is = rw (a.is, y); least = (let le = leb-true a.vote.view u.view y in let l = a.least in omega arith) }
      | inr n ↦ record { vote = a.vote; is = rw (a.is, n); least = a.least }
    ]

greater_new : (u : Vote) (us : List Vote) (o : Option Vote) → AtLeast (greater_vote (u ∷ us) o) u.view
greater_new u us None = record { vote = u; is = refl; least = omega arith }
greater_new u us (Some w) =
    elim (cases_Bool (nat_le w.view u.view)) [
      | inl y ↦ record { vote = u; is = rw y; least = omega arith }
      | inr n ↦ record { vote = w; is = rw n; least = (let lt = leb-false w.view u.view n in omega arith) }
    ]

pub told_stands : (i e s : ℕ) (h : History) (w : Vote) → prepared_at i e s h ≡ Some w → Stands h (Prepared i e w.view s w.digest)
told_stands i e s [] w is = (cc)
told_stands i e s (f ∷ h) w is =
    elim (greater_cases (prepared_votes i e s f) (prepared_at i e s h) w is) [
      | inl new ↦ inl (prepared_votes_is i e s f w new.0 new.1)
      | inr old ↦ inr (told_stands i e s h w old)
    ]

at_least : (i e v s : ℕ) (d : List ℕ) (h : History) → Stands h (Prepared i e v s d) → AtLeast (prepared_at i e s h) v
at_least i e v s d [] st = elim st [ ]
at_least i e v s d (f ∷ h) (inl is) =
    let vote : prepared_votes i e s f ≡ one_vote v d ∷ [] = ap (λ f. prepared_votes i e s f) is ∙ prepared_votes_itself i e v s d in
    rw vote (greater_new (one_vote v d) [] (prepared_at i e s h))
at_least i e v s d (f ∷ h) (inr st) = greater_old (prepared_votes i e s f) (prepared_at i e s h) v (at_least i e v s d h st)

pub greatest : (i e v s : ℕ) (d : List ℕ) (h : History) → Stands h (Prepared i e v s d) → Greatest h i e s v
greatest i e v s d h st =
    let a = at_least i e v s d h st in
    record { vote = a.vote; is = a.is; least = a.least; stands = told_stands i e s h a.vote a.is }

pub told_same : (a : Option Vote) (w : Vote) → is_told a (Some w) ≡ true → a ≡ Some w
told_same None w h = (cc)
told_same (Some a) w h = ap (λ x. Some x) (vote_same a w h)

pub votes_same : (as' bs : List Vote) → pointwise vote_eq as' bs ≡ true → as' ≡ bs
votes_same [] [] h = refl
votes_same [] (b ∷ bs) h = (cc)
votes_same (a ∷ as') [] h = (cc)
votes_same (a ∷ as') (b ∷ bs) h =
    let p = and_parts (vote_eq a b) (pointwise vote_eq as' bs) h in
    let one = vote_same a b p.0 in let rest = votes_same as' bs p.1 in
    (cc)

pub record TrueReport (su : Setup) (g : History) (i e : ℕ) (r : Report) : Type 0 where
  pub at_height : r.height ≡ height i g
  pub prepared : is_told r.prepared (prepared_at i e (height i g) g) ≡ true
  pub accepted : r.accepted ≡ take told_limit (accepted_at i e (height i g) g)

pub true_report : (su : Setup) (g : History) (i e : ℕ) (r : Report) → is_true_report i e g r ≡ true → TrueReport su g i e r
true_report su g i e r h =
    let p = and_parts _ _ h in
    let q = and_parts _ _ p.0 in
    let t = and_parts _ _ q.0 in
    record { at_height = eqb-true _ _ t.0; prepared = q.1; accepted = votes_same _ _ p.1 }

-- what was prepared below its target is told: at a lower number, or a preparation of no lower view, and if of this view then of this digest
pub record Tells (r : Report) (v s : ℕ) (d : List ℕ) : Type 0 where
  pub vote : Vote
  pub is : r.prepared ≡ Some vote
  pub least : v ≤ vote.view
  pub same : vote.view ≡ v → vote.digest ≡ d

tells_before : (su : Setup) (g : History) → IsRun su g → (i e v v' s : ℕ) (d : List ℕ) (r : Report) → Stands g (Prepared i e v s d) → Allowed su g (Reported i e v' r) → (s ≤ r.height) × (s ≡ r.height → Tells r v s d)
tells_before su g run i e v v' s d r st a =
    let rules = reported_rules su g i e v' r a in
    let true' = true_report su g i e r rules.is_true in
    let reached = prepared_reached su g run i e v s d st in
    let up = reached.number in let same_height = true'.at_height in (
      omega arith,
      λ is.
          let here : s ≡ height i g = omega arith in
          let great = greatest i e v s d g st in
          let at_s : is_told r.prepared (prepared_at i e s g) ≡ true = subst (λ n. is_told r.prepared (prepared_at i e n g) ≡ true) (sym here) true'.prepared in
          let told : is_told r.prepared (Some great.vote) ≡ true = subst (λ o. is_told r.prepared o ≡ true) great.is at_s in
          record {
            vote = great.vote;
            is = told_same r.prepared great.vote told;
            least = great.least;
            same = λ same_view.
                prepared_once su g run i e v s great.vote.digest d (subst (λ w. Stands g (Prepared i e w s great.vote.digest)) same_view great.stands) st;
          },
    )

pub tells_prepared : (su : Setup) (h : History) → IsRun su h → (i e v v' s : ℕ) (d : List ℕ) (r : Report) → Stands h (Prepared i e v s d) → Stands h (Reported i e v' r) → v < v' → (s ≤ r.height) × (s ≡ r.height → Tells r v s d)
tells_prepared su h run i e v v' s d r p t lt =
    elim (order su h (Prepared i e v s d) (Reported i e v' r) run p t) [
      | inl same ↦ absurd (cc)
      | inr (inl m) ↦ tells_before su m.at m.run i e v v' s d r m.stands m.allowed
      | inr (inr m) ↦
          let gone = reported_left su m.at m.run i e v' r m.stands in
          let stays = (prepared_rules su m.at i e v s d m.allowed).not_left in
          absurd (omega arith)
    ]

-- an acceptance that passes a test
pub record AcceptedVote (h : History) (i e s : ℕ) (test : Vote → Bool) : Type 0 where
  pub vote : Vote
  pub passes : test vote ≡ true
  pub stands : Stands h (Accepted i e vote.view s vote.digest)

accepted_cases : (i e s j e' v s' : ℕ) (d : List ℕ) (h : History) (test : Vote → Bool) (b : Bool) → ((j == i) && (e' == e) && (s' == s)) ≡ b → list_any test (cond b (record { view = v; digest = d } ∷ []) []) ≡ true → AcceptedVote (Accepted j e' v s' d ∷ h) i e s test
accepted_cases i e s j e' v s' d h test true eb t =
    let p = and_parts ((j == i) && (e' == e)) (s' == s) eb in
    let q = and_parts (j == i) (e' == e) p.0 in
    let ej = eqb-true j i q.0 in let ee = eqb-true e' e q.1 in let es = eqb-true s' s p.1 in
    record {
      vote = one_vote v d;
      passes = elim (or_cases (test (one_vote v d)) false t) [ inl y ↦ y | inr n ↦ absurd (cc) ];
      stands = inl (cc);
    }
accepted_cases i e s j e' v s' d h test false eb t = absurd (cc)

accepted_new : (i e s : ℕ) (f : Fact) (h : History) (test : Vote → Bool) → list_any test (accepted_votes i e s f) ≡ true → AcceptedVote (f ∷ h) i e s test
accepted_new i e s (Accepted j e' v s' d) h test t = accepted_cases i e s j e' v s' d h test ((j == i) && (e' == e) && (s' == s)) refl t
accepted_new i e s f h test t = absurd (cc)

any_append : (test : Vote → Bool) (xs ys : List Vote) → list_any test (xs ++ ys) ≡ true → (list_any test xs ≡ true) ⊎ (list_any test ys ≡ true)
any_append test [] ys h = inr h
any_append test (x ∷ xs) ys h =
    elim (or_cases (test x) (list_any test (xs ++ ys)) h) [
      | inl y ↦ inl (or_left (test x) (list_any test xs) y)
      | inr n ↦ elim (any_append test xs ys n) [ inl l ↦ inl (or_right (test x) (list_any test xs) l) | inr r ↦ inr r ]
    ]

pub any_take : (test : Vote → Bool) (n : ℕ) (xs : List Vote) → list_any test (take n xs) ≡ true → list_any test xs ≡ true
any_take test zero xs h = (cc)
any_take test (suc n) [] h = (cc)
any_take test (suc n) (x ∷ xs) h =
    elim (or_cases (test x) (list_any test (take n xs)) h) [
      | inl y ↦ or_left (test x) (list_any test xs) y
      | inr r ↦ or_right (test x) (list_any test xs) (any_take test n xs r)
    ]

pub accepted_told : (i e s : ℕ) (h : History) (test : Vote → Bool) → list_any test (accepted_at i e s h) ≡ true → AcceptedVote h i e s test
accepted_told i e s [] test t = absurd (cc)
accepted_told i e s (f ∷ h) test t =
    elim (any_append test (accepted_votes i e s f) (accepted_at i e s h) t) [
      | inl new ↦ accepted_new i e s f h test new
      | inr old ↦ let a = accepted_told i e s h test old in record { vote = a.vote; passes = a.passes; stands = inr a.stands }
    ]

-- a told acceptance was made, in a view below the report's target
pub record ToldAcceptance (h : History) (i e v s : ℕ) (vote : Vote) : Type 0 where
  pub view : ℕ
  pub least : vote.view ≤ view
  pub below : view < v
  pub stands : Stands h (Accepted i e view s vote.digest)

pub told_acceptance : (su : Setup) (h : History) → IsRun su h → (i e v : ℕ) (r : Report) (vote : Vote) → Stands h (Reported i e v r) → tells_accepted vote r ≡ true → ToldAcceptance h i e v r.height vote
told_acceptance su h run i e v r vote st told =
    let m = moment su h (Reported i e v r) run st in
    let rules = reported_rules su m.at i e v r m.allowed in
    let true' = true_report su m.at i e r rules.is_true in
    let test : Vote → Bool = λ told. nat_le vote.view told.view && bytes_eq told.digest vote.digest in
    let among : list_any test (take told_limit (accepted_at i e (height i m.at) m.at)) ≡ true = subst (λ vs. list_any test vs ≡ true) true'.accepted told in
    let a = accepted_told i e (height i m.at) m.at test (any_take test told_limit (accepted_at i e (height i m.at) m.at) among) in
    let p = and_parts (nat_le vote.view a.vote.view) (bytes_eq a.vote.digest vote.digest) a.passes in
    let le = leb-true vote.view a.vote.view p.0 in
    let same = bytes_same a.vote.digest vote.digest p.1 in
    let reached = accepted_reached su m.at m.run i e a.vote.view (height i m.at) a.vote.digest a.stands in
    let views = reached.view in let above = rules.above in
    let digest : Stands m.at (Accepted i e a.vote.view (height i m.at) vote.digest) = subst (λ d. Stands m.at (Accepted i e a.vote.view (height i m.at) d)) same a.stands in
    let number : Stands m.at (Accepted i e a.vote.view r.height vote.digest) = subst (λ n. Stands m.at (Accepted i e a.vote.view n vote.digest)) (sym true'.at_height) digest in
    record { view = a.vote.view; least = le; below = omega arith; stands = stands_later (Accepted i e a.vote.view r.height vote.digest) m.at h m.once number }
