-- The order of votes, and the loops of the choice.
use Rattle.std.proofs.Common.{◌≡◌, ℕ, ◌+◌, ◌≤◌, ◌<◌, Bool, true, false, ◌&&◌, cond, max, List, [], ◌∷◌, ◌++◌, take, drop, length, get_or, refl, sym, ap, subst, ◌∙◌, ◌⊎◌, inl, inr, arith, Option, Some, None}
use Rattle.std.specs.Prelude.{◌==◌, nat_lt}
use Rattle.std.specs.Cmp.Lexicographic.{slice_cmp}
use Rattle.std.specs.Ordering.{is_lt, nat_cmp, ordering_reverse}
use Rattle.std.specs.declared.cmp.Ordering.{Ordering}
use Rattle.std.specs.declared.cmp.Ordering.TheVariants.{Less, Equal, Greater}
use Rattle.std.proofs.lemmas.Bool.{and_from, and_parts, cases_Bool, eqb-true, eq-eqb, lt-ltb, ltb-true, or_cases, or_left, or_right}
use Rattle.std.proofs.lemmas.Cmp.{nat_list_cmp_total}
use Rattle.std.proofs.lemmas.List.{drop_more, map-append, take-append-drop, take_more}
use Rattle.ord_types.specs.declared.values.Choice.TheVariants.{Carry}
use Rattle.safety_model.specs.Choosing.{IsChoice, heard, is_before, is_better, is_told_at, passes, told_height}
use Rattle.safety_model.specs.Reports.{is_told, vote_eq}
use Rattle.safety_model.proofs.FactTests.{bytes_eq_refl}
use Rattle.safety_model.proofs.TrueReports.{vote_same}
use Rattle.view_changer.specs.Choices.{IsBest, Report, Signed, Vote, are_enough, better_of, passing_if, passing_of, reports_in}

-- digests
less_is : (o : Ordering) → is_lt o ≡ true → o ≡ Less
less_is Less y = refl
less_is Equal y = (cc)
less_is Greater y = (cc)

not_itself : (o : Ordering) → o ≡ ordering_reverse o → is_lt o ≡ false
not_itself Less e = absurd (cc)
not_itself Equal e = refl
not_itself Greater e = refl

before_trans : (a b c : List ℕ) → is_before a b ≡ true → is_before b c ≡ true → is_before a c ≡ true
before_trans a b c x y = ap is_lt (nat_list_cmp_total.trans a b c (less_is (slice_cmp nat_cmp a b) x) (less_is (slice_cmp nat_cmp b c) y))

before_itself : (a : List ℕ) → is_before a a ≡ false
before_itself a = not_itself (slice_cmp nat_cmp a a) (nat_list_cmp_total.antisymm a a)

-- votes
better_trans : (a b c : Vote) → is_better a b ≡ true → is_better b c ≡ true → is_better a c ≡ true
better_trans a b c x y =
    let higher : c.view < a.view → is_better a c ≡ true = λ lt. or_left (nat_lt c.view a.view) ((a.view == c.view) && is_before a.digest c.digest) (lt-ltb c.view a.view lt) in
    elim (or_cases (nat_lt b.view a.view) ((a.view == b.view) && is_before a.digest b.digest) x) [
      | inl up ↦
          let lt = ltb-true b.view a.view up in
          elim (or_cases (nat_lt c.view b.view) ((b.view == c.view) && is_before b.digest c.digest) y) [
            | inl more ↦ (let lt' = ltb-true c.view b.view more in higher (omega arith))
            | inr same ↦ (let e = eqb-true b.view c.view (and_parts (b.view == c.view) (is_before b.digest c.digest) same).0 in higher (omega arith))
          ]
      | inr level ↦
          let p = and_parts (a.view == b.view) (is_before a.digest b.digest) level in
          let e = eqb-true a.view b.view p.0 in
          elim (or_cases (nat_lt c.view b.view) ((b.view == c.view) && is_before b.digest c.digest) y) [
            | inl more ↦ (let lt' = ltb-true c.view b.view more in higher (omega arith))
            | inr same ↦
                let q = and_parts (b.view == c.view) (is_before b.digest c.digest) same in
                let e' = eqb-true b.view c.view q.0 in
                or_right (nat_lt c.view a.view) ((a.view == c.view) && is_before a.digest c.digest)
                (and_from (a.view == c.view) (is_before a.digest c.digest) (eq-eqb a.view c.view (e ∙ e')) (before_trans a.digest b.digest c.digest p.1 q.1))
          ]
    ]

better_itself : (a : Vote) → is_better a a ≡ false
better_itself a = elim (cases_Bool (is_better a a)) [
  | inr low ↦ low
  | inl yes' ↦ elim (or_cases (nat_lt a.view a.view) ((a.view == a.view) && is_before a.digest a.digest) yes') [
    | inl up ↦ (let lt = ltb-true a.view a.view up in absurd (omega arith))
    | inr level ↦
        let before = (and_parts (a.view == a.view) (is_before a.digest a.digest) level).1 in
        let none = before_itself a.digest in
        absurd (cc)
  ]
]

-- who is no better than the old best is no better than a better one
no_better : (other w v : Vote) → is_better other v ≡ false → is_better w v ≡ true → is_better other w ≡ false
no_better other w v low up = elim (cases_Bool (is_better other w)) [
  | inr none ↦ none
  | inl yes' ↦ (let both = better_trans other w v yes' up in absurd (cc))
]

-- one report more
pub reports_more : (ss : List Signed) (i : ℕ) (s : Signed) → i < length ss → s ≡ get_or ss i s → reports_in (take (i + 1) ss) ≡ reports_in (take i ss) ++ s.report ∷ []
reports_more ss i s lt is = ap reports_in (take_more ss i s lt) ∙ pushed (take i ss) (get_or ss i s) ∙ ap (λ (t : Signed). reports_in (take i ss) ++ t.report ∷ []) (sym is)
  where
    pushed : (xs : List Signed) (t : Signed) → reports_in (xs ++ t ∷ []) ≡ reports_in xs ++ t.report ∷ []
    pushed [] t = refl
    pushed (x ∷ xs) t = ap (λ (rs : List Report). x.report ∷ rs) (pushed xs t)

pub height_more : (rs : List Report) (r : Report) → told_height (rs ++ r ∷ []) ≡ max (told_height rs) r.height
height_more [] r = omega arith
height_more (x ∷ xs) r = (let rest = height_more xs r in omega arith)

pub heard_more : (x : ℕ) (tells : Report → Bool) (rs : List Report) (r : Report) → heard x tells (rs ++ r ∷ []) ≡ heard x tells rs + cond ((r.height == x) && tells r) 1 0
heard_more x tells [] r = omega arith
heard_more x tells (y ∷ ys) r = (let rest = heard_more x tells ys r in omega arith)

pub heights_more : (ss : List Signed) (i : ℕ) (s : Signed) → i < length ss → s ≡ get_or ss i s → told_height (reports_in (take (i + 1) ss)) ≡ max s.report.height (told_height (reports_in (take i ss)))
heights_more ss i s lt is =
    let more = ap told_height (reports_more ss i s lt is) ∙ height_more (reports_in (take i ss)) s.report in
    omega arith

pub heard_step : (x : ℕ) (tells : Report → Bool) (ss : List Signed) (i : ℕ) (s : Signed) (n m : ℕ) (b : Bool) → i < length ss → s ≡ get_or ss i s
    → (n ≡ heard x tells (reports_in (take i ss))) × (n ≤ i) → ((s.report.height == x) && tells s.report) ≡ b → m ≡ n + cond b 1 0 → (m ≡ heard x tells (reports_in (take (i + 1) ss))) × (m ≤ i + 1)
heard_step x tells ss i s n m b lt is inv speaks new =
    let more = ap (heard x tells) (reports_more ss i s lt is) ∙ heard_more x tells (reports_in (take i ss)) s.report in
    let one : cond {A = ℕ} ((s.report.height == x) && tells s.report) 1 0 ≡ cond b 1 0 = ap (λ (b : Bool). cond b 1 0) speaks in
    let small = at_most_one b in
    let old = inv.0 in let le = inv.1 in
    (omega arith, omega arith)
  where
    at_most_one : (b : Bool) → cond {A = ℕ} b 1 0 ≤ 1
    at_most_one true = omega arith
    at_most_one false = omega arith

-- what the reports tell with one more
told_more : (x : ℕ) (other : Vote) (these : List Report) (r : Report) → is_told_at x other (these ++ r ∷ []) ≡ true → (is_told_at x other these ≡ true) ⊎ (((r.height == x) && is_told r.prepared (Some other)) ≡ true)
told_more x other [] r told = elim (or_cases ((r.height == x) && is_told r.prepared (Some other)) false told) [ inl y ↦ inr y | inr n ↦ absurd (cc) ]
told_more x other (y ∷ ys) r told =
    elim (or_cases ((y.height == x) && is_told y.prepared (Some other)) (is_told_at x other (ys ++ r ∷ [])) told) [
      | inl here ↦ inl (or_left ((y.height == x) && is_told y.prepared (Some other)) (is_told_at x other ys) here)
      | inr there ↦ elim (told_more x other ys r there) [
        | inl old ↦ inl (or_right ((y.height == x) && is_told y.prepared (Some other)) (is_told_at x other ys) old)
        | inr new ↦ inr new
      ]
    ]

told_within : (x : ℕ) (other : Vote) (these : List Report) (r : Report) (rest : List Report) → ((r.height == x) && is_told r.prepared (Some other)) ≡ true → is_told_at x other (these ++ r ∷ rest) ≡ true
told_within x other [] r rest told = or_left ((r.height == x) && is_told r.prepared (Some other)) (is_told_at x other rest) told
told_within x other (y ∷ ys) r rest told = or_right ((y.height == x) && is_told y.prepared (Some other)) (is_told_at x other (ys ++ r ∷ rest)) (told_within x other ys r rest told)

told_itself : (vote : Vote) → vote_eq vote vote ≡ true
told_itself vote = and_from _ _ (eq-eqb vote.view vote.view refl) (bytes_eq_refl vote.digest)

-- the report tells nothing that passes
nothing_new : (n x : ℕ) (rs these : List Report) (r : Report) (best : Option Vote) → IsBest n x rs these best
    → ((other : Vote) → ((r.height == x) && is_told r.prepared (Some other)) ≡ true → passes n x rs other ≡ false)
    → IsBest n x rs (these ++ r ∷ []) best
nothing_new n x rs these r None is none = λ other told. elim (told_more x other these r told) [ inl old ↦ is other old | inr new ↦ none other new ]
nothing_new n x rs these r (Some v) is none = (
  is.0,
  λ other told p. elim (told_more x other these r told) [
    | inl old ↦ is.1 other old p
    | inr new ↦ (let fails = none other new in absurd (cc))
  ],
)

-- the report tells one that passes
new_vote : (n x : ℕ) (rs these : List Report) (r : Report) (w : Vote) (best : Option Vote) → IsBest n x rs these best → passes n x rs w ≡ true
    → ((other : Vote) → ((r.height == x) && is_told r.prepared (Some other)) ≡ true → other ≡ w)
    → IsBest n x rs (these ++ r ∷ []) (better_of (Some w) best)
new_vote n x rs these r w None is passing one = (
  passing,
  λ other told p. elim (told_more x other these r told) [
    | inl old ↦ (let fails = is other old in absurd (cc))
    | inr new ↦ subst (λ v. is_better v w ≡ false) (sym (one other new)) (better_itself w)
  ],
)
new_vote n x rs these r w (Some v) is passing one = by_order (is_better w v) refl
  where
    by_order : (b : Bool) → is_better w v ≡ b → IsBest n x rs (these ++ r ∷ []) (cond b (Some w) (Some v))
    by_order true up = (
      passing,
      λ other told p. elim (told_more x other these r told) [
        | inl old ↦ no_better other w v (is.1 other old p) up
        | inr new ↦ subst (λ v. is_better v w ≡ false) (sym (one other new)) (better_itself w)
      ],
    )
    by_order false low = (
      is.0,
      λ other told p. elim (told_more x other these r told) [
        | inl old ↦ is.1 other old p
        | inr new ↦ subst (λ u. is_better u v ≡ false) (sym (one other new)) low
      ],
    )

-- the best with one report more
pub best_more : (n x : ℕ) (rs these : List Report) (r : Report) (rest : List Report) (best : Option Vote) → rs ≡ these ++ r ∷ rest → IsBest n x rs these best → IsBest n x rs (these ++ r ∷ []) (better_of (passing_of n x rs r) best)
best_more n x rs these r rest best split is = by_prepared r.prepared refl
  where
    by_test : (w : Vote) → r.prepared ≡ Some w → (b : Bool) → ((r.height == x) && are_enough n x rs w) ≡ b → IsBest n x rs (these ++ r ∷ []) (better_of (cond b (Some w) None) best)
    by_test w e true y =
        let p = and_parts (r.height == x) (are_enough n x rs w) y in
        let tells : ((r.height == x) && is_told r.prepared (Some w)) ≡ true = and_from _ _ p.0 (subst (λ o. is_told o (Some w) ≡ true) (sym e) (told_itself w)) in
        let told : is_told_at x w rs ≡ true = subst (λ rs. is_told_at x w rs ≡ true) (sym split) (told_within x w these r rest tells) in
        new_vote n x rs these r w best is (and_from (is_told_at x w rs) (are_enough n x rs w) told p.1)
        (λ other new. sym (vote_same w other (subst (λ o. is_told o (Some other) ≡ true) e (and_parts (r.height == x) (is_told r.prepared (Some other)) new).1)))
    by_test w e false low =
        nothing_new n x rs these r best is
        (λ other new.
        let q = and_parts (r.height == x) (is_told r.prepared (Some other)) new in
        let same = vote_same w other (subst (λ o. is_told o (Some other) ≡ true) e q.1) in
        elim (cases_Bool (passes n x rs other)) [
          | inr none ↦ none
          | inl yes' ↦
              let enough = (and_parts (is_told_at x other rs) (are_enough n x rs other) yes').1 in
              let both : ((r.height == x) && are_enough n x rs w) ≡ true = and_from _ _ q.0 (subst (λ v. are_enough n x rs v ≡ true) (sym same) enough) in
              absurd (cc)
        ])

    by_prepared : (o : Option Vote) → r.prepared ≡ o → IsBest n x rs (these ++ r ∷ []) (better_of (passing_if n x rs r.height o) best)
    by_prepared None e = nothing_new n x rs these r best is (λ other new. absurd (let told : is_told None (Some other) ≡ true = subst (λ o. is_told o (Some other) ≡ true) e (and_parts (r.height == x) (is_told r.prepared (Some other)) new).1 in cc))
    by_prepared (Some w) e = by_test w e ((r.height == x) && are_enough n x rs w) refl

-- a step of the loop over all reports
pub best_step : (n x : ℕ) (ss : List Signed) (i : ℕ) (s : Signed) (best : Option Vote) → i < length ss → s ≡ get_or ss i s → IsBest n x (reports_in ss) (reports_in (take i ss)) best
    → IsBest n x (reports_in ss) (reports_in (take (i + 1) ss)) (better_of (passing_of n x (reports_in ss) s.report) best)
best_step n x ss i s best lt is inv =
    let rest = reports_in (drop (i + 1) ss) in
    let parts : ss ≡ take i ss ++ s ∷ drop (i + 1) ss = sym (take-append-drop i ss) ∙ ap (λ (xs : List Signed). take i ss ++ xs) (drop_more ss i s lt ∙ ap (λ (t : Signed). t ∷ drop (i + 1) ss) (sym is)) in
    let split : reports_in ss ≡ reports_in (take i ss) ++ s.report ∷ rest = ap reports_in parts ∙ map-append (λ (s : Signed). s.report) (take i ss) (s ∷ drop (i + 1) ss) in
    subst (λ these. IsBest n x (reports_in ss) these (better_of (passing_of n x (reports_in ss) s.report) best)) (sym (reports_more ss i s lt is))
    (best_more n x (reports_in ss) (reports_in (take i ss)) s.report rest best split inv)

-- what the best of all says of the choice
pub carried : (n x : ℕ) (rs : List Report) (vote : Vote) → IsBest n x rs rs (Some vote) → IsChoice n x rs (Carry vote)
carried n x rs vote is = (is.0, λ other p. is.1 other (and_parts (is_told_at x other rs) (are_enough n x rs other) p).0 p)

pub none_passes : (n x : ℕ) (rs : List Report) → IsBest n x rs rs None → (other : Vote) → passes n x rs other ≡ false
none_passes n x rs is other = elim (cases_Bool (passes n x rs other)) [
  | inr none ↦ none
  | inl yes' ↦ is other (and_parts (is_told_at x other rs) (are_enough n x rs other) yes').0
]
