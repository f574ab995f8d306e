-- The laws of views: nothing falls, reports stay true, and certified digests are carried on.
use Rattle.std.proofs.Common.{◌≡◌, ℕ, Bool, true, false, ◌&&◌, cond, ◌⊎◌, List, [], ◌∷◌, ◌++◌, take, length-append, refl, sym, ap, subst, inl, inr, arith, Option, Some, None}
use Rattle.std.specs.List.{list_all, list_any}
use Rattle.std.specs.Prelude.{◌==◌, not, nat_lt}
use Rattle.std.proofs.lemmas.Bool.{and_from, and_parts, cases_Bool, eqb-true, ltb-false, not-true, or_parts}
use Rattle.safety_model.specs.Facts.{Vote, Fact, History, Stands, is_accepted_at}
use Rattle.safety_model.specs.declared.fact.Fact.TheVariants.{Accepted, Prepared, Left, Reported, Entered, Delivered}
use Rattle.safety_model.specs.Reports.{accepted_at, accepted_votes, is_told, prepared_at, told_limit, vote_eq}
use Rattle.safety_model.specs.Rules.{Allowed, IsRun}
use Rattle.safety_model.specs.State.{Setup, delivered, delivered_by, height}
use Rattle.safety_model.specs.Views.{AcceptancesFall, CertifiedIsCarriedOn, NothingFalls, ReportsStayTrue}
use Rattle.safety_model.proofs.Agreeing.{number_of_genesis}
use Rattle.safety_model.proofs.Chains.{config_stays}
use Rattle.safety_model.proofs.Deliveries.{IsOnlyConfig}
use Rattle.safety_model.proofs.Moments.{has_found, moment, stands_later}
use Rattle.safety_model.proofs.FactTests.{accepted_at_itself}
use Rattle.safety_model.proofs.RuleFacts.{accepted_rules, reported_rules}
use Rattle.safety_model.proofs.TrueReports.{accepted_reached, accepted_told, any_take, prepared_reached, tells_prepared, told_stands, true_report, vote_same}
use Rattle.safety_model.proofs.Views.{carried_on}

pub nothing_falls : NothingFalls
nothing_falls [] h i e = (omega arith, omega arith, omega arith)
nothing_falls (f ∷ fs) h i e =
    let rest = nothing_falls fs h i e in
    let a = rest.0 in let b = rest.1 in let c = rest.2 in
    (omega (arith, length-append (delivered i (fs ++ h)) (delivered_by i f)), omega arith, omega arith)

-- in a run of one configuration it is the only one
one_config : (su : Setup) (h : History) → IsOnlyConfig su su.config h
one_config su h g i once same = config_stays su.config (delivered i g)

pub certified_is_carried_on : CertifiedIsCarriedOn
certified_is_carried_on su h genesis run bound v v' s j d d' lt cert st =
    carried_on su h su.config run (number_of_genesis su genesis) (one_config su h) genesis.bft bound v v' s j d d' lt cert st

told_is : (a b : Option Vote) (vote : Vote) → a ≡ Some vote → is_told a b ≡ true → b ≡ Some vote
told_is a None vote is told = absurd (let none : is_told (Some vote) None ≡ true = subst (λ a. is_told a None ≡ true) is told in (cc))
told_is a (Some w) vote is told = sym (ap (λ x. Some x) (vote_same vote w (subst (λ a. is_told a (Some w) ≡ true) is told)))

pub reports_stay_true : ReportsStayTrue
reports_stay_true su h run i e target r st =
    let m = moment su h (Reported i e target r) run st in
    let rules = reported_rules su m.at i e target r m.allowed in
    let true' = true_report su m.at i e r rules.is_true in
    let above = rules.above in
    let tall = height i m.at in
    record {
      prepared = λ vote is.
          (let there = told_stands i e tall m.at vote (told_is r.prepared (prepared_at i e tall m.at) vote is true'.prepared) in
          let reached = prepared_reached su m.at m.run i e vote.view tall vote.digest there in
          let views = reached.view in
          let here : Stands m.at (Prepared i e vote.view r.height vote.digest) = subst (λ n. Stands m.at (Prepared i e vote.view n vote.digest)) (sym true'.at_height) there in
          (omega arith, stands_later (Prepared i e vote.view r.height vote.digest) m.at h m.once here));
      accepted = λ vote among.
          (let list : list_any (vote_eq vote) (take told_limit (accepted_at i e tall m.at)) ≡ true = subst (λ vs. list_any (vote_eq vote) vs ≡ true) true'.accepted among in
          let a = accepted_told i e tall m.at (vote_eq vote) (any_take (vote_eq vote) told_limit (accepted_at i e tall m.at) list) in
          let same = vote_same vote a.vote a.passes in
          let there : Stands m.at (Accepted i e vote.view tall vote.digest) = subst (λ (w : Vote). Stands m.at (Accepted i e w.view tall w.digest)) (sym same) a.stands in
          let reached = accepted_reached su m.at m.run i e vote.view tall vote.digest there in
          let views = reached.view in
          let here : Stands m.at (Accepted i e vote.view r.height vote.digest) = subst (λ n. Stands m.at (Accepted i e vote.view n vote.digest)) (sym true'.at_height) there in
          (omega arith, stands_later (Accepted i e vote.view r.height vote.digest) m.at h m.once here));
      reached = λ v s d p lt. (tells_prepared su h run i e v target s d r p st lt).0;
      greatest = λ v d p lt.
          (let t = (tells_prepared su h run i e v target r.height d r p st lt).1 refl in
          (t.vote, t.is, t.least, t.same));
    }

-- what a fact adds to the acceptances at a number: nothing, or its own vote
accepted_one : (i e s j e' v s' : ℕ) (d : List ℕ) (b : Bool) → ((j == i) && (e' == e) && (s' == s)) ≡ b
    → (cond {A = List Vote} b (record { view = v; digest = d } ∷ []) [] ≡ []) ⊎ ((w : Vote) × (cond {A = List Vote} b (record { view = v; digest = d } ∷ []) [] ≡ w ∷ []) × (Accepted j e' v s' d ≡ Accepted i e w.view s w.digest))
accepted_one i e s j e' v s' d true eb =
    let p = and_parts ((j == i) && (e' == e)) (s' == s) eb in
    let q = and_parts (j == i) (e' == e) p.0 in
    let ej = eqb-true j i q.0 in let ee = eqb-true e' e q.1 in let es = eqb-true s' s p.1 in
    inr (record { view = v; digest = d }, refl, (cc))
accepted_one i e s j e' v s' d false eb = inl refl

accepted_adds : (i e s : ℕ) (f : Fact) → (accepted_votes i e s f ≡ []) ⊎ ((w : Vote) × (accepted_votes i e s f ≡ w ∷ []) × (f ≡ Accepted i e w.view s w.digest))
accepted_adds i e s (Accepted j e' v s' d) = accepted_one i e s j e' v s' d ((j == i) && (e' == e) && (s' == s)) refl
accepted_adds i e s (Prepared j e' v s' d) = inl refl
accepted_adds i e s (Left j e' v) = inl refl
accepted_adds i e s (Reported j e' v r) = inl refl
accepted_adds i e s (Entered j e' v x choice) = inl refl
accepted_adds i e s (Delivered j b proof) = inl refl

all_from_none : (test : Vote → Bool) (vs : List Vote) → list_any (λ w. not (test w)) vs ≡ false → list_all test vs ≡ true
all_from_none test [] none = refl
all_from_none test (v ∷ vs) none =
    let p = or_parts (not (test v)) (list_any (λ w. not (test w)) vs) none in
    and_from (test v) (list_all test vs) (not_false (test v) p.0) (all_from_none test vs p.1)
  where
    not_false : (b : Bool) → not b ≡ false → b ≡ true
    not_false true e = refl
    not_false false e = (cc)

-- what was accepted before is of a lower view
older_lower : (su : Setup) (h : History) → IsRun su h → (i e s v : ℕ) (d : List ℕ) → Allowed su h (Accepted i e v s d) → list_all (λ w. nat_lt w.view v) (accepted_at i e s h) ≡ true
older_lower su h run i e s v d allowed =
    let rules = accepted_rules su h i e v s d allowed in
    elim (cases_Bool (list_any (λ w. not (nat_lt w.view v)) (accepted_at i e s h))) [
      | inr none ↦ all_from_none (λ w. nat_lt w.view v) (accepted_at i e s h) none
      | inl some ↦
          let a = accepted_told i e s h (λ w. not (nat_lt w.view v)) some in
          let not_less = ltb-false a.vote.view v (not-true (nat_lt a.vote.view v) a.passes) in
          let reached = accepted_reached su h run i e a.vote.view s a.vote.digest a.stands in
          let views = reached.view in let inside = rules.inside in
          let same : a.vote.view ≡ v = omega arith in
          let there : Stands h (Accepted i e v s a.vote.digest) = subst (λ u. Stands h (Accepted i e u s a.vote.digest)) same a.stands in
          let has_it = has_found (is_accepted_at i e v s) h (Accepted i e v s a.vote.digest) there (accepted_at_itself i e v s a.vote.digest) in
          let fresh = rules.fresh in
          absurd (cc)
    ]

pub acceptances_fall : AcceptancesFall
acceptances_fall su [] run i e s = tt
acceptances_fall su (f ∷ h) run i e s =
    let rest = acceptances_fall su h run.1 i e s in
    elim (accepted_adds i e s f) [
      | inl none ↦ rw none rest
      | inr one ↦ rw one.1 (older_lower su h run.1 i e s one.0.view one.0.digest (subst (Allowed su h) one.2 run.0), rest)
    ]
