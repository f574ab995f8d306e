-- Later views carry on what an earlier view certified.
use Rattle.std.proofs.Common.{◌≡◌, ℕ, zero, suc, ◌≤◌, ◌<◌, Bool, true, false, ◌&&◌, List, refl, sym, ap, subst, ◌∙◌, inl, inr, arith, Option, Some, None}
use Rattle.std.specs.Prelude.{◌==◌, nat_le, nat_lt, is_none}
use Rattle.std.proofs.lemmas.Bool.{and_parts, or_cases, eqb-true, leb-true, ltb-true, cases_Bool, cases_eq}
use Rattle.ord_types.specs.Hashes.{block_hash}
use Rattle.ord_types.specs.Members.{is_raft}
use Rattle.safety_model.specs.Blocks.{Block, Config}
use Rattle.safety_model.specs.Facts.{Vote, Proof, Report, Choice, History, has, Stands, is_prepared, is_reported, is_entered_against}
use Rattle.ord_types.specs.declared.values.Choice.TheVariants.{Carry, Free, Neither}
use Rattle.safety_model.specs.declared.fact.Fact.TheVariants.{Accepted, Prepared, Reported, Entered, Delivered}
use Rattle.safety_model.specs.State.{Setup, height, last_delivered, block_or, tip, config_of}
use Rattle.safety_model.specs.Reports.{vote_eq, tells_none, tells_at_most, tells_accepted, is_at_most}
use Rattle.safety_model.specs.Rules.{IsRun, faulty, quorum_of, bound_of, reporters, is_last_certified_in, is_cert_of, is_supported}
use Rattle.safety_model.proofs.Quorums.{two_quorums, one_correct}
use Rattle.safety_model.proofs.Moments.{WasOnce, once_once, run_once, stands_later, moment, order, found, has_found}
use Rattle.safety_model.proofs.FactTests.{reported_is, not_against}
use Rattle.safety_model.proofs.StateFacts.{entry, height_later}
use Rattle.safety_model.proofs.RuleFacts.{accepted_rules, prepared_rules, entered_rules}
use Rattle.safety_model.proofs.OneView.{IsCertified, prepared_stands}
use Rattle.safety_model.proofs.TrueReports.{Tells, tells_prepared, ToldAcceptance, told_acceptance, prepared_reached, vote_same}
use Rattle.safety_model.proofs.Deliveries.{IsOnlyConfig, delivered_certified, last_stands, tip_number}

-- a member of the certificate's quorum that reported
pub record Teller (x v s : ℕ) (d : List ℕ) (tells : Report → Bool) : Type 0 where
  pub report : Report
  pub at_height : report.height ≡ x
  pub told : tells report ≡ true
  pub not_below : s ≤ x
  pub knows : s ≡ x → Tells report v s d

pub teller : (su : Setup) (h g : History) (c : Config) → IsRun su h → WasOnce g h → faulty su.byzantine c ≤ bound_of c → (v v' s x : ℕ) (d : List ℕ) → v < v' → IsCertified su h c v s d → (tells : Report → Bool) → quorum_of c ≤ reporters su g c c.number v' x tells → Teller x v s d tells
teller su h g c run once bound v v' s x d lt cert tells enough =
    let e = c.number in
    let k = two_quorums su.byzantine c (λ j. has (is_prepared j e v s d) h) (λ j. has (is_reported j e v' x tells) g) bound cert enough in
    let prepared = prepared_stands k.0 e v s d h k.2 in
    let f = found (is_reported k.0 e v' x tells) g k.3 in
    let is = reported_is k.0 e v' x tells f.0 f.2 in
    let stands : Stands h (Reported k.0 e v' is.report) = stands_later (Reported k.0 e v' is.report) g h once (subst (λ f. Stands g f) is.is f.1) in
    let t = tells_prepared su h run k.0 e v v' s d is.report prepared stands lt in
    let hx = is.height in
    let below = t.0 in
    record { report = is.report; at_height = hx; told = is.told; not_below = omega arith; knows = λ same. t.1 (same ∙ sym hx) }

-- among more than the bound that told an acceptance, a correct member made it
pub accepter : (su : Setup) (h g : History) (c : Config) → IsRun su h → WasOnce g h → faulty su.byzantine c ≤ bound_of c → (v x : ℕ) (vote : Vote) → bound_of c < reporters su g c c.number v x (tells_accepted vote) → (j : ℕ) × ToldAcceptance h j c.number v x vote
accepter su h g c run once bound v x vote enough =
    let e = c.number in
    let k = one_correct su.byzantine c (λ j. has (is_reported j e v x (tells_accepted vote)) g) bound enough in
    let f = found (is_reported k.0 e v x (tells_accepted vote)) g k.2 in
    let is = reported_is k.0 e v x (tells_accepted vote) f.0 f.2 in
    let stands : Stands h (Reported k.0 e v is.report) = stands_later (Reported k.0 e v is.report) g h once (subst (λ f. Stands g f) is.is f.1) in
    (k.0, subst (λ x. ToldAcceptance h k.0 e v x vote) is.height (told_acceptance su h run k.0 e v is.report vote stands is.told))

-- who prepared in a view at a number, prepares at no greater number in a lower view
pub views_rise : (su : Setup) (h : History) → IsRun su h → (i e v v' s s' : ℕ) (d d' : List ℕ) → Stands h (Prepared i e v' s' d') → Stands h (Prepared i e v s d) → s' < s → v' ≤ v
views_rise su h run i e v v' s s' d d' first second lt =
    elim (order su h (Prepared i e v' s' d') (Prepared i e v s d) run first second) [
      | inl same ↦ (let numbers : s' ≡ s = cc in absurd (omega arith))
      | inr (inl m) ↦
          let reached = prepared_reached su m.at m.run i e v' s' d' m.stands in
          let inside = (prepared_rules su m.at i e v s d m.allowed).inside in
          let views = reached.view in
          omega arith
      | inr (inr m) ↦
          let reached = prepared_reached su m.at m.run i e v s d m.stands in
          let number = (prepared_rules su m.at i e v' s' d' m.allowed).number in
          let numbers = reached.number in
          absurd (omega arith)
    ]

-- an accepted digest is the one that the entry carries at this number
against_none : (g : History) (i e v s : ℕ) (d : List ℕ) (vote : Vote) → has (is_entered_against i e v s d) g ≡ false → Stands g (Entered i e v s (Carry vote)) → vote.digest ≡ d
against_none g i e v s d vote none st =
    elim (cases_Bool (is_entered_against i e v s d (Entered i e v s (Carry vote)))) [
      | inl y ↦ (let has_it = has_found (is_entered_against i e v s d) g (Entered i e v s (Carry vote)) st y in absurd (cc))
      | inr n ↦ not_against i e v s d vote n
    ]

-- a teller that tells no preparation knows none
no_none : (x v s : ℕ) (d : List ℕ) → x ≤ s → Teller x v s d tells_none → ⊥
no_none x v s d le t =
    let below = t.not_below in
    let same : s ≡ x = omega arith in
    let knows = t.knows same in
    let none = t.told in
    let some : is_none t.report.prepared ≡ false = rw knows.is in
    cc

-- what the told preparation says of the certificate
pub record CarriesOver (vote : Vote) (v : ℕ) (d : List ℕ) : Type 0 where
  pub least : v ≤ vote.view
  pub same : vote.view ≡ v → vote.digest ≡ d

carries_over : (x v s : ℕ) (d : List ℕ) (vote : Vote) → x ≤ s → Teller x v s d (tells_at_most vote) → (s ≡ x) × CarriesOver vote v d
carries_over x v s d vote le t =
    let below = t.not_below in
    let same : s ≡ x = omega arith in
    let knows = t.knows same in
    let least = knows.least in
    let most : is_at_most vote (Some knows.vote) ≡ true = subst (λ o. is_at_most vote o ≡ true) knows.is t.told in
    elim (or_cases (nat_lt knows.vote.view vote.view) (vote_eq knows.vote vote) most) [
      | inl lower ↦ (let lt = ltb-true knows.vote.view vote.view lower in (same, record { least = omega arith; same = λ is. absurd (omega arith) }))
      | inr one ↦
          let is = vote_same knows.vote vote one in
          let view : knows.vote.view ≡ vote.view = ap (λ v. v.view) is in
          (same, record { least = omega arith; same = λ at. (let old = knows.same (view ∙ at) in sym (ap (λ v. v.digest) is) ∙ old) })
    ]

-- the entry that an acceptance rests on, with what is known of it
pub record Ground (su : Setup) (h g : History) (c : Config) (j v x : ℕ) (choice : Choice) : Type 0 where
  pub once : WasOnce g h
  pub run : IsRun su g
  pub supported : is_supported su g j c c.number v x choice ≡ true

-- an entry by certificate is impossible
no_certificate : (su : Setup) (h g : History) (c : Config) → IsRun su h → su.genesis.header.number ≡ 0 → IsOnlyConfig su c h → is_raft c ≡ false → faulty su.byzantine c ≤ bound_of c → WasOnce g h → (v v' s x j : ℕ) (d : List ℕ) → v < v' → x ≤ s → IsCertified su h c v s d → x ≡ height j g → is_last_certified_in c.number v' (last_delivered j g) ≡ true → ⊥
no_certificate su h g c run zero' only bft bound once v v' s x j d lt le cert at_height last = last_cases (last_delivered j g) refl last
  where
    last_cases : (o : Option (Block × Proof)) → last_delivered j g ≡ o → is_last_certified_in c.number v' o ≡ true → ⊥
    last_cases None is y = cc
    last_cases (Some last) is y =
        let b = last.0 in let proof = last.1 in
        let p = and_parts (b.meta.config == c.number) (is_cert_of v' proof) y in
        let under = eqb-true b.meta.config c.number p.0 in
        let stands : Stands h (Delivered j b proof) = stands_later (Delivered j b proof) g h once (last_stands j g b proof is) in
        let certified = delivered_certified su h c run only bft j b proof stands under in
        let view = certified.0.view in
        let in_view : view ≡ v' = eqb-true view v' (subst (λ proof. is_cert_of v' proof ≡ true) certified.1 p.1) in
        let number = tip_number su g (run_once su g h once run) zero' j in
        let tips : (tip su j g).header.number ≡ b.header.number = ap (λ o. (block_or su.genesis o).header.number) is in
        let k = two_quorums su.byzantine c (λ j. has (is_prepared j c.number view b.header.number (block_hash b)) h) (λ j. has (is_prepared j c.number v s d) h) bound certified.2 cert in
        let first = prepared_stands k.0 c.number view b.header.number (block_hash b) h k.2 in
        let second = prepared_stands k.0 c.number v s d h k.3 in
        let below : b.header.number < s = omega arith in
        let rise = views_rise su h run k.0 c.number v view s b.header.number d (block_hash b) first second below in
        absurd (omega arith)

-- what an entry's support says of a digest accepted under it
by_choice : (su : Setup) (h g : History) (c : Config) → IsRun su h → su.genesis.header.number ≡ 0 → IsOnlyConfig su c h → is_raft c ≡ false → faulty su.byzantine c ≤ bound_of c → WasOnce g h → (v v' s x j : ℕ) (d d' : List ℕ) → v < v' → x ≤ s → IsCertified su h c v s d
    → ((u k : ℕ) (du : List ℕ) → v < u → u < v' → Stands h (Accepted k c.number u s du) → du ≡ d)
    → (choice : Choice) → ((vote : Vote) → choice ≡ Carry vote → x ≡ s → vote.digest ≡ d')
    → is_supported su g j c c.number v' x choice ≡ true → d' ≡ d
by_choice su h g c run zero' only bft bound once v v' s x j d d' lt le cert below Neither carried supported = (cc)
by_choice su h g c run zero' only bft bound once v v' s x j d d' lt le cert below Free carried supported =
    elim (or_cases (nat_le (quorum_of c) (reporters su g c c.number v' x tells_none)) ((x == height j g) && is_last_certified_in c.number v' (last_delivered j g)) supported) [
      | inl free ↦ absurd (no_none x v s d le (teller su h g c run once bound v v' s x d lt cert tells_none (leb-true _ _ free)))
      | inr by_cert ↦
          let p = and_parts (x == height j g) (is_last_certified_in c.number v' (last_delivered j g)) by_cert in
          absurd (no_certificate su h g c run zero' only bft bound once v v' s x j d lt le cert (eqb-true x (height j g) p.0) p.1)
    ]
by_choice su h g c run zero' only bft bound once v v' s x j d d' lt le cert below (Carry vote) carried supported =
    let told_prepared = reporters su g c c.number v' x (tells_at_most vote) in
    let told_accepted = reporters su g c c.number v' x (tells_accepted vote) in
    let p = and_parts (nat_lt vote.view v' && nat_le (quorum_of c) told_prepared) (nat_lt (bound_of c) told_accepted) supported in
    let q = and_parts (nat_lt vote.view v') (nat_le (quorum_of c) told_prepared) p.0 in
    let most = leb-true (quorum_of c) told_prepared q.1 in
    let over = carries_over x v s d vote le (teller su h g c run once bound v v' s x d lt cert (tells_at_most vote) most) in
    let here = carried vote refl (sym over.0) in
    elim (cases_eq vote.view v) [
      | inl same ↦ sym here ∙ over.1.same same
      | inr other ↦
          let least = over.1.least in
          let above : v < vote.view = omega arith in
          let a = accepter su h g c run once bound v' x vote (ltb-true (bound_of c) told_accepted p.1) in
          let told = a.1 in
          let up = told.least in
          let stands : Stands h (Accepted a.0 c.number told.view s vote.digest) = subst (λ n. Stands h (Accepted a.0 c.number told.view n vote.digest)) (sym over.0) told.stands in
          sym here ∙ below told.view a.0 vote.digest (omega arith) told.below stands
    ]

-- Castro and Liskov's induction: what is certified in a view is all that later views accept at this number
later_accepts : (n : ℕ) (su : Setup) (h : History) (c : Config) → IsRun su h → su.genesis.header.number ≡ 0 → IsOnlyConfig su c h → is_raft c ≡ false → faulty su.byzantine c ≤ bound_of c → (v s : ℕ) (d : List ℕ) → IsCertified su h c v s d → (v' j : ℕ) (d' : List ℕ) → v < v' → v' ≤ n → Stands h (Accepted j c.number v' s d') → d' ≡ d
later_accepts zero su h c run zero' only bft bound v s d cert v' j d' lt le st = absurd (omega arith)
later_accepts (suc n) su h c run zero' only bft bound v s d cert v' j d' lt le st =
    let e = c.number in
    let m = moment su h (Accepted j e v' s d') run st in
    let rules = accepted_rules su m.at j e v' s d' m.allowed in
    let en = entry j e v' m.at (omega arith) rules.inside in
    let m2 = moment su m.at (Entered j e v' en.number en.choice) m.run en.stands in
    let entered = entered_rules su m2.at j e v' en.number en.choice m2.allowed in
    let once = once_once m2.at m.at h m2.once m.once in
    let grown = height_later j m2.at m.at m2.once in
    let number = rules.number in let reached = entered.reached in
    let at_most : en.number ≤ s = omega arith in
    let is : config_of su j m2.at ≡ c = only m2.at j once entered.config in
    let supported = subst (λ c'. is_supported su m2.at j c' e v' en.number en.choice ≡ true) is entered.supported in
    let carried : (vote : Vote) → en.choice ≡ Carry vote → en.number ≡ s → vote.digest ≡ d' = λ vote is_carry same.
    against_none m.at j e v' s d' vote rules.not_against
    (subst (λ x. Stands m.at (Entered j e v' x (Carry vote))) same (subst (λ choice. Stands m.at (Entered j e v' en.number choice)) is_carry en.stands)) in
    let below : (u k : ℕ) (du : List ℕ) → v < u → u < v' → Stands h (Accepted k e u s du) → du ≡ d = λ u k du vu uv a.
    later_accepts n su h c run zero' only bft bound v s d cert u k du vu (omega arith) a in
    by_choice su h m2.at c run zero' only bft bound once v v' s en.number j d d' lt at_most cert below en.choice carried supported

pub carried_on : (su : Setup) (h : History) (c : Config) → IsRun su h → su.genesis.header.number ≡ 0 → IsOnlyConfig su c h → is_raft c ≡ false → faulty su.byzantine c ≤ bound_of c → (v v' s j : ℕ) (d d' : List ℕ) → v < v' → IsCertified su h c v s d → Stands h (Accepted j c.number v' s d') → d' ≡ d
carried_on su h c run zero' only bft bound v v' s j d d' lt cert st = later_accepts v' su h c run zero' only bft bound v s d cert v' j d' lt (omega arith) st
