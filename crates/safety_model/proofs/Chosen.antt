-- What a quorum's reports choose is supported by the facts.
use Rattle.std.proofs.Common.{◌≡◌, ℕ, ◌+◌, ◌≤◌, Bool, true, false, ◌||◌, ◌&&◌, cond, List, [], ◌∷◌, length, map, refl, inl, inr, arith}
use Rattle.std.specs.Prelude.{◌==◌, ⊤, not, nat_le, nat_lt}
use Rattle.std.proofs.lemmas.Bool.{and_parts, and_from, or_left, or_right, or_parts, eqb-true, eq-eqb, leb-true, ltb-true, le-leb, lt-ltb, cases_Bool, not-true, not_from_false}
use Rattle.ord_types.specs.Members.{how_many, is_in, quorum}
use Rattle.safety_model.specs.Blocks.{Config}
use Rattle.safety_model.specs.Facts.{Report, History, has, is_reported}
use Rattle.ord_types.specs.declared.values.Choice.TheVariants.{Carry, Free, Neither}
use Rattle.safety_model.specs.declared.fact.Fact.TheVariants.{Reported}
use Rattle.safety_model.specs.State.{Setup, height, last_delivered}
use Rattle.safety_model.specs.Reports.{tells_none, tells_at_most, tells_accepted}
use Rattle.safety_model.specs.Rules.{bound_of, quorum_of, reporters, is_last_certified_in}
use Rattle.safety_model.specs.Choosing.{Told, heard, ChoicesAreSupported, AreDifferent, AreReports, is_told_at, passes, reports_of}
use Rattle.safety_model.proofs.Quorums.{one_less}
use Rattle.safety_model.proofs.Moments.{now, has_found}
use Rattle.safety_model.proofs.Views.{accepter}

-- what a report of this height tells makes its signer pass
EachSpeaks : (ℕ → Bool) → ℕ → (Report → Bool) → List Told → Type 0
EachSpeaks test x tells [] = ⊤
EachSpeaks test x tells (r ∷ rs) = (r.report.height ≡ x → tells r.report ≡ true → test r.signer ≡ true) × EachSpeaks test x tells rs

each_less : (test : ℕ → Bool) (x : ℕ) (tells : Report → Bool) (a : ℕ) (rs : List Told) → is_in a (map (λ (r : Told). r.signer) rs) ≡ false → EachSpeaks test x tells rs → EachSpeaks (λ m. test m && not (m == a)) x tells rs
unfolding EachSpeaks
each_less test x tells a [] apart each = tt
each_less test x tells a (r ∷ rs) apart each =
    let p = or_parts (r.signer == a) (is_in a (map (λ (r : Told). r.signer) rs)) apart in
    ((λ at told. and_from (test r.signer) (not (r.signer == a)) (each.0 at told) (not_from_false (r.signer == a) p.0)), each_less test x tells a rs p.1 each.1)

heard_step : (b : Bool) (n k l : ℕ) → n ≤ l → (b ≡ true → (n ≤ k) × (k + 1 ≤ l)) → cond b 1 0 + n ≤ l
heard_step true n k l le more = (let m = more refl in let a = m.0 in let b = m.1 in omega arith)
heard_step false n k l le more = omega arith

-- at most as many reports tell something as members pass
count_heard : (su : Setup) (h : History) (c : Config) (v x : ℕ) (tells : Report → Bool) (test : ℕ → Bool) (rs : List Told) → AreDifferent (map (λ (r : Told). r.signer) rs) → AreReports su h c v rs → EachSpeaks test x tells rs → heard x tells (reports_of rs) ≤ how_many test c.members
unfolding EachSpeaks
count_heard su h c v x tells test [] apart are each = omega arith
count_heard su h c v x tells test (r ∷ rs) apart are each =
    let a = r.signer in
    let test' : ℕ → Bool = λ m. test m && not (m == a) in
    let other = not-true (is_in a (map (λ (r : Told). r.signer) rs)) apart.0 in
    heard_step ((r.report.height == x) && tells r.report) (heard x tells (reports_of rs)) (how_many test' c.members) (how_many test c.members)
    (count_heard su h c v x tells test rs apart.1 are.2 each.1)
    (λ speaks.
    let p = and_parts (r.report.height == x) (tells r.report) speaks in (
      count_heard su h c v x tells test' rs apart.1 are.2 (each_less test x tells a rs other each.1),
      one_less test a c.members are.0 (each.0 (eqb-true r.report.height x p.0) p.1),
    ))

-- what a correct signer tells stands, and a Byzantine one is counted anyway
each_reports : (su : Setup) (h : History) (c : Config) (v x : ℕ) (tells : Report → Bool) (rs : List Told) → AreReports su h c v rs → EachSpeaks (λ j. is_in j su.byzantine || has (is_reported j c.number v x tells) h) x tells rs
unfolding EachSpeaks
each_reports su h c v x tells [] are = tt
each_reports su h c v x tells (r ∷ rs) are = (
  (λ at told. elim (cases_Bool (is_in r.signer su.byzantine)) [
    | inl liar ↦ or_left (is_in r.signer su.byzantine) (has (is_reported r.signer c.number v x tells) h) liar
    | inr honest ↦ or_right (is_in r.signer su.byzantine) (has (is_reported r.signer c.number v x tells) h)
        (has_found (is_reported r.signer c.number v x tells) h (Reported r.signer c.number v r.report) (are.1 honest)
        (and_from _ _ (and_from _ _ (and_from _ _ (and_from _ _ (eq-eqb r.signer r.signer refl) (eq-eqb c.number c.number refl)) (eq-eqb v v refl)) (eq-eqb r.report.height x at)) told))
  ]),
  each_reports su h c v x tells rs are.2,
)

heard_reported : (su : Setup) (h : History) (c : Config) (v x : ℕ) (tells : Report → Bool) (rs : List Told) → AreDifferent (map (λ (r : Told). r.signer) rs) → AreReports su h c v rs → heard x tells (reports_of rs) ≤ reporters su h c c.number v x tells
heard_reported su h c v x tells rs apart are = count_heard su h c v x tells (λ j. is_in j su.byzantine || has (is_reported j c.number v x tells) h) rs apart are (each_reports su h c v x tells rs are)

-- a choice that is no Neither is supported
pub choices_supported : ChoicesAreSupported
choices_supported su h c run bound i v x rs apart are Neither chooses not_neither = absurd (not_neither refl)
choices_supported su h c run bound i v x rs apart are Free chooses not_neither =
    let enough : quorum (length c.members) ≤ heard x tells_none (reports_of rs) = chooses.1.1 in
    let more = heard_reported su h c v x tells_none rs apart are in
    or_left (nat_le (quorum_of c) (reporters su h c c.number v x tells_none)) ((x == height i h) && is_last_certified_in c.number v (last_delivered i h))
    (le-leb (quorum_of c) (reporters su h c c.number v x tells_none) (omega arith))
choices_supported su h c run bound i v x rs apart are (Carry vote) chooses not_neither =
    let passing : passes (length c.members) x (reports_of rs) vote ≡ true = chooses.1.0 in
    let p = and_parts (is_told_at x vote (reports_of rs)) (nat_le (quorum_of c) (heard x (tells_at_most vote) (reports_of rs)) && nat_lt (bound_of c) (heard x (tells_accepted vote) (reports_of rs))) passing in
    let q = and_parts (nat_le (quorum_of c) (heard x (tells_at_most vote) (reports_of rs))) (nat_lt (bound_of c) (heard x (tells_accepted vote) (reports_of rs))) p.1 in
    let prepared = leb-true (quorum_of c) (heard x (tells_at_most vote) (reports_of rs)) q.0 in
    let accepted = ltb-true (bound_of c) (heard x (tells_accepted vote) (reports_of rs)) q.1 in
    let more_p = heard_reported su h c v x (tells_at_most vote) rs apart are in
    let more_a = heard_reported su h c v x (tells_accepted vote) rs apart are in
    let a = accepter su h h c run (now h) bound v x vote (omega arith) in
    let least = a.1.least in let below = a.1.below in
    and_from (nat_lt vote.view v && nat_le (quorum_of c) (reporters su h c c.number v x (tells_at_most vote))) (nat_lt (bound_of c) (reporters su h c c.number v x (tells_accepted vote)))
    (and_from (nat_lt vote.view v) (nat_le (quorum_of c) (reporters su h c c.number v x (tells_at_most vote)))
    (lt-ltb vote.view v (omega arith))
    (le-leb (quorum_of c) (reporters su h c c.number v x (tells_at_most vote)) (omega arith)))
    (lt-ltb (bound_of c) (reporters su h c c.number v x (tells_accepted vote)) (omega arith))
