-- What a moment leaves of what is held is what is computed with it.
use Rattle.std.proofs.Common.{◌≡◌, ℕ, ◌≤◌, ◌<◌, Bool, true, false, cond, max, List, [], ◌∷◌, map, Option, Some, None, refl, sym, ap, ◌∙◌, subst, inl, inr, arith, ◌==◌, ◌&&◌, ◌||◌, not, ◌++◌}
use Rattle.std.proofs.lemmas.Bool.{cases_Bool, eq-eqb, eqb-true, and_from, lt-ltb, ltb-true, ltb-false, not_from_false}
use Rattle.std.specs.Prelude.{nat_lt, is_none}
use Rattle.ord_types.specs.Members.{is_in, is_raft}
use Rattle.ord_types.specs.declared.values.Config.{Config}
use Rattle.ord_types.specs.declared.values.Place.{Place}
use Rattle.safety_model.proofs.FactTests.{bytes_eq_refl}
use Rattle.safety_model.specs.Choosing.{AreDifferent}
use Rattle.bft_wire.specs.declared.message.ViewData.{ViewData}
use Rattle.bft_wire.specs.declared.reason.Reason.{Reason}
use Rattle.bft_wire.specs.declared.reason.Reason.TheVariants as reason
use Rattle.signer_edge.specs.Accepts.{Accepts}
use Rattle.change_model.specs.declared.known.Known.{Known}
use Rattle.change_model.specs.declared.known.KeptReport.{KeptReport}
use Rattle.change_model.specs.declared.known.Waiting.{Waiting}
use Rattle.change_model.specs.Answers.{Reasons, change_kept, change_reasons, data_invalid, data_kept, data_reasons, first_reason, is_new_report, is_new_target, is_newer, kept_report, known_of, report_kept_if, target_if, with_report, with_row, with_target}
use Rattle.change_model.specs.Changing.{Changing, fresh, resumed, unknown}
use Rattle.change_model.specs.Dues.{still_waiting}
use Rattle.change_model.specs.Past.{Announces, Came, Changes, Data, Enters, Fits, Leaves, Moment, MomentsAgree, NewConfigDropsAll, NoneUnder, Past, Reports, Takes, Waits, after_came, changing_in, announced_by, is_same, is_under, known_in, left_by, left_in, newer_of, opened_at, own_by, report_by, report_in, reported_by, row_in, since, target_by, target_in, view_by, view_in, waiting_by}
use Rattle.change_model.proofs.RowLemmas.{row_found, row_missing, rows_equal, rows_same, rows_stay, rows_with}

pub same_itself : (place : Place) → is_same place.config place ≡ true
same_itself place = and_from _ _ (eq-eqb place.config.number place.config.number refl) (bytes_eq_refl place.config.members)

flipped : (a b : ℕ) → (b == a) ≡ false → (a == b) ≡ false
flipped a b e = elim (cases_Bool (a == b)) [
  | inl y ↦ absurd (let z = eq-eqb b a (sym (eqb-true a b y)) in cc)
  | inr n ↦ n
]

-- a member's row with one moment more
row_more : (me : ℕ) (place : Place) (ms : List Moment) (came : Came) (m : ℕ)
    → row_in me place.config (record { place = place; came = came } ∷ ms) m
    ≡ record { member = m; target = target_by m came (target_in place.config m ms); report = report_by me m place came (report_in me place.config m ms) }
row_more me place ms came m = rw (same_itself place) refl

-- LISTS OF REASONS

pub reasons_front : (xs ys : Reasons) (r : Reason) → first_reason xs ≡ Some r → first_reason (xs ++ ys) ≡ Some r
reasons_front [] ys r e = absurd (cc)
reasons_front (x ∷ xs) ys r e =
    elim (cases_Bool x.0) [
      | inl y ↦ rw y (rw y at e)
      | inr n ↦ rw n (reasons_front xs ys r (rw n at e))
    ]

pub reasons_back : (xs ys : Reasons) → first_reason xs ≡ None → first_reason (xs ++ ys) ≡ first_reason ys
reasons_back [] ys e = refl
reasons_back (x ∷ xs) ys e =
    elim (cases_Bool x.0) [
      | inl y ↦ absurd (let z : Some x.1 ≡ None = rw y at e in cc)
      | inr n ↦ rw n (reasons_back xs ys (rw n at e))
    ]

-- TARGETS

pub target_moment : (p : Past) (place : Place) (from target : ℕ) → is_raft place.config ≡ false → AreDifferent place.config.members
    → change_kept place (changing_in place.config p) from target
    ≡ record (changing_in place.config p) { known = known_in p.me place.config (record { place = place; came = Changes from target } ∷ p.moments) }
target_moment p place from target bft different = by_member (is_in from place.config.members) refl
  where
    w : Changing
    w = changing_in place.config p

    new : ℕ → Known
    new m = row_in p.me place.config (record { place = place; came = Changes from target } ∷ p.moments) m

    old : ℕ → Known
    old m = row_in p.me place.config p.moments m

    elsewhere : (m : ℕ) → (m == from) ≡ false → old m ≡ new m
    elsewhere m other = sym (row_more p.me place p.moments (Changes from target) m ∙ rw (flipped from m other) refl)

    here : new from ≡ record (old from) { target = max (target_in place.config from p.moments) target }
    here = row_more p.me place p.moments (Changes from target) from ∙ rw (eq-eqb from from refl) refl

    found : is_in from place.config.members ≡ true → known_of from w.known ≡ Some (old from)
    found among = row_found old from place.config.members (λ m. refl) among

    by_target : is_in from place.config.members ≡ true → (b : Bool) → nat_lt (target_in place.config from p.moments) target ≡ b
        → change_kept place w from target ≡ record w { known = map new place.config.members }
    by_target among true lt =
        let greater = ltb-true (target_in place.config from p.moments) target lt in
        let top : max (target_in place.config from p.moments) target ≡ target = omega arith in
        let row : record (old from) { target = target } ≡ new from = ap (λ (t : ℕ). record (old from) { target = t }) (sym top) ∙ sym here in
        let kept : change_kept place w from target ≡ record w { known = with_row (record (old from) { target = target }) w.known } = rw (among, bft, found among, lt, found among) refl in
        let rows : with_row (record (old from) { target = target }) w.known ≡ map new place.config.members =
        ap (λ (k : Known). with_row k w.known) row ∙ rows_with old new from place.config.members different (λ m. refl) refl elsewhere in
        kept ∙ ap (λ (ks : List Known). record w { known = ks }) rows
    by_target among false le =
        let least = ltb-false (target_in place.config from p.moments) target le in
        let top : max (target_in place.config from p.moments) target ≡ target_in place.config from p.moments = omega arith in
        let row : new from ≡ old from = here ∙ ap (λ (t : ℕ). record (old from) { target = t }) top in
        let kept : change_kept place w from target ≡ w = rw (among, bft, found among, le) refl in
        kept ∙ ap (λ (ks : List Known). record w { known = ks }) (rows_stay old new from row elsewhere place.config.members)

    by_member : (b : Bool) → is_in from place.config.members ≡ b → change_kept place w from target ≡ record w { known = map new place.config.members }
    by_member true among = by_target among (nat_lt (target_in place.config from p.moments) target) refl
    by_member false absent =
        let kept : change_kept place w from target ≡ w = rw absent refl in
        kept ∙ ap (λ (ks : List Known). record w { known = ks }) (rows_same old new from place.config.members absent elsewhere)

-- REPORTS

-- a report without a reason against it comes from a member
pub comes_from_member : (accepts : Accepts) (place : Place) (w : Changing) (from : ℕ) (m : ViewData) → first_reason (data_invalid accepts place w from m) ≡ None → is_in from place.config.members ≡ true
comes_from_member accepts place w from m e = elim (cases_Bool (is_in from place.config.members)) [
  | inl y ↦ y
  | inr n ↦ absurd (let z : Some reason.NotMember ≡ None = rw n at e in cc)
]

pub report_moment : (p : Past) (place : Place) (accepts : Accepts) (from : ℕ) (m : ViewData) → AreDifferent place.config.members
    → data_kept accepts place (changing_in place.config p) from m
    ≡ record (changing_in place.config p) { known = known_in p.me place.config (record { place = place; came = Data accepts from m } ∷ p.moments) }
report_moment p place accepts from m different = by_validity (first_reason (data_invalid accepts place w from m)) refl
  where
    w : Changing
    w = changing_in place.config p

    new : ℕ → Known
    new i = row_in p.me place.config (record { place = place; came = Data accepts from m } ∷ p.moments) i

    old : ℕ → Known
    old i = row_in p.me place.config p.moments i

    kept_report_of : ℕ → Option KeptReport
    kept_report_of i = report_in p.me place.config i p.moments

    row : (i : ℕ) → new i ≡ record (old i) { report = report_by p.me i place (Data accepts from m) (kept_report_of i) }
    row i = row_more p.me place p.moments (Data accepts from m) i

    elsewhere : (i : ℕ) → (i == from) ≡ false → old i ≡ new i
    elsewhere i other = sym (row i ∙ rw (flipped from i other) refl)

    invalid : (r : Reason) → first_reason (data_invalid accepts place w from m) ≡ Some r → (i : ℕ) → old i ≡ new i
    invalid r e i = sym (row i ∙ by_id (from == i))
      where
        by_id : (b : Bool) → record (old i) { report = cond (b && is_none (first_reason (data_invalid accepts place w from m))) (newer_of m (kept_report_of i)) (kept_report_of i) } ≡ old i
        by_id true = rw e refl
        by_id false = refl

    here : first_reason (data_invalid accepts place w from m) ≡ None → new from ≡ record (old from) { report = newer_of m (kept_report_of from) }
    here e = row from ∙ rw (eq-eqb from from refl, e) refl

    by_newness : first_reason (data_invalid accepts place w from m) ≡ None → known_of from w.known ≡ Some (old from) → (b : Bool) → is_newer m.view m.report.height (kept_report_of from) ≡ b
        → data_kept accepts place w from m ≡ record w { known = map new place.config.members }
    by_newness e found true newer =
        let reasons : first_reason (data_reasons accepts place w from m) ≡ None = reasons_back (data_invalid accepts place w from m) ((not (is_new_report m (known_of from w.known)), reason.Repeat) ∷ []) e ∙ rw (found, newer) refl in
        let kept : data_kept accepts place w from m ≡ record w { known = with_row (record (old from) { report = Some (kept_report m) }) w.known } = rw (reasons, found) refl in
        let one : record (old from) { report = Some (kept_report m) } ≡ new from = sym (here e ∙ rw newer refl) in
        let rows : with_row (record (old from) { report = Some (kept_report m) }) w.known ≡ map new place.config.members =
        ap (λ (k : Known). with_row k w.known) one ∙ rows_with old new from place.config.members different (λ i. refl) refl elsewhere in
        kept ∙ ap (λ (ks : List Known). record w { known = ks }) rows
    by_newness e found false old' =
        let reasons : first_reason (data_reasons accepts place w from m) ≡ Some reason.Repeat = reasons_back (data_invalid accepts place w from m) ((not (is_new_report m (known_of from w.known)), reason.Repeat) ∷ []) e ∙ rw (found, old') refl in
        let kept : data_kept accepts place w from m ≡ w = rw reasons refl in
        let one : new from ≡ old from = here e ∙ rw old' refl in
        kept ∙ ap (λ (ks : List Known). record w { known = ks }) (rows_stay old new from one elsewhere place.config.members)

    by_validity : (o : Option Reason) → first_reason (data_invalid accepts place w from m) ≡ o → data_kept accepts place w from m ≡ record w { known = map new place.config.members }
    by_validity (Some r) e =
        let reasons : first_reason (data_reasons accepts place w from m) ≡ Some r = reasons_front (data_invalid accepts place w from m) ((not (is_new_report m (known_of from w.known)), reason.Repeat) ∷ []) r e in
        let kept : data_kept accepts place w from m ≡ w = rw reasons refl in
        kept ∙ ap (λ (ks : List Known). record w { known = ks }) (rows_equal old new (invalid r e) place.config.members)
    by_validity None e =
        by_newness e (row_found old from place.config.members (λ i. refl) (comes_from_member accepts place w from m e))
        (is_newer m.view m.report.height (kept_report_of from)) refl

-- VIEWS

still_later : (u v : ℕ) (o : Option Waiting) → u ≤ v → still_waiting v (still_waiting u o) ≡ still_waiting v o
still_later u v None le = refl
still_later u v (Some news) le = elim (cases_Bool (nat_lt u news.view)) [
  | inl y ↦ rw y refl
  | inr n ↦
      let below = ltb-false u news.view n in
      let none : nat_lt v news.view ≡ false = lt_false v news.view (omega arith) in
      rw n (rw none refl)
]
  where
    lt_false : (a b : ℕ) → b ≤ a → nat_lt a b ≡ false
    lt_false a b le = elim (cases_Bool (nat_lt a b)) [
      | inl y ↦ absurd (let lt = ltb-true a b y in omega arith)
      | inr n ↦ n
    ]

-- what is known of the members stays
quiet : (p : Past) (place : Place) (came : Came)
    → ((i : ℕ) → row_in p.me place.config (record { place = place; came = came } ∷ p.moments) i ≡ row_in p.me place.config p.moments i)
    → known_in p.me place.config (record { place = place; came = came } ∷ p.moments) ≡ known_in p.me place.config p.moments
quiet p place came same = rows_equal (row_in p.me place.config (record { place = place; came = came } ∷ p.moments)) (row_in p.me place.config p.moments) same place.config.members

pub moments_agree : MomentsAgree
moments_agree p place (Changes from target) bft different fits = rw (same_itself place) (sym (target_moment p place from target bft different))
moments_agree p place (Data accepts from m) bft different fits = rw (same_itself place) (sym (report_moment p place accepts from m different))
moments_agree p place (Leaves t) bft different fits =
    let top : max (left_in place.config p) t ≡ t = omega arith in
    rw (quiet p place (Leaves t) (λ i. row_more p.me place p.moments (Leaves t) i))
    (rw (same_itself place) (ap (λ (n : ℕ). record (changing_in place.config p) { left = n; own = None }) top))
moments_agree p place (Enters v) bft different fits =
    let top : max (view_in place.config p) v ≡ v = omega arith in
    let last = since (λ (m : Moment). waiting_by m.came) place.config None p.moments in
    let still : still_waiting (max (view_in place.config p) v) last ≡ still_waiting v (still_waiting (view_in place.config p) last) = ap (λ (n : ℕ). still_waiting n last) top ∙ sym (still_later (view_in place.config p) v last fits) in
    rw (quiet p place (Enters v) (λ i. row_more p.me place p.moments (Enters v) i))
    (rw (same_itself place) (rw (still, top) refl))
moments_agree p place (Reports t) bft different fits =
    rw (quiet p place (Reports t) (λ i. row_more p.me place p.moments (Reports t) i))
    (rw (same_itself place) (ap (λ (n : ℕ). record (changing_in place.config p) { reported = Some (n, place.height) }) fits))
moments_agree p place (Announces v own) bft different fits =
    rw (quiet p place (Announces v own) (λ i. row_more p.me place p.moments (Announces v own) i)) (rw (same_itself place) refl)
moments_agree p place Takes bft different fits =
    rw (quiet p place Takes (λ i. row_more p.me place p.moments Takes i)) (rw (same_itself place) refl)
moments_agree p place (Waits news) bft different fits =
    rw (quiet p place (Waits news) (λ i. row_more p.me place p.moments (Waits news) i))
    (rw (same_itself place) (rw (lt-ltb (view_in place.config p) news.view fits) refl))

-- A NEW CONFIGURATION

none_since : {A : Type 0} (step : Moment → A → A) (c : Config) (a : A) (ms : List Moment) → NoneUnder c ms → since step c a ms ≡ a
none_since step c a [] none = refl
none_since step c a (m ∷ ms) none = rw none.0 (none_since step c a ms none.1)

pub new_config_drops_all : NewConfigDropsAll
new_config_drops_all p place apart none =
    let rows : known_in p.me place.config p.moments ≡ map unknown place.config.members =
    rows_equal (row_in p.me place.config p.moments) unknown (λ m. rw (none_since (λ (q : Moment). target_by m q.came) place.config 0 p.moments none, none_since (λ (q : Moment). report_by p.me m q.place q.came) place.config None p.moments none) refl) place.config.members in
    by_parts rows
  where
    c : Config
    c = place.config

    by_parts : known_in p.me c p.moments ≡ map unknown c.members → changing_in c p ≡ fresh p.me place
    by_parts rows = rw (rows, apart) (rw (
      none_since (λ (m : Moment). view_by m.came) c 0 p.moments none,
      none_since (λ (m : Moment). left_by m.came) c 0 p.moments none,
      none_since (λ (m : Moment). waiting_by m.came) c None p.moments none,
      none_since (λ (m : Moment). own_by m.came) c None p.moments none,
      none_since (λ (m : Moment). reported_by m.place m.came) c None p.moments none,
      none_since (λ (m : Moment). announced_by m.came) c 0 p.moments none,
    ) refl)

-- AN OPENING

pub opens : (me : ℕ) (place : Place) (view left : ℕ) → changing_in place.config (opened_at me place view left) ≡ resumed me place view left
opens me place view left = rw (same_itself place) (ap (λ (ks : List Known). record (resumed me place view left) { known = ks }) (rows_equal (row_in me place.config []) unknown (λ m. refl) place.config.members))
