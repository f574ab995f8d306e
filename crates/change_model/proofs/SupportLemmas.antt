-- What an announced or an entered choice stands on.
use Rattle.std.proofs.Common.{◌≡◌, ℕ, ◌+◌, ◌≤◌, ◌<◌, Bool, true, false, ◌&&◌, ◌||◌, not, ◌==◌, cond, List, [], ◌∷◌, length, map, Option, Some, None, refl, sym, ap, ◌∙◌, subst, ◌⊎◌, inl, inr, arith}
use Rattle.std.specs.Prelude.{◌≢◌, IfSome, IsTrue, is_none, nat_le}
use Rattle.std.specs.List.{AllByRecursion, cons_option}
use Rattle.std.proofs.lemmas.Bool.{and_parts, cases_Bool, eqb-true, not-true, not_from_false, or_parts}
use Rattle.ord_types.specs.Members.{is_in}
use Rattle.ord_types.specs.declared.values.Block.{Block}
use Rattle.ord_types.specs.declared.values.Choice.{Choice}
use Rattle.ord_types.specs.declared.values.Choice.TheVariants.{Neither}
use Rattle.ord_types.specs.declared.values.Config.{Config}
use Rattle.ord_types.specs.declared.values.Place.{Place}
use Rattle.ord_types.specs.declared.values.Report.{Report}
use Rattle.bft_wire.specs.Messages.{AreSigned}
use Rattle.bft_wire.specs.declared.message.NewView.{NewView}
use Rattle.bft_wire.specs.declared.message.Signed.{Signed}
use Rattle.bft_wire.specs.declared.message.ViewData.{ViewData}
use Rattle.bft_wire.specs.declared.reason.Reason.{Reason}
use Rattle.safety_model.proofs.Chosen.{choices_supported}
use Rattle.safety_model.specs.Choosing.{AreDifferent, AreReports, IsChoice, Told, reports_of, told_height}
use Rattle.safety_model.specs.Facts.{History}
use Rattle.safety_model.specs.Rules.{IsRun, bound_of, faulty, is_supported}
use Rattle.safety_model.specs.State.{Setup}
use Rattle.signer_edge.specs.Accepts.{Accepts}
use Rattle.change_model.specs.declared.act.ChangeAct.{ChangeAct}
use Rattle.change_model.specs.declared.act.ChangeAct.TheVariants.{Announce, Enter}
use Rattle.change_model.specs.declared.known.KeptReport.{KeptReport}
use Rattle.change_model.specs.declared.known.Known.{Known}
use Rattle.change_model.specs.declared.known.Own.{Own}
use Rattle.change_model.specs.Answers.{data_invalid, first_reason, heard_news, is_settled, is_stale, kept_report, late_reason, news_in, news_reasons, news_turn, nothing, settled_turn}
use Rattle.change_model.specs.Changing.{Changing, fresh, quorum_at}
use Rattle.change_model.specs.Choices.{choice_of, reports_in, signers_in}
use Rattle.change_model.specs.Dues.{Turn, announce_due, announce_if, announce_turn, announces, enter_turn, is_collecting, is_later, message_of, own_of, report_for, report_if, reports_for, signed_in, turn_if, waits}
use Rattle.change_model.specs.Laws.{AnnouncedIsSupported, AscendingAreDifferent, EnteredIsSupported, HasOwnReports, IsOwnReport, ReportsAreTheirMembers, told_in}
use Rattle.change_model.specs.Past.{Announces, Came, Changes, Data, Enters, Leaves, Moment, Past, Reports, Takes, Waits, changing_in, is_under, is_valid_data, newer_of, report_by, report_in, row_in}
use Rattle.change_model.specs.Valid.{is_choice}
use Rattle.change_model.proofs.ChoiceLemmas.{choice_is}
use Rattle.change_model.proofs.ValidLemmas.{choice_is_made, data_valid}

-- EACH KEPT REPORT IS SIGNED BY ITS MEMBER

abbrev OwnReport : ℕ → Option KeptReport → Type 0
OwnReport member o = IfSome o (λ (r : KeptReport). r.signed.sig.signer ≡ member)

none_is : (o : Option Reason) → is_none o ≡ true → o ≡ None
none_is None h = refl
none_is (Some r) h = absurd (cc)

own_newer : (member : ℕ) (m : ViewData) (old : Option KeptReport) (b : Bool) → m.sig.signer ≡ member → OwnReport member old → OwnReport member (cond b (Some (kept_report m)) old)
own_newer member m old true is own = is
own_newer member m old false is own = own

own_data : (me member : ℕ) (place : Place) (accepts : Accepts) (from : ℕ) (m : ViewData) (old : Option KeptReport) (b : Bool)
    → ((from == member) && is_valid_data accepts place me from m) ≡ b → OwnReport member old → OwnReport member (cond b (newer_of m old) old)
own_data me member place accepts from m old false e own = own
own_data me member place accepts from m old true e own =
    let parts = and_parts (from == member) (is_valid_data accepts place me from m) e in
    let valid = data_valid accepts place (fresh me place) from m (none_is (first_reason (data_invalid accepts place (fresh me place) from m)) parts.1) in
    own_newer member m old _ (valid.valid.sender ∙ eqb-true from member parts.0) own

own_by_came : (me member : ℕ) (place : Place) (came : Came) (old : Option KeptReport) → OwnReport member old → OwnReport member (report_by me member place came old)
own_by_came me member place (Data accepts from m) old own = own_data me member place accepts from m old _ refl own
own_by_came me member place (Changes from target) old own = own
own_by_came me member place (Leaves t) old own = own
own_by_came me member place (Enters v) old own = own
own_by_came me member place (Reports t) old own = own
own_by_came me member place (Announces v o) old own = own
own_by_came me member place Takes old own = own
own_by_came me member place (Waits news) old own = own

own_if : (member : ℕ) (b : Bool) (new old : Option KeptReport) → OwnReport member new → OwnReport member old → OwnReport member (cond b new old)
own_if member true new old h g = h
own_if member false new old h g = g

report_own : (me : ℕ) (c : Config) (member : ℕ) (ms : List Moment) → OwnReport member (report_in me c member ms)
report_own me c member [] = tt
report_own me c member (m ∷ ms) =
    let rest = report_own me c member ms in
    own_if member (is_under c m) (report_by me member m.place m.came (report_in me c member ms)) (report_in me c member ms) (own_by_came me member m.place m.came (report_in me c member ms) rest) rest

names_of : (f : ℕ → Known) → ((m : ℕ) → (f m).member ≡ m) → (members : List ℕ) → map (λ (k : Known). k.member) (map f members) ≡ members
names_of f named [] = refl
names_of f named (m ∷ ms) = ap (λ (i : ℕ). i ∷ map (λ (k : Known). k.member) (map f ms)) (named m) ∙ ap (λ (is : List ℕ). m ∷ is) (names_of f named ms)

rows_of : (f : ℕ → Known) → ((m : ℕ) → IsOwnReport (f m)) → (members : List ℕ) → AllByRecursion IsOwnReport (map f members)
rows_of f own [] = tt
rows_of f own (m ∷ ms) = (own m, rows_of f own ms)

pub reports_are_their_members : ReportsAreTheirMembers
reports_are_their_members c p =
    record {
      members = names_of (row_in p.me c p.moments) (λ m. refl) c.members;
      reports = rows_of (row_in p.me c p.moments) (λ m. report_own p.me c m p.moments) c.members;
    }

-- DIFFERENT SIGNERS

-- the signers of the kept reports for view t
abbrev signers_for : ℕ → List Known → List ℕ
signers_for t ks = signers_in (signed_in (reports_for t ks))

abbrev names_in : List Known → List ℕ
names_in ks = map (λ (k : Known). k.member) ks

signers_with : (t : ℕ) (k : Known) (ks : List Known) → IsOwnReport k → (signers_for t (k ∷ ks) ≡ signers_for t ks) ⊎ (signers_for t (k ∷ ks) ≡ k.member ∷ signers_for t ks)
signers_with t k ks own = by_report k.report own refl
  where
    by_view : (r : KeptReport) → r.signed.sig.signer ≡ k.member → (b : Bool)
        → (signers_in (signed_in (cons_option (cond b (Some r) None) (reports_for t ks))) ≡ signers_for t ks) ⊎ (signers_in (signed_in (cons_option (cond b (Some r) None) (reports_for t ks))) ≡ k.member ∷ signers_for t ks)
    by_view r is true = inr (ap (λ (i : ℕ). i ∷ signers_for t ks) is)
    by_view r is false = inl refl

    by_report : (o : Option KeptReport) → OwnReport k.member o → k.report ≡ o → (signers_for t (k ∷ ks) ≡ signers_for t ks) ⊎ (signers_for t (k ∷ ks) ≡ k.member ∷ signers_for t ks)
    by_report None is e = inl (rw e refl)
    by_report (Some r) is e = rw e (by_view r is (r.view == t))

signers_absent : (i t : ℕ) (ks : List Known) → AllByRecursion IsOwnReport ks → is_in i (names_in ks) ≡ false → is_in i (signers_for t ks) ≡ false
signers_absent i t [] own gone = refl
signers_absent i t (k ∷ ks) own gone =
    let parts = or_parts (k.member == i) (is_in i (names_in ks)) gone in
    let rest = signers_absent i t ks own.1 parts.1 in
    elim (signers_with t k ks own.0) [
      | inl e ↦ ap (is_in i) e ∙ rest
      | inr e ↦ ap (is_in i) e ∙ rw (parts.0, rest) refl
    ]

signers_different : (t : ℕ) (ks : List Known) → AllByRecursion IsOwnReport ks → AreDifferent (names_in ks) → AreDifferent (signers_for t ks)
signers_different t [] own different = tt
signers_different t (k ∷ ks) own different =
    let rest = signers_different t ks own.1 different.1 in
    let gone = signers_absent k.member t ks own.1 (not-true (is_in k.member (names_in ks)) different.0) in
    elim (signers_with t k ks own.0) [
      | inl e ↦ subst (λ (is : List ℕ). AreDifferent is) (sym e) rest
      | inr e ↦ subst (λ (is : List ℕ). AreDifferent is) (sym e) (not_from_false (is_in k.member (signers_for t ks)) gone, rest)
    ]

-- SUPPORT

told_signers : (ss : List Signed) → map (λ (r : Told). r.signer) (told_in ss) ≡ signers_in ss
told_signers [] = refl
told_signers (s ∷ ss) = ap (λ (is : List ℕ). s.sig.signer ∷ is) (told_signers ss)

told_reports : (ss : List Signed) → reports_of (told_in ss) ≡ reports_in ss
told_reports [] = refl
told_reports (s ∷ ss) = ap (λ (rs : List Report). s.report ∷ rs) (told_reports ss)

supported : (su : Setup) (h : History) (c : Config) → IsRun su h → faulty su.byzantine c ≤ bound_of c → (i v : ℕ) (ss : List Signed) → AreDifferent (signers_in ss) → AreReports su h c v (told_in ss)
    → is_choice (choice_of (length c.members) (told_height (reports_in ss)) (reports_in ss)) ≡ true
    → IsTrue (is_supported su h i c c.number v (told_height (reports_in ss)) (choice_of (length c.members) (told_height (reports_in ss)) (reports_in ss)))
supported su h c run few i v ss different reports chosen =
    let x = told_height (reports_in ss) in
    let choice = choice_of (length c.members) x (reports_in ss) in
    choices_supported su h c run few i v x (told_in ss) (subst (λ (is : List ℕ). AreDifferent is) (sym (told_signers ss)) different) reports choice
    (ap told_height (sym (told_reports ss)), subst (λ (rs : List Report). IsChoice (length c.members) x rs choice) (sym (told_reports ss)) (choice_is (length c.members) x (reports_in ss)))
    (choice_is_made choice chosen)

announce_same : (a b : NewView) (after : Changing) (turn : Turn) → Some (record { act = Announce a; after = after }) ≡ Some turn → turn.act ≡ Announce b → a ≡ b
announce_same a b after turn e f = cc

-- what is announced
announced : (place : Place) (w : Changing) (m : NewView) (turn : Turn) → announce_due place w ≡ Some turn → turn.act ≡ Announce m
    → (m.view ≡ w.left) × (m.reports ≡ signed_in (reports_for w.left w.known)) × (is_choice (news_in place m).choice ≡ true)
announced place w m turn due act = by_collecting (is_collecting place w) due
  where
    rs : List KeptReport
    rs = reports_for w.left w.known

    own : Own
    own = own_of (length place.config.members) w.left rs

    by_choice : (b : Bool) → is_choice own.news.choice ≡ b → turn_if b (Announce (message_of w rs own.news)) (announces place w own) ≡ Some turn
        → (m.view ≡ w.left) × (m.reports ≡ signed_in rs) × (is_choice (news_in place m).choice ≡ true)
    by_choice false chosen e = absurd (cc)
    by_choice true chosen e =
        let is : message_of w rs own.news ≡ m = announce_same (message_of w rs own.news) m (announces place w own) turn e act in
        (ap (λ (m : NewView). m.view) (sym is), ap (λ (m : NewView). m.reports) (sym is), subst (λ (m : NewView). is_choice (news_in place m).choice ≡ true) is chosen)

    by_count : (b : Bool) → cond b (announce_turn place w rs own) None ≡ Some turn → (m.view ≡ w.left) × (m.reports ≡ signed_in rs) × (is_choice (news_in place m).choice ≡ true)
    by_count true e = by_choice (is_choice own.news.choice) refl e
    by_count false e = absurd (cc)

    by_collecting : (b : Bool) → cond b (announce_if place w rs) None ≡ Some turn → (m.view ≡ w.left) × (m.reports ≡ signed_in rs) × (is_choice (news_in place m).choice ≡ true)
    by_collecting true e = by_count (nat_le (quorum_at place) (length rs)) e
    by_collecting false e = absurd (cc)

pub announced_is_supported : AnnouncedIsSupported
announced_is_supported su h c run few i place w m turn under different own members due act reports =
    let is = announced place w m turn due act in
    let names : AreDifferent (names_in w.known) = subst (λ (is : List ℕ). AreDifferent is) (sym (own.members ∙ members)) different in
    let signers : AreDifferent (signers_in m.reports) = subst (λ (ss : List Signed). AreDifferent (signers_in ss)) (sym is.1) (signers_different w.left w.known own.reports names) in
    by_config place.config under signers is.2
  where
    by_config : (d : Config) → d ≡ c → AreDifferent (signers_in m.reports)
        → is_choice (choice_of (length d.members) (told_height (reports_in m.reports)) (reports_in m.reports)) ≡ true
        → IsTrue (is_supported su h i c c.number m.view (told_height (reports_in m.reports)) (choice_of (length d.members) (told_height (reports_in m.reports)) (reports_in m.reports)))
    by_config d e signers chosen = rw e (supported su h c run few i m.view m.reports signers reports (rw e at chosen))

-- what is entered
entered : (place : Place) (w : Changing) (from : ℕ) (m : NewView) (v x : ℕ) (choice : Choice) (block : Option Block) (o : Option Reason)
    → (news_turn place w from m o).act ≡ Enter v x choice block
    → (m.view ≡ v) × ((news_in place m).number ≡ x) × ((news_in place m).choice ≡ choice) × (is_choice (news_in place m).choice ≡ true)
entered place w from m v x choice block (Some r) e = absurd (cc)
entered place w from m v x choice block None e = by_settled (is_settled place m) refl e
  where
    by_place : is_choice (news_in place m).choice ≡ true → (b : Bool) → (cond b (enter_turn (news_in place m) w) (cond (is_later m.view w.waiting) (waits (news_in place m) from w) (nothing (late_reason (is_stale place from m.view w.waiting)) w))).act ≡ Enter v x choice block
        → (m.view ≡ v) × ((news_in place m).number ≡ x) × ((news_in place m).choice ≡ choice) × (is_choice (news_in place m).choice ≡ true)
    by_place chosen true e = (cc, cc, cc, chosen)
    by_place chosen false e = by_later (is_later m.view w.waiting) e
      where
        by_later : (b : Bool) → (cond b (waits (news_in place m) from w) (nothing (late_reason (is_stale place from m.view w.waiting)) w)).act ≡ Enter v x choice block
            → (m.view ≡ v) × ((news_in place m).number ≡ x) × ((news_in place m).choice ≡ choice) × (is_choice (news_in place m).choice ≡ true)
        by_later true e = absurd (cc)
        by_later false e = absurd (cc)

    by_settled : (b : Bool) → is_settled place m ≡ b → (cond b (settled_turn place w from (news_in place m)) (nothing (late_reason (is_stale place from m.view w.waiting)) w)).act ≡ Enter v x choice block
        → (m.view ≡ v) × ((news_in place m).number ≡ x) × ((news_in place m).choice ≡ choice) × (is_choice (news_in place m).choice ≡ true)
    by_settled true s e = by_place (and_parts (nat_le (quorum_at place) (length m.reports)) (is_choice (news_in place m).choice) s).1 (nat_le (news_in place m).number place.height) e
    by_settled false s e = absurd (cc)

pub entered_is_supported : EnteredIsSupported
entered_is_supported su h c run few accepts i place w from m v x choice block under different act reports =
    let is = entered place w from m v x choice block (first_reason (news_reasons accepts place w from m)) act in
    by_config place.config under v x choice is.0 is.1 is.2 is.3 reports
  where
    by_config : (d : Config) → d ≡ c → (v x : ℕ) (choice : Choice) → m.view ≡ v → told_height (reports_in m.reports) ≡ x
        → choice_of (length d.members) (told_height (reports_in m.reports)) (reports_in m.reports) ≡ choice
        → is_choice (choice_of (length d.members) (told_height (reports_in m.reports)) (reports_in m.reports)) ≡ true
        → AreReports su h c v (told_in m.reports)
        → IsTrue (is_supported su h i c c.number v x choice)
    by_config d e v x choice view number chose chosen told =
        rw (sym number, sym chose) (rw e (supported su h c run few i v m.reports different told (rw e at chosen)))

-- ASCENDING SIGNERS differ

signer_absent : (i least : ℕ) (ss : List Signed) → i < least → AreSigned least ss → is_in i (signers_in ss) ≡ false
signer_absent i least [] lt signed = refl
signer_absent i least (s ∷ ss) lt signed =
    let above = signed.1 in
    let here : (s.sig.signer == i) ≡ false = not_same s.sig.signer i (omega arith) in
    rw here (signer_absent i (s.sig.signer + 1) ss (omega arith) signed.3)
  where
    not_same : (a b : ℕ) → b < a → (a == b) ≡ false
    not_same a b lt = elim (cases_Bool (a == b)) [
      | inl y ↦ absurd (let e = eqb-true a b y in omega arith)
      | inr n ↦ n
    ]

pub ascending_are_different : AscendingAreDifferent
ascending_are_different least [] signed = tt
ascending_are_different least (s ∷ ss) signed =
    (not_from_false (is_in s.sig.signer (signers_in ss)) (signer_absent s.sig.signer (s.sig.signer + 1) ss (omega arith) signed.3), ascending_are_different (s.sig.signer + 1) ss signed.3)
