-- There is no reason against a message exactly where it is valid.
use Rattle.std.proofs.Common.{◌≡◌, ℕ, ◌≤◌, ◌<◌, ◌-◌, Bool, true, false, ◌&&◌, ◌||◌, not, ◌==◌, cond, List, [], ◌∷◌, ◌++◌, length, Option, Some, None, refl, sym, ap, ◌∙◌, subst, inl, inr, arith}
use Rattle.std.specs.Prelude.{◌↔◌, ◌≢◌, All, IfSome, IsTrue, nat_le, nat_lt, ⊤}
use Rattle.std.specs.List.{list_all}
use Rattle.std.proofs.lemmas.Bool.{and_from, and_parts, cases_Bool, eq-eqb, eqb-true, le-leb, leb-true, lt-ltb, ltb-false, ltb-true, not-false, not_from_true, or_parts}
use Rattle.std.proofs.lemmas.List.Elements.{All-nil, All-cons, All-head, All-tail}
use Rattle.ord_types.specs.Hashes.{block_hash}
use Rattle.ord_types.specs.Members.{is_in, is_raft}
use Rattle.ord_types.specs.declared.values.Block.{Block}
use Rattle.ord_types.specs.declared.values.Choice.{Choice}
use Rattle.ord_types.specs.declared.values.Choice.TheVariants.{Carry, Free, Neither}
use Rattle.ord_types.specs.declared.values.Last.{Last}
use Rattle.ord_types.specs.declared.values.Place.{Place}
use Rattle.ord_types.specs.declared.values.Report.{Report}
use Rattle.ord_types.specs.declared.values.Vote.{Vote}
use Rattle.safety_model.proofs.FactTests.{bytes_same}
use Rattle.std.proofs.lemmas.Slice.Eq.{bytes_eq-Decides}
use Rattle.std.specs.Str.{bytes_eq}
use Rattle.bft_wire.specs.declared.message.NewView.{NewView}
use Rattle.bft_wire.specs.declared.message.Signed.{Signed}
use Rattle.bft_wire.specs.declared.message.ViewData.{ViewData}
use Rattle.bft_wire.specs.declared.reason.Reason.{Reason}
use Rattle.bft_wire.specs.declared.reason.Reason.TheVariants as reason
use Rattle.signer_edge.specs.Accepts.{Accepts}
use Rattle.signer_edge.specs.Certificates.{is_good_cert}
use Rattle.signer_edge.specs.Statements.{reported_text}
use Rattle.change_model.specs.Answers.{Reasons, data_invalid, first_reason, is_settled, news_in, news_reasons}
use Rattle.change_model.specs.Changing.{Changing, collector, may_enter, quorum_at}
use Rattle.change_model.specs.Laws.{DataReasonsSayValid, IsBlockOf, IsData, IsDataHere, IsLast, IsNews, IsNewsHere, IsReport, NewsReasonsSayValid}
use Rattle.change_model.specs.Valid.{are_from_start, are_lasts_good, are_signed, are_told_below, carried_in, is_below, is_block_of, is_choice, is_last_good, is_members_report, is_none_or_below, is_report_signed, is_told_below}

-- A LIST OF REASONS is empty where each test fails

abbrev AllFail : Reasons → Type 0
AllFail [] = ⊤
AllFail (r ∷ rs) = (r.0 ≡ false) × AllFail rs

each_fails : (rs : Reasons) → first_reason rs ≡ None → AllFail rs
each_fails [] e = tt
each_fails (r ∷ rs) e = elim (cases_Bool r.0) [
  | inl y ↦ absurd (let z : Some r.1 ≡ None = rw y at e in cc)
  | inr n ↦ (n, each_fails rs (rw n at e))
]

none_stands : (rs : Reasons) → AllFail rs → first_reason rs ≡ None
none_stands [] h = refl
none_stands (r ∷ rs) h = rw h.0 (none_stands rs h.1)

-- LISTS

all_from : {X : Type 0} (p : X → Bool) (P : X → Type 0) → ((x : X) → p x ≡ true → P x) → (xs : List X) → list_all p xs ≡ true → All P xs
all_from p P each [] h = All-nil P
all_from p P each (x ∷ xs) h =
    let parts = and_parts (p x) (list_all p xs) h in
    All-cons P x xs (each x parts.0) (all_from p P each xs parts.1)

all_test : {X : Type 0} (p : X → Bool) (P : X → Type 0) → ((x : X) → P x → p x ≡ true) → (xs : List X) → All P xs → list_all p xs ≡ true
all_test p P each [] h = refl
all_test p P each (x ∷ xs) h = and_from (p x) (list_all p xs) (each x (All-head P x xs h)) (all_test p P each xs (All-tail P x xs h))

-- TOLD VIEWS

prepared_below : (t : ℕ) (vote : Option Vote) → is_none_or_below t vote ≡ true → IfSome vote (λ (vote : Vote). vote.view < t)
prepared_below t None h = tt
prepared_below t (Some vote) h = ltb-true vote.view t h

prepared_test : (t : ℕ) (vote : Option Vote) → IfSome vote (λ (vote : Vote). vote.view < t) → is_none_or_below t vote ≡ true
prepared_test t None h = refl
prepared_test t (Some vote) h = lt-ltb vote.view t h

accepted_below : (t : ℕ) (votes : List Vote) → list_all (is_below t) votes ≡ true → All (λ (vote : Vote). vote.view < t) votes
accepted_below t votes h = all_from (is_below t) (λ (vote : Vote). vote.view < t) (λ vote e. ltb-true vote.view t e) votes h

accepted_test : (t : ℕ) (votes : List Vote) → All (λ (vote : Vote). vote.view < t) votes → list_all (is_below t) votes ≡ true
accepted_test t votes h = all_test (is_below t) (λ (vote : Vote). vote.view < t) (λ vote e. lt-ltb vote.view t e) votes h

below_test : (t : ℕ) (r : Report) → IfSome r.prepared (λ (vote : Vote). vote.view < t) → All (λ (vote : Vote). vote.view < t) r.accepted → is_told_below t r ≡ true
below_test t r p a = and_from (is_none_or_below t r.prepared) (list_all (is_below t) r.accepted) (prepared_test t r.prepared p) (accepted_test t r.accepted a)

-- THE LAST BLOCK

last_is : (accepts : Accepts) (place : Place) (height : ℕ) (last : Option Last) → is_last_good accepts place height last ≡ true → IsLast accepts place height last
last_is accepts place height None h = record { absent = (λ e. eqb-true height place.start h, λ e. refl); good = tt }
last_is accepts place height (Some last) h =
    let parts = and_parts (nat_lt place.start height) (is_good_cert accepts place.config (height - 1) last.hash last.cert) h in
    let above = ltb-true place.start height parts.0 in
    record { absent = (λ e. absurd (cc), λ e. absurd (omega arith)); good = parts.1 }

last_test : (accepts : Accepts) (place : Place) (height : ℕ) (last : Option Last) → place.start ≤ height → IsLast accepts place height last → is_last_good accepts place height last ≡ true
last_test accepts place height None least h = eq-eqb height place.start (h.absent.0 refl)
last_test accepts place height (Some last) least h = elim (cases_Bool (nat_lt place.start height)) [
  | inl y ↦ and_from (nat_lt place.start height) (is_good_cert accepts place.config (height - 1) last.hash last.cert) y h.good
  | inr n ↦ absurd (let most = ltb-false place.start height n in let z : Some last ≡ None = h.absent.1 (omega arith) in cc)
]

-- THE BLOCK

block_is : (vote : Option Vote) (block : Option Block) → is_block_of vote block ≡ true → IsBlockOf vote block
block_is None None h = ((λ e. refl, λ e. refl), tt)
block_is None (Some b) h = absurd (cc)
block_is (Some vote) None h = absurd (cc)
block_is (Some vote) (Some b) h = ((λ e. absurd (cc), λ e. absurd (cc)), bytes_same (block_hash b) vote.digest h)

block_test : (vote : Option Vote) (block : Option Block) → IsBlockOf vote block → is_block_of vote block ≡ true
block_test None None h = refl
block_test None (Some b) h = absurd (let z : Some b ≡ None = h.0.0 refl in cc)
block_test (Some vote) None h = absurd (let z : Some vote ≡ None = h.0.1 refl in cc)
block_test (Some vote) (Some b) h = (bytes_eq-Decides (block_hash b) vote.digest).1 h.1

-- A REPORT

report_is : (accepts : Accepts) (place : Place) (t : ℕ) (s : Signed) → is_members_report accepts place t s ≡ true → place.start ≤ s.report.height
    → is_last_good accepts place s.report.height s.report.last ≡ true → is_told_below t s.report ≡ true → IsReport accepts place t s
report_is accepts place t s signed least last below =
    let who = and_parts (is_in s.sig.signer place.config.members) (is_report_signed accepts place t s.report s.sig) signed in
    let told = and_parts (is_none_or_below t s.report.prepared) (list_all (is_below t) s.report.accepted) below in
    record {
      member = who.0;
      signed = who.1;
      height = least;
      last = last_is accepts place s.report.height s.report.last last;
      prepared = prepared_below t s.report.prepared told.0;
      accepted = accepted_below t s.report.accepted told.1;
    }

member_test : (accepts : Accepts) (place : Place) (t : ℕ) (s : Signed) → IsReport accepts place t s → is_members_report accepts place t s ≡ true
member_test accepts place t s r = and_from (is_in s.sig.signer place.config.members) (is_report_signed accepts place t s.report s.sig) r.member r.signed

reports_are : (accepts : Accepts) (place : Place) (t : ℕ) (ss : List Signed) → are_signed accepts place t ss ≡ true → are_from_start place ss ≡ true
    → are_lasts_good accepts place ss ≡ true → are_told_below t ss ≡ true → All (IsReport accepts place t) ss
reports_are accepts place t [] a b c d = All-nil (IsReport accepts place t)
reports_are accepts place t (s ∷ ss) a b c d =
    let p = and_parts (is_members_report accepts place t s) (are_signed accepts place t ss) a in
    let q = and_parts (nat_le place.start s.report.height) (are_from_start place ss) b in
    let r = and_parts (is_last_good accepts place s.report.height s.report.last) (are_lasts_good accepts place ss) c in
    let u = and_parts (is_told_below t s.report) (are_told_below t ss) d in
    All-cons (IsReport accepts place t) s ss (report_is accepts place t s p.0 (leb-true place.start s.report.height q.0) r.0 u.0) (reports_are accepts place t ss p.1 q.1 r.1 u.1)

-- WHOSE MESSAGE IT IS

config_is : (raft : Bool) (number config : ℕ) → (raft || not (config == number)) ≡ false → (raft ≡ false) × (config ≡ number)
config_is raft number config h =
    let parts = or_parts raft (not (config == number)) h in
    (parts.0, eqb-true config number (not-false (config == number) parts.1))

config_test : (raft : Bool) (number config : ℕ) → raft ≡ false → config ≡ number → (raft || not (config == number)) ≡ false
config_test raft number config bft same = rw bft (not_from_true (config == number) (eq-eqb config number same))

lt_false : (a b : ℕ) → b ≤ a → nat_lt a b ≡ false
lt_false a b le = elim (cases_Bool (nat_lt a b)) [
  | inl y ↦ absurd (let lt = ltb-true a b y in omega arith)
  | inr n ↦ n
]

-- A VIEWDATA

pub data_valid : (accepts : Accepts) (place : Place) (w : Changing) (from : ℕ) (m : ViewData) → first_reason (data_invalid accepts place w from m) ≡ None → IsDataHere accepts place w.me from m
data_valid accepts place w from m e =
    let p : AllFail (data_invalid accepts place w from m) = each_fails (data_invalid accepts place w from m) e in
    let member = not-false (is_in from place.config.members) p.0 in
    let config = config_is (is_raft place.config) place.config.number m.config p.1.0 in
    let sig = and_parts (m.sig.signer == from) (is_report_signed accepts place m.view m.report m.sig) (not-false _ p.1.1.1.1.1.1.1.0) in
    let sender = eqb-true m.sig.signer from sig.0 in
    let signer : is_in m.sig.signer place.config.members ≡ true = subst (λ (i : ℕ). is_in i place.config.members ≡ true) (sym sender) member in
    record {
      bft = config.0;
      config = config.1;
      collector = eqb-true (collector place m.view) w.me (not-false (collector place m.view == w.me) p.1.1.1.1.0);
      valid = record {
        sender = sender;
        report = report_is accepts place m.view (record { report = m.report; sig = m.sig }) (and_from (is_in m.sig.signer place.config.members) (is_report_signed accepts place m.view m.report m.sig) signer sig.1) (ltb-false m.report.height place.start p.1.1.1.0) (not-false (is_last_good accepts place m.report.height m.report.last) p.1.1.1.1.1.1.0) (not-false (is_told_below m.view m.report) p.1.1.0);
        block = block_is m.report.prepared m.block (not-false (is_block_of m.report.prepared m.block) p.1.1.1.1.1.0);
      };
    }

data_none : (accepts : Accepts) (place : Place) (w : Changing) (from : ℕ) (m : ViewData) → IsDataHere accepts place w.me from m → first_reason (data_invalid accepts place w from m) ≡ None
data_none accepts place w from m h =
    let r = h.valid.report in
    let member : is_in from place.config.members ≡ true = subst (λ (i : ℕ). is_in i place.config.members ≡ true) h.valid.sender r.member in
    let sig : ((m.sig.signer == from) && is_report_signed accepts place m.view m.report m.sig) ≡ true = and_from (m.sig.signer == from) (is_report_signed accepts place m.view m.report m.sig) (eq-eqb m.sig.signer from h.valid.sender) r.signed in
    none_stands (data_invalid accepts place w from m) ((
      (not_from_true (is_in from place.config.members) member),
      (
        (config_test (is_raft place.config) place.config.number m.config h.bft h.config),
        (
          (not_from_true (is_told_below m.view m.report) (below_test m.view m.report r.prepared r.accepted)),
          (
            (lt_false m.report.height place.start r.height),
            (
              (not_from_true (collector place m.view == w.me) (eq-eqb (collector place m.view) w.me h.collector)),
              (
                (not_from_true (is_block_of m.report.prepared m.block) (block_test m.report.prepared m.block h.valid.block)),
                (
                  (not_from_true (is_last_good accepts place m.report.height m.report.last) (last_test accepts place m.report.height m.report.last r.height r.last)),
                  (
                    (not_from_true _ sig),
                    tt,
                  ),
                ),
              ),
            ),
          ),
        ),
      ),
    )
    )

pub data_reasons_say_valid : DataReasonsSayValid
data_reasons_say_valid accepts place w from m = (data_valid accepts place w from m, data_none accepts place w from m)

-- A NEWVIEW

pub choice_is_made : (c : Choice) → is_choice c ≡ true → c ≢ Neither
choice_is_made (Carry vote) h = λ e. absurd (cc)
choice_is_made Free h = λ e. absurd (cc)
choice_is_made Neither h = λ e. absurd (cc)

choice_test : (c : Choice) → c ≢ Neither → is_choice c ≡ true
choice_test (Carry vote) h = refl
choice_test Free h = refl
choice_test Neither h = absurd (h refl)

news_valid : (accepts : Accepts) (place : Place) (w : Changing) (from : ℕ) (m : NewView) → first_reason (news_reasons accepts place w from m) ≡ None → is_settled place m ≡ true → IsNewsHere accepts place w from m
news_valid accepts place w from m e settled =
    let p : AllFail (news_reasons accepts place w from m) = each_fails (news_reasons accepts place w from m) e in
    let config = config_is (is_raft place.config) place.config.number m.config p.1.0 in
    let view = and_parts (may_enter w m.view) (are_told_below m.view m.reports) (not-false _ p.1.1.0) in
    let enough = and_parts (nat_le (quorum_at place) (length m.reports)) (is_choice (news_in place m).choice) settled in
    record {
      sender = not-false (is_in from place.config.members) p.0;
      bft = config.0;
      config = config.1;
      view = view.0;
      collector = eqb-true (collector place m.view) from (not-false (collector place m.view == from) p.1.1.1.1.0);
      valid = record {
        reports = reports_are accepts place m.view m.reports (not-false (are_signed accepts place m.view m.reports) p.1.1.1.1.1.1.1.0) (not-false (are_from_start place m.reports) p.1.1.1.0) (not-false (are_lasts_good accepts place m.reports) p.1.1.1.1.1.1.0) view.1;
        enough = leb-true (quorum_at place) (length m.reports) enough.0;
        chosen = choice_is_made (news_in place m).choice enough.1;
        block = block_is (carried_in (news_in place m).choice) m.block (not-false (is_block_of (carried_in (news_in place m).choice) m.block) p.1.1.1.1.1.0);
      };
    }

news_none : (accepts : Accepts) (place : Place) (w : Changing) (from : ℕ) (m : NewView) → IsNewsHere accepts place w from m → first_reason (news_reasons accepts place w from m) ≡ None
news_none accepts place w from m h =
    let Good = IsReport accepts place m.view in
    let all = h.valid.reports in
    let below : are_told_below m.view m.reports ≡ true = all_test (λ (s : Signed). is_told_below m.view s.report) Good (λ s r. below_test m.view s.report r.prepared r.accepted) m.reports all in
    let above : are_from_start place m.reports ≡ true = all_test (λ (s : Signed). nat_le place.start s.report.height) Good (λ s r. le-leb place.start s.report.height r.height) m.reports all in
    let lasts : are_lasts_good accepts place m.reports ≡ true = all_test (λ (s : Signed). is_last_good accepts place s.report.height s.report.last) Good (λ s r. last_test accepts place s.report.height s.report.last r.height r.last) m.reports all in
    let signed : are_signed accepts place m.view m.reports ≡ true = all_test (is_members_report accepts place m.view) Good (λ s r. member_test accepts place m.view s r) m.reports all in
    none_stands (news_reasons accepts place w from m) ((
      (not_from_true (is_in from place.config.members) h.sender),
      (
        (config_test (is_raft place.config) place.config.number m.config h.bft h.config),
        (
          (not_from_true _ (and_from (may_enter w m.view) (are_told_below m.view m.reports) h.view below)),
          (
            (not_from_true (are_from_start place m.reports) above),
            (
              (not_from_true (collector place m.view == from) (eq-eqb (collector place m.view) from h.collector)),
              (
                (not_from_true (is_block_of (carried_in (news_in place m).choice) m.block) (block_test (carried_in (news_in place m).choice) m.block h.valid.block)),
                (
                  (not_from_true (are_lasts_good accepts place m.reports) lasts),
                  (
                    (not_from_true (are_signed accepts place m.view m.reports) signed),
                    tt,
                  ),
                ),
              ),
            ),
          ),
        ),
      ),
    )
    )

news_settled : (accepts : Accepts) (place : Place) (w : Changing) (from : ℕ) (m : NewView) → IsNewsHere accepts place w from m → is_settled place m ≡ true
news_settled accepts place w from m h =
    and_from (nat_le (quorum_at place) (length m.reports)) (is_choice (news_in place m).choice) (le-leb (quorum_at place) (length m.reports) h.valid.enough) (choice_test (news_in place m).choice h.valid.chosen)

pub news_reasons_say_valid : NewsReasonsSayValid
news_reasons_say_valid accepts place w from m = (λ h. news_valid accepts place w from m h.0 h.1, λ h. (news_none accepts place w from m h, news_settled accepts place w from m h))
