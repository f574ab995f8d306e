-- The answer to an offer.
use Rattle.std.proofs.Common.{◌≡◌, Bool, true, false, cond, ◌&&◌, not, List, [], ◌∷◌, ◌++◌, length, Option, Some, None, refl, sym, ap, ◌∙◌, ◌==◌, inl, inr}
use Rattle.std.specs.Prelude.{is_none, is_some, nat_le}
use Rattle.std.proofs.lemmas.Bool.{cases_Bool}
use Rattle.bft_wire.specs.declared.reason.Reason.{Reason}
use Rattle.bft_wire.specs.declared.reason.Reason.TheVariants as reason
use Rattle.ord_types.specs.Members.{is_in, is_raft}
use Rattle.ord_types.specs.declared.values.Place.{Place}
use Rattle.safety_model.specs.Blocks.{Block, Request}
use Rattle.view_model.specs.declared.act.Act.{Act}
use Rattle.view_model.specs.declared.act.Act.TheVariants as act_of
use Rattle.view_model.specs.Acts.{View, accept_act, is_inside_view, may_propose, proposal}
use Rattle.view_model.specs.Answers.{Reasons, act_or, first_reason, own_reasons, propose_answer, reason_or}
use Rattle.view_model.specs.Checks.{is_next_block}
use Rattle.view_model.specs.Leading.{leader}
use Rattle.view_core.specs.Places.{turn_reasons}
use Rattle.view_core.proofs.AnswerLemmas.{first_reason_append}

first_reason_stays : (rs ss : Reasons) (x : Reason) → Some x ≡ first_reason rs → first_reason (rs ++ ss) ≡ Some x
first_reason_stays [] ss x h = cc
first_reason_stays (r ∷ rs) ss x h =
    elim (cases_Bool r.0) [
      | inl e ↦ rw e (sym (rw e at h))
      | inr e ↦ rw e (first_reason_stays rs ss x (rw e at h))
    ]

-- why the node may not propose, by the tests alone
abbrev barred : Bool → Bool → Bool → Bool → Bool → Option Reason
barred among raft inside leads full =
    first_reason ((not among, reason.NotMember) ∷ (raft, reason.OtherConfig) ∷ (not inside, reason.Leaving) ∷ (not leads, reason.NotLeader) ∷ (full, reason.Accepted) ∷ [])

may_not : (among raft inside leads full : Bool) (x : Reason) → Some x ≡ barred among raft inside leads full → (not raft && among && inside && leads && not full) ≡ false
may_not among true inside leads full x h = refl
may_not false false inside leads full x h = refl
may_not true false false leads full x h = refl
may_not true false true false full x h = refl
may_not true false true true true x h = refl
may_not true false true true false x h = cc

may : (among raft inside leads full : Bool) → None ≡ barred among raft inside leads full → (not raft && among && inside && leads && not full) ≡ true
may true false true true false h = refl
may true false true true true h = cc
may true false true false full h = cc
may true false false leads full h = cc
may true true inside leads full h = cc
may false raft inside leads full h = cc

none_is : (o : Option Block) → is_none o ≡ not (is_some o)
none_is None = refl
none_is (Some b) = refl

proposes : (place : Place) (w : View) → may_propose place w ≡ (not (is_raft place.config) && is_in w.me place.config.members && is_inside_view w && (leader place w.view == w.me) && not (is_some w.accepted))
proposes place w = ap (λ (b : Bool). not (is_raft place.config) && is_in w.me place.config.members && is_inside_view w && (leader place w.view == w.me) && b) (none_is w.accepted)

-- the last of the reasons
abbrev bad_block : Place → View → List Request → Reasons
bad_block place w rs = (nat_le 1 (length rs) && not (is_next_block place (proposal place w.view rs)), reason.BadBlock) ∷ []

abbrev made : Bool → Place → View → List Request → Option Block
made test place w rs = cond test (Some (proposal place w.view rs)) None

pub propose_refused : (place : Place) (w : View) (rs : List Request) (x : Reason) → Some x ≡ first_reason (own_reasons place w ++ turn_reasons place w) → act_of.Nothing x ≡ propose_answer place w rs
propose_refused place w rs x h =
    let first = first_reason_stays (own_reasons place w ++ turn_reasons place w) (bad_block place w rs) x h in
    let never = proposes place w ∙ may_not (is_in w.me place.config.members) (is_raft place.config) (is_inside_view w) (leader place w.view == w.me) (is_some w.accepted) x h in
    sym (ap (λ (b : Bool). act_or (accept_act (made (b && nat_le 1 (length rs) && is_next_block place (proposal place w.view rs)) place w rs)) (reason_or (first_reason (own_reasons place w ++ turn_reasons place w ++ bad_block place w rs)) reason.NotYet)) never
    ∙ ap (λ (o : Option Reason). reason_or o reason.NotYet) first)

-- the answer where the node may propose
abbrev offered : Bool → Bool → Place → View → List Request → Act
offered some next place w rs = act_or (accept_act (made (some && next) place w rs)) (reason_or (first_reason ((some && not next, reason.BadBlock) ∷ [])) reason.NotYet)

may_offer : (place : Place) (w : View) (rs : List Request) → None ≡ first_reason (own_reasons place w ++ turn_reasons place w) → propose_answer place w rs ≡ offered (nat_le 1 (length rs)) (is_next_block place (proposal place w.view rs)) place w rs
may_offer place w rs h =
    let first = first_reason_append (own_reasons place w ++ turn_reasons place w) (bad_block place w rs) (sym h) in
    let always = proposes place w ∙ may (is_in w.me place.config.members) (is_raft place.config) (is_inside_view w) (leader place w.view == w.me) (is_some w.accepted) h in
    ap (λ (b : Bool). act_or (accept_act (made (b && nat_le 1 (length rs) && is_next_block place (proposal place w.view rs)) place w rs)) (reason_or (first_reason (own_reasons place w ++ turn_reasons place w ++ bad_block place w rs)) reason.NotYet)) always
    ∙ ap (λ (o : Option Reason). act_or (accept_act (made (nat_le 1 (length rs) && is_next_block place (proposal place w.view rs)) place w rs)) (reason_or o reason.NotYet)) first

pub propose_empty : (place : Place) (w : View) (rs : List Request) → None ≡ first_reason (own_reasons place w ++ turn_reasons place w) → nat_le 1 (length rs) ≡ false → act_of.Nothing reason.NotYet ≡ propose_answer place w rs
propose_empty place w rs h some = sym (may_offer place w rs h ∙ ap (λ (b : Bool). offered b (is_next_block place (proposal place w.view rs)) place w rs) some)

next_test : (next : Bool) (place : Place) (w : View) (rs : List Request) (o : Option Block) → o ≡ made next place w rs → act_or (accept_act o) (act_of.Nothing reason.BadBlock) ≡ offered true next place w rs
next_test true place w rs o h = ap (λ (x : Option Block). act_or (accept_act x) (act_of.Nothing reason.BadBlock)) h
next_test false place w rs o h = ap (λ (x : Option Block). act_or (accept_act x) (act_of.Nothing reason.BadBlock)) h

pub propose_made : (place : Place) (w : View) (rs : List Request) (o : Option Block) → None ≡ first_reason (own_reasons place w ++ turn_reasons place w) → nat_le 1 (length rs) ≡ true → o ≡ made (is_next_block place (proposal place w.view rs)) place w rs → act_or (accept_act o) (act_of.Nothing reason.BadBlock) ≡ propose_answer place w rs
propose_made place w rs o h some is =
    next_test (is_next_block place (proposal place w.view rs)) place w rs o is ∙ sym (may_offer place w rs h ∙ ap (λ (b : Bool). offered b (is_next_block place (proposal place w.view rs)) place w rs) some)
