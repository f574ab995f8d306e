-- What the calls answer has a spelling, since what is held has one.
use Rattle.std.proofs.Common.{◌≡◌, ℕ, ◌+◌, ◌≤◌, ◌^◌, Bool, true, false, cond, ◌&&◌, ◌==◌, List, [], ◌∷◌, ◌++◌, length, filter, filter_map, refl, sym, ◌∙◌, subst, arith, Option, Some, None, Result, Ok, Err, IfOk}
use Rattle.std.specs.Prelude.{IfSome, is_none, nat_le}
use Rattle.std.specs.List.{All, cons_option, list_all}
use Rattle.std.specs.Option.{ForSome}
use Rattle.std.proofs.lemmas.Option.{none-some, same_Some}
use Rattle.std.proofs.lemmas.Bool.{and_from, and_parts, ltb-true}
use Rattle.std.proofs.lemmas.List.Elements.{All-nil, All-cons}
use Rattle.std.proofs.lemmas.List.Folds.{list_all-append}
use Rattle.bft_wire.specs.declared.reason.Reason.{Reason}
use Rattle.ord_types.specs.Hashes.{block_hash}
use Rattle.ord_types.specs.Lengths.{FitsBlock, FitsCert, FitsSig}
use Rattle.ord_types.specs.Members.{is_raft}
use Rattle.ord_types.specs.declared.values.Block.{Block}
use Rattle.ord_types.specs.declared.values.Place.{Place}
use Rattle.ord_types.specs.declared.values.Request.{Request}
use Rattle.ord_types.specs.declared.values.Sig.{Sig}
use Rattle.chan_config.proofs.Fitting.{next_fits}
use Rattle.signer_edge.specs.Accepts.{Accepts}
use Rattle.view_model.specs.Acts.{View, acceptance_due, accept_act, block_if, carried_cert, certificate, commits, deliver_act, delivery_due, delivery_if, due, first_of, is_acceptable, is_inside_view, is_voting, kept_proposal, kept_sig, may_propose, preparation_due, prepare_act, proposal, proposed, quorum_of, sig_in, sig_of}
use Rattle.view_model.specs.Answers.{accepts_nothing, act_or, after_act, at_place, due_answer, first_reason, fresh, is_near, is_new, is_same_config, keep, kept_after, kept_or, message_reasons, offer_reasons, own_reasons, prepare_answer, propose_answer, raised, reason_or, stands_outside, vote_answer}
use Rattle.view_model.specs.Checks.{is_block_of_view, is_carried_good, is_next_block, signers_carried}
use Rattle.view_model.specs.Leading.{is_at_start, leader, meta_eq, next_meta}
use Rattle.view_model.specs.Letters.{is_commit_for}
use Rattle.bft_wire.specs.declared.message.PrePrepare.{PrePrepare}
use Rattle.bft_wire.specs.declared.reason.Reason.TheVariants as reason
use Rattle.view_model.specs.declared.act.Act.{Act}
use Rattle.view_model.specs.declared.letter.Letter.{Letter}
use Rattle.view_model.specs.declared.letter.VoteMessage.{VoteMessage}
use Rattle.view_model.specs.declared.letter.VoteMessage.TheVariants as message_of
use Rattle.view_core.specs.Calls.{IsAnswered, IsTaken}
use Rattle.view_core.specs.Fits.{FitsAct}
use Rattle.view_core.specs.Held.{IsHeld, are_short, is_held, is_short}
use Rattle.view_core.specs.Places.{IsPlace}
use Rattle.view_core.proofs.AnswerLemmas.{answered}

-- WHAT IS HELD

held_short : (config : ℕ) (members : List ℕ) (view height : ℕ) (kept : List Letter) → list_all (is_held config members view height) kept ≡ true → are_short kept ≡ true
held_short config members view height [] h = refl
held_short config members view height (x ∷ xs) h =
    let p = and_parts _ _ h in
    let near = and_parts _ _ p.0 in
    let same_view = and_parts _ _ near.0 in
    let same_config = and_parts _ _ same_view.0 in
    and_from _ _ (and_parts _ _ same_config.0).0 (held_short config members view height xs p.1)

short_where : (test : Letter → Bool) (x : Letter) (xs : List Letter) (t : Bool) → is_short x.message ≡ true → are_short (filter test xs) ≡ true → are_short (cond t (x ∷ filter test xs) (filter test xs)) ≡ true
short_where test x xs true one all = and_from _ _ one all
short_where test x xs false one all = all

short_filter : (test : Letter → Bool) (xs : List Letter) → are_short xs ≡ true → are_short (filter test xs) ≡ true
short_filter test [] h = refl
short_filter test (x ∷ xs) h =
    let p = and_parts (is_short x.message) (are_short xs) h in
    short_where test x xs (test x) p.0 (short_filter test xs p.1)

short_place : (place : Place) (w : View) (s t : Bool) → are_short w.kept ≡ true → are_short (cond s (cond t w (raised place w)) (fresh w.me place)).kept ≡ true
short_place place w true true h = h
short_place place w true false h = short_filter (is_near place.height) w.kept h
short_place place w false t h = refl

short_at_place : (place : Place) (w : View) → are_short w.kept ≡ true → are_short (at_place place w).kept ≡ true
short_at_place place w h = short_place place w (is_same_config place w) (w.height == place.height) h

short_more : (w : View) (letter : Letter) (t : Bool) → is_short letter.message ≡ true → are_short w.kept ≡ true → are_short (cond t (keep letter w) w).kept ≡ true
short_more w letter true one h = list_all-append (λ letter. is_short letter.message) w.kept (letter ∷ []) ∙ and_from _ _ h (and_from _ _ one refl)
short_more w letter false one h = h

-- WHAT IS DUE

next_fits_at : (place : Place) (b : Block) → is_next_block place b ≡ true → FitsBlock b
next_fits_at place b h = next_fits place.last place.height place.config b h

block_fits : (accepts : Accepts) (place : Place) (v : ℕ) (m : PrePrepare) (t : Bool) → is_acceptable accepts place v m ≡ t → IfSome (cond t (Some m.block) None) FitsBlock
block_fits accepts place v m false is = tt
block_fits accepts place v m true is =
    let p = and_parts (is_block_of_view place v m) (is_carried_good accepts place m.cert) is in
    next_fits_at place m.block (and_parts (is_next_block place m.block) (meta_eq m.block.meta (next_meta place v (signers_carried m.cert))) p.0).0

block_if_fits : (accepts : Accepts) (place : Place) (v : ℕ) (o : Option PrePrepare) → IfSome (block_if accepts place v o) FitsBlock
block_if_fits accepts place v None = tt
block_if_fits accepts place v (Some m) = block_fits accepts place v m (is_acceptable accepts place v m) refl

if_fits : (t : Bool) (o : Option Block) → IfSome o FitsBlock → IfSome (cond t o None) FitsBlock
if_fits true o h = h
if_fits false o h = tt

accept_fits : (o : Option Block) → IfSome o FitsBlock → IfSome (accept_act o) FitsAct
accept_fits None h = tt
accept_fits (Some b) h = h

prepare_fits : (o : Option (List ℕ)) → IfSome (prepare_act o) FitsAct
prepare_fits None = tt
prepare_fits (Some d) = tt

first_fits : {A : Type 0} (P : A → Type 0) (o p : Option A) → IfSome o P → IfSome p P → IfSome (first_of o p) P
first_fits P None p h k = k
first_fits P (Some x) p h k = h

sig_in_fits : (m : VoteMessage) → is_short m ≡ true → IfSome (sig_in m) FitsSig
sig_in_fits (message_of.PrePrepare m) h = tt
sig_in_fits (message_of.Prepare m) h = tt
sig_in_fits (message_of.Commit m) h = ltb-true (length m.sig.bytes) (2 ^ 16) h

sig_if_fits : (m : VoteMessage) (t : Bool) → is_short m ≡ true → IfSome (cond t (sig_in m) None) FitsSig
sig_if_fits m true h = sig_in_fits m h
sig_if_fits m false h = tt

kept_sig_fits : (s : ℕ) (d : List ℕ) (kept : List Letter) (member : ℕ) → are_short kept ≡ true → IfSome (kept_sig s d kept member) FitsSig
kept_sig_fits s d [] member h = tt
kept_sig_fits s d (letter ∷ letters) member h =
    let p = and_parts (is_short letter.message) (are_short letters) h in
    first_fits FitsSig (sig_of s d member letter) (kept_sig s d letters member) (sig_if_fits letter.message ((letter.from == member) && is_commit_for s d letter.message) p.0) (kept_sig_fits s d letters member p.1)

one_fits : (o : Option Sig) (sigs : List Sig) → IfSome o FitsSig → All FitsSig sigs → All FitsSig (cons_option o sigs)
one_fits None sigs h all = all
one_fits (Some x) sigs h all = All-cons FitsSig x sigs h all

sigs_fit : (s : ℕ) (d : List ℕ) (kept : List Letter) (members : List ℕ) → are_short kept ≡ true → All FitsSig (filter_map (kept_sig s d kept) members)
sigs_fit s d kept [] h = All-nil FitsSig
sigs_fit s d kept (m ∷ ms) h = one_fits (kept_sig s d kept m) (filter_map (kept_sig s d kept) ms) (kept_sig_fits s d kept m h) (sigs_fit s d kept ms h)

one_longer : (o : Option Sig) (sigs : List Sig) → length (cons_option o sigs) ≤ length sigs + 1
one_longer None sigs = omega arith
one_longer (Some x) sigs = omega arith

sigs_few : (f : ℕ → Option Sig) (members : List ℕ) → length (filter_map f members) ≤ length members
sigs_few f [] = omega arith
sigs_few f (m ∷ ms) = omega (arith, sigs_few f ms, one_longer (f m) (filter_map f ms))

cert_fits : (place : Place) (w : View) (b : Block) → length place.config.members ≤ 31 → are_short w.kept ≡ true → FitsCert (certificate place w b)
cert_fits place w b few h =
    let count = sigs_few (kept_sig place.height (block_hash b) w.kept) place.config.members in
    record { count = omega arith; sigs = sigs_fit place.height (block_hash b) w.kept place.config.members h }

delivery_fits : (place : Place) (w : View) (b : Block) (n : Bool) → length place.config.members ≤ 31 → are_short w.kept ≡ true → (t : Bool) → is_next_block place b ≡ t → IfSome (deliver_act (cond (n && t) (Some (b, certificate place w b)) None)) FitsAct
delivery_fits place w b true few h true is = (next_fits_at place b is, cert_fits place w b few h)
delivery_fits place w b true few h false is = tt
delivery_fits place w b false few h t is = tt

delivery_if_fits : (place : Place) (w : View) (o : Option Block) → length place.config.members ≤ 31 → are_short w.kept ≡ true → IfSome (deliver_act (delivery_if place w o)) FitsAct
delivery_if_fits place w None few h = tt
delivery_if_fits place w (Some b) few h = delivery_fits place w b (nat_le (quorum_of place.config) (length (commits place w (block_hash b)))) few h (is_next_block place b) refl

deliver_fits : (place : Place) (w : View) (t : Bool) → length place.config.members ≤ 31 → are_short w.kept ≡ true → IfSome (deliver_act (cond t None (delivery_if place w w.accepted))) FitsAct
deliver_fits place w true few h = tt
deliver_fits place w false few h = delivery_if_fits place w w.accepted few h

due_fits : (accepts : Accepts) (place : Place) (w : View) → length place.config.members ≤ 31 → are_short w.kept ≡ true → IfSome (due accepts place w) FitsAct
due_fits accepts place w few h =
    let block = block_if accepts place w.view (kept_proposal (leader place w.view) place.height w.kept) in
    first_fits FitsAct (accept_act (acceptance_due accepts place w)) (first_of (prepare_act (preparation_due place w)) (deliver_act (delivery_due place w)))
    (accept_fits (acceptance_due accepts place w) (if_fits (is_voting place w && is_inside_view w && is_none w.accepted) block (block_if_fits accepts place w.view (kept_proposal (leader place w.view) place.height w.kept))))
    (first_fits FitsAct (prepare_act (preparation_due place w)) (deliver_act (delivery_due place w)) (prepare_fits (preparation_due place w)) (deliver_fits place w (is_raft place.config) few h))

-- WHAT IS ANSWERED

act_or_fits : (o : Option Act) (other : Act) → IfSome o FitsAct → FitsAct other → FitsAct (act_or o other)
act_or_fits None other h k = k
act_or_fits (Some act) other h k = h

reason_or_fits : (o : Option Reason) (last : Reason) → FitsAct (reason_or o last)
reason_or_fits None last = tt
reason_or_fits (Some r) last = tt

kept_or_fits : (t : Bool) (o : Option Reason) (last : Reason) → FitsAct (kept_or t o last)
kept_or_fits true o last = tt
kept_or_fits false o last = reason_or_fits o last

-- what a letter brings to a view
pub vote_fits : (accepts : Accepts) (place : Place) (w : View) (letter : Letter) → length place.config.members ≤ 31 → is_short letter.message ≡ true → are_short w.kept ≡ true → FitsAct (vote_answer accepts place (at_place place w) letter)
vote_fits accepts place w letter few one h =
    let at = at_place place w in
    act_or_fits (due accepts place (kept_after accepts place at letter)) (kept_or (is_new accepts place at letter) (first_reason (stands_outside place at letter ++ message_reasons accepts place at letter.from letter.message)) reason.Repeat)
    (due_fits accepts place (kept_after accepts place at letter) few (short_more at letter (is_new accepts place at letter) one (short_at_place place w h)))
    (kept_or_fits (is_new accepts place at letter) (first_reason (stands_outside place at letter ++ message_reasons accepts place at letter.from letter.message)) reason.Repeat)

pub due_answer_fits : (accepts : Accepts) (place : Place) (w : View) → length place.config.members ≤ 31 → are_short w.kept ≡ true → FitsAct (due_answer accepts place (at_place place w))
due_answer_fits accepts place w few h =
    let at = at_place place w in
    act_or_fits (due accepts place at) (reason_or (first_reason (own_reasons place at)) reason.NotYet) (due_fits accepts place at few (short_at_place place w h)) (reason_or_fits (first_reason (own_reasons place at)) reason.NotYet)

made_fits : (place : Place) (b : Block) (n t : Bool) → is_next_block place b ≡ t → IfSome (cond (n && t) (Some b) None) FitsBlock
made_fits place b true true is = next_fits_at place b is
made_fits place b true false is = tt
made_fits place b false t is = tt

pub propose_fits : (place : Place) (w : View) (rs : List Request) → FitsAct (propose_answer place w rs)
propose_fits place w rs =
    let b = proposal place w.view rs in
    act_or_fits (accept_act (proposed place w rs)) (reason_or (first_reason (own_reasons place w ++ offer_reasons place w rs)) reason.NotYet)
    (accept_fits (proposed place w rs) (made_fits place b (may_propose place w && nat_le 1 (length rs)) (is_next_block place b) refl))
    (reason_or_fits (first_reason (own_reasons place w ++ offer_reasons place w rs)) reason.NotYet)

pub prepare_answer_fits : (place : Place) (w : View) (letter : Letter) → FitsAct (prepare_answer place w letter)
prepare_answer_fits place w letter =
    act_or_fits (prepare_act (preparation_due place (kept_after accepts_nothing place w letter))) (kept_or (is_new accepts_nothing place w letter) (first_reason (stands_outside place w letter)) reason.Repeat)
    (prepare_fits (preparation_due place (kept_after accepts_nothing place w letter))) (kept_or_fits (is_new accepts_nothing place w letter) (first_reason (stands_outside place w letter)) reason.Repeat)

-- what a call holds of its messages
pub kept_short : (config : ℕ) (members : List ℕ) (view height : ℕ) (kept letters : List Letter) → IsHeld config members view height kept → kept ≡ letters → are_short letters ≡ true
kept_short config members view height kept letters h same = subst (λ ls. are_short ls ≡ true) same (held_short config members view height kept h.held)

-- an answer that fits is one of an act that fits
IfOk-fits : {E : Type 0} (r : Result Act E) (answer : Act) → IfOk r (λ act. act ≡ answer) → FitsAct answer → IfOk r FitsAct
IfOk-fits (Ok act) answer is h = subst FitsAct (sym is) h
IfOk-fits (Err e) answer is h = tt

-- the two ways to say a fact of the value that there may be

-- a call that takes an act at its place answers it
pub answered_from : {E : Type 0} (r : Result Act E) (act : Act) (new held placed : View) → IsTaken r act new held placed
    → FitsAct act → IsAnswered r act new (after_act act held) placed
answered_from r act new held placed taken fits =
    record {
      answer = taken.answer;
      fits = IfOk-fits r act taken.answer fits;
      after = answered r act new held taken.answer taken.after;
      err = taken.err;
    }

pub IfSome-from_ForSome : {A : Type 0} (o : Option A) (P : A → Type 0) → ForSome o P → IfSome o P
IfSome-from_ForSome None P h = tt
IfSome-from_ForSome (Some x) P h = h x refl

pub ForSome-from_IfSome : {A : Type 0} (o : Option A) (P : A → Type 0) → IfSome o P → ForSome o P
ForSome-from_IfSome None P h = λ x is. absurd (none-some x is)
ForSome-from_IfSome (Some y) P h = λ x is. subst P (same_Some y x is) h

carried_where : (place : Place) (t : Bool) → IsPlace place → IfSome (cond t None place.last_cert) FitsCert
carried_where place true h = tt
carried_where place false h = IfSome-from_ForSome place.last_cert FitsCert h.cert

-- the certificate that a proposal carries has a spelling
pub carried_fits : (place : Place) → IsPlace place → IfSome (carried_cert place) FitsCert
carried_fits place h = carried_where place (is_at_start place) h
