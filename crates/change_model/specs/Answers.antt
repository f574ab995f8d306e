-- What the calls on a change of views answer, and what they leave.
use Rattle.std.specs.Prelude.{ℕ, Bool, true, false, ◌&&◌, ◌||◌, ◌==◌, nat_lt, nat_le, not, max, List, [], ◌∷◌, ◌++◌, length, Option, Some, None, is_none, if◌then◌else◌}
use Rattle.ord_types.specs.Members.{is_in, is_raft}
use Rattle.ord_types.specs.declared.values.Choice.{Choice}
use Rattle.bft_wire.specs.declared.message.NewView.{NewView}
use Rattle.bft_wire.specs.declared.message.ViewData.{ViewData}
use Rattle.bft_wire.specs.declared.reason.Reason.{Reason}
use Rattle.bft_wire.specs.declared.reason.Reason.TheVariants as reason
use Rattle.signer_edge.specs.Accepts.{Accepts}
use Rattle.safety_model.specs.Choosing.{told_height}
pub use Rattle.view_model.specs.Answers.{Reasons, first_reason}
use Rattle.change_model.specs.declared.act.ChangeAct.TheVariants as act_of
use Rattle.change_model.specs.Changing.{Changing, Known, KeptReport, Place, Waiting, at_place, collector, may_enter, quorum_at}
use Rattle.change_model.specs.Choices.{choice_of, reports_in}
use Rattle.change_model.specs.Dues.{ChangeAct, Turn, announce_due, due, enter_turn, first_turn, is_later, leave_or_report_due, leaves, next_target, turn_if, waits}
use Rattle.change_model.specs.Valid.{are_from_start, are_lasts_good, are_signed, are_told_below, carried_in, is_block_of, is_choice, is_last_good, is_report_signed, is_told_below}

abbrev pub nothing : Reason → Changing → Turn
nothing r w = record { act = act_of.Nothing r; after = w }

abbrev pub turn_or : Option Turn → Turn → Turn
turn_or None other = other
turn_or (Some turn) other = turn

-- without an act: the first reason, or else the last one
abbrev pub refused : Option Reason → Reason → Changing → Turn
refused None last w = nothing last w
refused (Some r) last w = nothing r w

-- the message is newly kept, or the first reason why not
abbrev pub kept_turn : Option Reason → Changing → Turn
kept_turn None w = record { act = act_of.Kept; after = w }
kept_turn (Some r) w = nothing r w

abbrev pub own_reasons : Place → Changing → Reasons
own_reasons place w = (not (is_in w.me place.config.members), reason.NotMember) ∷ (is_raft place.config, reason.OtherConfig) ∷ []

-- COMPLAIN: it leaves for the next view

abbrev pub complain_turn : Place → Changing → Option Reason → Turn
complain_turn place w None = record { act = act_of.Leave (next_target w); after = leaves (next_target w) w }
complain_turn place w (Some r) = nothing r w

abbrev pub complained : Place → Changing → Turn
complained place w = complain_turn place w (first_reason (own_reasons place w))

-- A VIEWCHANGE: of each member the greatest target is kept

-- what is known of a member
abbrev pub known_of : ℕ → List Known → Option Known
known_of member [] = None
known_of member (k ∷ ks) = if k.member == member then Some k else known_of member ks

-- with another row for the member
abbrev pub with_row : Known → List Known → List Known
with_row row [] = []
with_row row (k ∷ ks) = if k.member == row.member then row ∷ ks else k ∷ with_row row ks

abbrev pub is_new_target : ℕ → Option Known → Bool
is_new_target target None = false
is_new_target target (Some k) = nat_lt k.target target

abbrev pub change_reasons : Place → Changing → ℕ → ℕ → Reasons
change_reasons place w from target =
    (not (is_in from place.config.members), reason.NotMember) ∷
    (is_raft place.config, reason.OtherConfig) ∷
    (not (is_new_target target (known_of from w.known)), reason.Repeat) ∷ []

abbrev pub with_target : ℕ → Option Known → Changing → Changing
with_target target None w = w
with_target target (Some k) w = record w { known = with_row (record k { target = target }) w.known }

abbrev pub target_if : ℕ → ℕ → Option Reason → Changing → Changing
target_if from target None w = with_target target (known_of from w.known) w
target_if from target (Some r) w = w

-- what is held with the message, where it is newly kept
abbrev pub change_kept : Place → Changing → ℕ → ℕ → Changing
change_kept place w from target = target_if from target (first_reason (change_reasons place w from target)) w

abbrev pub changed : Place → Changing → ℕ → ℕ → Turn
changed place w from target =
    let kept = change_kept place w from target in
    turn_or (leave_or_report_due place kept) (kept_turn (first_reason (change_reasons place w from target)) kept)

-- A VIEWDATA: of each member the valid report of the greatest view is kept, and among these of the greatest height

abbrev pub is_newer : ℕ → ℕ → Option KeptReport → Bool
is_newer view height None = true
is_newer view height (Some old) = nat_lt old.view view || ((old.view == view) && nat_lt old.signed.report.height height)

abbrev pub is_new_report : ViewData → Option Known → Bool
is_new_report m None = false
is_new_report m (Some k) = is_newer m.view m.report.height k.report

-- why it is none for this node here, whatever is signed in it
abbrev pub data_outside : Place → Changing → ℕ → ViewData → Reasons
data_outside place w from m =
    (not (is_in from place.config.members), reason.NotMember) ∷
    (is_raft place.config || not (m.config == place.config.number), reason.OtherConfig) ∷
    (not (is_told_below m.view m.report), reason.OtherView) ∷
    (nat_lt m.report.height place.start, reason.OldNumber) ∷
    (not (collector place m.view == w.me), reason.NotLeader) ∷
    (not (is_block_of m.report.prepared m.block), reason.BadBlock) ∷ []

-- why what is signed in it isn't good
abbrev pub data_unsigned : Accepts → Place → ℕ → ViewData → Reasons
data_unsigned accepts place from m =
    (not (is_last_good accepts place m.report.height m.report.last), reason.BadCert) ∷
    (not ((m.sig.signer == from) && is_report_signed accepts place m.view m.report m.sig), reason.BadSignature) ∷ []

abbrev pub data_invalid : Accepts → Place → Changing → ℕ → ViewData → Reasons
data_invalid accepts place w from m = data_outside place w from m ++ data_unsigned accepts place from m

-- and why it isn't newly kept
abbrev pub data_reasons : Accepts → Place → Changing → ℕ → ViewData → Reasons
data_reasons accepts place w from m =
    data_invalid accepts place w from m ++ (not (is_new_report m (known_of from w.known)), reason.Repeat) ∷ []

abbrev pub kept_report : ViewData → KeptReport
kept_report m = record { view = m.view; signed = record { report = m.report; sig = m.sig }; block = m.block }

abbrev pub with_report : ViewData → Option Known → Changing → Changing
with_report m None w = w
with_report m (Some k) w = record w { known = with_row (record k { report = Some (kept_report m) }) w.known }

abbrev pub report_kept_if : ℕ → ViewData → Option Reason → Changing → Changing
report_kept_if from m None w = with_report m (known_of from w.known) w
report_kept_if from m (Some r) w = w

abbrev pub data_kept : Accepts → Place → Changing → ℕ → ViewData → Changing
data_kept accepts place w from m = report_kept_if from m (first_reason (data_reasons accepts place w from m)) w

abbrev pub heard_data : Accepts → Place → Changing → ℕ → ViewData → Turn
heard_data accepts place w from m =
    let kept = data_kept accepts place w from m in
    turn_or (announce_due place kept) (kept_turn (first_reason (data_reasons accepts place w from m)) kept)

-- A NEWVIEW: it is entered where it can be; else the first of the greatest view waits, and its sender is asked for blocks

abbrev pub news_in : Place → NewView → Waiting
news_in place m =
    let x = told_height (reports_in m.reports) in
    record { view = m.view; number = x; choice = choice_of (length place.config.members) x (reports_in m.reports); block = m.block }

-- why a NewView is none for this node here, whatever is signed in it
abbrev pub news_outside : Place → Changing → ℕ → NewView → Reasons
news_outside place w from m =
    (not (is_in from place.config.members), reason.NotMember) ∷
    (is_raft place.config || not (m.config == place.config.number), reason.OtherConfig) ∷
    (not (may_enter w m.view && are_told_below m.view m.reports), reason.OtherView) ∷
    (not (are_from_start place m.reports), reason.OldNumber) ∷
    (not (collector place m.view == from), reason.NotLeader) ∷ []

-- why what is in it isn't good
abbrev pub news_unsigned : Accepts → Place → NewView → Reasons
news_unsigned accepts place m =
    (not (is_block_of (carried_in (news_in place m).choice) m.block), reason.BadBlock) ∷
    (not (are_lasts_good accepts place m.reports), reason.BadCert) ∷
    (not (are_signed accepts place m.view m.reports), reason.BadSignature) ∷ []

-- why it isn't valid here, its count of reports and its choice apart
abbrev pub news_reasons : Accepts → Place → Changing → ℕ → NewView → Reasons
news_reasons accepts place w from m = news_outside place w from m ++ news_unsigned accepts place m

-- a quorum reports, and their choice isn't open
abbrev pub is_settled : Place → NewView → Bool
is_settled place m = nat_le (quorum_at place) (length m.reports) && is_choice (news_in place m).choice

-- one of this sender waits that isn't older
abbrev pub is_stale : Place → ℕ → ℕ → Option Waiting → Bool
is_stale place from v None = false
is_stale place from v (Some waiting) = (collector place waiting.view == from) && nat_le v waiting.view

abbrev pub late_reason : Bool → Reason
late_reason true = reason.Repeat
late_reason false = reason.NotYet

-- a valid one
abbrev pub settled_turn : Place → Changing → ℕ → Waiting → Turn
settled_turn place w from news =
    if nat_le news.number place.height then enter_turn news w
    else if is_later news.view w.waiting then waits news from w
    else nothing (late_reason (is_stale place from news.view w.waiting)) w

abbrev pub news_turn : Place → Changing → ℕ → NewView → Option Reason → Turn
news_turn place w from m (Some r) = nothing r w
news_turn place w from m None =
    if is_settled place m then settled_turn place w from (news_in place m)
    else nothing (late_reason (is_stale place from m.view w.waiting)) w

abbrev pub heard_news : Accepts → Place → Changing → ℕ → NewView → Turn
heard_news accepts place w from m = news_turn place w from m (first_reason (news_reasons accepts place w from m))

-- GROWN: what is due now

abbrev pub grown : Place → Changing → Turn
grown place w = turn_or (due place w) (refused (first_reason (own_reasons place w)) reason.NotYet w)
