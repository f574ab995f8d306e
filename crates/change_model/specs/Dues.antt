-- What is due in a change of views: leave, report, announce, enter, each exactly where its condition holds.
use Rattle.std.specs.Prelude.{ℕ, ◌+◌, Bool, true, false, ◌&&◌, ◌||◌, ◌==◌, nat_lt, nat_le, not, max, List, [], ◌∷◌, map, length, filter_map, Option, Some, None, is_none, if◌then◌else◌}
use Rattle.ord_types.specs.Members.{fault_bound, is_raft}
use Rattle.ord_types.specs.declared.values.Block.{Block}
use Rattle.ord_types.specs.declared.values.Cert.{Cert}
use Rattle.ord_types.specs.declared.values.Choice.{Choice}
use Rattle.ord_types.specs.declared.values.Choice.TheVariants.{Carry, Free, Neither}
use Rattle.ord_types.specs.declared.values.Vote.{Vote}
use Rattle.bft_wire.specs.declared.message.NewView.{NewView}
use Rattle.bft_wire.specs.declared.message.Signed.{Signed}
use Rattle.safety_model.specs.Choosing.{told_height}
use Rattle.safety_model.specs.Reports.{is_told}
pub use Rattle.change_model.specs.declared.act.ChangeAct.{ChangeAct}
use Rattle.change_model.specs.declared.act.ChangeAct.TheVariants.{Leave, Report, Announce, Enter, Pull}
use Rattle.change_model.specs.Changing.{Changing, Known, KeptReport, Own, Place, Waiting, collector, is_changing, is_leaving, may_enter, quorum_at}
use Rattle.change_model.specs.Choices.{choice_of, reports_in}
use Rattle.change_model.specs.Valid.{carried_in, is_choice}

-- an act, and what is held once it was told
pub record Turn : Type 0 where
  pub act : ChangeAct
  pub after : Changing

abbrev pub first_turn : Option Turn → Option Turn → Option Turn
first_turn None next = next
first_turn (Some turn) next = Some turn

abbrev pub turn_if : Bool → ChangeAct → Changing → Option Turn
turn_if false act after = None
turn_if true act after = Some (record { act = act; after = after })

-- how many rows pass a test
abbrev pub how_many_known : (Known → Bool) → List Known → ℕ
how_many_known test [] = 0
how_many_known test (k ∷ ks) = (if test k then 1 else 0) + how_many_known test ks

-- LEAVE

-- it left for view t: that is the greatest from then on, and its own NewView of a lower view leads nowhere
abbrev pub leaves : ℕ → Changing → Changing
leaves t w = record w { left = t; own = None }

-- the view above both the entered one and the one left for
abbrev pub next_target : Changing → ℕ
next_target w = max w.view w.left + 1

-- another member sent a target of at least t
abbrev pub is_others_target : ℕ → ℕ → Known → Bool
is_others_target me t k = not (k.member == me) && nat_le t k.target

-- so many members left for view t or above, which is above the view and the one left for, that one of them is correct
abbrev pub is_joined : Changing → ℕ → Bool
is_joined w t = nat_lt (max w.view w.left) t && nat_lt (fault_bound (length w.members)) (how_many_known (is_others_target w.me t) w.known)

-- the greatest of these members' targets for which that holds, or 0
abbrev pub greatest_joined : Changing → List Known → ℕ
greatest_joined w [] = 0
greatest_joined w (k ∷ ks) = max (if is_joined w k.target then k.target else 0) (greatest_joined w ks)

-- the view that it joins the others in leaving for, or 0
abbrev pub join_target : Changing → ℕ
join_target w = greatest_joined w w.known

abbrev pub leave_due : Place → Changing → Option Turn
leave_due place w = turn_if (is_changing place w && nat_lt 0 (join_target w)) (Leave (join_target w)) (leaves (join_target w) w)

-- REPORT

-- a member's target is at least t; the node's own is the view that it left for
abbrev pub has_target : ℕ → ℕ → Known → Bool
has_target me t k = (k.member == me) || nat_le t k.target

abbrev pub is_reported : ℕ → ℕ → Option (ℕ × ℕ) → Bool
is_reported t height None = false
is_reported t height (Some last) = (last.0 == t) && (last.1 == height)

abbrev pub reports : Place → Changing → Changing
reports place w = record w { reported = Some (w.left, place.height) }

abbrev pub is_report_due : Place → Changing → Bool
is_report_due place w =
    is_changing place w && is_leaving w
    && nat_le (quorum_at place) (how_many_known (has_target w.me w.left) w.known)
    && not (is_reported w.left place.height w.reported)

abbrev pub report_due : Place → Changing → Option Turn
report_due place w = turn_if (is_report_due place w) (Report w.left) (reports place w)

-- ANNOUNCE

abbrev pub report_if : ℕ → Option KeptReport → Option KeptReport
report_if t None = None
report_if t (Some r) = if r.view == t then Some r else None

-- the report that is kept of a member, where it is for view t
abbrev pub report_for : ℕ → Known → Option KeptReport
report_for t k = report_if t k.report

-- the kept reports for view t, in the members' order
abbrev pub reports_for : ℕ → List Known → List KeptReport
reports_for t ks = filter_map (report_for t) ks

abbrev pub signed_in : List KeptReport → List Signed
signed_in rs = map (λ (r : KeptReport). r.signed) rs

-- a kept report of height x tells this preparation
abbrev pub tells : ℕ → Vote → KeptReport → Bool
tells x vote r = (r.signed.report.height == x) && is_told r.signed.report.prepared (Some vote)

-- the block of the first such report
abbrev pub told_block : ℕ → Vote → List KeptReport → Option Block
told_block x vote [] = None
told_block x vote (r ∷ rs) = if tells x vote r then r.block else told_block x vote rs

abbrev pub block_for : ℕ → Option Vote → List KeptReport → Option Block
block_for x None rs = None
block_for x (Some vote) rs = told_block x vote rs

-- what these reports for view t lead to, of n members
abbrev pub news_of : ℕ → ℕ → List KeptReport → Waiting
news_of n t rs =
    let x = told_height (reports_in (signed_in rs)) in
    let choice = choice_of n x (reports_in (signed_in rs)) in
    record { view = t; number = x; choice = choice; block = block_for x (carried_in choice) rs }

-- the first signer of a report of height x, or 0
abbrev pub first_reporter : ℕ → List KeptReport → ℕ
first_reporter x [] = 0
first_reporter x (r ∷ rs) = if r.signed.report.height == x then r.signed.sig.signer else first_reporter x rs

abbrev pub own_of : ℕ → ℕ → List KeptReport → Own
own_of n t rs = record { news = news_of n t rs; asks = first_reporter (news_of n t rs).number rs }

-- one of this view is newer than the one that waits
abbrev pub is_later : ℕ → Option Waiting → Bool
is_later v None = true
is_later v (Some waiting) = nat_lt waiting.view v

-- it can be entered at this height, or waits in place of the one that waits
abbrev pub own_if : ℕ → Changing → Own → Option Own
own_if height w own = if nat_le own.news.number height || is_later own.news.view w.waiting then Some own else None

abbrev pub announces : Place → Changing → Own → Changing
announces place w own = record w { announced = own.news.view; own = own_if place.height w own }

abbrev pub message_of : Changing → List KeptReport → Waiting → NewView
message_of w rs news = record { config = w.config; view = news.view; reports = signed_in rs; block = news.block }

-- they choose something
abbrev pub announce_turn : Place → Changing → List KeptReport → Own → Option Turn
announce_turn place w rs own = turn_if (is_choice own.news.choice) (Announce (message_of w rs own.news)) (announces place w own)

-- a quorum's reports are kept
abbrev pub announce_if : Place → Changing → List KeptReport → Option Turn
announce_if place w rs =
    if nat_le (quorum_at place) (length rs) then announce_turn place w rs (own_of (length place.config.members) w.left rs) else None

-- the node collects the reports for the view that it left for, and hasn't announced it
abbrev pub is_collecting : Place → Changing → Bool
is_collecting place w = is_changing place w && is_leaving w && (collector place w.left == w.me) && not (w.announced == w.left)

abbrev pub announce_due : Place → Changing → Option Turn
announce_due place w = if is_collecting place w then announce_if place w (reports_for w.left w.known) else None

-- ENTER

-- a NewView of a view that isn't above v leads nowhere
abbrev pub still_waiting : ℕ → Option Waiting → Option Waiting
still_waiting v None = None
still_waiting v (Some waiting) = if nat_lt v waiting.view then Some waiting else None

abbrev pub still_own : ℕ → Option Own → Option Own
still_own v None = None
still_own v (Some own) = if nat_lt v own.news.view then Some own else None

abbrev pub enters : ℕ → Changing → Changing
enters v w = record w { view = v; waiting = still_waiting v w.waiting; own = still_own v w.own }

abbrev pub enter_act : Waiting → ChangeAct
enter_act news = Enter news.view news.number news.choice news.block

abbrev pub enter_turn : Waiting → Changing → Turn
enter_turn news w = record { act = enter_act news; after = enters news.view w }

-- it can be entered: the blocks below its height stand
abbrev pub is_enterable : Place → Changing → Waiting → Bool
is_enterable place w news = not (is_raft place.config) && may_enter w news.view && nat_le news.number place.height

-- the NewView that waits, where it can be entered
abbrev pub is_waiting_ready : Place → Changing → Option Waiting → Bool
is_waiting_ready place w None = false
is_waiting_ready place w (Some news) = is_enterable place w news

abbrev pub waiting_turn : Option Waiting → Changing → Option Turn
waiting_turn None w = None
waiting_turn (Some news) w = Some (enter_turn news w)

abbrev pub waiting_due : Place → Changing → Option Turn
waiting_due place w = if is_waiting_ready place w w.waiting then waiting_turn w.waiting (record w { waiting = None }) else None

-- from then on it waits, and the member is asked for blocks
abbrev pub waits : Waiting → ℕ → Changing → Turn
waits news asks w = record { act = Pull asks; after = record w { waiting = Some news } }

-- its own NewView, right after it was announced: entered, or else it waits
abbrev pub own_turn : Place → Own → Changing → Turn
own_turn place own w = if nat_le own.news.number place.height then enter_turn own.news w else waits own.news own.asks w

abbrev pub is_own_ready : Place → Changing → Option Own → Bool
is_own_ready place w None = false
is_own_ready place w (Some own) =
    not (is_raft place.config) && may_enter w own.news.view
    && (nat_le own.news.number place.height || is_later own.news.view w.waiting)

abbrev pub own_turn_of : Place → Option Own → Changing → Option Turn
own_turn_of place None w = None
own_turn_of place (Some own) w = Some (own_turn place own w)

abbrev pub own_due : Place → Changing → Option Turn
own_due place w = if is_own_ready place w w.own then own_turn_of place w.own (record w { own = None }) else None

-- the view of the last block's certificate, where the block was ordered under the configuration in force
abbrev pub certified_if : Place → Changing → Option Cert → Option Turn
certified_if place w None = None
certified_if place w (Some cert) =
    turn_if (not (is_raft place.config) && nat_lt place.start place.height && may_enter w cert.view) (Enter cert.view place.height Free None) (enters cert.view w)

abbrev pub certified_due : Place → Changing → Option Turn
certified_due place w = certified_if place w place.last_cert

-- WHAT IS DUE: the first of enter, leave, report and announce

-- enter: by its own NewView, by a certificate, by the NewView that waits
abbrev pub entry_due : Place → Changing → Option Turn
entry_due place w = first_turn (own_due place w) (first_turn (certified_due place w) (waiting_due place w))

abbrev pub leave_or_report_due : Place → Changing → Option Turn
leave_or_report_due place w = first_turn (leave_due place w) (report_due place w)

-- what takes no memory
abbrev pub turned : Place → Changing → Option Turn
turned place w = first_turn (entry_due place w) (leave_or_report_due place w)

abbrev pub due : Place → Changing → Option Turn
due place w = first_turn (turned place w) (announce_due place w)
