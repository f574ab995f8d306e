-- The same state, computed from all that came to a node and all that it did since it was opened, each at its place.
use Rattle.std.specs.Prelude.{◌≡◌, ℕ, ◌≤◌, ◌<◌, Bool, false, ◌&&◌, ◌==◌, not, max, List, [], ◌∷◌, map, Option, Some, None, is_none, if◌then◌else◌, ⊤}
use Rattle.std.specs.Str.{bytes_eq}
use Rattle.ord_types.specs.Members.{is_in, is_raft}
use Rattle.ord_types.specs.declared.values.Config.{Config}
use Rattle.bft_wire.specs.declared.message.ViewData.{ViewData}
use Rattle.safety_model.specs.Choosing.{AreDifferent}
use Rattle.signer_edge.specs.Accepts.{Accepts}
use Rattle.change_model.specs.Answers.{change_kept, data_invalid, data_kept, first_reason, is_newer, kept_report}
use Rattle.change_model.specs.Changing.{Changing, Known, KeptReport, Own, Place, Waiting, fresh}
use Rattle.change_model.specs.Dues.{enters, leaves, reports, still_own, still_waiting}

pub data Came : Type 0 where
  -- a member left for a view
  Changes : ℕ → ℕ → Came
  -- a member reports, at a moment when these signatures were accepted
  Data : Accepts → ℕ → ViewData → Came
  -- what the node did: it left for a view, entered one, reported for one
  Leaves : ℕ → Came
  Enters : ℕ → Came
  Reports : ℕ → Came
  -- it announced a view, and holds this of its own NewView then; it took that up; a NewView waits from now on
  Announces : ℕ → Option Own → Came
  Takes : Came
  Waits : Waiting → Came

-- with the place at which it was
pub record Moment : Type 0 where
  pub place : Place
  pub came : Came

-- what an opening found, and what came since then, the newest first
pub record Past : Type 0 where
  pub me : ℕ
  pub opened : Place
  pub view : ℕ
  pub left : ℕ
  pub moments : List Moment

-- with one moment more
abbrev pub with_moment : Moment → Past → Past
with_moment m p = record p { moments = m ∷ p.moments }

-- it was under this configuration
abbrev pub is_same : Config → Place → Bool
is_same c place = (place.config.number == c.number) && bytes_eq place.config.members c.members

abbrev pub is_under : Config → Moment → Bool
is_under c m = is_same c m.place

-- what all moments under the configuration make of a value, the oldest first
abbrev pub since : {A : Type 0} → (Moment → A → A) → Config → A → List Moment → A
since step c a [] = a
since step c a (m ∷ ms) = if is_under c m then step m (since step c a ms) else since step c a ms

-- A MEMBER'S TARGET is the greatest that it sent

abbrev pub target_by : ℕ → Came → ℕ → ℕ
target_by member (Changes from target) old = if from == member then max old target else old
target_by member _ old = old

abbrev pub target_in : Config → ℕ → List Moment → ℕ
target_in c member ms = since (λ (m : Moment). target_by member m.came) c 0 ms

-- A MEMBER'S REPORT is the valid one of the greatest view, and among these of the greatest height: the first such

abbrev pub newer_of : ViewData → Option KeptReport → Option KeptReport
newer_of m old = if is_newer m.view m.report.height old then Some (kept_report m) else old

abbrev pub is_valid_data : Accepts → Place → ℕ → ℕ → ViewData → Bool
is_valid_data accepts place me from m = is_none (first_reason (data_invalid accepts place (fresh me place) from m))

abbrev pub report_by : ℕ → ℕ → Place → Came → Option KeptReport → Option KeptReport
report_by me member place (Data accepts from m) old = if (from == member) && is_valid_data accepts place me from m then newer_of m old else old
report_by me member place _ old = old

abbrev pub report_in : ℕ → Config → ℕ → List Moment → Option KeptReport
report_in me c member ms = since (λ (m : Moment). report_by me member m.place m.came) c None ms

-- what is known of a member
abbrev pub row_in : ℕ → Config → List Moment → ℕ → Known
row_in me c ms member = record { member = member; target = target_in c member ms; report = report_in me c member ms }

-- what is known of all members
abbrev pub known_in : ℕ → Config → List Moment → List Known
known_in me c ms = map (row_in me c ms) c.members

-- THE VIEWS: the greatest entered, and the greatest left for

abbrev pub view_by : Came → ℕ → ℕ
view_by (Enters v) old = max old v
view_by _ old = old

abbrev pub left_by : Came → ℕ → ℕ
left_by (Leaves t) old = max old t
left_by _ old = old

-- what the opening found, where it was under the configuration
abbrev pub found_under : Config → Past → ℕ → ℕ
found_under c p found = if is_same c p.opened then found else 0

abbrev pub view_in : Config → Past → ℕ
view_in c p = since (λ (m : Moment). view_by m.came) c (found_under c p p.view) p.moments

abbrev pub left_in : Config → Past → ℕ
left_in c p = since (λ (m : Moment). left_by m.came) c (found_under c p p.left) p.moments

-- THE LAST REPORT and THE LAST ANNOUNCED VIEW

abbrev pub reported_by : Place → Came → Option (ℕ × ℕ) → Option (ℕ × ℕ)
reported_by place (Reports t) old = Some (t, place.height)
reported_by place _ old = old

abbrev pub announced_by : Came → ℕ → ℕ
announced_by (Announces v own) old = v
announced_by _ old = old

-- THE NEWVIEW THAT WAITS is the last that came to wait, if its view isn't entered or passed by

abbrev pub waiting_by : Came → Option Waiting → Option Waiting
waiting_by (Waits news) old = Some news
waiting_by _ old = old

abbrev pub waiting_in : Config → Past → Option Waiting
waiting_in c p = still_waiting (view_in c p) (since (λ (m : Moment). waiting_by m.came) c None p.moments)

-- ITS OWN NEWVIEW is that of the last announcement, until it is taken up, passed by, or left

abbrev pub own_by : Came → Option Own → Option Own
own_by (Leaves t) old = None
own_by (Enters v) old = still_own v old
own_by (Announces v own) old = own
own_by Takes old = None
own_by _ old = old

-- WHAT IS HELD under the configuration
abbrev pub changing_in : Config → Past → Changing
changing_in c p =
    record {
      me = p.me;
      config = c.number;
      members = c.members;
      known = known_in p.me c p.moments;
      view = view_in c p;
      left = left_in c p;
      waiting = waiting_in c p;
      own = since (λ (m : Moment). own_by m.came) c None p.moments;
      reported = since (λ (m : Moment). reported_by m.place m.came) c None p.moments;
      announced = since (λ (m : Moment). announced_by m.came) c 0 p.moments;
    }

-- IN PLACE: what a moment leaves of what is held

abbrev pub after_came : Place → Came → Changing → Changing
after_came place (Changes from target) w = change_kept place w from target
after_came place (Data accepts from m) w = data_kept accepts place w from m
after_came place (Leaves t) w = leaves t w
after_came place (Enters v) w = enters v w
after_came place (Reports t) w = reports place w
after_came place (Announces v own) w = record w { own = own; announced = v }
after_came place Takes w = record w { own = None }
after_came place (Waits news) w = record w { waiting = Some news }

-- what the node does fits what it holds
abbrev pub Fits : Came → Changing → Type 0
Fits (Leaves t) w = w.left ≤ t
Fits (Enters v) w = w.view ≤ v
Fits (Reports t) w = t ≡ w.left
Fits (Waits news) w = w.view < news.view
Fits _ w = ⊤

-- THE TWO AGREE

abbrev pub opened_at : ℕ → Place → ℕ → ℕ → Past
opened_at me place view left = record { me = me; opened = place; view = view; left = left; moments = [] }

-- one moment more, at a place under a BFT configuration of different members
abbrev pub MomentsAgree : Type 0
MomentsAgree =
    (p : Past) (place : Place) (came : Came) → is_raft place.config ≡ false → AreDifferent place.config.members
    → Fits came (changing_in place.config p)
    → changing_in place.config (with_moment (record { place = place; came = came }) p) ≡ after_came place came (changing_in place.config p)

-- neither the opening nor a moment was under the configuration
abbrev pub NoneUnder : Config → List Moment → Type 0
NoneUnder c [] = ⊤
NoneUnder c (m ∷ ms) = (is_under c m ≡ false) × NoneUnder c ms

-- a new configuration drops all
abbrev pub NewConfigDropsAll : Type 0
NewConfigDropsAll =
    (p : Past) (place : Place) → is_same place.config p.opened ≡ false → NoneUnder place.config p.moments
    → changing_in place.config p ≡ fresh p.me place
