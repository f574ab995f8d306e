-- What is proved of the definitions: valid messages in the words of the rules, and what stands behind a choice.
use Rattle.std.specs.Prelude.{◌≡◌, ◌≢◌, ◌↔◌, ℕ, ◌≤◌, ◌<◌, ◌-◌, false, List, [], ◌∷◌, map, length, IfSome, IsTrue, Option, Some, None, ⊤, All}
use Rattle.std.specs.List.{AllByRecursion}
use Rattle.ord_types.specs.Hashes.{block_hash}
use Rattle.ord_types.specs.Members.{is_in, is_raft}
use Rattle.ord_types.specs.declared.values.Block.{Block}
use Rattle.ord_types.specs.declared.values.Choice.{Choice}
use Rattle.ord_types.specs.declared.values.Choice.TheVariants.{Neither}
use Rattle.ord_types.specs.declared.values.Last.{Last}
use Rattle.ord_types.specs.declared.values.Report.{Report}
use Rattle.ord_types.specs.declared.values.Vote.{Vote}
use Rattle.bft_wire.specs.Messages.{AreSigned}
use Rattle.bft_wire.specs.declared.message.NewView.{NewView}
use Rattle.bft_wire.specs.declared.message.Signed.{Signed}
use Rattle.bft_wire.specs.declared.message.ViewData.{ViewData}
use Rattle.safety_model.specs.Blocks.{Config}
use Rattle.safety_model.specs.Choosing.{AreDifferent, AreReports, IsChoice, Told, told_height}
use Rattle.safety_model.specs.Facts.{History}
use Rattle.safety_model.specs.Rules.{IsRun, bound_of, faulty, is_supported}
use Rattle.safety_model.specs.State.{Setup}
use Rattle.signer_edge.specs.Accepts.{Accepts}
use Rattle.signer_edge.specs.Certificates.{is_good_cert}
use Rattle.signer_edge.specs.Statements.{reported_text}
use Rattle.change_model.specs.declared.act.ChangeAct.TheVariants.{Announce, Enter}
use Rattle.change_model.specs.Answers.{data_invalid, first_reason, heard_news, is_settled, news_in, news_reasons}
use Rattle.change_model.specs.Changing.{Changing, Known, Place, collector, may_enter, quorum_at}
use Rattle.change_model.specs.Choices.{choice_of, reports_in, signers_in}
use Rattle.change_model.specs.Dues.{Turn, announce_due}
use Rattle.change_model.specs.Past.{Past, changing_in}
use Rattle.change_model.specs.Valid.{carried_in}

-- THE CHOICE as a function is the rule

abbrev pub ChoiceIsTheRule : Type 0
ChoiceIsTheRule = (n x : ℕ) (rs : List Report) → IsChoice n x rs (choice_of n x rs)

-- VALID MESSAGES

-- what is told of the last block: absent exactly at the start, else with a good certificate under the
-- configuration in force
pub record IsLast (accepts : Accepts) (place : Place) (height : ℕ) (last : Option Last) : Type 0 where
  pub absent : (last ≡ None) ↔ (height ≡ place.start)
  pub good : IfSome last (λ (last : Last). IsTrue (is_good_cert accepts place.config (height - 1) last.hash last.cert))

-- a valid report for view t, signed by a member
pub record IsReport (accepts : Accepts) (place : Place) (t : ℕ) (s : Signed) : Type 0 where
  pub member : IsTrue (is_in s.sig.signer place.config.members)
  pub signed : IsTrue (accepts (reported_text place.config.number t s.report) s.sig)
  pub height : place.start ≤ s.report.height
  pub last : IsLast accepts place s.report.height s.report.last
  pub prepared : IfSome s.report.prepared (λ (vote : Vote). vote.view < t)
  pub accepted : All (λ (vote : Vote). vote.view < t) s.report.accepted

-- the block is there exactly where the vote is, and the vote's digest is its hash
abbrev pub IsBlockOf : Option Vote → Option Block → Type 0
IsBlockOf vote block =
    ((vote ≡ None) ↔ (block ≡ None)) × IfSome vote (λ (vote : Vote). IfSome block (λ (b : Block). block_hash b ≡ vote.digest))

-- a valid ViewData of this sender
pub record IsData (accepts : Accepts) (place : Place) (from : ℕ) (m : ViewData) : Type 0 where
  pub sender : m.sig.signer ≡ from
  pub report : IsReport accepts place m.view (record { report = m.report; sig = m.sig })
  pub block : IsBlockOf m.report.prepared m.block

-- a valid NewView
pub record IsNews (accepts : Accepts) (place : Place) (m : NewView) : Type 0 where
  pub reports : All (IsReport accepts place m.view) m.reports
  pub enough : quorum_at place ≤ length m.reports
  pub chosen : (news_in place m).choice ≢ Neither
  pub block : IsBlockOf (carried_in (news_in place m).choice) m.block

-- THE REASONS: there is none exactly for a valid message of the configuration in force, from or to the collector

pub record IsDataHere (accepts : Accepts) (place : Place) (me from : ℕ) (m : ViewData) : Type 0 where
  pub bft : is_raft place.config ≡ false
  pub config : m.config ≡ place.config.number
  pub collector : collector place m.view ≡ me
  pub valid : IsData accepts place from m

abbrev pub DataReasonsSayValid : Type 0
DataReasonsSayValid =
    (accepts : Accepts) (place : Place) (w : Changing) (from : ℕ) (m : ViewData)
    → (first_reason (data_invalid accepts place w from m) ≡ None) ↔ IsDataHere accepts place w.me from m

pub record IsNewsHere (accepts : Accepts) (place : Place) (w : Changing) (from : ℕ) (m : NewView) : Type 0 where
  pub sender : IsTrue (is_in from place.config.members)
  pub bft : is_raft place.config ≡ false
  pub config : m.config ≡ place.config.number
  pub view : IsTrue (may_enter w m.view)
  pub collector : collector place m.view ≡ from
  pub valid : IsNews accepts place m

abbrev pub NewsReasonsSayValid : Type 0
NewsReasonsSayValid =
    (accepts : Accepts) (place : Place) (w : Changing) (from : ℕ) (m : NewView)
    → ((first_reason (news_reasons accepts place w from m) ≡ None) × IsTrue (is_settled place m)) ↔ IsNewsHere accepts place w from m

-- ROWS: each member's kept report is signed by that member

abbrev pub IsOwnReport : Known → Type 0
IsOwnReport k = IfSome k.report (λ r. r.signed.sig.signer ≡ k.member)

pub record HasOwnReports (w : Changing) : Type 0 where
  pub members : map (λ (k : Known). k.member) w.known ≡ w.members
  pub reports : AllByRecursion IsOwnReport w.known

-- whatever came
abbrev pub ReportsAreTheirMembers : Type 0
ReportsAreTheirMembers = (c : Config) (p : Past) → HasOwnReports (changing_in c p)

-- SUPPORTED CHOICES, where correct members' reports stand as facts

-- a report and who signed it
abbrev pub told_in : List Signed → List Told
told_in ss = map (λ (s : Signed). record { signer = s.sig.signer; report = s.report }) ss

-- what an announcement chooses
abbrev pub AnnouncedIsSupported : Type 0
AnnouncedIsSupported =
    (su : Setup) (h : History) (c : Config) → IsRun su h → faulty su.byzantine c ≤ bound_of c
    → (i : ℕ) (place : Place) (w : Changing) (m : NewView) (turn : Turn) → place.config ≡ c → AreDifferent c.members
    → HasOwnReports w → w.members ≡ c.members
    → announce_due place w ≡ Some turn → turn.act ≡ Announce m
    → AreReports su h c m.view (told_in m.reports)
    → IsTrue (is_supported su h i c c.number m.view (news_in place m).number (news_in place m).choice)

-- what a NewView enters with
abbrev pub EnteredIsSupported : Type 0
EnteredIsSupported =
    (su : Setup) (h : History) (c : Config) → IsRun su h → faulty su.byzantine c ≤ bound_of c
    → (accepts : Accepts) (i : ℕ) (place : Place) (w : Changing) (from : ℕ) (m : NewView) (v x : ℕ) (choice : Choice) (block : Option Block)
    → place.config ≡ c → AreDifferent (signers_in m.reports)
    → (heard_news accepts place w from m).act ≡ Enter v x choice block
    → AreReports su h c v (told_in m.reports)
    → IsTrue (is_supported su h i c c.number v x choice)

-- the signers of a NewView that has a spelling are different
abbrev pub AscendingAreDifferent : Type 0
AscendingAreDifferent = (least : ℕ) (ss : List Signed) → AreSigned least ss → AreDifferent (signers_in ss)
