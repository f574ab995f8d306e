-- A step of a node by itself: where what the node took rests on a run that has its facts, all that it does is
-- allowed by that run, one entry after another.
use Rattle.std.specs.Prelude.{
  ◌≡◌,
  ◌≤◌,
  ℕ,
  ◌==◌,
  Bool,
  false,
  ◌||◌,
  List,
  [],
  ◌∷◌,
  ◌++◌,
  reverse,
  take,
  Some,
  IsTrue,
  ⊤,
}
use Rattle.std.specs.List.{All, AllByRecursion}
use Rattle.ord_types.specs.Grammar.{HasIdsSpelling, HasRequestSpelling, HasSigSpelling, IsNumber}
use Rattle.ord_types.specs.Members.{is_in}
use Rattle.safety_model.specs.Blocks.{Request}
use Rattle.safety_model.specs.Facts.{History, has, is_prepared}
use Rattle.safety_model.specs.Rules.{Allowed, IsRun, actor, bound_of, faulty}
use Rattle.safety_model.specs.Safety.{BeginsWithGenesis}
use Rattle.safety_model.specs.State.{Setup, changes_view}
use Rattle.safety_model.specs.declared.fact.Fact.{Fact}
use Rattle.bft_wire.specs.Messages.{HasMessageSpelling}
use Rattle.bft_wire.specs.declared.message.Message.{Message}
use Rattle.view_model.specs.declared.letter.Letter.{Letter}
use Rattle.view_model.specs.declared.letter.VoteMessage.TheVariants as message_of
use Rattle.view_model.specs.Letters.{on_wire}
use Rattle.node_model.specs.declared.event.Event.{Event}
use Rattle.node_model.specs.Cores.{after_entries}
use Rattle.node_model.specs.Entries.{
  Came,
  Commits,
  Did,
  Entry,
  Opened,
  Past,
  Pledge,
  Sent,
  Signed,
  facts_in,
  facts_of,
  letter_brought,
  offer_in,
}
use Rattle.node_model.specs.Keeping.{PastNode, core_of_past, with_entries}
use Rattle.node_model.specs.Laws.{AllFit, NothingAhead}
use Rattle.node_model.specs.Steps.{Keys, step}
use Rattle.world_safety.specs.Fits.{DeedFits, FactFits, MessageFits}
use Rattle.world_safety.specs.Resting.{has_ground, own}

-- WHAT A STEP MAY REST ON

-- a chain's setup where no more members lie than the bound allows, and whose configuration has a spelling
pub record IsBounded (su : Setup) : Type 0 where
  pub genesis : BeginsWithGenesis su
  pub few : faulty su.byzantine su.config ≤ bound_of su.config
  pub number : IsNumber su.config.number
  pub members : HasIdsSpelling su.config.members

-- what the keys sign with has a spelling
abbrev pub SignsFit : Keys → Type 0
SignsFit keys = (statements : List (List ℕ)) → HasSigSpelling (keys.signs statements)

-- a letter is of a Byzantine member, or rests on a fact of its sender
abbrev pub rests : Setup → History → Letter → Bool
rests su h letter = is_in letter.from su.byzantine || has_ground h letter.from (on_wire letter.message)

-- a letter that comes rests on a fact, and has a spelling
pub record IsBrought (su : Setup) (h : History) (letter : Letter) : Type 0 where
  pub rests : IsTrue (rests su h letter)
  pub fits : MessageFits letter.message

-- what an event brings is good: the requests have a spelling, and so has the vote message that the bytes
-- spell, which rests on a fact
pub record IsGoodEvent (su : Setup) (h : History) (event : Event) : Type 0 where
  pub offer : (rs : List Request) → offer_in event ≡ Some rs → All HasRequestSpelling rs
  pub letter : (letter : Letter) → letter_brought event ≡ Some letter → IsBrought su h letter

-- WHAT STANDS IN A PAST

-- a Commit that node i signed is of what it prepared, and has a spelling
abbrev pub IsGoodPledge : History → ℕ → Pledge → Type 0
IsGoodPledge h i (Commits m) =
    IsTrue (has (is_prepared i m.config m.view m.number m.digest) h) × MessageFits (message_of.Commit m)

-- a message that node i sent rests on a fact, has a spelling, and goes to members
pub record IsGoodSending (members : List ℕ) (h : History) (i : ℕ) (receivers : List ℕ) (message : Message)
    : Type 0 where
  pub ground : IsTrue (has_ground h i message)
  pub spelled : HasMessageSpelling message
  pub to : AllByRecursion (λ to. IsTrue (is_in to members)) receivers

-- What stands in the past of node i rests on the history: each event is good, each block that it accepted or
-- delivered has a spelling, and each Commit that it signed and each message that it sent is good.
abbrev pub IsGoodEntry : Setup → History → ℕ → Entry → Type 0
IsGoodEntry su h i Opened = ⊤
IsGoodEntry su h i (Came event accepts) = IsGoodEvent su h event
IsGoodEntry su h i (Did deed) = DeedFits deed
IsGoodEntry su h i (Signed pledge accepts) = IsGoodPledge h i pledge
IsGoodEntry su h i (Sent receivers message) = IsGoodSending su.config.members h i receivers message

-- Node i with this past, where these are all facts: the history has the facts of its past, in their order,
-- and no others of this node; it never left or entered a view; and all that stands in its past rests on the
-- history.
pub record NodeStands (su : Setup) (h : History) (i : ℕ) (past : Past) : Type 0 where
  pub own : own i h ≡ facts_of past
  pub still : has (changes_view i) h ≡ false
  pub entries : AllByRecursion (IsGoodEntry su h i) past

-- a node of this id in a run whose blocks have a spelling
pub record StandsIn (su : Setup) (h : History) (i : ℕ) (n : PastNode) : Type 0 where
  pub config : n.config ≡ su.config
  pub id : n.id ≡ i
  pub run : IsRun su h
  pub fit : AllByRecursion FactFits h
  pub node : NodeStands su h i n.past

-- WHAT IT THEN DOES, one entry after another

-- each of these facts is allowed by the history and those behind it
abbrev pub AreAllowed : Setup → History → List Fact → Type 0
AreAllowed su h [] = ⊤
AreAllowed su h (f ∷ facts) = Allowed su (facts ++ h) f × AreAllowed su h facts

-- An entry of node i: its facts are the node's own, and allowed by the history, and by the history with
-- them it is good: a signed Commit is of what the node prepared by then, and a message rests on what it did
-- by then.
pub record IsAllowedEntry (su : Setup) (i : ℕ) (h : History) (entry : Entry) : Type 0 where
  pub mine : AllByRecursion (λ f. IsTrue (actor f == i)) (facts_in entry)
  pub allowed : AreAllowed su h (facts_in entry)
  pub good : IsGoodEntry su (facts_in entry ++ h) i entry

-- each entry is allowed by the history and the facts of the entries before it, so a front of them is too
abbrev pub IsAllowedStep : Setup → ℕ → History → List Entry → Type 0
IsAllowedStep su i h [] = ⊤
IsAllowedStep su i h (entry ∷ entries) =
    IsAllowedEntry su i h entry × IsAllowedStep su i (facts_in entry ++ h) entries

-- THE LAWS

-- The history is a run in which the node stands, which is correct, and no more members lie than the bound
-- allows; what comes rests on it, and the keys sign with what has a spelling. Of the signatures that they
-- accept nothing is asked.
pub record MayStep (su : Setup) (h : History) (keys : Keys) (n : PastNode) (event : Event) : Type 0 where
  pub bounded : IsBounded su
  pub correct : is_in n.id su.byzantine ≡ false
  pub node : StandsIn su h n.id n
  pub brings : IsGoodEvent su h event
  pub signs : SignsFit keys

-- the entries of a step from a past
abbrev pub past_step : Keys → PastNode → Event → List Entry
past_step keys n event = step keys (core_of_past n) event

-- all that a step makes is allowed, from a past
abbrev pub StepsAreAllowed : Type 0
StepsAreAllowed =
    (su : Setup) (h : History) (keys : Keys) (n : PastNode) (event : Event) → MayStep su h keys n event
    → IsAllowedStep su n.id h (past_step keys n event)

-- And in place: where nothing stood ahead of a node's height, and these entries fitted, one after another, it
-- steps from the state that they left, updated in place.
abbrev pub StepsInPlaceAreAllowed : Type 0
StepsInPlaceAreAllowed =
    (su : Setup) (h : History) (keys : Keys) (n : PastNode) (before : List Entry) (event : Event)
    → NothingAhead n → AllFit before (core_of_past n) → MayStep su h keys (with_entries before n) event
    → IsAllowedStep su n.id h (step keys (after_entries before (core_of_past n)) event)

-- A node stands from its first opening on: after each of its steps by the history with the step's facts,
-- after one that was stopped and the opening behind it by the history with those that were kept, after an
-- opening between two steps, and after a fact of another node.
abbrev pub NodesStandAtFirst : Type 0
NodesStandAtFirst = (su : Setup) (i : ℕ) → NodeStands su [] i (Opened ∷ [])

abbrev pub NodesStandAfterSteps : Type 0
NodesStandAfterSteps =
    (su : Setup) (h : History) (keys : Keys) (n : PastNode) (event : Event) → MayStep su h keys n event
    → StandsIn su (reverse (facts_of (past_step keys n event)) ++ h) n.id
    (with_entries (past_step keys n event) n)

-- a stop leaves a front of the step's entries
abbrev pub NodesStandAfterStops : Type 0
NodesStandAfterStops =
    (su : Setup) (h : History) (keys : Keys) (n : PastNode) (event : Event) (cut : ℕ)
    → MayStep su h keys n event
    → StandsIn su (reverse (facts_of (take cut (past_step keys n event))) ++ h) n.id
    (with_entries (take cut (past_step keys n event) ++ Opened ∷ []) n)

abbrev pub NodesStandAfterOpenings : Type 0
NodesStandAfterOpenings =
    (su : Setup) (h : History) (i : ℕ) (past : Past) → NodeStands su h i past
    → NodeStands su h i (Opened ∷ past)

abbrev pub NodesStandAfterOthers : Type 0
NodesStandAfterOthers =
    (su : Setup) (h : History) (i : ℕ) (past : Past) (f : Fact) → (actor f == i) ≡ false
    → NodeStands su h i past → NodeStands su (f ∷ h) i past
