-- What is so of every world of a script: what its nodes did is a run, its messages rest on what their
-- senders did, and so its ledgers agree.
use Rattle.std.specs.Prelude.{
  ◌≡◌,
  ◌≤◌,
  ◌⊎◌,
  ℕ,
  ◌==◌,
  Bool,
  false,
  ◌||◌,
  ◌&&◌,
  not,
  List,
  [],
  ◌∷◌,
  map,
  filter,
  length,
  reverse,
  Option,
  Some,
  None,
  IsSome,
  IsTrue,
  ⊤,
}
use Rattle.std.specs.List.{AllByRecursion, flat_map}
use Rattle.ord_types.specs.Genesis.{genesis_block}
use Rattle.ord_types.specs.Grammar.{IsNumber}
use Rattle.ord_types.specs.Members.{fault_bound, how_many_in, is_in}
use Rattle.ord_types.specs.declared.values.Proof.TheVariants as proof_of
use Rattle.ord_types.specs.declared.values.Sig.{Sig}
use Rattle.safety_model.specs.Blocks.{Block, Config}
use Rattle.safety_model.specs.Facts.{History, Proof, has, is_prepared}
use Rattle.safety_model.specs.Rules.{IsRun, actor}
use Rattle.safety_model.specs.Safety.{Agreement, NoCollision}
use Rattle.safety_model.specs.State.{Setup, ledger}
use Rattle.safety_model.specs.declared.fact.Fact.{Fact}
use Rattle.safety_model.specs.declared.fact.Fact.TheVariants.{Delivered}
use Rattle.script.specs.Commands.{AreIds}
use Rattle.signer_edge.specs.Seals.{is_sealed}
use Rattle.signer_edge.specs.Statements.{commit_text}
use Rattle.signer_edge.specs.declared.seals.Seal.{Seal}
use Rattle.bft_wire.specs.Reading.{message_in}
use Rattle.bft_wire.specs.declared.message.Message.{Message}
use Rattle.node_model.specs.Entries.{facts_of}
use Rattle.node_model.specs.Keeping.{PastNode}
use Rattle.world_model.specs.Histories.{worlds_of}
use Rattle.world_model.specs.Liars.{is_raft_if_any}
use Rattle.world_model.specs.Worlds.{Entry, Node, Outcome, World}
use Rattle.world_safety.specs.Resting.{IsPreparedStatement, has_ground, own}

abbrev pub ids_of : List (Node PastNode) → List ℕ
ids_of nodes = map (λ node. node.id) nodes

-- what is fixed for a run that begins with the genesis block of a configuration
abbrev pub setup_on : Config → List ℕ → Setup
setup_on c byzantine = record { genesis = genesis_block c; config = c; byzantine = byzantine }

-- what is fixed for a world
abbrev pub setup_of : World PastNode History → Setup
setup_of w = setup_on w.config w.byzantine

-- the members that aren't Byzantine
abbrev pub correct_members : World PastNode History → List ℕ
correct_members w = filter (λ id. not (is_in id w.byzantine)) w.config.members

-- what a fact adds to the ledger of its node
abbrev pub stored_with : Fact → List (Block × Proof)
stored_with (Delivered i b proof) = (b, proof) ∷ []
stored_with _ = []

-- what a node has stored by the history: block 0 and what it delivered, each block with what stands behind it
abbrev pub stored : Setup → ℕ → History → List (Block × Proof)
stored su i h = (su.genesis, proof_of.Raft) ∷ flat_map stored_with (reverse (own i h))

-- A node of the world, running or stopped: the list of all facts has its own facts in their order, and its
-- ledger is what it delivered, the blocks of the ledger by the history.
pub record IsNodeOf (su : Setup) (told : History) (node : Node PastNode) : Type 0 where
  pub config : node.state.config ≡ su.config
  pub id : node.state.id ≡ node.id
  pub facts : own node.id told ≡ facts_of node.state.past
  pub stored : node.ledger ≡ stored su node.id told
  pub blocks : map (λ entry. entry.0) node.ledger ≡ ledger su node.id told

-- what a correct member sent can be read: its bytes spell a message
abbrev pub IsReadable : List ℕ → Entry → Type 0
IsReadable byzantine e = is_in e.from byzantine ≡ false → IsSome (message_in e.bytes)

-- whatever message its bytes spell, of a member that isn't Byzantine it rests on a fact of the sender
abbrev pub RestsIn : List ℕ → History → Entry → Type 0
RestsIn byzantine h e =
    (m : Message) → message_in e.bytes ≡ Some m → IsTrue (is_in e.from byzantine || has_ground h e.from m)

-- members send to members
abbrev pub IsAmong : List ℕ → Entry → Type 0
IsAmong members e = IsTrue (is_in e.from members) × IsTrue (is_in e.to members)

-- nobody made up a message of Raft
abbrev pub IsNoRaftMessage : Entry → Type 0
IsNoRaftMessage e = is_raft_if_any (message_in e.bytes) ≡ false

-- Each signature of a correct member on a commit statement, which the box accepts, rests on its preparation
-- of the digest that is signed: nobody else can make one.
abbrev pub AreBacked : List ℕ → History → List Seal → Type 0
AreBacked correct h seals =
    (i e v s : ℕ) (d : List ℕ) (sig : Sig) → IsTrue (is_in i correct) → IsNumber e → IsNumber v → IsNumber s
    → sig.signer ≡ i → IsTrue (is_sealed seals (commit_text e v s d) sig)
    → IsTrue (has (is_prepared i e v s d) h)

-- who may sign anything: the administrator, which is id 0, and a Byzantine member
abbrev pub signs_anything : List ℕ → List ℕ → ℕ → Bool
signs_anything members byzantine id = (id == 0) || is_in id members && is_in id byzantine

-- each other seal is of one of these correct members, on what it prepared
abbrev pub IsAllowedSeal : List ℕ → List ℕ → List ℕ → History → Seal → Type 0
IsAllowedSeal members byzantine correct h seal =
    IsTrue (signs_anything members byzantine seal.signer)
    ⊎ (IsTrue (is_in seal.signer correct) × IsPreparedStatement h seal.signer seal.statement)

-- What the nodes did, and nobody else did anything, is a run by the rules, in the order in which they did
-- it. The nodes are the correct members; no more are Byzantine than the bound of the configuration. Members
-- send to members. The bytes of whatever a node sent spell a message, which rests on a fact of its sender;
-- a Byzantine member sent any bytes but messages of Raft. A node signs only what it prepared, and nobody
-- else signs but the administrator and Byzantine members. So the ledgers agree, where no two texts collide.
pub record IsSafeWorld (w : World PastNode History) : Type 0 where
  pub members : AreIds w.config.members
  pub bounded : how_many_in w.byzantine w.config.members ≤ fault_bound (length w.config.members)
  pub correct : ids_of w.nodes ≡ correct_members w
  pub nodes : AllByRecursion (IsNodeOf (setup_of w) w.told) w.nodes
  pub actors : AllByRecursion (λ f. IsTrue (is_in (actor f) (ids_of w.nodes))) w.told
  pub run : IsRun (setup_of w) w.told
  pub readable : AllByRecursion (IsReadable w.byzantine) w.network
  pub resting : AllByRecursion (RestsIn w.byzantine w.told) w.network
  pub among : AllByRecursion (IsAmong w.config.members) w.network
  pub no_raft : AllByRecursion IsNoRaftMessage w.network
  pub sealed : AllByRecursion (IsAllowedSeal w.config.members w.byzantine (ids_of w.nodes) w.told) w.seals
  pub backed : AreBacked (ids_of w.nodes) w.told w.seals
  pub agreement : NoCollision (setup_of w) w.told → Agreement (setup_of w) w.told

-- nothing is said where there is no world yet
abbrev pub IsSafe : Option (World PastNode History) → Type 0
IsSafe None = ⊤
IsSafe (Some w) = IsSafeWorld w

-- every world of every script is safe, for every list of outcomes
abbrev pub EveryWorldIsSafe : Type 0
EveryWorldIsSafe =
    (outcomes : List Outcome) (script : List ℕ) → AllByRecursion IsSafe (worlds_of outcomes script)
