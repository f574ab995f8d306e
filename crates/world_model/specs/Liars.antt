-- The lines of Byzantine members: what they send, and what they sign.
use Rattle.std.specs.Prelude.{
  ℕ,
  Bool,
  true,
  false,
  ◌&&◌,
  ◌==◌,
  nat_lt,
  not,
  List,
  [],
  ◌∷◌,
  ◌++◌,
  codes,
  length,
  Option,
  Some,
  None,
  option_and_then,
  if◌then◌else◌,
}
use Rattle.std.specs.Int.{w64, to_be_bytes}
use Rattle.ord_types.specs.Hashes.{block_hash}
use Rattle.ord_types.specs.Members.{is_in}
use Rattle.ord_types.specs.declared.values.Sig.{Sig}
use Rattle.safety_model.specs.Blocks.{Request}
use Rattle.signer_edge.specs.Statements.{commit_text}
use Rattle.bft_wire.specs.Reading.{message_in}
use Rattle.bft_wire.specs.Spelling.{message_text}
use Rattle.bft_wire.specs.declared.message.Message.{Message}
use Rattle.bft_wire.specs.declared.message.Message.TheVariants as message_of
use Rattle.script.specs.declared.command.VoteKind.{VoteKind}
use Rattle.script.specs.declared.command.VoteKind.TheVariants.{Prepare, Commit}
use Rattle.script_play.specs.Turns.{Turn}
use Rattle.view_model.specs.Acts.{carried_cert, proposal}
use Rattle.view_model.specs.Leading.{Place}
use Rattle.view_model.specs.Letters.{PrePrepare}
use Rattle.world_model.specs.Says.{goes_on, refuses, says, within_limit}
use Rattle.world_model.specs.Texts.{lied_text, seal_text}
use Rattle.world_model.specs.Worlds.{Entry, Node, Setting, World, seals_of}

-- WHO MAY

-- a line in which one id sends to another: both are in the world, and the sender is Byzantine
abbrev pub as_liar : {S T : Type 0} → ℕ → World S T → ℕ → ℕ → Turn (World S T) → Turn (World S T)
as_liar number w from to turn =
    if not (is_in from w.config.members && is_in to w.config.members)
    then refuses number (codes "unknown node") w
    else if not (is_in from w.byzantine) then refuses number (codes "not byzantine") w
    else turn

-- a line in which an id signs: the administrator's, which is 0, or a Byzantine one of the world
abbrev pub as_signer : {S T : Type 0} → ℕ → World S T → ℕ → Turn (World S T) → Turn (World S T)
as_signer number w id turn = if id == 0 then turn else as_liar number w id id turn

-- SENDING

abbrev pub with_sent : {S T : Type 0} → World S T → ℕ → ℕ → List ℕ → World S T
with_sent w from to bytes =
    record w { network = w.network ++ record { from = from; to = to; bytes = bytes; came = false } ∷ [] }

-- the line tells the number of the entry that was sent
abbrev pub sends : {S T : Type 0} → ℕ → List ℕ → World S T → ℕ → ℕ → List ℕ → Turn (World S T)
sends number word w from to bytes =
    goes_on (within_limit number [] (with_sent w from to bytes))
    (λ sent. says (lied_text number word (length sent.network)) sent)

-- PROPOSE, on top of the longest ledger

-- the node of the longer ledger, the first of equally long ones
abbrev pub longer : {S : Type 0} → Node S → Option (Node S) → Node S
longer node None = node
longer node (Some other) = if nat_lt (length node.ledger) (length other.ledger) then other else node

abbrev pub longest : {S : Type 0} → List (Node S) → Option (Node S)
longest [] = None
longest (node ∷ nodes) = Some (longer node (longest nodes))

-- a proposal of one request at a place, with the meta and the certificate that belong there
abbrev pub proposal_of : Place → ℕ → Request → Message
proposal_of place v r =
    message_of.PrePrepare
    (record {
      config = place.config.number;
      view = v;
      number = place.height;
      block = proposal place v (r ∷ []);
      cert = carried_cert place;
    })

-- there is a node in every world, since not all members are Byzantine
abbrev pub propose_on : {S T : Type 0} → Setting S T → ℕ → World S T → ℕ → ℕ → ℕ → Request → Option (Node S)
    → Turn (World S T)
propose_on setting number w from to v r None = refuses number (codes "no core") w
propose_on setting number w from to v r (Some node) =
    sends number (codes "byz-propose") w from to
    (message_text (proposal_of (setting.keeping.look node.state).place v r))

abbrev pub propose_turn : {S T : Type 0} → Setting S T → ℕ → World S T → ℕ → ℕ → ℕ → Request
    → Turn (World S T)
propose_turn setting number w from to v r = propose_on setting number w from to v r (longest w.nodes)

-- VOTE, for the block that is proposed in an entry, with the configuration and the number of that proposal

abbrev pub proposal_in : Message → Option PrePrepare
proposal_in (message_of.PrePrepare m) = Some m
proposal_in _ = None

abbrev pub proposed_in : List ℕ → Option PrePrepare
proposed_in bytes = option_and_then proposal_in (message_in bytes)

abbrev pub prepare_for : PrePrepare → ℕ → Message
prepare_for m v =
    message_of.Prepare
    (record { config = m.config; view = v; number = m.number; digest = block_hash m.block })

abbrev pub statement_for : PrePrepare → ℕ → List ℕ
statement_for m v = commit_text m.config v m.number (block_hash m.block)

abbrev pub commit_for : PrePrepare → ℕ → Sig → Message
commit_for m v sig =
    message_of.Commit
    (record {
      config = m.config;
      view = v;
      number = m.number;
      digest = block_hash m.block;
      sig = sig;
    })

-- with one more seal
abbrev pub with_signed : {S T : Type 0} → World S T → ℕ → List ℕ → World S T
with_signed w id statement = record w { seals = w.seals ++ seals_of id (statement ∷ []) }

-- a signature is the place of its seal
abbrev pub sig_at : ℕ → ℕ → Sig
sig_at id place = record { signer = id; bytes = to_be_bytes w64 place }

-- only a Commit is signed
abbrev pub vote_for : {S T : Type 0} → ℕ → World S T → ℕ → ℕ → VoteKind → ℕ → PrePrepare → Turn (World S T)
vote_for number w from to Prepare v m =
    sends number (codes "byz-vote") w from to (message_text (prepare_for m v))
vote_for number w from to Commit v m =
    sends number (codes "byz-vote") (with_signed w from (statement_for m v)) from to
    (message_text (commit_for m v (sig_at from (length w.seals))))

abbrev pub vote_if : {S T : Type 0} → ℕ → World S T → ℕ → ℕ → VoteKind → ℕ → Option PrePrepare
    → Turn (World S T)
vote_if number w from to kind v None = refuses number (codes "no block") w
vote_if number w from to kind v (Some m) = vote_for number w from to kind v m

abbrev pub vote_turn : {S T : Type 0} → ℕ → World S T → ℕ → ℕ → VoteKind → ℕ → Option Entry → Turn (World S T)
vote_turn number w from to kind v None = refuses number (codes "no entry") w
vote_turn number w from to kind v (Some e) = vote_if number w from to kind v (proposed_in e.bytes)

-- LIE

-- messages of Raft come from cores alone
abbrev pub is_raft_message : Message → Bool
is_raft_message (message_of.RaftVote m) = true
is_raft_message (message_of.RaftVoteReply m) = true
is_raft_message (message_of.RaftAppend m) = true
is_raft_message (message_of.RaftAppendReply m) = true
is_raft_message (message_of.RaftBlock m) = true
is_raft_message _ = false

abbrev pub is_raft_if_any : Option Message → Bool
is_raft_if_any None = false
is_raft_if_any (Some m) = is_raft_message m

-- any bytes but those of a message of Raft
abbrev pub lie_turn : {S T : Type 0} → ℕ → World S T → ℕ → ℕ → List ℕ → Turn (World S T)
lie_turn number w from to bytes =
    if is_raft_if_any (message_in bytes) then refuses number (codes "raft message") w
    else sends number (codes "lie") w from to bytes

-- SEAL

-- the line tells the place of the seal in the box, counted from 0
abbrev pub seal_turn : {S T : Type 0} → ℕ → World S T → ℕ → List ℕ → Turn (World S T)
seal_turn number w id bytes = says (seal_text number (length w.seals)) (with_signed w id bytes)
