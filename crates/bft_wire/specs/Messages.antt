-- The grammar of messages: which messages have a spelling, and which bytes spell a message.
use Rattle.std.specs.Prelude.{◌≡◌, ℕ, ◌+◌, ◌≤◌, List, [], ◌∷◌, length, IfSome, ⊤}
use Rattle.std.specs.List.{AllByRecursion}
use Rattle.ord_types.specs.Grammar.{HasBlockSpelling, HasCertSpelling, HasHeaderSpelling, HasReportSpelling, HasRequestSpelling, HasSigSpelling, IsDigest, IsNumber}
use Rattle.bft_wire.specs.Spelling.{Message, Signed, message_text}
use Rattle.bft_wire.specs.declared.message.Message.TheVariants as message_of
use Rattle.bft_wire.specs.declared.message.BlockAsk.{BlockAsk}
use Rattle.bft_wire.specs.declared.message.BlockReply.{BlockReply}
use Rattle.bft_wire.specs.declared.message.Commit.{Commit}
use Rattle.bft_wire.specs.declared.message.HeaderReply.{HeaderReply}
use Rattle.bft_wire.specs.declared.message.HeartBeat.{HeartBeat}
use Rattle.bft_wire.specs.declared.message.HeartBeatReply.{HeartBeatReply}
use Rattle.bft_wire.specs.declared.message.NewView.{NewView}
use Rattle.bft_wire.specs.declared.message.PrePrepare.{PrePrepare}
use Rattle.bft_wire.specs.declared.message.Prepare.{Prepare}
use Rattle.bft_wire.specs.declared.message.RaftAppend.{RaftAppend}
use Rattle.bft_wire.specs.declared.message.RaftAppendReply.{RaftAppendReply}
use Rattle.bft_wire.specs.declared.message.RaftVote.{RaftVote}
use Rattle.bft_wire.specs.declared.message.ViewChange.{ViewChange}
use Rattle.bft_wire.specs.declared.message.ViewData.{ViewData}

pub record IsPrePrepare (m : PrePrepare) : Type 0 where
  pub config : IsNumber m.config
  pub view : IsNumber m.view
  pub number : IsNumber m.number
  pub block : HasBlockSpelling m.block
  pub cert : IfSome m.cert HasCertSpelling

pub record IsPrepare (m : Prepare) : Type 0 where
  pub config : IsNumber m.config
  pub view : IsNumber m.view
  pub number : IsNumber m.number
  pub digest : IsDigest m.digest

pub record IsCommit (m : Commit) : Type 0 where
  pub config : IsNumber m.config
  pub view : IsNumber m.view
  pub number : IsNumber m.number
  pub digest : IsDigest m.digest
  pub sig : HasSigSpelling m.sig

pub record IsViewChange (m : ViewChange) : Type 0 where
  pub config : IsNumber m.config
  pub target : IsNumber m.target

pub record IsViewData (m : ViewData) : Type 0 where
  pub config : IsNumber m.config
  pub view : IsNumber m.view
  pub report : HasReportSpelling m.report
  pub sig : HasSigSpelling m.sig
  pub block : IfSome m.block HasBlockSpelling

-- signed reports by signers, from the least one on, each above the one before
abbrev pub AreSigned : ℕ → List Signed → Type 0
AreSigned least [] = ⊤
AreSigned least (s ∷ more) = HasReportSpelling s.report × (least ≤ s.sig.signer) × HasSigSpelling s.sig × AreSigned (s.sig.signer + 1) more

pub record IsNewView (m : NewView) : Type 0 where
  pub config : IsNumber m.config
  pub view : IsNumber m.view
  pub count : length m.reports ≤ 31
  pub reports : AreSigned 0 m.reports
  pub block : IfSome m.block HasBlockSpelling

pub record IsHeartBeat (m : HeartBeat) : Type 0 where
  pub config : IsNumber m.config
  pub view : IsNumber m.view
  pub height : IsNumber m.height

pub record IsHeartBeatReply (m : HeartBeatReply) : Type 0 where
  pub config : IsNumber m.config
  pub view : IsNumber m.view

pub record IsBlockAsk (m : BlockAsk) : Type 0 where
  pub first : IsNumber m.first
  pub some : 1 ≤ m.count
  pub few : m.count ≤ 8

pub record IsBlockReply (m : BlockReply) : Type 0 where
  pub block : HasBlockSpelling m.block
  pub cert : HasCertSpelling m.cert

pub record IsHeaderReply (m : HeaderReply) : Type 0 where
  pub count : length m.headers ≤ 1000
  pub headers : AllByRecursion HasHeaderSpelling m.headers

pub record IsRaftVote (m : RaftVote) : Type 0 where
  pub term : IsNumber m.term
  pub height : IsNumber m.height
  pub tail_term : IsNumber m.tail_term

pub record IsRaftAppend (m : RaftAppend) : Type 0 where
  pub term : IsNumber m.term
  pub height : IsNumber m.height
  pub last : IsDigest m.last
  pub block : IfSome m.block HasBlockSpelling

pub record IsRaftAppendReply (m : RaftAppendReply) : Type 0 where
  pub term : IsNumber m.term
  pub number : IsNumber m.number
  pub digest : IsDigest m.digest

-- a message that has a spelling
abbrev pub HasMessageSpelling : Message → Type 0
HasMessageSpelling (message_of.PrePrepare m) = IsPrePrepare m
HasMessageSpelling (message_of.Prepare m) = IsPrepare m
HasMessageSpelling (message_of.Commit m) = IsCommit m
HasMessageSpelling (message_of.ViewChange m) = IsViewChange m
HasMessageSpelling (message_of.ViewData m) = IsViewData m
HasMessageSpelling (message_of.NewView m) = IsNewView m
HasMessageSpelling (message_of.HeartBeat m) = IsHeartBeat m
HasMessageSpelling (message_of.HeartBeatReply m) = IsHeartBeatReply m
HasMessageSpelling (message_of.Forward m) = HasRequestSpelling m.request
HasMessageSpelling (message_of.BlockAsk m) = IsBlockAsk m
HasMessageSpelling (message_of.BlockReply m) = IsBlockReply m
HasMessageSpelling (message_of.HeaderAsk m) = IsNumber m.number
HasMessageSpelling (message_of.HeaderReply m) = IsHeaderReply m
HasMessageSpelling (message_of.RaftVote m) = IsRaftVote m
HasMessageSpelling (message_of.RaftVoteReply m) = IsNumber m.term
HasMessageSpelling (message_of.RaftAppend m) = IsRaftAppend m
HasMessageSpelling (message_of.RaftAppendReply m) = IsRaftAppendReply m
HasMessageSpelling (message_of.RaftBlock m) = HasBlockSpelling m.block

-- THE GRAMMAR: these bytes spell this message
pub record Spells (bytes : List ℕ) (m : Message) : Type 0 where
  pub grammar : HasMessageSpelling m
  pub text : bytes ≡ message_text m
