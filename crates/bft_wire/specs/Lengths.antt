-- Messages whose lengths fit the fields that tell them.
use Rattle.std.specs.Prelude.{◌<◌, ◌^◌, length, IfSome, ⊤}
use Rattle.std.specs.List.{All}
use Rattle.ord_types.specs.Lengths.{FitsBlock, FitsCert, FitsReport, FitsRequest, FitsSig}
use Rattle.bft_wire.specs.Spelling.{Message, Signed}
use Rattle.bft_wire.specs.declared.message.Message.TheVariants as message_of
use Rattle.bft_wire.specs.declared.message.BlockReply.{BlockReply}
use Rattle.bft_wire.specs.declared.message.NewView.{NewView}
use Rattle.bft_wire.specs.declared.message.PrePrepare.{PrePrepare}
use Rattle.bft_wire.specs.declared.message.ViewData.{ViewData}

pub record FitsPrePrepare (m : PrePrepare) : Type 0 where
  pub block : FitsBlock m.block
  pub cert : IfSome m.cert FitsCert

pub record FitsSigned (s : Signed) : Type 0 where
  pub report : FitsReport s.report
  pub sig : FitsSig s.sig

pub record FitsViewData (m : ViewData) : Type 0 where
  pub report : FitsReport m.report
  pub sig : FitsSig m.sig
  pub block : IfSome m.block FitsBlock

pub record FitsNewView (m : NewView) : Type 0 where
  pub count : length m.reports < 2 ^ 8
  pub reports : All FitsSigned m.reports
  pub block : IfSome m.block FitsBlock

pub record FitsBlockReply (m : BlockReply) : Type 0 where
  pub block : FitsBlock m.block
  pub cert : FitsCert m.cert

abbrev pub FitsMessage : Message → Type 0
FitsMessage (message_of.PrePrepare m) = FitsPrePrepare m
FitsMessage (message_of.Prepare m) = ⊤
FitsMessage (message_of.Commit m) = FitsSig m.sig
FitsMessage (message_of.ViewChange m) = ⊤
FitsMessage (message_of.ViewData m) = FitsViewData m
FitsMessage (message_of.NewView m) = FitsNewView m
FitsMessage (message_of.HeartBeat m) = ⊤
FitsMessage (message_of.HeartBeatReply m) = ⊤
FitsMessage (message_of.Forward m) = FitsRequest m.request
FitsMessage (message_of.BlockAsk m) = ⊤
FitsMessage (message_of.BlockReply m) = FitsBlockReply m
FitsMessage (message_of.HeaderAsk m) = ⊤
FitsMessage (message_of.HeaderReply m) = length m.headers < 2 ^ 16
FitsMessage (message_of.RaftVote m) = ⊤
FitsMessage (message_of.RaftVoteReply m) = ⊤
FitsMessage (message_of.RaftAppend m) = IfSome m.block FitsBlock
FitsMessage (message_of.RaftAppendReply m) = ⊤
FitsMessage (message_of.RaftBlock m) = FitsBlock m.block
