-- A message that has a spelling has lengths that fit their fields.
use Rattle.std.proofs.Common.{ℕ, ◌+◌, arith, List, [], ◌∷◌, Option, Some, None, IfSome, Result, Ok, Err}
use Rattle.std.specs.Prelude.{IfOk}
use Rattle.std.specs.List.{AllByRecursion}
use Rattle.std.proofs.lemmas.List.Elements.{All-from_recursion}
use Rattle.ord_types.specs.declared.values.Block.{Block}
use Rattle.ord_types.specs.declared.values.Cert.{Cert}
use Rattle.ord_types.specs.Lengths.{FitsBlock, FitsCert}
use Rattle.ord_types.specs.Grammar.{HasBlockSpelling, HasCertSpelling}
use Rattle.ord_types.specs.declared.fault.ReadFault.{ReadFault}
use Rattle.ord_types.proofs.Fitting.{fits_block, fits_cert, fits_report, fits_request, fits_sig}
use Rattle.bft_wire.specs.Lengths.{FitsMessage, FitsSigned}
use Rattle.bft_wire.specs.Messages.{AreSigned, HasMessageSpelling, Spells}
use Rattle.bft_wire.specs.Spelling.{Message, Signed}
use Rattle.bft_wire.specs.declared.message.Message.TheVariants as message_of

fits_block_or_none : (o : Option Block) → IfSome o HasBlockSpelling → IfSome o FitsBlock
fits_block_or_none None h = tt
fits_block_or_none (Some b) h = fits_block b h

fits_cert_or_none : (o : Option Cert) → IfSome o HasCertSpelling → IfSome o FitsCert
fits_cert_or_none None h = tt
fits_cert_or_none (Some c) h = fits_cert c h

fits_reports : (least : ℕ) (reports : List Signed) → AreSigned least reports → AllByRecursion FitsSigned reports
fits_reports least [] h = tt
fits_reports least (s ∷ reports) h = (record { report = fits_report s.report h.0; sig = fits_sig s.sig h.2 }, fits_reports (s.sig.signer + 1) reports h.3)

pub fits_message : (m : Message) → HasMessageSpelling m → FitsMessage m
fits_message (message_of.PrePrepare m) h = record { block = fits_block m.block h.block; cert = fits_cert_or_none m.cert h.cert }
fits_message (message_of.Prepare m) h = tt
fits_message (message_of.Commit m) h = fits_sig m.sig h.sig
fits_message (message_of.ViewChange m) h = tt
fits_message (message_of.ViewData m) h = record { report = fits_report m.report h.report; sig = fits_sig m.sig h.sig; block = fits_block_or_none m.block h.block }
fits_message (message_of.NewView m) h =
    record { count = omega (arith, h.count); reports = All-from_recursion FitsSigned m.reports (fits_reports 0 m.reports h.reports); block = fits_block_or_none m.block h.block }
fits_message (message_of.HeartBeat m) h = tt
fits_message (message_of.HeartBeatReply m) h = tt
fits_message (message_of.Forward m) h = fits_request m.request h
fits_message (message_of.BlockAsk m) h = tt
fits_message (message_of.BlockReply m) h = record { block = fits_block m.block h.block; cert = fits_cert m.cert h.cert }
fits_message (message_of.HeaderAsk m) h = tt
fits_message (message_of.HeaderReply m) h = omega (arith, h.count)
fits_message (message_of.RaftVote m) h = tt
fits_message (message_of.RaftVoteReply m) h = tt
fits_message (message_of.RaftAppend m) h = fits_block_or_none m.block h.block
fits_message (message_of.RaftAppendReply m) h = tt
fits_message (message_of.RaftBlock m) h = fits_block m.block h

pub fits_found : (bytes : List ℕ) (result : Result Message ReadFault) → IfOk result (Spells bytes) → IfOk result FitsMessage
fits_found bytes (Ok m) h = fits_message m h.grammar
fits_found bytes (Err fault) h = tt
