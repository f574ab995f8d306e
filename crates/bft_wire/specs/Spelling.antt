-- The one spelling of each message: its kind as a u8, and its body.
use Rattle.std.specs.Prelude.{ℕ, List, ◌++◌, length, Bool, if◌then◌else◌}
use Rattle.std.specs.Int.{w8, w16, w64, to_be_bytes}
use Rattle.std.specs.List.{flat_map}
use Rattle.ord_types.specs.Spelling.{block_text, cert_text, header_text, option_text, report_text, request_text, sig_text}
pub use Rattle.bft_wire.specs.declared.message.Message.{Message}
use Rattle.bft_wire.specs.declared.message.Message.TheVariants as message_of
pub use Rattle.bft_wire.specs.declared.message.Signed.{Signed}

-- 0 or 1
abbrev pub flag_text : Bool → List ℕ
flag_text set = to_be_bytes w8 (if set then 1 else 0)

-- a report and its sig
abbrev pub signed_text : Signed → List ℕ
signed_text s = report_text s.report ++ sig_text s.sig

-- the kinds of messages, by their numbers on the wire
abbrev pub message_text : Message → List ℕ
message_text (message_of.PrePrepare m) =
    to_be_bytes w8 1 ++ to_be_bytes w64 m.config ++ to_be_bytes w64 m.view ++ to_be_bytes w64 m.number ++ block_text m.block ++ option_text cert_text m.cert
message_text (message_of.Prepare m) =
    to_be_bytes w8 2 ++ to_be_bytes w64 m.config ++ to_be_bytes w64 m.view ++ to_be_bytes w64 m.number ++ m.digest
message_text (message_of.Commit m) =
    to_be_bytes w8 3 ++ to_be_bytes w64 m.config ++ to_be_bytes w64 m.view ++ to_be_bytes w64 m.number ++ m.digest ++ sig_text m.sig
message_text (message_of.ViewChange m) =
    to_be_bytes w8 4 ++ to_be_bytes w64 m.config ++ to_be_bytes w64 m.target
message_text (message_of.ViewData m) =
    to_be_bytes w8 5 ++ to_be_bytes w64 m.config ++ to_be_bytes w64 m.view ++ report_text m.report ++ sig_text m.sig ++ option_text block_text m.block
message_text (message_of.NewView m) =
    to_be_bytes w8 6 ++ to_be_bytes w64 m.config ++ to_be_bytes w64 m.view
    ++ to_be_bytes w8 (length m.reports) ++ flat_map signed_text m.reports ++ option_text block_text m.block
message_text (message_of.HeartBeat m) =
    to_be_bytes w8 7 ++ to_be_bytes w64 m.config ++ to_be_bytes w64 m.view ++ to_be_bytes w64 m.height
message_text (message_of.HeartBeatReply m) =
    to_be_bytes w8 8 ++ to_be_bytes w64 m.config ++ to_be_bytes w64 m.view
message_text (message_of.Forward m) =
    to_be_bytes w8 9 ++ request_text m.request
message_text (message_of.BlockAsk m) =
    to_be_bytes w8 10 ++ to_be_bytes w64 m.first ++ to_be_bytes w8 m.count
message_text (message_of.BlockReply m) =
    to_be_bytes w8 11 ++ block_text m.block ++ cert_text m.cert
message_text (message_of.HeaderAsk m) =
    to_be_bytes w8 12 ++ to_be_bytes w64 m.number
message_text (message_of.HeaderReply m) =
    to_be_bytes w8 13 ++ to_be_bytes w16 (length m.headers) ++ flat_map header_text m.headers
message_text (message_of.RaftVote m) =
    to_be_bytes w8 14 ++ to_be_bytes w64 m.term ++ to_be_bytes w64 m.height ++ to_be_bytes w64 m.tail_term
message_text (message_of.RaftVoteReply m) =
    to_be_bytes w8 15 ++ to_be_bytes w64 m.term ++ flag_text m.granted
message_text (message_of.RaftAppend m) =
    to_be_bytes w8 16 ++ to_be_bytes w64 m.term ++ to_be_bytes w64 m.height ++ m.last ++ option_text block_text m.block
message_text (message_of.RaftAppendReply m) =
    to_be_bytes w8 17 ++ to_be_bytes w64 m.term ++ to_be_bytes w64 m.number ++ m.digest ++ flag_text m.taken
message_text (message_of.RaftBlock m) =
    to_be_bytes w8 18 ++ block_text m.block
