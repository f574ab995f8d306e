-- How a message is read, field by field from the left.
use Rattle.std.specs.Prelude.{ℕ, zero, suc, ◌+◌, ◌==◌, ◌&&◌, nat_le, Bool, List, [], ◌∷◌, length, Option, Some, None, Result, Ok, Err, if◌then◌else◌}
use Rattle.std.specs.Int.{w8, w16}
use Rattle.ord_types.specs.Reading.{◌>>=◌, Reading, below_at, block_at, cert_at, count_at, digest_at, header_at, list_at, option_at, report_at, request_at, sig_at, sig_from_at, tested_at}
use Rattle.ord_types.specs.Faults.{whole}
use Rattle.ord_types.specs.declared.fault.ReadFault.{ReadFault}
use Rattle.bft_wire.specs.Spelling.{Message, Signed}
use Rattle.bft_wire.specs.declared.message.Message.TheVariants as message_of

-- a flag, 0 or 1
unfoldable pub flag_at : Reading Bool
flag_at bytes = do
  flag ← tested_at w8 (λ n. nat_le n 1) bytes
  Ok (flag.0 == 1, flag.1)

-- THE BODIES

unfoldable pub preprepare_at : Reading Message
preprepare_at bytes = do
  config ← below_at bytes
  view ← below_at config.1
  number ← below_at view.1
  block ← block_at number.1
  cert ← option_at cert_at block.1
  Ok (message_of.PrePrepare (record { config = config.0; view = view.0; number = number.0; block = block.0; cert = cert.0 }), cert.1)

unfoldable pub prepare_at : Reading Message
prepare_at bytes = do
  config ← below_at bytes
  view ← below_at config.1
  number ← below_at view.1
  digest ← digest_at number.1
  Ok (message_of.Prepare (record { config = config.0; view = view.0; number = number.0; digest = digest.0 }), digest.1)

unfoldable pub commit_at : Reading Message
commit_at bytes = do
  config ← below_at bytes
  view ← below_at config.1
  number ← below_at view.1
  digest ← digest_at number.1
  sig ← sig_at digest.1
  Ok (message_of.Commit (record { config = config.0; view = view.0; number = number.0; digest = digest.0; sig = sig.0 }), sig.1)

unfoldable pub view_change_at : Reading Message
view_change_at bytes = do
  config ← below_at bytes
  target ← below_at config.1
  Ok (message_of.ViewChange (record { config = config.0; target = target.0 }), target.1)

unfoldable pub view_data_at : Reading Message
view_data_at bytes = do
  config ← below_at bytes
  view ← below_at config.1
  report ← report_at view.1
  sig ← sig_at report.1
  block ← option_at block_at sig.1
  Ok (message_of.ViewData (record { config = config.0; view = view.0; report = report.0; sig = sig.0; block = block.0 }), block.1)

-- a report with a sig whose signer is at least this
unfoldable pub signed_from_at : ℕ → Reading Signed
signed_from_at least bytes = do
  report ← report_at bytes
  sig ← sig_from_at least report.1
  Ok (record { report = report.0; sig = sig.0 }, sig.1)

-- so many signed reports, the first signer at least this, each above the one before
unfoldable pub signed_reports_at : ℕ → ℕ → Reading (List Signed)
signed_reports_at least zero bytes = Ok ([], bytes)
signed_reports_at least (suc n) bytes = do
  first ← signed_from_at least bytes
  more ← signed_reports_at (first.0.sig.signer + 1) n first.1
  Ok (first.0 ∷ more.0, more.1)

unfoldable pub new_view_at : Reading Message
new_view_at bytes = do
  config ← below_at bytes
  view ← below_at config.1
  count ← count_at w8 31 view.1
  reports ← signed_reports_at 0 count.0 count.1
  block ← option_at block_at reports.1
  Ok (message_of.NewView (record { config = config.0; view = view.0; reports = reports.0; block = block.0 }), block.1)

unfoldable pub heart_beat_at : Reading Message
heart_beat_at bytes = do
  config ← below_at bytes
  view ← below_at config.1
  height ← below_at view.1
  Ok (message_of.HeartBeat (record { config = config.0; view = view.0; height = height.0 }), height.1)

unfoldable pub heart_beat_reply_at : Reading Message
heart_beat_reply_at bytes = do
  config ← below_at bytes
  view ← below_at config.1
  Ok (message_of.HeartBeatReply (record { config = config.0; view = view.0 }), view.1)

unfoldable pub forward_at : Reading Message
forward_at bytes = do
  request ← request_at bytes
  Ok (message_of.Forward (record { request = request.0 }), request.1)

unfoldable pub block_ask_at : Reading Message
block_ask_at bytes = do
  first ← below_at bytes
  count ← tested_at w8 (λ n. nat_le 1 n && nat_le n 8) first.1
  Ok (message_of.BlockAsk (record { first = first.0; count = count.0 }), count.1)

unfoldable pub block_reply_at : Reading Message
block_reply_at bytes = do
  block ← block_at bytes
  cert ← cert_at block.1
  Ok (message_of.BlockReply (record { block = block.0; cert = cert.0 }), cert.1)

unfoldable pub header_ask_at : Reading Message
header_ask_at bytes = do
  number ← below_at bytes
  Ok (message_of.HeaderAsk (record { number = number.0 }), number.1)

unfoldable pub header_reply_at : Reading Message
header_reply_at bytes = do
  count ← count_at w16 1000 bytes
  headers ← list_at header_at count.0 count.1
  Ok (message_of.HeaderReply (record { headers = headers.0 }), headers.1)

unfoldable pub raft_vote_at : Reading Message
raft_vote_at bytes = do
  term ← below_at bytes
  height ← below_at term.1
  tail_term ← below_at height.1
  Ok (message_of.RaftVote (record { term = term.0; height = height.0; tail_term = tail_term.0 }), tail_term.1)

unfoldable pub raft_vote_reply_at : Reading Message
raft_vote_reply_at bytes = do
  term ← below_at bytes
  granted ← flag_at term.1
  Ok (message_of.RaftVoteReply (record { term = term.0; granted = granted.0 }), granted.1)

unfoldable pub raft_append_at : Reading Message
raft_append_at bytes = do
  term ← below_at bytes
  height ← below_at term.1
  last ← digest_at height.1
  block ← option_at block_at last.1
  Ok (message_of.RaftAppend (record { term = term.0; height = height.0; last = last.0; block = block.0 }), block.1)

unfoldable pub raft_append_reply_at : Reading Message
raft_append_reply_at bytes = do
  term ← below_at bytes
  number ← below_at term.1
  digest ← digest_at number.1
  taken ← flag_at digest.1
  Ok (message_of.RaftAppendReply (record { term = term.0; number = number.0; digest = digest.0; taken = taken.0 }), taken.1)

unfoldable pub raft_block_at : Reading Message
raft_block_at bytes = do
  block ← block_at bytes
  Ok (message_of.RaftBlock (record { block = block.0 }), block.1)

-- THE KINDS

-- the body of a kind from 1 to 18
unfoldable pub body_at : ℕ → Reading Message
body_at kind bytes =
    if kind == 1 then preprepare_at bytes else
    (if kind == 2 then prepare_at bytes else
    (if kind == 3 then commit_at bytes else
    (if kind == 4 then view_change_at bytes else
    (if kind == 5 then view_data_at bytes else
    (if kind == 6 then new_view_at bytes else
    (if kind == 7 then heart_beat_at bytes else
    (if kind == 8 then heart_beat_reply_at bytes else
    (if kind == 9 then forward_at bytes else
    (if kind == 10 then block_ask_at bytes else
    (if kind == 11 then block_reply_at bytes else
    (if kind == 12 then header_ask_at bytes else
    (if kind == 13 then header_reply_at bytes else
    (if kind == 14 then raft_vote_at bytes else
    (if kind == 15 then raft_vote_reply_at bytes else
    (if kind == 16 then raft_append_at bytes else
    (if kind == 17 then raft_append_reply_at bytes else
    raft_block_at bytes))))))))))))))))

unfoldable pub message_at : Reading Message
message_at bytes = do
  kind ← tested_at w8 (λ n. nat_le 1 n && nat_le n 18) bytes
  body_at kind.0 kind.1

-- what all of the bytes spell, or why they spell nothing
unfoldable pub decoded : List ℕ → Result Message ReadFault
decoded bytes = whole (length bytes) (message_at bytes)

-- the message that the bytes spell, if they spell one
abbrev pub message_or_none : Result Message ReadFault → Option Message
message_or_none (Ok m) = Some m
message_or_none (Err fault) = None

abbrev pub message_in : List ℕ → Option Message
message_in bytes = message_or_none (decoded bytes)
