-- The laws of messages: what is read is what the bytes spell, what is spelled is read, and more bytes behind a message change nothing but the end.
use Rattle.std.proofs.Common.{◌≡◌, ℕ, zero, suc, ◌+◌, ◌^◌, ◌<◌, ◌≤◌, Bool, true, false, cond, List, [], ◌∷◌, ◌++◌, length, Result, Ok, Err, refl, sym, ap, subst, ◌∙◌, append_assoc, arith}
use Rattle.std.specs.Prelude.{nat_le, ◌==◌, ◌&&◌, IfOk}
use Rattle.std.specs.Int.{w8, w16, w64, to_be_bytes}
use Rattle.std.specs.List.{AllByRecursion, flat_map}
use Rattle.std.proofs.lemmas.Bool.{leb-true, le-leb}
use Rattle.std.proofs.lemmas.List.{append-nil}
use Rattle.ord_types.specs.Grammar.{HasBlockSpelling, HasCertSpelling, HasHeaderSpelling, HasReportSpelling, HasRequestSpelling, IsNumber}
use Rattle.ord_types.specs.Reading.{Reading, header_at, tested_at}
use Rattle.ord_types.specs.Spelling.{block_text, cert_text, header_text, option_text, report_text, request_text, sig_text}
use Rattle.ord_types.proofs.Laws.{AllFrom, Begins, Ends, IsBytes, Law, SoMany, Spelled, cut, last, many_law, one_spelling, option_law, read_again, read_whole, said_as, spelled, step, tested_law, wide8}
use Rattle.ord_types.proofs.Loops.{list_loop}
use Rattle.ord_types.proofs.ValueLaws.{HasSigFrom, below_law, block_law, cert_law, count16_law, count8_law, digest_law, header_law, report_law, request_law, sig_from_law, sig_law}
use Rattle.ord_types.specs.Faults.{Answers, all_or, whole}
use Rattle.ord_types.specs.declared.fault.Flaw.{Flaw}
use Rattle.ord_types.specs.declared.fault.Flaw.TheVariants.{Bad}
use Rattle.ord_types.specs.declared.fault.ReadFault.{ReadFault}
use Rattle.ord_types.specs.declared.values.Header.{Header}
use Rattle.bft_wire.specs.Messages.{AreSigned, HasMessageSpelling, IsBlockAsk, IsBlockReply, IsCommit, IsHeaderReply, IsHeartBeat, IsHeartBeatReply, IsNewView, IsPrePrepare, IsPrepare, IsRaftAppend, IsRaftAppendReply, IsRaftVote, IsViewChange, IsViewData, Spells}
use Rattle.bft_wire.specs.Reading.{block_ask_at, block_reply_at, body_at, commit_at, decoded, flag_at, forward_at, header_ask_at, header_reply_at, heart_beat_at, heart_beat_reply_at, message_at, new_view_at, prepare_at, preprepare_at, raft_append_at, raft_append_reply_at, raft_block_at, raft_vote_at, raft_vote_reply_at, signed_from_at, signed_reports_at, view_change_at, view_data_at}
use Rattle.bft_wire.specs.Spelling.{Message, Signed, flag_text, message_text, signed_text}
use Rattle.bft_wire.specs.declared.message.Message.TheVariants as message_of
use Rattle.bft_wire.specs.declared.message.BlockAsk.{BlockAsk}
use Rattle.bft_wire.specs.declared.message.BlockReply.{BlockReply}
use Rattle.bft_wire.specs.declared.message.Commit.{Commit}
use Rattle.bft_wire.specs.declared.message.Forward.{Forward}
use Rattle.bft_wire.specs.declared.message.HeaderAsk.{HeaderAsk}
use Rattle.bft_wire.specs.declared.message.HeaderReply.{HeaderReply}
use Rattle.bft_wire.specs.declared.message.HeartBeat.{HeartBeat}
use Rattle.bft_wire.specs.declared.message.HeartBeatReply.{HeartBeatReply}
use Rattle.bft_wire.specs.declared.message.NewView.{NewView}
use Rattle.bft_wire.specs.declared.message.PrePrepare.{PrePrepare}
use Rattle.bft_wire.specs.declared.message.Prepare.{Prepare}
use Rattle.bft_wire.specs.declared.message.RaftAppend.{RaftAppend}
use Rattle.bft_wire.specs.declared.message.RaftAppendReply.{RaftAppendReply}
use Rattle.bft_wire.specs.declared.message.RaftBlock.{RaftBlock}
use Rattle.bft_wire.specs.declared.message.RaftVote.{RaftVote}
use Rattle.bft_wire.specs.declared.message.RaftVoteReply.{RaftVoteReply}
use Rattle.bft_wire.specs.declared.message.ViewChange.{ViewChange}
use Rattle.bft_wire.specs.declared.message.ViewData.{ViewData}
use Rattle.bft_wire.specs.Laws.{CutIsShort, RoundTrip, Unambiguous}
use Rattle.bft_wire.proofs.Loops.{reports_loop}

-- PIECES, from the left and from the right

right3 : (a b c : List ℕ) → a ++ b ++ c ≡ a ++ (b ++ c)
right3 a b c = simp append_assoc

right4 : (a b c d : List ℕ) → a ++ b ++ c ++ d ≡ a ++ (b ++ (c ++ d))
right4 a b c d = simp append_assoc

right5 : (a b c d e : List ℕ) → a ++ b ++ c ++ d ++ e ≡ a ++ (b ++ (c ++ (d ++ e)))
right5 a b c d e = simp append_assoc

right6 : (a b c d e f : List ℕ) → a ++ b ++ c ++ d ++ e ++ f ≡ a ++ (b ++ (c ++ (d ++ (e ++ f))))
right6 a b c d e f = simp append_assoc

-- FIELDS

both_true : (a b : Bool) → (a && b) ≡ true → (a ≡ true) × (b ≡ true)
both_true true true e = (refl, refl)
both_true true false e = absurd cc
both_true false b e = absurd cc

true_both : (a b : Bool) → a ≡ true → b ≡ true → (a && b) ≡ true
true_both a b e f = rw (e, f) refl

-- a u8 from one bound to another
within_law : (least most : ℕ) → most < 2 ^ 8 → Law (tested_at w8 (λ n. nat_le least n && nat_le n most)) (Spelled (λ n. (least ≤ n) × (n ≤ most)) (to_be_bytes w8))
within_law least most small =
    tested_law wide8 (λ n. nat_le least n && nat_le n most) (λ n. (least ≤ n) × (n ≤ most))
    (λ n lt e. let b = both_true (nat_le least n) (nat_le n most) e in (leb-true least n b.0, leb-true n most b.1))
    (λ n h. (omega (arith, h.1), true_both (nat_le least n) (nat_le n most) (le-leb least n h.0) (le-leb n most h.1)))

is_flag : (n : ℕ) → n ≤ 1 → to_be_bytes w8 n ≡ flag_text (n == 1)
is_flag zero h = refl
is_flag (suc zero) h = refl
is_flag (suc (suc n)) h = absurd (omega arith)

flag_of : (b : Bool) (t : List ℕ) → t ≡ flag_text b → Ends (λ n. n ≤ 1) (to_be_bytes w8) (λ n. n == 1) b t
flag_of true t e = record { last = 1; may = omega arith; is = e; whole = refl }
flag_of false t e = record { last = 0; may = omega arith; is = e; whole = refl }

flag_law : Law flag_at (Spelled (λ b. Unit {0}) flag_text)
unfolding flag_at
flag_law =
    said_as (λ b t h. record { may = tt; is = h.is ∙ is_flag h.last h.may ∙ ap flag_text (sym h.whole) }) (λ b t h. flag_of b t h.is)
    (last (λ n. n == 1) (count8_law 1 (omega arith)))

-- THE BODIES

abbrev preprepare_body : PrePrepare → List ℕ
preprepare_body m = to_be_bytes w64 m.config ++ (to_be_bytes w64 m.view ++ (to_be_bytes w64 m.number ++ (block_text m.block ++ option_text cert_text m.cert)))

preprepare_law : Law preprepare_at (Ends IsPrePrepare preprepare_body message_of.PrePrepare)
unfolding preprepare_at
preprepare_law =
    said_as
    (λ m t h.
    record {
      last = record { config = h.first; view = h.more.first; number = h.more.more.first; block = h.more.more.more.first; cert = h.more.more.more.more.last };
      may = record { config = h.may; view = h.more.may; number = h.more.more.may; block = h.more.more.more.may; cert = h.more.more.more.more.may };
      is = h.is ∙ ap (λ u. to_be_bytes w64 h.first ++ u) (h.more.is ∙ ap (λ u. to_be_bytes w64 h.more.first ++ u) (h.more.more.is ∙ ap (λ u. to_be_bytes w64 h.more.more.first ++ u) (h.more.more.more.is ∙ ap (λ u. block_text h.more.more.more.first ++ u) h.more.more.more.more.is)));
      whole = h.more.more.more.more.whole;
    })
    (λ m t h. record { first = h.last.config; behind = to_be_bytes w64 h.last.view ++ (to_be_bytes w64 h.last.number ++ (block_text h.last.block ++ option_text cert_text h.last.cert)); may = h.may.config; is = h.is; more = record { first = h.last.view; behind = to_be_bytes w64 h.last.number ++ (block_text h.last.block ++ option_text cert_text h.last.cert); may = h.may.view; is = refl; more = record { first = h.last.number; behind = block_text h.last.block ++ option_text cert_text h.last.cert; may = h.may.number; is = refl; more = record { first = h.last.block; behind = option_text cert_text h.last.cert; may = h.may.block; is = refl; more = record { last = h.last.cert; may = h.may.cert; is = refl; whole = h.whole } } } } })
    (step below_law (λ config. step below_law (λ view. step below_law (λ number. step block_law (λ block. last (λ cert. message_of.PrePrepare (record { config = config; view = view; number = number; block = block; cert = cert })) (option_law HasCertSpelling cert_text cert_law))))))

abbrev prepare_body : Prepare → List ℕ
prepare_body m = to_be_bytes w64 m.config ++ (to_be_bytes w64 m.view ++ (to_be_bytes w64 m.number ++ m.digest))

prepare_law : Law prepare_at (Ends IsPrepare prepare_body message_of.Prepare)
unfolding prepare_at
prepare_law =
    said_as
    (λ m t h.
    record {
      last = record { config = h.first; view = h.more.first; number = h.more.more.first; digest = h.more.more.more.last };
      may = record { config = h.may; view = h.more.may; number = h.more.more.may; digest = h.more.more.more.may };
      is = h.is ∙ ap (λ u. to_be_bytes w64 h.first ++ u) (h.more.is ∙ ap (λ u. to_be_bytes w64 h.more.first ++ u) (h.more.more.is ∙ ap (λ u. to_be_bytes w64 h.more.more.first ++ u) h.more.more.more.is));
      whole = h.more.more.more.whole;
    })
    (λ m t h. record { first = h.last.config; behind = to_be_bytes w64 h.last.view ++ (to_be_bytes w64 h.last.number ++ h.last.digest); may = h.may.config; is = h.is; more = record { first = h.last.view; behind = to_be_bytes w64 h.last.number ++ h.last.digest; may = h.may.view; is = refl; more = record { first = h.last.number; behind = h.last.digest; may = h.may.number; is = refl; more = record { last = h.last.digest; may = h.may.digest; is = refl; whole = h.whole } } } })
    (step below_law (λ config. step below_law (λ view. step below_law (λ number. last (λ digest. message_of.Prepare (record { config = config; view = view; number = number; digest = digest })) digest_law))))

abbrev commit_body : Commit → List ℕ
commit_body m = to_be_bytes w64 m.config ++ (to_be_bytes w64 m.view ++ (to_be_bytes w64 m.number ++ (m.digest ++ sig_text m.sig)))

commit_law : Law commit_at (Ends IsCommit commit_body message_of.Commit)
unfolding commit_at
commit_law =
    said_as
    (λ m t h.
    record {
      last = record { config = h.first; view = h.more.first; number = h.more.more.first; digest = h.more.more.more.first; sig = h.more.more.more.more.last };
      may = record { config = h.may; view = h.more.may; number = h.more.more.may; digest = h.more.more.more.may; sig = h.more.more.more.more.may };
      is = h.is ∙ ap (λ u. to_be_bytes w64 h.first ++ u) (h.more.is ∙ ap (λ u. to_be_bytes w64 h.more.first ++ u) (h.more.more.is ∙ ap (λ u. to_be_bytes w64 h.more.more.first ++ u) (h.more.more.more.is ∙ ap (λ u. h.more.more.more.first ++ u) h.more.more.more.more.is)));
      whole = h.more.more.more.more.whole;
    })
    (λ m t h. record { first = h.last.config; behind = to_be_bytes w64 h.last.view ++ (to_be_bytes w64 h.last.number ++ (h.last.digest ++ sig_text h.last.sig)); may = h.may.config; is = h.is; more = record { first = h.last.view; behind = to_be_bytes w64 h.last.number ++ (h.last.digest ++ sig_text h.last.sig); may = h.may.view; is = refl; more = record { first = h.last.number; behind = h.last.digest ++ sig_text h.last.sig; may = h.may.number; is = refl; more = record { first = h.last.digest; behind = sig_text h.last.sig; may = h.may.digest; is = refl; more = record { last = h.last.sig; may = h.may.sig; is = refl; whole = h.whole } } } } })
    (step below_law (λ config. step below_law (λ view. step below_law (λ number. step digest_law (λ digest. last (λ sig. message_of.Commit (record { config = config; view = view; number = number; digest = digest; sig = sig })) sig_law)))))

abbrev view_change_body : ViewChange → List ℕ
view_change_body m = to_be_bytes w64 m.config ++ to_be_bytes w64 m.target

view_change_law : Law view_change_at (Ends IsViewChange view_change_body message_of.ViewChange)
unfolding view_change_at
view_change_law =
    said_as
    (λ m t h.
    record {
      last = record { config = h.first; target = h.more.last };
      may = record { config = h.may; target = h.more.may };
      is = h.is ∙ ap (λ u. to_be_bytes w64 h.first ++ u) h.more.is;
      whole = h.more.whole;
    })
    (λ m t h. record { first = h.last.config; behind = to_be_bytes w64 h.last.target; may = h.may.config; is = h.is; more = record { last = h.last.target; may = h.may.target; is = refl; whole = h.whole } })
    (step below_law (λ config. last (λ target. message_of.ViewChange (record { config = config; target = target })) below_law))

abbrev view_data_body : ViewData → List ℕ
view_data_body m = to_be_bytes w64 m.config ++ (to_be_bytes w64 m.view ++ (report_text m.report ++ (sig_text m.sig ++ option_text block_text m.block)))

view_data_law : Law view_data_at (Ends IsViewData view_data_body message_of.ViewData)
unfolding view_data_at
view_data_law =
    said_as
    (λ m t h.
    record {
      last = record { config = h.first; view = h.more.first; report = h.more.more.first; sig = h.more.more.more.first; block = h.more.more.more.more.last };
      may = record { config = h.may; view = h.more.may; report = h.more.more.may; sig = h.more.more.more.may; block = h.more.more.more.more.may };
      is = h.is ∙ ap (λ u. to_be_bytes w64 h.first ++ u) (h.more.is ∙ ap (λ u. to_be_bytes w64 h.more.first ++ u) (h.more.more.is ∙ ap (λ u. report_text h.more.more.first ++ u) (h.more.more.more.is ∙ ap (λ u. sig_text h.more.more.more.first ++ u) h.more.more.more.more.is)));
      whole = h.more.more.more.more.whole;
    })
    (λ m t h. record { first = h.last.config; behind = to_be_bytes w64 h.last.view ++ (report_text h.last.report ++ (sig_text h.last.sig ++ option_text block_text h.last.block)); may = h.may.config; is = h.is; more = record { first = h.last.view; behind = report_text h.last.report ++ (sig_text h.last.sig ++ option_text block_text h.last.block); may = h.may.view; is = refl; more = record { first = h.last.report; behind = sig_text h.last.sig ++ option_text block_text h.last.block; may = h.may.report; is = refl; more = record { first = h.last.sig; behind = option_text block_text h.last.block; may = h.may.sig; is = refl; more = record { last = h.last.block; may = h.may.block; is = refl; whole = h.whole } } } } })
    (step below_law (λ config. step below_law (λ view. step report_law (λ report. step sig_law (λ sig. last (λ block. message_of.ViewData (record { config = config; view = view; report = report; sig = sig; block = block })) (option_law HasBlockSpelling block_text block_law))))))

-- a signed report whose signer is at least this
record HasSignedFrom (least : ℕ) (s : Signed) : Type 0 where
  pub report : HasReportSpelling s.report
  pub sig : HasSigFrom least s.sig

signed_from_law : (least : ℕ) → Law (signed_from_at least) (Spelled (HasSignedFrom least) signed_text)
unfolding signed_from_at
signed_from_law least =
    said_as
    (λ s t h.
    let e = h.more.whole in
    record {
      may = subst (HasSignedFrom least) (sym e) (record { report = h.may; sig = h.more.may });
      is = h.is ∙ ap (λ u. report_text h.first ++ u) h.more.is ∙ ap signed_text (sym e);
    })
    (λ s t h. record { first = s.report; behind = sig_text s.sig; may = h.may.report; is = h.is; more = record { last = s.sig; may = h.may.sig; is = refl; whole = refl } })
    (step report_law (λ report. last (λ sig. record { report = report; sig = sig }) (sig_from_law least)))

abbrev behind_signer : ℕ → Signed → ℕ
behind_signer least s = s.sig.signer + 1

are_signed : (least : ℕ) (reports : List Signed) → AllFrom HasSignedFrom behind_signer least reports → AreSigned least reports
are_signed least [] h = tt
are_signed least (s ∷ reports) h = (h.0.report, h.0.sig.above, h.0.sig.spelling, are_signed (s.sig.signer + 1) reports h.1)

signed_are : (least : ℕ) (reports : List Signed) → AreSigned least reports → AllFrom HasSignedFrom behind_signer least reports
signed_are least [] h = tt
signed_are least (s ∷ reports) h = (record { report = h.0; sig = record { above = h.1; spelling = h.2 } }, signed_are (s.sig.signer + 1) reports h.3)

signed_reports_law : (n least : ℕ) → Law (signed_reports_at least n) (Spelled (SoMany HasSignedFrom behind_signer least n) (flat_map signed_text))
signed_reports_law n least = many_law HasSignedFrom behind_signer signed_text reports_loop signed_from_law n least

abbrev new_view_body : NewView → List ℕ
new_view_body m = to_be_bytes w64 m.config ++ (to_be_bytes w64 m.view ++ (to_be_bytes w8 (length m.reports) ++ (flat_map signed_text m.reports ++ option_text block_text m.block)))

new_view_law : Law new_view_at (Ends IsNewView new_view_body message_of.NewView)
unfolding new_view_at
new_view_law =
    said_as
    (λ m t h.
    let counted = h.more.more.more in
    record {
      last = record { config = h.first; view = h.more.first; reports = counted.first; block = counted.more.last };
      may = record { config = h.may; view = h.more.may; count = omega (arith, h.more.more.may, counted.may.0); reports = are_signed 0 counted.first counted.may.1; block = counted.more.may };
      is = h.is ∙ ap (λ u. to_be_bytes w64 h.first ++ u) (h.more.is ∙ ap (λ u. to_be_bytes w64 h.more.first ++ u) (h.more.more.is ∙ ap (λ n. to_be_bytes w8 n ++ h.more.more.behind) (sym counted.may.0) ∙ ap (λ u. to_be_bytes w8 (length counted.first) ++ u) (counted.is ∙ ap (λ u. flat_map signed_text counted.first ++ u) counted.more.is)));
      whole = counted.more.whole;
    })
    (λ m t h. record { first = h.last.config; behind = to_be_bytes w64 h.last.view ++ (to_be_bytes w8 (length h.last.reports) ++ (flat_map signed_text h.last.reports ++ option_text block_text h.last.block)); may = h.may.config; is = h.is; more = record { first = h.last.view; behind = to_be_bytes w8 (length h.last.reports) ++ (flat_map signed_text h.last.reports ++ option_text block_text h.last.block); may = h.may.view; is = refl; more = record { first = length h.last.reports; behind = flat_map signed_text h.last.reports ++ option_text block_text h.last.block; may = h.may.count; is = refl; more = record { first = h.last.reports; behind = option_text block_text h.last.block; may = (refl, signed_are 0 h.last.reports h.may.reports); is = refl; more = record { last = h.last.block; may = h.may.block; is = refl; whole = h.whole } } } } })
    (step below_law (λ config. step below_law (λ view. step (count8_law 31 (omega arith)) (λ count. step (signed_reports_law count 0) (λ reports. last (λ block. message_of.NewView (record { config = config; view = view; reports = reports; block = block })) (option_law HasBlockSpelling block_text block_law))))))

abbrev heart_beat_body : HeartBeat → List ℕ
heart_beat_body m = to_be_bytes w64 m.config ++ (to_be_bytes w64 m.view ++ to_be_bytes w64 m.height)

heart_beat_law : Law heart_beat_at (Ends IsHeartBeat heart_beat_body message_of.HeartBeat)
unfolding heart_beat_at
heart_beat_law =
    said_as
    (λ m t h.
    record {
      last = record { config = h.first; view = h.more.first; height = h.more.more.last };
      may = record { config = h.may; view = h.more.may; height = h.more.more.may };
      is = h.is ∙ ap (λ u. to_be_bytes w64 h.first ++ u) (h.more.is ∙ ap (λ u. to_be_bytes w64 h.more.first ++ u) h.more.more.is);
      whole = h.more.more.whole;
    })
    (λ m t h. record { first = h.last.config; behind = to_be_bytes w64 h.last.view ++ to_be_bytes w64 h.last.height; may = h.may.config; is = h.is; more = record { first = h.last.view; behind = to_be_bytes w64 h.last.height; may = h.may.view; is = refl; more = record { last = h.last.height; may = h.may.height; is = refl; whole = h.whole } } })
    (step below_law (λ config. step below_law (λ view. last (λ height. message_of.HeartBeat (record { config = config; view = view; height = height })) below_law)))

abbrev heart_beat_reply_body : HeartBeatReply → List ℕ
heart_beat_reply_body m = to_be_bytes w64 m.config ++ to_be_bytes w64 m.view

heart_beat_reply_law : Law heart_beat_reply_at (Ends IsHeartBeatReply heart_beat_reply_body message_of.HeartBeatReply)
unfolding heart_beat_reply_at
heart_beat_reply_law =
    said_as
    (λ m t h.
    record {
      last = record { config = h.first; view = h.more.last };
      may = record { config = h.may; view = h.more.may };
      is = h.is ∙ ap (λ u. to_be_bytes w64 h.first ++ u) h.more.is;
      whole = h.more.whole;
    })
    (λ m t h. record { first = h.last.config; behind = to_be_bytes w64 h.last.view; may = h.may.config; is = h.is; more = record { last = h.last.view; may = h.may.view; is = refl; whole = h.whole } })
    (step below_law (λ config. last (λ view. message_of.HeartBeatReply (record { config = config; view = view })) below_law))

abbrev forward_body : Forward → List ℕ
forward_body m = request_text m.request

forward_law : Law forward_at (Ends (λ m. HasRequestSpelling m.request) forward_body message_of.Forward)
unfolding forward_at
forward_law =
    said_as (λ m t h. record { last = record { request = h.last }; may = h.may; is = h.is; whole = h.whole }) (λ m t h. record { last = h.last.request; may = h.may; is = h.is; whole = h.whole })
    (last (λ request. message_of.Forward (record { request = request })) request_law)

ask_count_law : Law (tested_at w8 (λ n. nat_le 1 n && nat_le n 8)) (Spelled (λ n. (1 ≤ n) × (n ≤ 8)) (to_be_bytes w8))
ask_count_law = within_law 1 8 (omega arith)

abbrev block_ask_body : BlockAsk → List ℕ
block_ask_body m = to_be_bytes w64 m.first ++ to_be_bytes w8 m.count

block_ask_law : Law block_ask_at (Ends IsBlockAsk block_ask_body message_of.BlockAsk)
unfolding block_ask_at
block_ask_law =
    said_as
    (λ m t h.
    record {
      last = record { first = h.first; count = h.more.last };
      may = record { first = h.may; some = h.more.may.0; few = h.more.may.1 };
      is = h.is ∙ ap (λ u. to_be_bytes w64 h.first ++ u) h.more.is;
      whole = h.more.whole;
    })
    (λ m t h. record { first = h.last.first; behind = to_be_bytes w8 h.last.count; may = h.may.first; is = h.is; more = record { last = h.last.count; may = (h.may.some, h.may.few); is = refl; whole = h.whole } })
    (step below_law (λ first. last (λ count. message_of.BlockAsk (record { first = first; count = count })) ask_count_law))

abbrev block_reply_body : BlockReply → List ℕ
block_reply_body m = block_text m.block ++ cert_text m.cert

block_reply_law : Law block_reply_at (Ends IsBlockReply block_reply_body message_of.BlockReply)
unfolding block_reply_at
block_reply_law =
    said_as
    (λ m t h.
    record {
      last = record { block = h.first; cert = h.more.last };
      may = record { block = h.may; cert = h.more.may };
      is = h.is ∙ ap (λ u. block_text h.first ++ u) h.more.is;
      whole = h.more.whole;
    })
    (λ m t h. record { first = h.last.block; behind = cert_text h.last.cert; may = h.may.block; is = h.is; more = record { last = h.last.cert; may = h.may.cert; is = refl; whole = h.whole } })
    (step block_law (λ block. last (λ cert. message_of.BlockReply (record { block = block; cert = cert })) cert_law))

abbrev header_ask_body : HeaderAsk → List ℕ
header_ask_body m = to_be_bytes w64 m.number

header_ask_law : Law header_ask_at (Ends (λ m. IsNumber m.number) header_ask_body message_of.HeaderAsk)
unfolding header_ask_at
header_ask_law =
    said_as (λ m t h. record { last = record { number = h.last }; may = h.may; is = h.is; whole = h.whole }) (λ m t h. record { last = h.last.number; may = h.may; is = h.is; whole = h.whole })
    (last (λ number. message_of.HeaderAsk (record { number = number })) below_law)

abbrev same_state : {X : Type 0} → Unit {0} → X → Unit {0}
same_state s x = tt

each_header : (headers : List Header) → AllFrom (λ (s : Unit {0}). HasHeaderSpelling) same_state tt headers → AllByRecursion HasHeaderSpelling headers
each_header [] h = tt
each_header (x ∷ headers) h = (h.0, each_header headers h.1)

header_each : (headers : List Header) → AllByRecursion HasHeaderSpelling headers → AllFrom (λ (s : Unit {0}). HasHeaderSpelling) same_state tt headers
header_each [] h = tt
header_each (x ∷ headers) h = (h.0, header_each headers h.1)

abbrev header_reply_body : HeaderReply → List ℕ
header_reply_body m = to_be_bytes w16 (length m.headers) ++ flat_map header_text m.headers

header_reply_law : Law header_reply_at (Ends IsHeaderReply header_reply_body message_of.HeaderReply)
unfolding header_reply_at
header_reply_law =
    said_as
    (λ m t h.
    record {
      last = record { headers = h.more.last };
      may = record { count = omega (arith, h.may, h.more.may.0); headers = each_header h.more.last h.more.may.1 };
      is = h.is ∙ ap (λ u. to_be_bytes w16 h.first ++ u) h.more.is ∙ ap (λ n. to_be_bytes w16 n ++ flat_map header_text h.more.last) (sym h.more.may.0);
      whole = h.more.whole;
    })
    (λ m t h. record { first = length h.last.headers; behind = flat_map header_text h.last.headers; may = h.may.count; is = h.is; more = record { last = h.last.headers; may = (refl, header_each h.last.headers h.may.headers); is = refl; whole = h.whole } })
    (step (count16_law 1000 (omega arith)) (λ count. last (λ headers. message_of.HeaderReply (record { headers = headers })) (many_law (λ (s : Unit {0}). HasHeaderSpelling) same_state header_text (list_loop header_at) (λ s. header_law) count tt)))

abbrev raft_vote_body : RaftVote → List ℕ
raft_vote_body m = to_be_bytes w64 m.term ++ (to_be_bytes w64 m.height ++ to_be_bytes w64 m.tail_term)

raft_vote_law : Law raft_vote_at (Ends IsRaftVote raft_vote_body message_of.RaftVote)
unfolding raft_vote_at
raft_vote_law =
    said_as
    (λ m t h.
    record {
      last = record { term = h.first; height = h.more.first; tail_term = h.more.more.last };
      may = record { term = h.may; height = h.more.may; tail_term = h.more.more.may };
      is = h.is ∙ ap (λ u. to_be_bytes w64 h.first ++ u) (h.more.is ∙ ap (λ u. to_be_bytes w64 h.more.first ++ u) h.more.more.is);
      whole = h.more.more.whole;
    })
    (λ m t h. record { first = h.last.term; behind = to_be_bytes w64 h.last.height ++ to_be_bytes w64 h.last.tail_term; may = h.may.term; is = h.is; more = record { first = h.last.height; behind = to_be_bytes w64 h.last.tail_term; may = h.may.height; is = refl; more = record { last = h.last.tail_term; may = h.may.tail_term; is = refl; whole = h.whole } } })
    (step below_law (λ term. step below_law (λ height. last (λ tail_term. message_of.RaftVote (record { term = term; height = height; tail_term = tail_term })) below_law)))

abbrev raft_vote_reply_body : RaftVoteReply → List ℕ
raft_vote_reply_body m = to_be_bytes w64 m.term ++ flag_text m.granted

raft_vote_reply_law : Law raft_vote_reply_at (Ends (λ m. IsNumber m.term) raft_vote_reply_body message_of.RaftVoteReply)
unfolding raft_vote_reply_at
raft_vote_reply_law =
    said_as
    (λ m t h.
    record {
      last = record { term = h.first; granted = h.more.last };
      may = h.may;
      is = h.is ∙ ap (λ u. to_be_bytes w64 h.first ++ u) h.more.is;
      whole = h.more.whole;
    })
    (λ m t h. record { first = h.last.term; behind = flag_text h.last.granted; may = h.may; is = h.is; more = record { last = h.last.granted; may = tt; is = refl; whole = h.whole } })
    (step below_law (λ term. last (λ granted. message_of.RaftVoteReply (record { term = term; granted = granted })) flag_law))

abbrev raft_append_body : RaftAppend → List ℕ
raft_append_body m = to_be_bytes w64 m.term ++ (to_be_bytes w64 m.height ++ (m.last ++ option_text block_text m.block))

raft_append_law : Law raft_append_at (Ends IsRaftAppend raft_append_body message_of.RaftAppend)
unfolding raft_append_at
raft_append_law =
    said_as
    (λ m t h.
    record {
      last = record { term = h.first; height = h.more.first; last = h.more.more.first; block = h.more.more.more.last };
      may = record { term = h.may; height = h.more.may; last = h.more.more.may; block = h.more.more.more.may };
      is = h.is ∙ ap (λ u. to_be_bytes w64 h.first ++ u) (h.more.is ∙ ap (λ u. to_be_bytes w64 h.more.first ++ u) (h.more.more.is ∙ ap (λ u. h.more.more.first ++ u) h.more.more.more.is));
      whole = h.more.more.more.whole;
    })
    (λ m t h. record { first = h.last.term; behind = to_be_bytes w64 h.last.height ++ (h.last.last ++ option_text block_text h.last.block); may = h.may.term; is = h.is; more = record { first = h.last.height; behind = h.last.last ++ option_text block_text h.last.block; may = h.may.height; is = refl; more = record { first = h.last.last; behind = option_text block_text h.last.block; may = h.may.last; is = refl; more = record { last = h.last.block; may = h.may.block; is = refl; whole = h.whole } } } })
    (step below_law (λ term. step below_law (λ height. step digest_law (λ last_hash. last (λ block. message_of.RaftAppend (record { term = term; height = height; last = last_hash; block = block })) (option_law HasBlockSpelling block_text block_law)))))

abbrev raft_append_reply_body : RaftAppendReply → List ℕ
raft_append_reply_body m = to_be_bytes w64 m.term ++ (to_be_bytes w64 m.number ++ (m.digest ++ flag_text m.taken))

raft_append_reply_law : Law raft_append_reply_at (Ends IsRaftAppendReply raft_append_reply_body message_of.RaftAppendReply)
unfolding raft_append_reply_at
raft_append_reply_law =
    said_as
    (λ m t h.
    record {
      last = record { term = h.first; number = h.more.first; digest = h.more.more.first; taken = h.more.more.more.last };
      may = record { term = h.may; number = h.more.may; digest = h.more.more.may };
      is = h.is ∙ ap (λ u. to_be_bytes w64 h.first ++ u) (h.more.is ∙ ap (λ u. to_be_bytes w64 h.more.first ++ u) (h.more.more.is ∙ ap (λ u. h.more.more.first ++ u) h.more.more.more.is));
      whole = h.more.more.more.whole;
    })
    (λ m t h. record { first = h.last.term; behind = to_be_bytes w64 h.last.number ++ (h.last.digest ++ flag_text h.last.taken); may = h.may.term; is = h.is; more = record { first = h.last.number; behind = h.last.digest ++ flag_text h.last.taken; may = h.may.number; is = refl; more = record { first = h.last.digest; behind = flag_text h.last.taken; may = h.may.digest; is = refl; more = record { last = h.last.taken; may = tt; is = refl; whole = h.whole } } } })
    (step below_law (λ term. step below_law (λ number. step digest_law (λ digest. last (λ taken. message_of.RaftAppendReply (record { term = term; number = number; digest = digest; taken = taken })) flag_law))))

abbrev raft_block_body : RaftBlock → List ℕ
raft_block_body m = block_text m.block

raft_block_law : Law raft_block_at (Ends (λ m. HasBlockSpelling m.block) raft_block_body message_of.RaftBlock)
unfolding raft_block_at
raft_block_law =
    said_as (λ m t h. record { last = record { block = h.last }; may = h.may; is = h.is; whole = h.whole }) (λ m t h. record { last = h.last.block; may = h.may; is = h.is; whole = h.whole })
    (last (λ block. message_of.RaftBlock (record { block = block })) block_law)

-- THE WHOLE

preprepare_text : (m : PrePrepare) → message_text (message_of.PrePrepare m) ≡ to_be_bytes w8 1 ++ preprepare_body m
preprepare_text m = right6 (to_be_bytes w8 1) (to_be_bytes w64 m.config) (to_be_bytes w64 m.view) (to_be_bytes w64 m.number) (block_text m.block) (option_text cert_text m.cert)

prepare_text : (m : Prepare) → message_text (message_of.Prepare m) ≡ to_be_bytes w8 2 ++ prepare_body m
prepare_text m = right5 (to_be_bytes w8 2) (to_be_bytes w64 m.config) (to_be_bytes w64 m.view) (to_be_bytes w64 m.number) m.digest

commit_text : (m : Commit) → message_text (message_of.Commit m) ≡ to_be_bytes w8 3 ++ commit_body m
commit_text m = right6 (to_be_bytes w8 3) (to_be_bytes w64 m.config) (to_be_bytes w64 m.view) (to_be_bytes w64 m.number) m.digest (sig_text m.sig)

view_change_text : (m : ViewChange) → message_text (message_of.ViewChange m) ≡ to_be_bytes w8 4 ++ view_change_body m
view_change_text m = right3 (to_be_bytes w8 4) (to_be_bytes w64 m.config) (to_be_bytes w64 m.target)

view_data_text : (m : ViewData) → message_text (message_of.ViewData m) ≡ to_be_bytes w8 5 ++ view_data_body m
view_data_text m = right6 (to_be_bytes w8 5) (to_be_bytes w64 m.config) (to_be_bytes w64 m.view) (report_text m.report) (sig_text m.sig) (option_text block_text m.block)

new_view_text : (m : NewView) → message_text (message_of.NewView m) ≡ to_be_bytes w8 6 ++ new_view_body m
new_view_text m = right6 (to_be_bytes w8 6) (to_be_bytes w64 m.config) (to_be_bytes w64 m.view) (to_be_bytes w8 (length m.reports)) (flat_map signed_text m.reports) (option_text block_text m.block)

heart_beat_text : (m : HeartBeat) → message_text (message_of.HeartBeat m) ≡ to_be_bytes w8 7 ++ heart_beat_body m
heart_beat_text m = right4 (to_be_bytes w8 7) (to_be_bytes w64 m.config) (to_be_bytes w64 m.view) (to_be_bytes w64 m.height)

heart_beat_reply_text : (m : HeartBeatReply) → message_text (message_of.HeartBeatReply m) ≡ to_be_bytes w8 8 ++ heart_beat_reply_body m
heart_beat_reply_text m = right3 (to_be_bytes w8 8) (to_be_bytes w64 m.config) (to_be_bytes w64 m.view)

forward_text : (m : Forward) → message_text (message_of.Forward m) ≡ to_be_bytes w8 9 ++ forward_body m
forward_text m = refl

block_ask_text : (m : BlockAsk) → message_text (message_of.BlockAsk m) ≡ to_be_bytes w8 10 ++ block_ask_body m
block_ask_text m = right3 (to_be_bytes w8 10) (to_be_bytes w64 m.first) (to_be_bytes w8 m.count)

block_reply_text : (m : BlockReply) → message_text (message_of.BlockReply m) ≡ to_be_bytes w8 11 ++ block_reply_body m
block_reply_text m = right3 (to_be_bytes w8 11) (block_text m.block) (cert_text m.cert)

header_ask_text : (m : HeaderAsk) → message_text (message_of.HeaderAsk m) ≡ to_be_bytes w8 12 ++ header_ask_body m
header_ask_text m = refl

header_reply_text : (m : HeaderReply) → message_text (message_of.HeaderReply m) ≡ to_be_bytes w8 13 ++ header_reply_body m
header_reply_text m = right3 (to_be_bytes w8 13) (to_be_bytes w16 (length m.headers)) (flat_map header_text m.headers)

raft_vote_text : (m : RaftVote) → message_text (message_of.RaftVote m) ≡ to_be_bytes w8 14 ++ raft_vote_body m
raft_vote_text m = right4 (to_be_bytes w8 14) (to_be_bytes w64 m.term) (to_be_bytes w64 m.height) (to_be_bytes w64 m.tail_term)

raft_vote_reply_text : (m : RaftVoteReply) → message_text (message_of.RaftVoteReply m) ≡ to_be_bytes w8 15 ++ raft_vote_reply_body m
raft_vote_reply_text m = right3 (to_be_bytes w8 15) (to_be_bytes w64 m.term) (flag_text m.granted)

raft_append_text : (m : RaftAppend) → message_text (message_of.RaftAppend m) ≡ to_be_bytes w8 16 ++ raft_append_body m
raft_append_text m = right5 (to_be_bytes w8 16) (to_be_bytes w64 m.term) (to_be_bytes w64 m.height) m.last (option_text block_text m.block)

raft_append_reply_text : (m : RaftAppendReply) → message_text (message_of.RaftAppendReply m) ≡ to_be_bytes w8 17 ++ raft_append_reply_body m
raft_append_reply_text m = right5 (to_be_bytes w8 17) (to_be_bytes w64 m.term) (to_be_bytes w64 m.number) m.digest (flag_text m.taken)

raft_block_text : (m : RaftBlock) → message_text (message_of.RaftBlock m) ≡ to_be_bytes w8 18 ++ raft_block_body m
raft_block_text m = refl

abbrev Chosen : Bool → (Message → List ℕ → Type 0) → (Message → List ℕ → Type 0) → Message → List ℕ → Type 0
Chosen true Means Other = Means
Chosen false Means Other = Other

chosen_law : {at other : Reading Message} {Means Other : Message → List ℕ → Type 0} (b : Bool) → Law at Means → Law other Other → Law (λ bytes. cond b (at bytes) (other bytes)) (Chosen b Means Other)
chosen_law true law other = law
chosen_law false law other = other

-- what the body of a kind means
abbrev BodyOf : ℕ → Message → List ℕ → Type 0
BodyOf kind =
    Chosen (kind == 1) (Ends IsPrePrepare preprepare_body message_of.PrePrepare)
    (Chosen (kind == 2) (Ends IsPrepare prepare_body message_of.Prepare)
    (Chosen (kind == 3) (Ends IsCommit commit_body message_of.Commit)
    (Chosen (kind == 4) (Ends IsViewChange view_change_body message_of.ViewChange)
    (Chosen (kind == 5) (Ends IsViewData view_data_body message_of.ViewData)
    (Chosen (kind == 6) (Ends IsNewView new_view_body message_of.NewView)
    (Chosen (kind == 7) (Ends IsHeartBeat heart_beat_body message_of.HeartBeat)
    (Chosen (kind == 8) (Ends IsHeartBeatReply heart_beat_reply_body message_of.HeartBeatReply)
    (Chosen (kind == 9) (Ends (λ m. HasRequestSpelling m.request) forward_body message_of.Forward)
    (Chosen (kind == 10) (Ends IsBlockAsk block_ask_body message_of.BlockAsk)
    (Chosen (kind == 11) (Ends IsBlockReply block_reply_body message_of.BlockReply)
    (Chosen (kind == 12) (Ends (λ m. IsNumber m.number) header_ask_body message_of.HeaderAsk)
    (Chosen (kind == 13) (Ends IsHeaderReply header_reply_body message_of.HeaderReply)
    (Chosen (kind == 14) (Ends IsRaftVote raft_vote_body message_of.RaftVote)
    (Chosen (kind == 15) (Ends (λ m. IsNumber m.term) raft_vote_reply_body message_of.RaftVoteReply)
    (Chosen (kind == 16) (Ends IsRaftAppend raft_append_body message_of.RaftAppend)
    (Chosen (kind == 17) (Ends IsRaftAppendReply raft_append_reply_body message_of.RaftAppendReply)
    (Ends (λ m. HasBlockSpelling m.block) raft_block_body message_of.RaftBlock)))))))))))))))))

body_law : (kind : ℕ) → Law (body_at kind) (BodyOf kind)
unfolding body_at
body_law kind =
    chosen_law (kind == 1) preprepare_law
    (chosen_law (kind == 2) prepare_law
    (chosen_law (kind == 3) commit_law
    (chosen_law (kind == 4) view_change_law
    (chosen_law (kind == 5) view_data_law
    (chosen_law (kind == 6) new_view_law
    (chosen_law (kind == 7) heart_beat_law
    (chosen_law (kind == 8) heart_beat_reply_law
    (chosen_law (kind == 9) forward_law
    (chosen_law (kind == 10) block_ask_law
    (chosen_law (kind == 11) block_reply_law
    (chosen_law (kind == 12) header_ask_law
    (chosen_law (kind == 13) header_reply_law
    (chosen_law (kind == 14) raft_vote_law
    (chosen_law (kind == 15) raft_vote_reply_law
    (chosen_law (kind == 16) raft_append_law
    (chosen_law (kind == 17) raft_append_reply_law
    raft_block_law))))))))))))))))

spelled_so : {P : Type 0} {Is : P → Type 0} {text : P → List ℕ} {made : P → Message} (kind : ℕ) → ((p : P) → Is p → HasMessageSpelling (made p)) → ((p : P) → message_text (made p) ≡ to_be_bytes w8 kind ++ text p)
    → (m : Message) (t : List ℕ) → Ends Is text made m t → Spelled HasMessageSpelling message_text m (to_be_bytes w8 kind ++ t)
spelled_so kind may texts m t h =
    record {
      may = subst HasMessageSpelling (sym h.whole) (may h.last h.may);
      is = ap (λ u. to_be_bytes w8 kind ++ u) h.is ∙ sym (texts h.last) ∙ ap message_text (sym h.whole);
    }

of_kind : (kind : ℕ) (m : Message) (t : List ℕ) → 1 ≤ kind → kind ≤ 18 → BodyOf kind m t → Spelled HasMessageSpelling message_text m (to_be_bytes w8 kind ++ t)
of_kind zero m t some most h = absurd (omega arith)
of_kind (suc zero) m t some most h = spelled_so 1 (λ p may. may) preprepare_text m t h
of_kind (suc (suc zero)) m t some most h = spelled_so 2 (λ p may. may) prepare_text m t h
of_kind (suc (suc (suc zero))) m t some most h = spelled_so 3 (λ p may. may) commit_text m t h
of_kind (suc (suc (suc (suc zero)))) m t some most h = spelled_so 4 (λ p may. may) view_change_text m t h
of_kind (suc (suc (suc (suc (suc zero))))) m t some most h = spelled_so 5 (λ p may. may) view_data_text m t h
of_kind (suc (suc (suc (suc (suc (suc zero)))))) m t some most h = spelled_so 6 (λ p may. may) new_view_text m t h
of_kind (suc (suc (suc (suc (suc (suc (suc zero))))))) m t some most h = spelled_so 7 (λ p may. may) heart_beat_text m t h
of_kind (suc (suc (suc (suc (suc (suc (suc (suc zero)))))))) m t some most h = spelled_so 8 (λ p may. may) heart_beat_reply_text m t h
of_kind (suc (suc (suc (suc (suc (suc (suc (suc (suc zero))))))))) m t some most h = spelled_so 9 (λ p may. may) forward_text m t h
of_kind (suc (suc (suc (suc (suc (suc (suc (suc (suc (suc zero)))))))))) m t some most h = spelled_so 10 (λ p may. may) block_ask_text m t h
of_kind (suc (suc (suc (suc (suc (suc (suc (suc (suc (suc (suc zero))))))))))) m t some most h = spelled_so 11 (λ p may. may) block_reply_text m t h
of_kind (suc (suc (suc (suc (suc (suc (suc (suc (suc (suc (suc (suc zero)))))))))))) m t some most h = spelled_so 12 (λ p may. may) header_ask_text m t h
of_kind (suc (suc (suc (suc (suc (suc (suc (suc (suc (suc (suc (suc (suc zero))))))))))))) m t some most h = spelled_so 13 (λ p may. may) header_reply_text m t h
of_kind (suc (suc (suc (suc (suc (suc (suc (suc (suc (suc (suc (suc (suc (suc zero)))))))))))))) m t some most h = spelled_so 14 (λ p may. may) raft_vote_text m t h
of_kind (suc (suc (suc (suc (suc (suc (suc (suc (suc (suc (suc (suc (suc (suc (suc zero))))))))))))))) m t some most h = spelled_so 15 (λ p may. may) raft_vote_reply_text m t h
of_kind (suc (suc (suc (suc (suc (suc (suc (suc (suc (suc (suc (suc (suc (suc (suc (suc zero)))))))))))))))) m t some most h = spelled_so 16 (λ p may. may) raft_append_text m t h
of_kind (suc (suc (suc (suc (suc (suc (suc (suc (suc (suc (suc (suc (suc (suc (suc (suc (suc zero))))))))))))))))) m t some most h = spelled_so 17 (λ p may. may) raft_append_reply_text m t h
of_kind (suc (suc (suc (suc (suc (suc (suc (suc (suc (suc (suc (suc (suc (suc (suc (suc (suc (suc zero)))))))))))))))))) m t some most h = spelled_so 18 (λ p may. may) raft_block_text m t h
of_kind (suc (suc (suc (suc (suc (suc (suc (suc (suc (suc (suc (suc (suc (suc (suc (suc (suc (suc (suc n))))))))))))))))))) m t some most h = absurd (omega arith)

with_kind : (m : Message) (t : List ℕ) → Spelled HasMessageSpelling message_text m t → Begins (λ n. (1 ≤ n) × (n ≤ 18)) (to_be_bytes w8) BodyOf m t
with_kind (message_of.PrePrepare m) t h = record { first = 1; behind = preprepare_body m; may = (omega arith, omega arith); more = record { last = m; may = h.may; is = refl; whole = refl }; is = h.is ∙ preprepare_text m }
with_kind (message_of.Prepare m) t h = record { first = 2; behind = prepare_body m; may = (omega arith, omega arith); more = record { last = m; may = h.may; is = refl; whole = refl }; is = h.is ∙ prepare_text m }
with_kind (message_of.Commit m) t h = record { first = 3; behind = commit_body m; may = (omega arith, omega arith); more = record { last = m; may = h.may; is = refl; whole = refl }; is = h.is ∙ commit_text m }
with_kind (message_of.ViewChange m) t h = record { first = 4; behind = view_change_body m; may = (omega arith, omega arith); more = record { last = m; may = h.may; is = refl; whole = refl }; is = h.is ∙ view_change_text m }
with_kind (message_of.ViewData m) t h = record { first = 5; behind = view_data_body m; may = (omega arith, omega arith); more = record { last = m; may = h.may; is = refl; whole = refl }; is = h.is ∙ view_data_text m }
with_kind (message_of.NewView m) t h = record { first = 6; behind = new_view_body m; may = (omega arith, omega arith); more = record { last = m; may = h.may; is = refl; whole = refl }; is = h.is ∙ new_view_text m }
with_kind (message_of.HeartBeat m) t h = record { first = 7; behind = heart_beat_body m; may = (omega arith, omega arith); more = record { last = m; may = h.may; is = refl; whole = refl }; is = h.is ∙ heart_beat_text m }
with_kind (message_of.HeartBeatReply m) t h = record { first = 8; behind = heart_beat_reply_body m; may = (omega arith, omega arith); more = record { last = m; may = h.may; is = refl; whole = refl }; is = h.is ∙ heart_beat_reply_text m }
with_kind (message_of.Forward m) t h = record { first = 9; behind = forward_body m; may = (omega arith, omega arith); more = record { last = m; may = h.may; is = refl; whole = refl }; is = h.is ∙ forward_text m }
with_kind (message_of.BlockAsk m) t h = record { first = 10; behind = block_ask_body m; may = (omega arith, omega arith); more = record { last = m; may = h.may; is = refl; whole = refl }; is = h.is ∙ block_ask_text m }
with_kind (message_of.BlockReply m) t h = record { first = 11; behind = block_reply_body m; may = (omega arith, omega arith); more = record { last = m; may = h.may; is = refl; whole = refl }; is = h.is ∙ block_reply_text m }
with_kind (message_of.HeaderAsk m) t h = record { first = 12; behind = header_ask_body m; may = (omega arith, omega arith); more = record { last = m; may = h.may; is = refl; whole = refl }; is = h.is ∙ header_ask_text m }
with_kind (message_of.HeaderReply m) t h = record { first = 13; behind = header_reply_body m; may = (omega arith, omega arith); more = record { last = m; may = h.may; is = refl; whole = refl }; is = h.is ∙ header_reply_text m }
with_kind (message_of.RaftVote m) t h = record { first = 14; behind = raft_vote_body m; may = (omega arith, omega arith); more = record { last = m; may = h.may; is = refl; whole = refl }; is = h.is ∙ raft_vote_text m }
with_kind (message_of.RaftVoteReply m) t h = record { first = 15; behind = raft_vote_reply_body m; may = (omega arith, omega arith); more = record { last = m; may = h.may; is = refl; whole = refl }; is = h.is ∙ raft_vote_reply_text m }
with_kind (message_of.RaftAppend m) t h = record { first = 16; behind = raft_append_body m; may = (omega arith, omega arith); more = record { last = m; may = h.may; is = refl; whole = refl }; is = h.is ∙ raft_append_text m }
with_kind (message_of.RaftAppendReply m) t h = record { first = 17; behind = raft_append_reply_body m; may = (omega arith, omega arith); more = record { last = m; may = h.may; is = refl; whole = refl }; is = h.is ∙ raft_append_reply_text m }
with_kind (message_of.RaftBlock m) t h = record { first = 18; behind = raft_block_body m; may = (omega arith, omega arith); more = record { last = m; may = h.may; is = refl; whole = refl }; is = h.is ∙ raft_block_text m }

pub message_law : Law message_at (Spelled HasMessageSpelling message_text)
unfolding message_at
message_law =
    said_as (λ m t h. let k = of_kind h.first m h.behind h.may.0 h.may.1 h.more in record { may = k.may; is = h.is ∙ k.is }) with_kind
    (step (within_law 1 18 (omega arith)) body_law)

-- THE WHOLE OF THE BYTES

all_parts : (size : ℕ) (m : Message) (rest : List ℕ) (n : Message) → all_or size m rest ≡ Ok n → (m ≡ n) × (rest ≡ [])
all_parts size m [] n e = (cc, refl)
all_parts size m (b ∷ rest) n e = absurd cc

spells_all : (bytes : List ℕ) (m : Message) (read : Result (Message × List ℕ) Flaw) → IsBytes bytes → message_at bytes ≡ read → whole (length bytes) read ≡ Ok m → Spells bytes m
spells_all bytes m (Ok found) fits e is =
    let s = spelled message_law bytes found.0 found.1 fits e in
    let a = all_parts (length bytes) found.0 found.1 m is in
    subst (Spells bytes) a.0 (record { grammar = s.0; text = s.1 ∙ ap (λ r. message_text found.0 ++ r) a.1 ∙ append-nil (message_text found.0) })
spells_all bytes m (Err flaw) fits e is = absurd cc

-- what is decoded is spelled
pub decoded_sound : (bytes : List ℕ) (m : Message) → IsBytes bytes → decoded bytes ≡ Ok m → Spells bytes m
unfolding decoded
decoded_sound bytes m fits e = spells_all bytes m (message_at bytes) fits refl e

-- what is spelled is decoded
pub decoded_complete : (bytes : List ℕ) (m : Message) → Spells bytes m → decoded bytes ≡ Ok m
unfolding decoded
decoded_complete bytes m h = ap (whole (length bytes)) (ap message_at h.text ∙ read_whole message_law m h.grammar)

pub found_of : (bytes : List ℕ) (result : Result Message ReadFault) → IsBytes bytes → Answers result (decoded bytes) → IfOk result (Spells bytes)
found_of bytes (Ok m) fits answered = decoded_sound bytes m fits answered
found_of bytes (Err fault) fits answered = tt

pub only_of : (bytes : List ℕ) (result : Result Message ReadFault) → Answers result (decoded bytes) → (m : Message) → Spells bytes m → Answers result (Ok m)
only_of bytes result answered m h = subst (Answers result) (decoded_complete bytes m h) answered

-- THE THREE LAWS

pub message_sound : (bytes : List ℕ) (m : Message) (rest : List ℕ) → IsBytes bytes → message_at bytes ≡ Ok (m, rest) → HasMessageSpelling m × (bytes ≡ message_text m ++ rest)
message_sound = spelled message_law

pub message_complete : (m : Message) (rest : List ℕ) → HasMessageSpelling m → message_at (message_text m ++ rest) ≡ Ok (m, rest)
message_complete = read_again message_law

-- more bytes behind change nothing but the end
pub message_steady : (bytes : List ℕ) (m : Message) (rest more : List ℕ) → message_at bytes ≡ Ok (m, rest) → message_at (bytes ++ more) ≡ Ok (m, rest ++ more)
message_steady = message_law.steady_ok

pub message_steady_bad : (bytes : List ℕ) (left : ℕ) (more : List ℕ) → message_at bytes ≡ Err (Bad left) → message_at (bytes ++ more) ≡ Err (Bad (left + length more))
message_steady_bad = message_law.steady_bad

-- WHAT FOLLOWS FOR ALL MESSAGES

pub round_trip : RoundTrip
round_trip = record { again = message_complete; whole = λ m may. decoded_complete (message_text m) m (record { grammar = may; text = refl }) }

pub unambiguous : Unambiguous
unambiguous m n rest may may' e =
    let same = one_spelling message_law m n rest [] may may' (e ∙ sym (append-nil (message_text n))) in same

pub cut_is_short : CutIsShort
unfolding decoded
cut_is_short m front next behind may e = ap (whole (length front)) (cut message_law m front behind next may e)
