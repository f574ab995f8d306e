-- What the messages spell that a Byzantine member makes: proposals and votes.
use Rattle.std.proofs.Common.{
  ◌≡◌,
  ℕ,
  ◌<◌,
  ◌≤◌,
  ◌^◌,
  false,
  List,
  [],
  ◌∷◌,
  ◌++◌,
  length,
  refl,
  ap,
  ◌∙◌,
  Option,
  Some,
  None,
  Ok,
  Err,
  append_assoc,
  inl,
  inr,
  arith,
}
use Rattle.std.specs.Prelude.{nat_lt, option_and_then}
use Rattle.std.specs.Int.{w8, w64, to_be_bytes}
use Rattle.std.proofs.lemmas.Bool.{cases_lt, le-ltb}
use Rattle.std.proofs.lemmas.List.Elements.{All-cons, All-nil}
use Rattle.ord_types.specs.Grammar.{HasRequestSpelling, HasSigSpelling, IsNumber}
use Rattle.ord_types.specs.Reading.{below_at, number_at}
use Rattle.ord_types.specs.Spelling.{block_text, cert_text, option_text}
use Rattle.ord_types.specs.declared.fault.Flaw.{Flaw}
use Rattle.ord_types.specs.declared.fault.Flaw.TheVariants.{Bad}
use Rattle.ord_types.specs.declared.values.Sig.{Sig}
use Rattle.ord_types.proofs.Laws.{number_law, wide64, wide8}
use Rattle.ord_types.proofs.ValueLaws.{below_law}
use Rattle.safety_model.specs.Blocks.{Request}
use Rattle.bft_wire.specs.Messages.{HasMessageSpelling}
use Rattle.bft_wire.specs.Reading.{body_at, decoded, message_at, message_in, preprepare_at}
use Rattle.bft_wire.specs.Spelling.{message_text}
use Rattle.bft_wire.specs.declared.message.Message.{Message}
use Rattle.bft_wire.specs.declared.message.Message.TheVariants as wire
use Rattle.view_model.specs.Acts.{carried_cert, proposal}
use Rattle.view_model.specs.Leading.{Place}
use Rattle.view_model.specs.Letters.{PrePrepare}
use Rattle.world_model.specs.Liars.{
  commit_for,
  is_raft_if_any,
  prepare_for,
  proposal_in,
  proposal_of,
  proposed_in,
}
use Rattle.world_safety.proofs.Delivering.{some_same}
use Rattle.world_safety.proofs.Fitting.{PlaceFits, block_fits_at, carried_fits}
use Rattle.world_safety.proofs.Reading.{text_is, text_read}
use Rattle.world_safety.proofs.Sending.{hash_fits}

-- A PROPOSAL AT A NUMBER THAT HAS NO SPELLING spells nothing

below_read : (n : ℕ) (more : List ℕ) → IsNumber n → below_at (to_be_bytes w64 n ++ more) ≡ Ok (n, more)
below_read n more small = below_law.complete n (to_be_bytes w64 n) more (record { may = small; is = refl })

above_read : (n : ℕ) (more : List ℕ) → 2 ^ 62 ≤ n → n < 2 ^ 64 → below_at (to_be_bytes w64 n ++ more)
    ≡ Err (Bad (length (to_be_bytes w64 n ++ more)))
above_read n more large wide =
    let read : number_at w64 (to_be_bytes w64 n ++ more) ≡ Ok (n, more) =
    (number_law wide64).complete n (to_be_bytes w64 n) more (record { may = wide; is = refl }) in
    let above : nat_lt n (2 ^ 62) ≡ false = le-ltb n (2 ^ 62) large in
    rw (read, above) refl

preprepare_unread : (c v n : ℕ) (more : List ℕ) → IsNumber c → IsNumber v → 2 ^ 62 ≤ n → n < 2 ^ 64
    → preprepare_at (to_be_bytes w64 c ++ (to_be_bytes w64 v ++ (to_be_bytes w64 n ++ more)))
    ≡ Err (Bad (length (to_be_bytes w64 n ++ more)))
unfolding preprepare_at
preprepare_unread c v n more lc lv large wide =
    rw (
      below_read c (to_be_bytes w64 v ++ (to_be_bytes w64 n ++ more)) lc,
      below_read v (to_be_bytes w64 n
          ++ more) lv,
      above_read n more large wide,
    ) refl

kind_read : (more : List ℕ) → number_at w8 (to_be_bytes w8 1 ++ more) ≡ Ok (1, more)
kind_read more =
    (number_law wide8).complete 1 (to_be_bytes w8 1) more (record { may = omega arith; is = refl })

first_kind : (more : List ℕ) → message_at (to_be_bytes w8 1 ++ more) ≡ preprepare_at more
unfolding message_at body_at
first_kind more = rw (kind_read more) refl

none_in : (bytes : List ℕ) (flaw : Flaw) → message_at bytes ≡ Err flaw → message_in bytes ≡ None
unfolding decoded
none_in bytes flaw is = rw is refl

right6 : (a b c d e f : List ℕ) → a ++ b ++ c ++ d ++ e ++ f ≡ a ++ (b ++ (c ++ (d ++ (e ++ f))))
right6 a b c d e f = simp append_assoc

proposal_unread : (m : PrePrepare) → IsNumber m.config → IsNumber m.view → 2 ^ 62 ≤ m.number
    → m.number < 2 ^ 64 → message_in (message_text (wire.PrePrepare m)) ≡ None
proposal_unread m lc lv large wide =
    let body = block_text m.block ++ option_text cert_text m.cert in
    let behind = to_be_bytes w64 m.config ++ (to_be_bytes w64 m.view ++ (to_be_bytes w64 m.number ++ body)) in
    let text : message_text (wire.PrePrepare m) ≡ to_be_bytes w8 1 ++ behind =
    right6 (to_be_bytes w8 1) (to_be_bytes w64 m.config) (to_be_bytes w64 m.view) (to_be_bytes w64 m.number)
    (block_text m.block) (option_text cert_text m.cert) in
    let unread = first_kind behind ∙ preprepare_unread m.config m.view m.number body lc lv large wide in
    ap message_in text ∙ none_in (to_be_bytes w8 1 ++ behind) _ unread

-- what some bytes spell, if they spell anything, has a spelling and is no message of Raft
pub record IsHarmless (bytes : List ℕ) : Type 0 where
  pub no_raft : is_raft_if_any (message_in bytes) ≡ false
  pub spelled : (m : Message) → message_in bytes ≡ Some m → HasMessageSpelling m

unread_harmless : (bytes : List ℕ) → message_in bytes ≡ None → IsHarmless bytes
unread_harmless bytes is = record { no_raft = ap is_raft_if_any is; spelled = λ m at. absurd (cc) }

spelled_harmless : (m : Message) → is_raft_if_any (Some m) ≡ false → HasMessageSpelling m
    → IsHarmless (message_text m)
spelled_harmless m no_raft may = record {
  no_raft = ap is_raft_if_any (text_read m may) ∙ no_raft;
  spelled =
      λ n at. text_is HasMessageSpelling m n may at may;
}

-- A PROPOSAL at a place that fits
proposal_spelled : (place : Place) (v view : ℕ) (r : Request) → PlaceFits place v → IsNumber view
    → HasRequestSpelling r → IsNumber place.height → HasMessageSpelling (proposal_of place view r)
proposal_spelled place v view r fits viewed small below =
    let carried = carried_fits place v fits in
    let made = block_fits_at place v view (r ∷ []) fits viewed below (omega arith)
    (All-cons HasRequestSpelling r [] small (All-nil HasRequestSpelling)) in
    record {
      config = fits.config;
      view = viewed;
      number = below;
      block = made.spelled;
      cert =
          carried.spelled;
    }

pub proposal_harmless : (place : Place) (v view : ℕ) (r : Request) → PlaceFits place v → IsNumber view
    → HasRequestSpelling r → IsHarmless (message_text (proposal_of place view r))
proposal_harmless place v view r fits viewed small =
    elim (cases_lt place.height (2 ^ 62)) [
      | inl below ↦ spelled_harmless (proposal_of place view r) refl
          (proposal_spelled place v view r fits viewed small below)
      | inr large ↦
          let most : place.height ≤ 2 ^ 62 = fits.small in
          let m : PrePrepare = record {
            config = place.config.number;
            view = view;
            number = place.height;
            block = proposal place view (r ∷ []);
            cert = carried_cert place;
          } in
          unread_harmless (message_text (wire.PrePrepare m)) (proposal_unread m fits.config viewed large
          (omega arith))
    ]

-- VOTES for a proposal that was read
proposal_is : (m : Message) (p : PrePrepare) → proposal_in m ≡ Some p → m ≡ wire.PrePrepare p
proposal_is (wire.PrePrepare m) p is =
    let same : m ≡ p = some_same is in ap (λ (p : PrePrepare). wire.PrePrepare p) same
proposal_is (wire.Prepare m) p is = absurd (cc)
proposal_is (wire.Commit m) p is = absurd (cc)
proposal_is (wire.ViewChange m) p is = absurd (cc)
proposal_is (wire.ViewData m) p is = absurd (cc)
proposal_is (wire.NewView m) p is = absurd (cc)
proposal_is (wire.HeartBeat m) p is = absurd (cc)
proposal_is (wire.HeartBeatReply m) p is = absurd (cc)
proposal_is (wire.Forward m) p is = absurd (cc)
proposal_is (wire.BlockAsk m) p is = absurd (cc)
proposal_is (wire.BlockReply m) p is = absurd (cc)
proposal_is (wire.HeaderAsk m) p is = absurd (cc)
proposal_is (wire.HeaderReply m) p is = absurd (cc)
proposal_is (wire.RaftVote m) p is = absurd (cc)
proposal_is (wire.RaftVoteReply m) p is = absurd (cc)
proposal_is (wire.RaftAppend m) p is = absurd (cc)
proposal_is (wire.RaftAppendReply m) p is = absurd (cc)
proposal_is (wire.RaftBlock m) p is = absurd (cc)

-- it is of numbers that have a spelling
pub record IsReadProposal (m : PrePrepare) : Type 0 where
  pub config : IsNumber m.config
  pub number : IsNumber m.number

pub proposed_read : (bytes : List ℕ) (p : PrePrepare) → ((m : Message) → message_in bytes ≡ Some m
    → HasMessageSpelling m) → proposed_in bytes ≡ Some p → IsReadProposal p
proposed_read bytes p spelled is = go (message_in bytes) refl is
  where
    go : (o : Option Message) → message_in bytes ≡ o → option_and_then proposal_in o ≡ Some p
        → IsReadProposal p
    go None read at = absurd (cc)
    go (Some m) read at =
        let may : HasMessageSpelling (wire.PrePrepare p) =
        spelled (wire.PrePrepare p) (read ∙ ap (λ (m : Message). Some m) (proposal_is m p at)) in
        record { config = may.config; number = may.number }

pub prepare_harmless : (m : PrePrepare) (view : ℕ) → IsReadProposal m → IsNumber view
    → IsHarmless (message_text (prepare_for m view))
prepare_harmless m view is viewed = spelled_harmless (prepare_for m view) refl
    (record { config = is.config; view = viewed; number = is.number; digest = hash_fits m.block })

pub commit_harmless : (m : PrePrepare) (view : ℕ) (sig : Sig) → IsReadProposal m → IsNumber view
    → HasSigSpelling sig → IsHarmless (message_text (commit_for m view sig))
commit_harmless m view sig is viewed signed = spelled_harmless (commit_for m view sig) refl
    (record {
      config = is.config;
      view = viewed;
      number = is.number;
      digest = hash_fits m.block;
      sig =
          signed;
    })
