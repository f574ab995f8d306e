-- The laws of the values' readings.
use Rattle.std.proofs.Common.{◌≡◌, ℕ, ◌+◌, ◌^◌, ◌<◌, ◌≤◌, Bool, true, false, cond, not, List, [], ◌∷◌, ◌++◌, length, Option, Some, None, Err, refl, sym, ap, subst, ◌∙◌, append_assoc, arith}
use Rattle.std.specs.Prelude.{nat_lt, nat_le, ◌==◌, ◌&&◌, IfSome}
use Rattle.std.specs.Int.{w8, w16, w32, w64, to_be_bytes}
use Rattle.std.specs.List.{AllByRecursion, flat_map}
use Rattle.std.proofs.lemmas.Bool.{ltb-true, lt-ltb, leb-true, le-leb, eqb-true}
use Rattle.ord_types.specs.Members.{is_in}
use Rattle.ord_types.specs.Spelling.{Cert, Kind, Mode, Proof, ReqKind, Request, Sig, Vote, batch_text, block_text, cert_text, config_text, header_text, ids_text, kind_number, last_text, meta_text, mode_number, option_text, proof_text, report_text, request_kind_number, request_text, requests_text, sig_text, vote_text}
use Rattle.ord_types.specs.Grammar.{AreSigs, AreVotes, Ascend, Differ, HasBatchSpelling, HasBlockSpelling, HasCertSpelling, HasConfigSpelling, HasHeaderSpelling, HasIdsSpelling, HasLastSpelling, HasMetaSpelling, HasOrderSpelling, HasProofSpelling, HasReportSpelling, HasRequestSpelling, HasRequestsSpelling, HasSigSpelling, HasVoteSpelling, IsDigest, IsNumber, IsWord}
use Rattle.ord_types.specs.Reading.{ascending_at, batch_at, below_at, block_at, cert_at, config_at, count_at, digest_at, header_at, ids_at, kind_meant, last_at, meant_at, meta_at, mode_meant, number_at, order_at, proof_at, proof_of_cert, report_at, request_at, request_kind_meant, requests_at, sig_at, sig_from_at, sigs_at, tested_at, vote_at, vote_below_at, votes_at}
use Rattle.ord_types.specs.declared.values.Kind.TheVariants.{Raft, Bft}
use Rattle.ord_types.specs.declared.values.Mode.TheVariants.{Normal, Maintenance}
use Rattle.ord_types.specs.declared.values.Proof.TheVariants as proof_of
use Rattle.ord_types.specs.declared.values.ReqKind.TheVariants.{Ordinary, Change}
use Rattle.ord_types.specs.declared.fault.Flaw.TheVariants.{Short}
use Rattle.ord_types.proofs.Loops.{ascending_loop, differing_loop, list_loop, sigs_loop, votes_loop}
use Rattle.ord_types.proofs.Laws.{AllFrom, Ends, Law, SoMany, Spelled, bytes_law, last, many_law, meant_law, number_law, option_law, said_as, step, tested_law, wide8, wide16, wide32, wide64}

-- FIELDS

pub word_law : Law (number_at w32) (Spelled IsWord (to_be_bytes w32))
word_law = number_law wide32

pub below_law : Law below_at (Spelled IsNumber (to_be_bytes w64))
below_law = tested_law wide64 (λ n. nat_lt n (2 ^ 62)) IsNumber (λ n lt e. ltb-true n (2 ^ 62) e) (λ n lt. (omega arith, lt-ltb n (2 ^ 62) lt))

pub digest_law : Law digest_at (Spelled IsDigest (λ d. d))
digest_law = bytes_law 32

pub count8_law : (most : ℕ) → most < 2 ^ 8 → Law (count_at w8 most) (Spelled (λ n. n ≤ most) (to_be_bytes w8))
count8_law most small = tested_law wide8 (λ n. nat_le n most) (λ n. n ≤ most) (λ n lt e. leb-true n most e) (λ n le. (omega arith, le-leb n most le))

pub count16_law : (most : ℕ) → most < 2 ^ 16 → Law (count_at w16 most) (Spelled (λ n. n ≤ most) (to_be_bytes w16))
count16_law most small = tested_law wide16 (λ n. nat_le n most) (λ n. n ≤ most) (λ n lt e. leb-true n most e) (λ n le. (omega arith, le-leb n most le))

pub count32_law : (most : ℕ) → most < 2 ^ 32 → Law (count_at w32 most) (Spelled (λ n. n ≤ most) (to_be_bytes w32))
count32_law most small = tested_law wide32 (λ n. nat_le n most) (λ n. n ≤ most) (λ n lt e. leb-true n most e) (λ n le. (omega arith, le-leb n most le))

both_true : (a b : Bool) → (a && b) ≡ true → (a ≡ true) × (b ≡ true)
both_true true true e = (refl, refl)
both_true true false e = absurd cc
both_true false b e = absurd cc

true_both : (a b : Bool) → a ≡ true → b ≡ true → (a && b) ≡ true
true_both a b e f = rw (e, f) refl

-- IDS

-- the least one or above it
abbrev pub IsFrom : ℕ → ℕ → Type 0
IsFrom least id = (least ≤ id) × IsWord id

id_from_law : (least : ℕ) → Law (tested_at w32 (λ id. nat_le least id)) (Spelled (IsFrom least) (to_be_bytes w32))
id_from_law least = tested_law wide32 (λ id. nat_le least id) (IsFrom least) (λ n lt e. (leb-true least n e, lt)) (λ n h. (h.1, le-leb least n h.0))

ascend_words : (least : ℕ) (ids : List ℕ) → AllFrom IsFrom (λ least id. id + 1) least ids → Ascend least ids × AllByRecursion IsWord ids
ascend_words least [] h = (tt, tt)
ascend_words least (id ∷ ids) h = let k = ascend_words (id + 1) ids h.1 in ((h.0.0, k.0), (h.0.1, k.1))

words_ascend : (least : ℕ) (ids : List ℕ) → Ascend least ids → AllByRecursion IsWord ids → AllFrom IsFrom (λ least id. id + 1) least ids
words_ascend least [] h k = tt
words_ascend least (id ∷ ids) h k = ((h.0, k.0), words_ascend (id + 1) ids h.1 k.1)

pub ascending_law : (n least : ℕ) → Law (ascending_at least n) (Spelled (SoMany IsFrom (λ least id. id + 1) least n) (flat_map (λ id. to_be_bytes w32 id)))
ascending_law n least = many_law IsFrom (λ least id. id + 1) (λ id. to_be_bytes w32 id) ascending_loop id_from_law n least

-- so many ids at least
pub record HasIdsFrom (fewest : ℕ) (ids : List ℕ) : Type 0 where
  pub spelling : HasIdsSpelling ids
  pub enough : fewest ≤ length ids

pub ids_law : (fewest : ℕ) → Law (ids_at fewest) (Spelled (HasIdsFrom fewest) ids_text)
unfolding ids_at
ids_law fewest =
    said_as
    (λ ids t h.
    let k = ascend_words 1 ids h.more.may.1 in
    record {
      may = record { spelling = record { count = omega (arith, h.more.may.0, h.may.1); ascending = k.0; words = k.1 }; enough = omega (arith, h.more.may.0, h.may.0) };
      is = h.is ∙ ap (λ u. to_be_bytes w8 h.first ++ u) h.more.is ∙ ap (λ n. to_be_bytes w8 n ++ flat_map (λ id. to_be_bytes w32 id) ids) (sym h.more.may.0);
    })
    (λ ids t h.
    record {
      first = length ids;
      behind = flat_map (λ id. to_be_bytes w32 id) ids;
      may = (h.may.enough, h.may.spelling.count);
      more = record { may = (refl, words_ascend 1 ids h.may.spelling.ascending h.may.spelling.words); is = refl };
      is = h.is;
    })
    (step (tested_law wide8 (λ n. nat_le fewest n && nat_le n 31) (λ n. (fewest ≤ n) × (n ≤ 31))
    (λ n lt e. let b = both_true (nat_le fewest n) (nat_le n 31) e in (leb-true fewest n b.0, leb-true n 31 b.1))
    (λ n h. (omega (arith, h.1), true_both (nat_le fewest n) (nat_le n 31) (le-leb fewest n h.0) (le-leb n 31 h.1))))
    (λ n. ascending_law n 1))

-- not seen yet
abbrev pub IsNew : List ℕ → ℕ → Type 0
IsNew seen id = (1 ≤ id) × (is_in id seen ≡ false) × IsWord id

not_false : (b : Bool) → not b ≡ true → b ≡ false
not_false true e = absurd cc
not_false false e = refl

new_id_law : (seen : List ℕ) → Law (tested_at w32 (λ id. nat_le 1 id && not (is_in id seen))) (Spelled (IsNew seen) (to_be_bytes w32))
new_id_law seen =
    tested_law wide32 (λ id. nat_le 1 id && not (is_in id seen)) (IsNew seen)
    (λ n lt e. let b = both_true (nat_le 1 n) (not (is_in n seen)) e in (leb-true 1 n b.0, not_false (is_in n seen) b.1, lt))
    (λ n h. (h.2, true_both (nat_le 1 n) (not (is_in n seen)) (le-leb 1 n h.0) (ap not h.1)))

abbrev with_id : List ℕ → ℕ → List ℕ
with_id seen id = seen ++ id ∷ []

differ_words : (seen ids : List ℕ) → AllFrom IsNew with_id seen ids → Differ seen ids × AllByRecursion IsWord ids
differ_words seen [] h = (tt, tt)
differ_words seen (id ∷ ids) h = let k = differ_words (seen ++ id ∷ []) ids h.1 in ((h.0.0, h.0.1, k.0), (h.0.2, k.1))

words_differ : (seen ids : List ℕ) → Differ seen ids → AllByRecursion IsWord ids → AllFrom IsNew with_id seen ids
words_differ seen [] h k = tt
words_differ seen (id ∷ ids) h k = ((h.0, h.1, k.0), words_differ (seen ++ id ∷ []) ids h.2 k.1)

pub order_law : Law order_at (Spelled HasOrderSpelling ids_text)
unfolding order_at
order_law =
    said_as
    (λ ids t h.
    let k = differ_words [] ids h.more.may.1 in
    record {
      may = record { count = omega (arith, h.more.may.0, h.may); different = k.0; words = k.1 };
      is = h.is ∙ ap (λ u. to_be_bytes w8 h.first ++ u) h.more.is ∙ ap (λ n. to_be_bytes w8 n ++ flat_map (λ id. to_be_bytes w32 id) ids) (sym h.more.may.0);
    })
    (λ ids t h.
    record {
      first = length ids;
      behind = flat_map (λ id. to_be_bytes w32 id) ids;
      may = h.may.count;
      more = record { may = (refl, words_differ [] ids h.may.different h.may.words); is = refl };
      is = h.is;
    })
    (step (count8_law 31 (omega arith)) (λ n. many_law IsNew with_id (λ id. to_be_bytes w32 id) differing_loop new_id_law n []))

-- CONFIGURATIONS

pub batch_law : Law batch_at (Spelled HasBatchSpelling batch_text)
unfolding batch_at
batch_law =
    said_as
    (λ b t h.
    let e = h.more.more.more.whole in
    record {
      may = subst HasBatchSpelling (sym e) (record { count = h.may; preferred = h.more.may; absolute = h.more.more.may; wait = h.more.more.more.may });
      is = rw e cc;
    })
    (λ b t h.
    record {
      first = b.count;
      behind = to_be_bytes w32 b.preferred ++ to_be_bytes w32 b.absolute ++ to_be_bytes w32 b.wait;
      may = h.may.count;
      is = h.is;
      more = record {
        first = b.preferred;
        behind = to_be_bytes w32 b.absolute ++ to_be_bytes w32 b.wait;
        may = h.may.preferred;
        is = refl;
        more = record {
          first = b.absolute;
          behind = to_be_bytes w32 b.wait;
          may = h.may.absolute;
          is = refl;
          more = record { last = b.wait; may = h.may.wait; is = refl; whole = refl };
        };
      };
    })
    (step word_law (λ count. step word_law (λ preferred. step word_law (λ absolute. last (λ wait. record { count = count; preferred = preferred; absolute = absolute; wait = wait }) word_law))))

-- GROUPED TO THE RIGHT

right3 : (a b c : List ℕ) → a ++ b ++ c ≡ a ++ (b ++ c)
right3 a b c = simp append_assoc

right4 : (a b c d : List ℕ) → a ++ b ++ c ++ d ≡ a ++ (b ++ (c ++ d))
right4 a b c d = simp append_assoc

right5 : (a b c d e : List ℕ) → a ++ b ++ c ++ d ++ e ≡ a ++ (b ++ (c ++ (d ++ e)))
right5 a b c d e = simp append_assoc

right7 : (a b c d e f g : List ℕ) → a ++ b ++ c ++ d ++ e ++ f ++ g ≡ a ++ (b ++ (c ++ (d ++ (e ++ (f ++ g)))))
right7 a b c d e f g = simp append_assoc

form_law : Law (tested_at w8 (λ n. n == 1)) (Spelled (λ n. n ≡ 1) (to_be_bytes w8))
form_law = tested_law wide8 (λ n. n == 1) (λ n. n ≡ 1) (λ n lt e. eqb-true n 1 e) (λ n e. (omega arith, rw e refl))

known_kind : (a b : Bool) (k : Kind) → (n : ℕ) → n == 1 ≡ a → n == 2 ≡ b → cond a (Some Raft) (cond b (Some Bft) None) ≡ Some k → kind_number k ≡ n
known_kind true b Raft n p q e = sym (eqb-true n 1 p)
known_kind true b Bft n p q e = absurd cc
known_kind false true Raft n p q e = absurd cc
known_kind false true Bft n p q e = sym (eqb-true n 2 q)
known_kind false false k n p q e = absurd cc

kind_again : (k : Kind) → (kind_number k < 2 ^ 8) × (kind_meant (kind_number k) ≡ Some k)
kind_again Raft = (omega arith, refl)
kind_again Bft = (omega arith, refl)

pub kind_law : Law (meant_at w8 kind_meant) (Spelled (λ k. Unit {0}) (λ k. to_be_bytes w8 (kind_number k)))
kind_law = meant_law wide8 kind_meant (λ k. Unit {0}) kind_number (λ n k lt e. (tt, known_kind (n == 1) (n == 2) k n refl refl e)) (λ k h. kind_again k)

known_mode : (a b : Bool) (m : Mode) → (n : ℕ) → n == 0 ≡ a → n == 1 ≡ b → cond a (Some Normal) (cond b (Some Maintenance) None) ≡ Some m → mode_number m ≡ n
known_mode true b Normal n p q e = sym (eqb-true n 0 p)
known_mode true b Maintenance n p q e = absurd cc
known_mode false true Normal n p q e = absurd cc
known_mode false true Maintenance n p q e = sym (eqb-true n 1 q)
known_mode false false m n p q e = absurd cc

mode_again : (m : Mode) → (mode_number m < 2 ^ 8) × (mode_meant (mode_number m) ≡ Some m)
mode_again Normal = (omega arith, refl)
mode_again Maintenance = (omega arith, refl)

pub mode_law : Law (meant_at w8 mode_meant) (Spelled (λ m. Unit {0}) (λ m. to_be_bytes w8 (mode_number m)))
mode_law = meant_law wide8 mode_meant (λ m. Unit {0}) mode_number (λ n m lt e. (tt, known_mode (n == 0) (n == 1) m n refl refl e)) (λ m h. mode_again m)

pub config_law : Law config_at (Spelled HasConfigSpelling config_text)
unfolding config_at
config_law =
    said_as
    (λ c t h.
    let e = h.more.more.more.more.more.more.whole in
    record {
      may = subst HasConfigSpelling (sym e) (record { number = h.more.may; members = h.more.more.more.more.may.spelling; some_member = h.more.more.more.more.may.enough; batch = h.more.more.more.more.more.may; rotation = h.more.more.more.more.more.more.may });
      is = h.is ∙ ap (λ n. to_be_bytes w8 n ++ h.behind) h.may ∙ ap (λ u. to_be_bytes w8 1 ++ u) (h.more.is ∙ ap (λ u. to_be_bytes w64 h.more.first ++ u) (h.more.more.is ∙ ap (λ u. to_be_bytes w8 (kind_number h.more.more.first) ++ u) (h.more.more.more.is ∙ ap (λ u. to_be_bytes w8 (mode_number h.more.more.more.first) ++ u) (h.more.more.more.more.is ∙ ap (λ u. ids_text h.more.more.more.more.first ++ u) (h.more.more.more.more.more.is ∙ ap (λ u. batch_text h.more.more.more.more.more.first ++ u) (h.more.more.more.more.more.more.is)))))) ∙ sym (right7 (to_be_bytes w8 1) (to_be_bytes w64 h.more.first) (to_be_bytes w8 (kind_number h.more.more.first)) (to_be_bytes w8 (mode_number h.more.more.more.first)) (ids_text h.more.more.more.more.first) (batch_text h.more.more.more.more.more.first) (to_be_bytes w32 h.more.more.more.more.more.more.last)) ∙ ap config_text (sym e);
    })
    (λ c t h.
    record {
      first = 1;
      behind = to_be_bytes w64 c.number ++ (to_be_bytes w8 (kind_number c.kind) ++ (to_be_bytes w8 (mode_number c.mode) ++ (ids_text c.members ++ (batch_text c.batch ++ to_be_bytes w32 c.rotation))));
      may = refl;
      is = h.is ∙ right7 (to_be_bytes w8 1) (to_be_bytes w64 c.number) (to_be_bytes w8 (kind_number c.kind)) (to_be_bytes w8 (mode_number c.mode)) (ids_text c.members) (batch_text c.batch) (to_be_bytes w32 c.rotation);
      more = record {
        first = c.number;
        behind = to_be_bytes w8 (kind_number c.kind) ++ (to_be_bytes w8 (mode_number c.mode) ++ (ids_text c.members ++ (batch_text c.batch ++ to_be_bytes w32 c.rotation)));
        may = h.may.number;
        is = refl;
        more = record {
          first = c.kind;
          behind = to_be_bytes w8 (mode_number c.mode) ++ (ids_text c.members ++ (batch_text c.batch ++ to_be_bytes w32 c.rotation));
          may = tt;
          is = refl;
          more = record {
            first = c.mode;
            behind = ids_text c.members ++ (batch_text c.batch ++ to_be_bytes w32 c.rotation);
            may = tt;
            is = refl;
            more = record {
              first = c.members;
              behind = batch_text c.batch ++ to_be_bytes w32 c.rotation;
              may = record { spelling = h.may.members; enough = h.may.some_member };
              is = refl;
              more = record {
                first = c.batch;
                behind = to_be_bytes w32 c.rotation;
                may = h.may.batch;
                is = refl;
                more = record { last = c.rotation; may = h.may.rotation; is = refl; whole = refl };
              };
            };
          };
        };
      };
    })
    (step form_law (λ form. step below_law (λ number. step kind_law (λ kind. step mode_law (λ mode. step (ids_law 1) (λ members. step batch_law (λ batch. last (λ rotation. record { number = number; kind = kind; mode = mode; members = members; batch = batch; rotation = rotation }) word_law)))))))

-- SIGNATURES

pub record HasSigFrom (least : ℕ) (s : Sig) : Type 0 where
  pub above : least ≤ s.signer
  pub spelling : HasSigSpelling s

pub sig_from_law : (least : ℕ) → Law (sig_from_at least) (Spelled (HasSigFrom least) sig_text)
unfolding sig_from_at
sig_from_law least =
    said_as
    (λ s t h.
    let e = h.more.more.whole in
    record { may = subst (HasSigFrom least) (sym e) (record { above = h.may.0; spelling = record { signer = h.may.1; size = omega (arith, h.more.may, h.more.more.may) } }); is = rw e (cc h.more.more.may) })
    (λ s t h.
    record {
      first = s.signer;
      behind = to_be_bytes w16 (length s.bytes) ++ s.bytes;
      may = (h.may.above, h.may.spelling.signer);
      is = h.is;
      more = record {
        first = (length s.bytes);
        behind = s.bytes;
        may = h.may.spelling.size;
        is = refl;
        more = record { last = s.bytes; may = refl; is = refl; whole = refl };
      };
    })
    (step (id_from_law least) (λ signer. step (count16_law 2048 (omega arith)) (λ size. last (λ bytes. record { signer = signer; bytes = bytes }) (bytes_law size))))

pub sig_law : Law sig_at (Spelled HasSigSpelling sig_text)
sig_law = said_as (λ s t h. record { may = h.may.spelling; is = h.is }) (λ s t h. record { may = record { above = omega arith; spelling = h.may }; is = h.is }) (sig_from_law 0)

abbrev behind_signer : ℕ → Sig → ℕ
behind_signer least s = s.signer + 1

are_sigs : (least : ℕ) (sigs : List Sig) → AllFrom HasSigFrom behind_signer least sigs → AreSigs least sigs
are_sigs least [] h = tt
are_sigs least (s ∷ sigs) h = (h.0.above, h.0.spelling, are_sigs (s.signer + 1) sigs h.1)

sigs_are : (least : ℕ) (sigs : List Sig) → AreSigs least sigs → AllFrom HasSigFrom behind_signer least sigs
sigs_are least [] h = tt
sigs_are least (s ∷ sigs) h = (record { above = h.0; spelling = h.1 }, sigs_are (s.signer + 1) sigs h.2)

pub sigs_law : (n least : ℕ) → Law (sigs_at least n) (Spelled (SoMany HasSigFrom behind_signer least n) (flat_map sig_text))
sigs_law n least = many_law HasSigFrom behind_signer sig_text sigs_loop sig_from_law n least

pub cert_law : Law cert_at (Spelled HasCertSpelling cert_text)
unfolding cert_at
cert_law =
    said_as
    (λ c t h.
    let e = h.more.more.whole in
    record { may = subst HasCertSpelling (sym e) (record { view = h.may; count = omega (arith, h.more.may, h.more.more.may.0); sigs = are_sigs 0 h.more.more.last h.more.more.may.1 }); is = rw e (cc h.more.more.may.0) })
    (λ c t h.
    record {
      first = c.view;
      behind = to_be_bytes w8 (length c.sigs) ++ flat_map sig_text c.sigs;
      may = h.may.view;
      is = h.is;
      more = record {
        first = (length c.sigs);
        behind = flat_map sig_text c.sigs;
        may = h.may.count;
        is = refl;
        more = record { last = c.sigs; may = (refl, sigs_are 0 c.sigs h.may.sigs); is = refl; whole = refl };
      };
    })
    (step below_law (λ view. step (count8_law 31 (omega arith)) (λ count. last (λ sigs. record { view = view; sigs = sigs }) (sigs_law count 0))))

-- REQUESTS

known_request_kind : (a b : Bool) (k : ReqKind) → (n : ℕ) → n == 1 ≡ a → n == 2 ≡ b → cond a (Some Ordinary) (cond b (Some Change) None) ≡ Some k → request_kind_number k ≡ n
known_request_kind true b Ordinary n p q e = sym (eqb-true n 1 p)
known_request_kind true b Change n p q e = absurd cc
known_request_kind false true Ordinary n p q e = absurd cc
known_request_kind false true Change n p q e = sym (eqb-true n 2 q)
known_request_kind false false k n p q e = absurd cc

request_kind_again : (k : ReqKind) → (request_kind_number k < 2 ^ 8) × (request_kind_meant (request_kind_number k) ≡ Some k)
request_kind_again Ordinary = (omega arith, refl)
request_kind_again Change = (omega arith, refl)

pub request_kind_law : Law (meant_at w8 request_kind_meant) (Spelled (λ k. Unit {0}) (λ k. to_be_bytes w8 (request_kind_number k)))
request_kind_law =
    meant_law wide8 request_kind_meant (λ k. Unit {0}) request_kind_number (λ n k lt e. (tt, known_request_kind (n == 1) (n == 2) k n refl refl e)) (λ k h. request_kind_again k)

pub request_law : Law request_at (Spelled HasRequestSpelling request_text)
unfolding request_at
request_law =
    said_as
    (λ r t h.
    let e = h.more.more.more.more.whole in
    record { may = subst HasRequestSpelling (sym e) (record { client = h.more.may; serial = h.more.more.may; size = omega (arith, h.more.more.more.may, h.more.more.more.more.may) }); is = rw e (cc h.more.more.more.more.may) })
    (λ r t h.
    record {
      first = r.kind;
      behind = to_be_bytes w32 r.id.client ++ to_be_bytes w64 r.id.serial ++ to_be_bytes w32 (length r.payload) ++ r.payload;
      may = tt;
      is = h.is;
      more = record {
        first = r.id.client;
        behind = to_be_bytes w64 r.id.serial ++ to_be_bytes w32 (length r.payload) ++ r.payload;
        may = h.may.client;
        is = refl;
        more = record {
          first = r.id.serial;
          behind = to_be_bytes w32 (length r.payload) ++ r.payload;
          may = h.may.serial;
          is = refl;
          more = record {
            first = (length r.payload);
            behind = r.payload;
            may = h.may.size;
            is = refl;
            more = record { last = r.payload; may = refl; is = refl; whole = refl };
          };
        };
      };
    })
    (step request_kind_law (λ kind. step word_law (λ client. step (number_law wide64) (λ serial. step (count32_law 65536 (omega arith)) (λ size. last (λ payload. record { kind = kind; id = record { client = client; serial = serial }; payload = payload }) (bytes_law size))))))

abbrev same_state : {X : Type 0} → Unit {0} → X → Unit {0}
same_state s x = tt

each_request : (rs : List Request) → AllFrom (λ (s : Unit {0}). HasRequestSpelling) same_state tt rs → AllByRecursion HasRequestSpelling rs
each_request [] h = tt
each_request (r ∷ rs) h = (h.0, each_request rs h.1)

request_each : (rs : List Request) → AllByRecursion HasRequestSpelling rs → AllFrom (λ (s : Unit {0}). HasRequestSpelling) same_state tt rs
request_each [] h = tt
request_each (r ∷ rs) h = (h.0, request_each rs h.1)

pub requests_law : Law requests_at (Spelled HasRequestsSpelling requests_text)
unfolding requests_at
requests_law =
    said_as
    (λ rs t h.
    record {
      may = record { count = omega (arith, h.more.may.0, h.may); requests = each_request rs h.more.may.1 };
      is = h.is ∙ ap (λ u. to_be_bytes w32 h.first ++ u) h.more.is ∙ ap (λ n. to_be_bytes w32 n ++ flat_map request_text rs) (sym h.more.may.0);
    })
    (λ rs t h.
    record {
      first = length rs;
      behind = flat_map request_text rs;
      may = h.may.count;
      more = record { may = (refl, request_each rs h.may.requests); is = refl };
      is = h.is;
    })
    (step (count32_law 1000 (omega arith)) (λ n. many_law (λ (s : Unit {0}). HasRequestSpelling) same_state request_text (list_loop request_at) (λ s. request_law) n tt))

-- BLOCKS

pub meta_law : Law meta_at (Spelled HasMetaSpelling meta_text)
unfolding meta_at
meta_law =
    said_as
    (λ m t h.
    let e = h.more.more.more.more.whole in
    record { may = subst HasMetaSpelling (sym e) (record { config = h.may; view = h.more.may; decided = h.more.more.may; blacklist = h.more.more.more.may; signers = h.more.more.more.more.may.spelling }); is = rw e cc })
    (λ m t h.
    record {
      first = m.config;
      behind = to_be_bytes w64 m.view ++ to_be_bytes w64 m.decided ++ ids_text m.blacklist ++ ids_text m.signers;
      may = h.may.config;
      is = h.is;
      more = record {
        first = m.view;
        behind = to_be_bytes w64 m.decided ++ ids_text m.blacklist ++ ids_text m.signers;
        may = h.may.view;
        is = refl;
        more = record {
          first = m.decided;
          behind = ids_text m.blacklist ++ ids_text m.signers;
          may = h.may.decided;
          is = refl;
          more = record {
            first = m.blacklist;
            behind = ids_text m.signers;
            may = h.may.blacklist;
            is = refl;
            more = record { last = m.signers; may = record { spelling = h.may.signers; enough = omega arith }; is = refl; whole = refl };
          };
        };
      };
    })
    (step below_law (λ config. step below_law (λ view. step below_law (λ decided. step order_law (λ blacklist. last (λ signers. record { config = config; view = view; decided = decided; blacklist = blacklist; signers = signers }) (ids_law 0))))))

pub header_law : Law header_at (Spelled HasHeaderSpelling header_text)
unfolding header_at
header_law =
    said_as
    (λ x t h.
    let e = h.more.more.more.whole in
    record {
      may = subst HasHeaderSpelling (sym e) (record { number = h.may; previous = h.more.may; content = h.more.more.may; meta = h.more.more.more.may });
      is = h.is ∙ ap (λ u. to_be_bytes w64 h.first ++ u) (h.more.is ∙ ap (λ u. h.more.first ++ u) (h.more.more.is ∙ ap (λ u. h.more.more.first ++ u) (h.more.more.more.is))) ∙ sym (right4 (to_be_bytes w64 h.first) (h.more.first) (h.more.more.first) (h.more.more.more.last)) ∙ ap header_text (sym e);
    })
    (λ x t h.
    record {
      first = x.number;
      behind = x.previous ++ (x.content ++ x.meta);
      may = h.may.number;
      is = h.is ∙ right4 (to_be_bytes w64 x.number) (x.previous) (x.content) (x.meta);
      more = record {
        first = x.previous;
        behind = x.content ++ x.meta;
        may = h.may.previous;
        is = refl;
        more = record {
          first = x.content;
          behind = x.meta;
          may = h.may.content;
          is = refl;
          more = record { last = x.meta; may = h.may.meta; is = refl; whole = refl };
        };
      };
    })
    (step below_law (λ number. step digest_law (λ previous. step digest_law (λ content. last (λ meta. record { number = number; previous = previous; content = content; meta = meta }) digest_law))))

pub block_law : Law block_at (Spelled HasBlockSpelling block_text)
unfolding block_at
block_law =
    said_as
    (λ b t h.
    let e = h.more.more.whole in
    record {
      may = subst HasBlockSpelling (sym e) (record { header = h.may; requests = h.more.may; meta = h.more.more.may });
      is = h.is ∙ ap (λ u. header_text h.first ++ u) (h.more.is ∙ ap (λ u. requests_text h.more.first ++ u) (h.more.more.is)) ∙ sym (right3 (header_text h.first) (requests_text h.more.first) (meta_text h.more.more.last)) ∙ ap block_text (sym e);
    })
    (λ b t h.
    record {
      first = b.header;
      behind = requests_text b.requests ++ meta_text b.meta;
      may = h.may.header;
      is = h.is ∙ right3 (header_text b.header) (requests_text b.requests) (meta_text b.meta);
      more = record {
        first = b.requests;
        behind = meta_text b.meta;
        may = h.may.requests;
        is = refl;
        more = record { last = b.meta; may = h.may.meta; is = refl; whole = refl };
      };
    })
    (step header_law (λ header. step requests_law (λ requests. last (λ meta. record { header = header; requests = requests; meta = meta }) meta_law)))

-- REPORTS

-- a vote below the limit
pub record HasVoteBelow (limit : ℕ) (v : Vote) : Type 0 where
  pub below : v.view < limit
  pub small : v.view < 2 ^ 64
  pub digest : IsDigest v.digest

view_below_law : (limit : ℕ) → Law (tested_at w64 (λ n. nat_lt n limit)) (Spelled (λ n. (n < limit) × (n < 2 ^ 64)) (to_be_bytes w64))
view_below_law limit = tested_law wide64 (λ n. nat_lt n limit) (λ n. (n < limit) × (n < 2 ^ 64)) (λ n lt e. (ltb-true n limit e, lt)) (λ n h. (h.1, lt-ltb n limit h.0))

pub vote_below_law : (limit : ℕ) → Law (vote_below_at limit) (Spelled (HasVoteBelow limit) vote_text)
unfolding vote_below_at
vote_below_law limit =
    said_as
    (λ v t h.
    let e = h.more.whole in
    record { may = subst (HasVoteBelow limit) (sym e) (record { below = h.may.0; small = h.may.1; digest = h.more.may }); is = rw e cc })
    (λ v t h.
    record {
      first = v.view;
      behind = v.digest;
      may = (h.may.below, h.may.small);
      is = h.is;
      more = record { last = v.digest; may = h.may.digest; is = refl; whole = refl };
    })
    (step (view_below_law limit) (λ view. last (λ digest. record { view = view; digest = digest }) digest_law))

pub vote_law : Law vote_at (Spelled HasVoteSpelling vote_text)
vote_law =
    said_as (λ v t h. record { may = record { view = h.may.below; digest = h.may.digest }; is = h.is })
    (λ v t h. record { may = record { below = h.may.view; small = omega (arith, h.may.view); digest = h.may.digest }; is = h.is }) (vote_below_law (2 ^ 62))

abbrev its_view : ℕ → Vote → ℕ
its_view limit v = v.view

are_votes : (limit : ℕ) (votes : List Vote) → AllFrom HasVoteBelow its_view limit votes → AreVotes limit votes
are_votes limit [] h = tt
are_votes limit (v ∷ votes) h = (h.0.below, h.0.digest, are_votes v.view votes h.1)

votes_are : (limit : ℕ) (votes : List Vote) → limit ≤ 2 ^ 62 → AreVotes limit votes → AllFrom HasVoteBelow its_view limit votes
votes_are limit [] le h = tt
votes_are limit (v ∷ votes) le h = (record { below = h.0; small = omega (arith, h.0); digest = h.1 }, votes_are v.view votes (omega (arith, h.0)) h.2)

pub votes_law : (n limit : ℕ) → Law (votes_at limit n) (Spelled (SoMany HasVoteBelow its_view limit n) (flat_map vote_text))
votes_law n limit = many_law HasVoteBelow its_view vote_text votes_loop vote_below_law n limit

pub last_law : Law last_at (Spelled HasLastSpelling last_text)
unfolding last_at
last_law =
    said_as
    (λ l t h.
    let e = h.more.whole in
    record { may = subst HasLastSpelling (sym e) (record { hash = h.may; cert = h.more.may }); is = rw e cc })
    (λ l t h.
    record {
      first = l.hash;
      behind = cert_text l.cert;
      may = h.may.hash;
      is = h.is;
      more = record { last = l.cert; may = h.may.cert; is = refl; whole = refl };
    })
    (step digest_law (λ hash. last (λ cert. record { hash = hash; cert = cert }) cert_law))

pub report_law : Law report_at (Spelled HasReportSpelling report_text)
unfolding report_at
report_law =
    said_as
    (λ r t h.
    let e = h.more.more.more.more.whole in
    record {
      may = subst HasReportSpelling (sym e) (record { height = h.may; last = h.more.may; prepared = h.more.more.may; count = omega (arith, h.more.more.more.may, h.more.more.more.more.may.0); accepted = are_votes (2 ^ 62) h.more.more.more.more.last h.more.more.more.more.may.1 });
      is = h.is ∙ ap (λ u. to_be_bytes w64 h.first ++ u) (h.more.is ∙ ap (λ u. option_text last_text h.more.first ++ u) (h.more.more.is ∙ ap (λ u. option_text vote_text h.more.more.first ++ u) (h.more.more.more.is ∙ ap (λ n. to_be_bytes w8 n ++ h.more.more.more.behind) (sym h.more.more.more.more.may.0) ∙ ap (λ u. to_be_bytes w8 (length h.more.more.more.more.last) ++ u) (h.more.more.more.more.is)))) ∙ sym (right5 (to_be_bytes w64 h.first) (option_text last_text h.more.first) (option_text vote_text h.more.more.first) (to_be_bytes w8 (length h.more.more.more.more.last)) (flat_map vote_text h.more.more.more.more.last)) ∙ ap report_text (sym e);
    })
    (λ r t h.
    record {
      first = r.height;
      behind = option_text last_text r.last ++ (option_text vote_text r.prepared ++ (to_be_bytes w8 (length r.accepted) ++ flat_map vote_text r.accepted));
      may = h.may.height;
      is = h.is ∙ right5 (to_be_bytes w64 r.height) (option_text last_text r.last) (option_text vote_text r.prepared) (to_be_bytes w8 (length r.accepted)) (flat_map vote_text r.accepted);
      more = record {
        first = r.last;
        behind = option_text vote_text r.prepared ++ (to_be_bytes w8 (length r.accepted) ++ flat_map vote_text r.accepted);
        may = h.may.last;
        is = refl;
        more = record {
          first = r.prepared;
          behind = to_be_bytes w8 (length r.accepted) ++ flat_map vote_text r.accepted;
          may = h.may.prepared;
          is = refl;
          more = record {
            first = (length r.accepted);
            behind = flat_map vote_text r.accepted;
            may = h.may.count;
            is = refl;
            more = record { last = r.accepted; may = (refl, votes_are (2 ^ 62) r.accepted (omega arith) h.may.accepted); is = refl; whole = refl };
          };
        };
      };
    })
    (step below_law (λ height. step (option_law HasLastSpelling last_text last_law) (λ last_block. step (option_law HasVoteSpelling vote_text vote_law) (λ prepared. step (count8_law 32 (omega arith)) (λ count. last (λ accepted. record { height = height; last = last_block; prepared = prepared; accepted = accepted }) (votes_law count (2 ^ 62)))))))

proof_of_last : (p : Proof) (o : Option Cert) (t : List ℕ) → IfSome o HasCertSpelling → t ≡ option_text cert_text o → p ≡ proof_of_cert o → Spelled HasProofSpelling proof_text p t
proof_of_last p None t h is e = record { may = subst HasProofSpelling (sym e) tt; is = is ∙ ap proof_text (sym e) }
proof_of_last p (Some c) t h is e = record { may = subst HasProofSpelling (sym e) h; is = is ∙ ap proof_text (sym e) }

last_of_proof : (p : Proof) (t : List ℕ) → Spelled HasProofSpelling proof_text p t → Ends (λ o. IfSome o HasCertSpelling) (option_text cert_text) proof_of_cert p t
last_of_proof proof_of.Raft t h = record { last = None; may = tt; is = h.is; whole = refl }
last_of_proof (proof_of.Bft c) t h = record { last = Some c; may = h.may; is = h.is; whole = refl }

pub proof_law : Law proof_at (Spelled HasProofSpelling proof_text)
unfolding proof_at
proof_law = said_as (λ p t h. proof_of_last p h.last t h.may h.is h.whole) last_of_proof (last proof_of_cert (option_law HasCertSpelling cert_text cert_law))

-- NOTHING IS READ OF NO BYTES

pub no_config : config_at [] ≡ Err Short
unfolding config_at
no_config = refl

pub no_request : request_at [] ≡ Err Short
unfolding request_at
no_request = refl

pub no_meta : meta_at [] ≡ Err Short
unfolding meta_at
no_meta = refl

pub no_header : header_at [] ≡ Err Short
unfolding header_at
no_header = refl

pub no_block : block_at [] ≡ Err Short
unfolding block_at header_at
no_block = refl

pub no_sig : sig_at [] ≡ Err Short
unfolding sig_from_at
no_sig = refl

pub no_cert : cert_at [] ≡ Err Short
unfolding cert_at
no_cert = refl

pub no_report : report_at [] ≡ Err Short
unfolding report_at
no_report = refl
