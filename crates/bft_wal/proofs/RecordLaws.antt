-- The laws of records: what is read is what the bytes spell, what is spelled is read.
use Rattle.std.proofs.Common.{◌≡◌, ℕ, zero, suc, ◌≤◌, Bool, true, false, cond, List, [], ◌∷◌, ◌++◌, Some, Result, Ok, Err, refl, sym, ap, subst, ◌∙◌, append_assoc, arith}
use Rattle.std.specs.Prelude.{nat_le, ◌==◌, ◌&&◌, IfSome}
use Rattle.std.specs.Int.{w8, w32, w64, to_be_bytes}
use Rattle.std.proofs.lemmas.Bool.{leb-true, le-leb}
use Rattle.std.proofs.lemmas.List.{append-nil}
use Rattle.ord_types.specs.Grammar.{HasBlockSpelling, HasVoteSpelling, IsDigest, IsNumber}
use Rattle.ord_types.specs.Laws.{HasOneSpelling}
use Rattle.ord_types.specs.Reading.{Reading, tested_at}
use Rattle.ord_types.specs.Spelling.{block_text, option_text, vote_text}
use Rattle.ord_types.specs.declared.fault.Flaw.{Flaw}
use Rattle.ord_types.proofs.Laws.{Begins, Ends, IsBytes, Law, Spelled, has_one_spelling, last, option_law, read_whole, said_as, spelled, step, tested_law, wide32, wide8}
use Rattle.ord_types.proofs.ValueLaws.{below_law, block_law, digest_law, vote_law}
use Rattle.bft_wal.specs.Records.{HasRecordSpelling, IsId, WalRecord, record_text}
use Rattle.bft_wal.specs.Reading.{accepted_at, all_of, body_at, entered_at, left_at, prepared_at, record_at, record_in, tail_at, voted_at, whole_record}
use Rattle.bft_wal.specs.declared.record.WalRecord.TheVariants as record_of

-- PIECES, from the left and from the right

right3 : (a b c : List ℕ) → a ++ b ++ c ≡ a ++ (b ++ c)
right3 a b c = simp append_assoc

right4 : (a b c d : List ℕ) → a ++ b ++ c ++ d ≡ a ++ (b ++ (c ++ d))
right4 a b c d = simp append_assoc

right5 : (a b c d e : List ℕ) → a ++ b ++ c ++ d ++ e ≡ a ++ (b ++ (c ++ (d ++ e)))
right5 a b c d e = simp append_assoc

-- FIELDS

both_true : (a b : Bool) → (a && b) ≡ true → (a ≡ true) × (b ≡ true)
both_true true true e = (refl, refl)
both_true true false e = absurd cc
both_true false b e = absurd cc

true_both : (a b : Bool) → a ≡ true → b ≡ true → (a && b) ≡ true
true_both a b e f = rw (e, f) refl

kind_law : Law (tested_at w8 (λ n. nat_le 1 n && nat_le n 6)) (Spelled (λ n. (1 ≤ n) × (n ≤ 6)) (to_be_bytes w8))
kind_law =
    tested_law wide8 (λ n. nat_le 1 n && nat_le n 6) (λ n. (1 ≤ n) × (n ≤ 6))
    (λ n lt e. let b = both_true (nat_le 1 n) (nat_le n 6) e in (leb-true 1 n b.0, leb-true n 6 b.1))
    (λ n h. (omega (arith, h.1), true_both (nat_le 1 n) (nat_le n 6) (le-leb 1 n h.0) (le-leb n 6 h.1)))

id_law : Law (tested_at w32 (λ id. nat_le 1 id)) (Spelled IsId (to_be_bytes w32))
id_law = tested_law wide32 (λ id. nat_le 1 id) IsId (λ n lt e. (leb-true 1 n e, lt)) (λ n h. (h.1, le-leb 1 n h.0))

-- THE BODIES

abbrev W : ℕ → List ℕ
W = to_be_bytes w64

-- three numbers, and what stands behind them
abbrev Placed : {A : Type 0} → (A → Type 0) → (A → List ℕ) → (ℕ → ℕ → ℕ → A → WalRecord) → WalRecord → List ℕ → Type 0
Placed May text made = Begins IsNumber W (λ config. Begins IsNumber W (λ view. Begins IsNumber W (λ number. Ends May text (made config view number))))

abbrev AcceptedBody : WalRecord → List ℕ → Type 0
AcceptedBody = Placed HasBlockSpelling block_text record_of.Accepted

accepted_law : Law accepted_at AcceptedBody
unfolding accepted_at
accepted_law = step below_law (λ config. step below_law (λ view. step below_law (λ number. last (λ block. record_of.Accepted config view number block) block_law)))

abbrev PreparedBody : WalRecord → List ℕ → Type 0
PreparedBody = Placed IsDigest (λ d. d) record_of.Prepared

prepared_law : Law prepared_at PreparedBody
unfolding prepared_at
prepared_law = step below_law (λ config. step below_law (λ view. step below_law (λ number. last (λ digest. record_of.Prepared config view number digest) digest_law)))

abbrev LeftBody : WalRecord → List ℕ → Type 0
LeftBody = Begins IsNumber W (λ config. Ends IsNumber W (λ view. record_of.Left config view))

left_law : Law left_at LeftBody
unfolding left_at
left_law = step below_law (λ config. last (λ view. record_of.Left config view) below_law)

abbrev EnteredBody : WalRecord → List ℕ → Type 0
EnteredBody = Placed (λ carried. IfSome carried HasVoteSpelling) (option_text vote_text) record_of.Entered

entered_law : Law entered_at EnteredBody
unfolding entered_at
entered_law = step below_law (λ config. step below_law (λ view. step below_law (λ number. last (λ carried. record_of.Entered config view number carried) (option_law HasVoteSpelling vote_text vote_law))))

abbrev VotedBody : WalRecord → List ℕ → Type 0
VotedBody = Begins IsNumber W (λ term. Ends IsId (to_be_bytes w32) (λ candidate. record_of.Voted term candidate))

voted_law : Law voted_at VotedBody
unfolding voted_at
voted_law = step below_law (λ term. last (λ candidate. record_of.Voted term candidate) id_law)

abbrev TailBody : WalRecord → List ℕ → Type 0
TailBody = Begins IsNumber W (λ term. Begins IsNumber W (λ number. Ends HasBlockSpelling block_text (λ block. record_of.Tail term number block)))

tail_law : Law tail_at TailBody
unfolding tail_at
tail_law = step below_law (λ term. step below_law (λ number. last (λ block. record_of.Tail term number block) block_law))

-- THE KINDS

abbrev Chosen : Bool → (WalRecord → List ℕ → Type 0) → (WalRecord → List ℕ → Type 0) → WalRecord → List ℕ → Type 0
Chosen true Means Other = Means
Chosen false Means Other = Other

chosen_law : {at other : Reading WalRecord} {Means Other : WalRecord → List ℕ → Type 0} (b : Bool) → Law at Means → Law other Other → Law (λ bytes. cond b (at bytes) (other bytes)) (Chosen b Means Other)
chosen_law true law other = law
chosen_law false law other = other

-- what the body of a kind means
abbrev BodyOf : ℕ → WalRecord → List ℕ → Type 0
BodyOf kind =
    Chosen (kind == 1) AcceptedBody
    (Chosen (kind == 2) PreparedBody
    (Chosen (kind == 3) LeftBody
    (Chosen (kind == 4) EnteredBody
    (Chosen (kind == 5) VotedBody
    TailBody))))

body_law : (kind : ℕ) → Law (body_at kind) (BodyOf kind)
unfolding body_at
body_law kind =
    chosen_law (kind == 1) accepted_law
    (chosen_law (kind == 2) prepared_law
    (chosen_law (kind == 3) left_law
    (chosen_law (kind == 4) entered_law
    (chosen_law (kind == 5) voted_law
    tail_law))))

-- a body behind its kind is a record's text
abbrev Means : ℕ → WalRecord → List ℕ → Type 0
Means kind r t = Spelled HasRecordSpelling record_text r (to_be_bytes w8 kind ++ t)

made_so : (kind : ℕ) (r made : WalRecord) (t : List ℕ) → r ≡ made → HasRecordSpelling made → to_be_bytes w8 kind ++ t ≡ record_text made → Means kind r t
made_so kind r made t same may is = record { may = subst HasRecordSpelling (sym same) may; is = is ∙ ap record_text (sym same) }

placed_text : {A : Type 0} {May : A → Type 0} {text : A → List ℕ} {made : ℕ → ℕ → ℕ → A → WalRecord} (kind : ℕ) (r : WalRecord) (t : List ℕ) (h : Placed May text made r t)
    → to_be_bytes w8 kind ++ t ≡ to_be_bytes w8 kind ++ W h.first ++ W h.more.first ++ W h.more.more.first ++ text h.more.more.more.last
placed_text {A} {May} {text} kind r t h =
    ap (λ u. to_be_bytes w8 kind ++ u) (h.is ∙ ap (λ u. W h.first ++ u) (h.more.is ∙ ap (λ u. W h.more.first ++ u) (h.more.more.is ∙ ap (λ u. W h.more.more.first ++ u) h.more.more.more.is)))
    ∙ sym (right5 (to_be_bytes w8 kind) (W h.first) (W h.more.first) (W h.more.more.first) (text h.more.more.more.last))

accepted_means : (r : WalRecord) (t : List ℕ) → AcceptedBody r t → Means 1 r t
accepted_means r t h = made_so 1 r (record_of.Accepted h.first h.more.first h.more.more.first h.more.more.more.last) t h.more.more.more.whole (h.may, h.more.may, h.more.more.may, h.more.more.more.may) (placed_text 1 r t h)

prepared_means : (r : WalRecord) (t : List ℕ) → PreparedBody r t → Means 2 r t
prepared_means r t h = made_so 2 r (record_of.Prepared h.first h.more.first h.more.more.first h.more.more.more.last) t h.more.more.more.whole (h.may, h.more.may, h.more.more.may, h.more.more.more.may) (placed_text 2 r t h)

left_means : (r : WalRecord) (t : List ℕ) → LeftBody r t → Means 3 r t
left_means r t h =
    made_so 3 r (record_of.Left h.first h.more.last) t h.more.whole (h.may, h.more.may)
    (ap (λ u. to_be_bytes w8 3 ++ u) (h.is ∙ ap (λ u. W h.first ++ u) h.more.is) ∙ sym (right3 (to_be_bytes w8 3) (W h.first) (W h.more.last)))

entered_means : (r : WalRecord) (t : List ℕ) → EnteredBody r t → Means 4 r t
entered_means r t h = made_so 4 r (record_of.Entered h.first h.more.first h.more.more.first h.more.more.more.last) t h.more.more.more.whole (h.may, h.more.may, h.more.more.may, h.more.more.more.may) (placed_text 4 r t h)

voted_means : (r : WalRecord) (t : List ℕ) → VotedBody r t → Means 5 r t
voted_means r t h =
    made_so 5 r (record_of.Voted h.first h.more.last) t h.more.whole (h.may, h.more.may)
    (ap (λ u. to_be_bytes w8 5 ++ u) (h.is ∙ ap (λ u. W h.first ++ u) h.more.is) ∙ sym (right3 (to_be_bytes w8 5) (W h.first) (to_be_bytes w32 h.more.last)))

tail_means : (r : WalRecord) (t : List ℕ) → TailBody r t → Means 6 r t
tail_means r t h =
    made_so 6 r (record_of.Tail h.first h.more.first h.more.more.last) t h.more.more.whole (h.may, h.more.may, h.more.more.may)
    (ap (λ u. to_be_bytes w8 6 ++ u) (h.is ∙ ap (λ u. W h.first ++ u) (h.more.is ∙ ap (λ u. W h.more.first ++ u) h.more.more.is))
    ∙ sym (right4 (to_be_bytes w8 6) (W h.first) (W h.more.first) (block_text h.more.more.last)))

of_kind : (kind : ℕ) (r : WalRecord) (t : List ℕ) → 1 ≤ kind → kind ≤ 6 → BodyOf kind r t → Means kind r t
of_kind zero r t some most h = absurd (omega arith)
of_kind (suc zero) r t some most h = accepted_means r t h
of_kind (suc (suc zero)) r t some most h = prepared_means r t h
of_kind (suc (suc (suc zero))) r t some most h = left_means r t h
of_kind (suc (suc (suc (suc zero)))) r t some most h = entered_means r t h
of_kind (suc (suc (suc (suc (suc zero))))) r t some most h = voted_means r t h
of_kind (suc (suc (suc (suc (suc (suc zero)))))) r t some most h = tail_means r t h
of_kind (suc (suc (suc (suc (suc (suc (suc n))))))) r t some most h = absurd (omega arith)

placed : {A : Type 0} {May : A → Type 0} {text : A → List ℕ} {made : ℕ → ℕ → ℕ → A → WalRecord} (config view number : ℕ) (x : A) → IsNumber config → IsNumber view → IsNumber number → May x
    → Placed May text made (made config view number x) (W config ++ (W view ++ (W number ++ text x)))
placed {A} {May} {text} config view number x c v n may =
    record { first = config; behind = W view ++ (W number ++ text x); may = c; is = refl; more = record { first = view; behind = W number ++ text x; may = v; is = refl; more = record { first = number; behind = text x; may = n; is = refl; more = record { last = x; may = may; is = refl; whole = refl } } } }

with_kind : (r : WalRecord) (t : List ℕ) → Spelled HasRecordSpelling record_text r t → Begins (λ n. (1 ≤ n) × (n ≤ 6)) (to_be_bytes w8) BodyOf r t
with_kind (record_of.Accepted config view number block) t h = record { first = 1; behind = W config ++ (W view ++ (W number ++ block_text block)); may = (omega arith, omega arith); more = placed config view number block h.may.0 h.may.1 h.may.2 h.may.3; is = h.is ∙ right5 (to_be_bytes w8 1) (W config) (W view) (W number) (block_text block) }
with_kind (record_of.Prepared config view number digest) t h = record { first = 2; behind = W config ++ (W view ++ (W number ++ digest)); may = (omega arith, omega arith); more = placed config view number digest h.may.0 h.may.1 h.may.2 h.may.3; is = h.is ∙ right5 (to_be_bytes w8 2) (W config) (W view) (W number) digest }
with_kind (record_of.Left config view) t h = record { first = 3; behind = W config ++ W view; may = (omega arith, omega arith); more = record { first = config; behind = W view; may = h.may.0; is = refl; more = record { last = view; may = h.may.1; is = refl; whole = refl } }; is = h.is ∙ right3 (to_be_bytes w8 3) (W config) (W view) }
with_kind (record_of.Entered config view number carried) t h = record { first = 4; behind = W config ++ (W view ++ (W number ++ option_text vote_text carried)); may = (omega arith, omega arith); more = placed config view number carried h.may.0 h.may.1 h.may.2 h.may.3; is = h.is ∙ right5 (to_be_bytes w8 4) (W config) (W view) (W number) (option_text vote_text carried) }
with_kind (record_of.Voted term candidate) t h = record { first = 5; behind = W term ++ to_be_bytes w32 candidate; may = (omega arith, omega arith); more = record { first = term; behind = to_be_bytes w32 candidate; may = h.may.0; is = refl; more = record { last = candidate; may = h.may.1; is = refl; whole = refl } }; is = h.is ∙ right3 (to_be_bytes w8 5) (W term) (to_be_bytes w32 candidate) }
with_kind (record_of.Tail term number block) t h = record { first = 6; behind = W term ++ (W number ++ block_text block); may = (omega arith, omega arith); more = record { first = term; behind = W number ++ block_text block; may = h.may.0; is = refl; more = record { first = number; behind = block_text block; may = h.may.1; is = refl; more = record { last = block; may = h.may.2; is = refl; whole = refl } } }; is = h.is ∙ right4 (to_be_bytes w8 6) (W term) (W number) (block_text block) }

pub record_law : Law record_at (Spelled HasRecordSpelling record_text)
unfolding record_at
record_law =
    said_as (λ r t h. let k = of_kind h.first r h.behind h.may.0 h.may.1 h.more in record { may = k.may; is = h.is ∙ k.is }) with_kind
    (step kind_law body_law)

-- THE WHOLE OF THE BYTES

all_parts : (r : WalRecord) (rest : List ℕ) (s : WalRecord) → all_of r rest ≡ Some s → (r ≡ s) × (rest ≡ [])
all_parts r [] s e = (cc, refl)
all_parts r (b ∷ rest) s e = absurd cc

spelled_all : (bytes : List ℕ) (r : WalRecord) (read : Result (WalRecord × List ℕ) Flaw) → IsBytes bytes → record_at bytes ≡ read → whole_record read ≡ Some r → HasRecordSpelling r × (bytes ≡ record_text r)
spelled_all bytes r (Ok found) fits e is =
    let s = spelled record_law bytes found.0 found.1 fits e in
    let a = all_parts found.0 found.1 r is in
    subst (λ (x : WalRecord). HasRecordSpelling x × (bytes ≡ record_text x)) a.0 (s.0, s.1 ∙ ap (λ u. record_text found.0 ++ u) a.1 ∙ append-nil (record_text found.0))
spelled_all bytes r (Err flaw) fits e is = absurd cc

-- what is read is spelled
pub record_sound : (bytes : List ℕ) (r : WalRecord) → IsBytes bytes → record_in bytes ≡ Some r → HasRecordSpelling r × (bytes ≡ record_text r)
unfolding record_in
record_sound bytes r fits e = spelled_all bytes r (record_at bytes) fits refl e

-- what is spelled is read
pub record_complete : (r : WalRecord) → HasRecordSpelling r → record_in (record_text r) ≡ Some r
unfolding record_in
record_complete r may = ap whole_record (read_whole record_law r may)

pub record_spellings : HasOneSpelling record_at HasRecordSpelling record_text
record_spellings = has_one_spelling record_law
