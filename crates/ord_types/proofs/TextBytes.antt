-- Texts are bytes, where the digests, payloads and signatures in them are.
use Rattle.std.proofs.Common.{ℕ, zero, suc, List, [], ◌∷◌, ◌++◌, length, Option, Some, None, IfSome, subst, sym, arith}
use Rattle.std.specs.Prelude.{slice_index}
use Rattle.std.specs.Int.{w8, w16, w32, w64, to_be_bytes}
use Rattle.std.specs.List.{AllByRecursion, flat_map}
use Rattle.std.proofs.lemmas.List.Concat.{flat_map-cons}
use Rattle.sha2.specs.Sha256.{digest_bytes, sha256}
use Rattle.ord_types.specs.Laws.{IsBytes}
use Rattle.ord_types.specs.Hashes.{content_hash, header_hash, meta_hash}
use Rattle.ord_types.specs.Spelling.{Batch, Block, Cert, Config, Header, Last, Meta, Proof, Report, Request, Sig, Vote, batch_text, block_text, cert_text, config_text, header_text, ids_text, kind_number, last_text, meta_text, mode_number, option_text, proof_text, report_text, request_kind_number, request_text, requests_text, sig_text, vote_text}
use Rattle.ord_types.specs.declared.values.Proof.TheVariants as proof_of
use Rattle.ord_types.proofs.Laws.{IsBytes-append, wide8, wide16, wide32, wide64}

pub no_bytes : IsBytes []
no_bytes i = omega arith

-- the bytes of a number
pub bytes8 : (n : ℕ) → IsBytes (to_be_bytes w8 n)
bytes8 n = wide8.bytes n

pub bytes16 : (n : ℕ) → IsBytes (to_be_bytes w16 n)
bytes16 n = wide16.bytes n

pub bytes32 : (n : ℕ) → IsBytes (to_be_bytes w32 n)
bytes32 n = wide32.bytes n

pub bytes64 : (n : ℕ) → IsBytes (to_be_bytes w64 n)
bytes64 n = wide64.bytes n

digest-bytes : (h : List ℕ) (n : ℕ) → IsBytes (digest_bytes h n)
unfolding digest_bytes
digest-bytes h zero = no_bytes
digest-bytes h (suc n) = IsBytes-append (digest_bytes h n) (to_be_bytes w32 (slice_index h n)) (digest-bytes h n) (bytes32 (slice_index h n))

-- a value of SHA-256
pub bytes-sha256 : (m : List ℕ) → IsBytes (sha256 m)
unfolding sha256
bytes-sha256 m = digest-bytes _ 8

pub bytes-header_hash : (h : Header) → IsBytes (header_hash h)
unfolding header_hash
bytes-header_hash h = bytes-sha256 _

pub bytes-content_hash : (rs : List Request) → IsBytes (content_hash rs)
unfolding content_hash
bytes-content_hash rs = bytes-sha256 _

pub bytes-meta_hash : (m : Meta) → IsBytes (meta_hash m)
unfolding meta_hash
bytes-meta_hash m = bytes-sha256 _

-- texts one after the other
pub bytes-each : {X : Type 0} (text : X → List ℕ) (xs : List X) → AllByRecursion (λ x. IsBytes (text x)) xs → IsBytes (flat_map text xs)
bytes-each text [] h = no_bytes
bytes-each text (x ∷ xs) h = subst IsBytes (sym (flat_map-cons text x xs)) (IsBytes-append (text x) (flat_map text xs) h.0 (bytes-each text xs h.1))

pub bytes-option : {X : Type 0} (text : X → List ℕ) (o : Option X) → IfSome o (λ x. IsBytes (text x)) → IsBytes (option_text text o)
bytes-option text None h = bytes8 0
bytes-option text (Some x) h = IsBytes-append (to_be_bytes w8 1) (text x) (bytes8 1) h

words : (ids : List ℕ) → AllByRecursion (λ id. IsBytes (to_be_bytes w32 id)) ids
words [] = tt
words (id ∷ ids) = (bytes32 id, words ids)

pub bytes-ids : (ids : List ℕ) → IsBytes (ids_text ids)
bytes-ids ids = IsBytes-append (to_be_bytes w8 (length ids)) (flat_map (λ id. to_be_bytes w32 id) ids) (bytes8 (length ids)) (bytes-each (λ id. to_be_bytes w32 id) ids (words ids))

-- two, three, four and five texts
three : (a b c : List ℕ) → IsBytes a → IsBytes b → IsBytes c → IsBytes (a ++ b ++ c)
three a b c p q r = IsBytes-append (a ++ b) c (IsBytes-append a b p q) r

four : (a b c d : List ℕ) → IsBytes a → IsBytes b → IsBytes c → IsBytes d → IsBytes (a ++ b ++ c ++ d)
four a b c d p q r s = IsBytes-append (a ++ b ++ c) d (three a b c p q r) s

five : (a b c d e : List ℕ) → IsBytes a → IsBytes b → IsBytes c → IsBytes d → IsBytes e → IsBytes (a ++ b ++ c ++ d ++ e)
five a b c d e p q r s t = IsBytes-append (a ++ b ++ c ++ d) e (four a b c d p q r s) t

pub bytes-batch : (b : Batch) → IsBytes (batch_text b)
bytes-batch b = four (to_be_bytes w32 b.count) (to_be_bytes w32 b.preferred) (to_be_bytes w32 b.absolute) (to_be_bytes w32 b.wait) (bytes32 b.count) (bytes32 b.preferred) (bytes32 b.absolute) (bytes32 b.wait)

pub bytes-config : (c : Config) → IsBytes (config_text c)
bytes-config c =
    three (to_be_bytes w8 1 ++ to_be_bytes w64 c.number ++ to_be_bytes w8 (kind_number c.kind) ++ to_be_bytes w8 (mode_number c.mode) ++ ids_text c.members) (batch_text c.batch) (to_be_bytes w32 c.rotation)
    (five (to_be_bytes w8 1) (to_be_bytes w64 c.number) (to_be_bytes w8 (kind_number c.kind)) (to_be_bytes w8 (mode_number c.mode)) (ids_text c.members) (bytes8 1) (bytes64 c.number) (bytes8 (kind_number c.kind)) (bytes8 (mode_number c.mode)) (bytes-ids c.members))
    (bytes-batch c.batch) (bytes32 c.rotation)

pub bytes-sig : (s : Sig) → IsBytes s.bytes → IsBytes (sig_text s)
bytes-sig s h = three (to_be_bytes w32 s.signer) (to_be_bytes w16 (length s.bytes)) s.bytes (bytes32 s.signer) (bytes16 (length s.bytes)) h

-- the signatures are bytes
abbrev pub AreSigBytes : List Sig → Type 0
AreSigBytes sigs = AllByRecursion (λ s. IsBytes s.bytes) sigs

bytes-sigs : (sigs : List Sig) → AreSigBytes sigs → AllByRecursion (λ s. IsBytes (sig_text s)) sigs
bytes-sigs [] h = tt
bytes-sigs (s ∷ sigs) h = (bytes-sig s h.0, bytes-sigs sigs h.1)

pub bytes-cert : (c : Cert) → AreSigBytes c.sigs → IsBytes (cert_text c)
bytes-cert c h = three (to_be_bytes w64 c.view) (to_be_bytes w8 (length c.sigs)) (flat_map sig_text c.sigs) (bytes64 c.view) (bytes8 (length c.sigs)) (bytes-each sig_text c.sigs (bytes-sigs c.sigs h))

pub bytes-request : (r : Request) → IsBytes r.payload → IsBytes (request_text r)
bytes-request r h =
    five (to_be_bytes w8 (request_kind_number r.kind)) (to_be_bytes w32 r.id.client) (to_be_bytes w64 r.id.serial) (to_be_bytes w32 (length r.payload)) r.payload
    (bytes8 (request_kind_number r.kind)) (bytes32 r.id.client) (bytes64 r.id.serial) (bytes32 (length r.payload)) h

-- the payloads are bytes
abbrev pub ArePayloadBytes : List Request → Type 0
ArePayloadBytes rs = AllByRecursion (λ r. IsBytes r.payload) rs

each-request : (rs : List Request) → ArePayloadBytes rs → AllByRecursion (λ r. IsBytes (request_text r)) rs
each-request [] h = tt
each-request (r ∷ rs) h = (bytes-request r h.0, each-request rs h.1)

pub bytes-requests : (rs : List Request) → ArePayloadBytes rs → IsBytes (requests_text rs)
bytes-requests rs h = IsBytes-append (to_be_bytes w32 (length rs)) (flat_map request_text rs) (bytes32 (length rs)) (bytes-each request_text rs (each-request rs h))

pub bytes-meta : (m : Meta) → IsBytes (meta_text m)
bytes-meta m = five (to_be_bytes w64 m.config) (to_be_bytes w64 m.view) (to_be_bytes w64 m.decided) (ids_text m.blacklist) (ids_text m.signers) (bytes64 m.config) (bytes64 m.view) (bytes64 m.decided) (bytes-ids m.blacklist) (bytes-ids m.signers)

-- the digests of a header are bytes
pub record AreHeaderBytes (h : Header) : Type 0 where
  pub previous : IsBytes h.previous
  pub content : IsBytes h.content
  pub meta : IsBytes h.meta

pub bytes-header : (h : Header) → AreHeaderBytes h → IsBytes (header_text h)
bytes-header h b = four (to_be_bytes w64 h.number) h.previous h.content h.meta (bytes64 h.number) b.previous b.content b.meta

pub bytes-block : (b : Block) → AreHeaderBytes b.header → ArePayloadBytes b.requests → IsBytes (block_text b)
bytes-block b h k = three (header_text b.header) (requests_text b.requests) (meta_text b.meta) (bytes-header b.header h) (bytes-requests b.requests k) (bytes-meta b.meta)

pub bytes-vote : (v : Vote) → IsBytes v.digest → IsBytes (vote_text v)
bytes-vote v h = IsBytes-append (to_be_bytes w64 v.view) v.digest (bytes64 v.view) h

-- the hash and the signatures of a last block are bytes
pub record AreLastBytes (l : Last) : Type 0 where
  pub hash : IsBytes l.hash
  pub sigs : AreSigBytes l.cert.sigs

pub bytes-last : (l : Last) → AreLastBytes l → IsBytes (last_text l)
bytes-last l h = IsBytes-append l.hash (cert_text l.cert) h.hash (bytes-cert l.cert h.sigs)

-- the digests and the signatures of a report are bytes
pub record AreReportBytes (r : Report) : Type 0 where
  pub last : IfSome r.last AreLastBytes
  pub prepared : IfSome r.prepared (λ v. IsBytes v.digest)
  pub accepted : AllByRecursion (λ v. IsBytes v.digest) r.accepted

last-some : (o : Option Last) → IfSome o AreLastBytes → IfSome o (λ l. IsBytes (last_text l))
last-some None h = tt
last-some (Some l) h = bytes-last l h

vote-some : (o : Option Vote) → IfSome o (λ v. IsBytes v.digest) → IfSome o (λ v. IsBytes (vote_text v))
vote-some None h = tt
vote-some (Some v) h = bytes-vote v h

each-vote : (votes : List Vote) → AllByRecursion (λ v. IsBytes v.digest) votes → AllByRecursion (λ v. IsBytes (vote_text v)) votes
each-vote [] h = tt
each-vote (v ∷ votes) h = (bytes-vote v h.0, each-vote votes h.1)

pub bytes-report : (r : Report) → AreReportBytes r → IsBytes (report_text r)
bytes-report r h =
    five (to_be_bytes w64 r.height) (option_text last_text r.last) (option_text vote_text r.prepared) (to_be_bytes w8 (length r.accepted)) (flat_map vote_text r.accepted)
    (bytes64 r.height) (bytes-option last_text r.last (last-some r.last h.last)) (bytes-option vote_text r.prepared (vote-some r.prepared h.prepared)) (bytes8 (length r.accepted))
    (bytes-each vote_text r.accepted (each-vote r.accepted h.accepted))

abbrev pub AreProofBytes : Proof → Type 0
AreProofBytes proof_of.Raft = Unit {0}
AreProofBytes (proof_of.Bft cert) = AreSigBytes cert.sigs

pub bytes-proof : (p : Proof) → AreProofBytes p → IsBytes (proof_text p)
bytes-proof proof_of.Raft h = bytes8 0
bytes-proof (proof_of.Bft cert) h = IsBytes-append (to_be_bytes w8 1) (cert_text cert) (bytes8 1) (bytes-cert cert h)
