-- The one spelling of each value as bytes. Numbers are unsigned and big-endian.
use Rattle.std.specs.Prelude.{ℕ, List, ◌++◌, length, Option, Some, None}
use Rattle.std.specs.Int.{w8, w16, w32, w64, to_be_bytes}
use Rattle.std.specs.List.{flat_map}
pub use Rattle.ord_types.specs.declared.values.Batch.{Batch}
pub use Rattle.ord_types.specs.declared.values.Block.{Block}
pub use Rattle.ord_types.specs.declared.values.Config.{Config}
pub use Rattle.ord_types.specs.declared.values.Header.{Header}
pub use Rattle.ord_types.specs.declared.values.Kind.{Kind}
use Rattle.ord_types.specs.declared.values.Kind.TheVariants.{Raft, Bft}
pub use Rattle.ord_types.specs.declared.values.Meta.{Meta}
pub use Rattle.ord_types.specs.declared.values.Mode.{Mode}
use Rattle.ord_types.specs.declared.values.Mode.TheVariants.{Normal, Maintenance}
pub use Rattle.ord_types.specs.declared.values.ReqKind.{ReqKind}
use Rattle.ord_types.specs.declared.values.ReqKind.TheVariants.{Ordinary, Change}
pub use Rattle.ord_types.specs.declared.values.Request.{Request}
pub use Rattle.ord_types.specs.declared.values.Sig.{Sig}
pub use Rattle.ord_types.specs.declared.values.Cert.{Cert}
pub use Rattle.ord_types.specs.declared.values.Vote.{Vote}
pub use Rattle.ord_types.specs.declared.values.Last.{Last}
pub use Rattle.ord_types.specs.declared.values.Report.{Report}
pub use Rattle.ord_types.specs.declared.values.Proof.{Proof}
use Rattle.ord_types.specs.declared.values.Proof.TheVariants as proof_of

-- ids: a u8 count, then a u32 each
abbrev pub ids_text : List ℕ → List ℕ
ids_text ids = to_be_bytes w8 (length ids) ++ flat_map (λ id. to_be_bytes w32 id) ids

-- 1 Raft, 2 BFT
abbrev pub kind_number : Kind → ℕ
kind_number Raft = 1
kind_number Bft = 2

-- 0 normal, 1 maintenance
abbrev pub mode_number : Mode → ℕ
mode_number Normal = 0
mode_number Maintenance = 1

-- a batch: u32 count, preferred, absolute and wait
abbrev pub batch_text : Batch → List ℕ
batch_text b = to_be_bytes w32 b.count ++ to_be_bytes w32 b.preferred ++ to_be_bytes w32 b.absolute ++ to_be_bytes w32 b.wait

-- a config: u8 form 1, u64 number, u8 kind, u8 mode, the members' ids, the batch, u32 rotation
abbrev pub config_text : Config → List ℕ
config_text c =
    to_be_bytes w8 1 ++ to_be_bytes w64 c.number ++ to_be_bytes w8 (kind_number c.kind) ++ to_be_bytes w8 (mode_number c.mode)
    ++ ids_text c.members ++ batch_text c.batch ++ to_be_bytes w32 c.rotation

-- a sig: u32 signer, u16 length, the bytes
abbrev pub sig_text : Sig → List ℕ
sig_text s = to_be_bytes w32 s.signer ++ to_be_bytes w16 (length s.bytes) ++ s.bytes

-- a cert: u64 view, u8 count, the sigs
abbrev pub cert_text : Cert → List ℕ
cert_text c = to_be_bytes w64 c.view ++ to_be_bytes w8 (length c.sigs) ++ flat_map sig_text c.sigs

-- 1 ordinary, 2 change
abbrev pub request_kind_number : ReqKind → ℕ
request_kind_number Ordinary = 1
request_kind_number Change = 2

-- a request: u8 kind, u32 client, u64 serial, u32 length, the payload
abbrev pub request_text : Request → List ℕ
request_text r =
    to_be_bytes w8 (request_kind_number r.kind) ++ to_be_bytes w32 r.id.client ++ to_be_bytes w64 r.id.serial
    ++ to_be_bytes w32 (length r.payload) ++ r.payload

-- requests: a u32 count, and one after the other
abbrev pub requests_text : List Request → List ℕ
requests_text rs = to_be_bytes w32 (length rs) ++ flat_map request_text rs

-- a meta: u64 config, view and decided, the blacklist's ids, the signers' ids
abbrev pub meta_text : Meta → List ℕ
meta_text m =
    to_be_bytes w64 m.config ++ to_be_bytes w64 m.view ++ to_be_bytes w64 m.decided ++ ids_text m.blacklist ++ ids_text m.signers

-- a header, 104 bytes: u64 number, the hash of the header before, and the hashes of content and meta
abbrev pub header_text : Header → List ℕ
header_text h = to_be_bytes w64 h.number ++ h.previous ++ h.content ++ h.meta

-- a block: header, requests, meta
abbrev pub block_text : Block → List ℕ
block_text b = header_text b.header ++ requests_text b.requests ++ meta_text b.meta

-- where there may be none: u8 0, or u8 1 and the value
abbrev pub option_text : {X : Type 0} → (X → List ℕ) → Option X → List ℕ
option_text text None = to_be_bytes w8 0
option_text text (Some x) = to_be_bytes w8 1 ++ text x

-- a vote: u64 view, digest
abbrev pub vote_text : Vote → List ℕ
vote_text v = to_be_bytes w64 v.view ++ v.digest

-- the last block: its hash, its certificate
abbrev pub last_text : Last → List ℕ
last_text l = l.hash ++ cert_text l.cert

-- a report: u64 height, the last block where there is one, the preparation where there is one, a u8 count and the accepted votes
abbrev pub report_text : Report → List ℕ
report_text r =
    to_be_bytes w64 r.height ++ option_text last_text r.last ++ option_text vote_text r.prepared
    ++ to_be_bytes w8 (length r.accepted) ++ flat_map vote_text r.accepted

-- a proof: u8 0 for Raft, or u8 1 and the certificate
abbrev pub proof_text : Proof → List ℕ
proof_text proof_of.Raft = to_be_bytes w8 0
proof_text (proof_of.Bft cert) = to_be_bytes w8 1 ++ cert_text cert
