-- Values that have a spelling: each number within its field, each list within its bound and in its order.
use Rattle.std.specs.Prelude.{◌≡◌, ℕ, ◌+◌, ◌<◌, ◌≤◌, ◌^◌, false, List, [], ◌∷◌, ◌++◌, length, IfSome, ⊤}
use Rattle.std.specs.List.{AllByRecursion}
use Rattle.ord_types.specs.Members.{is_in}
use Rattle.ord_types.specs.Spelling.{Batch, Block, Cert, Config, Header, Last, Meta, Proof, Report, Request, Sig, Vote}
use Rattle.ord_types.specs.declared.values.Proof.TheVariants as proof_of

-- a number, a view, a term or the number of a configuration
abbrev pub IsNumber : ℕ → Type 0
IsNumber n = n < 2 ^ 62

-- a u32
abbrev pub IsWord : ℕ → Type 0
IsWord n = n < 2 ^ 32

-- a value of SHA-256
abbrev pub IsDigest : List ℕ → Type 0
IsDigest d = length d ≡ 32

-- from the least one on, each above the one before
abbrev pub Ascend : ℕ → List ℕ → Type 0
Ascend least [] = ⊤
Ascend least (id ∷ ids) = (least ≤ id) × Ascend (id + 1) ids

-- each at least 1, and other than those seen before it
abbrev pub Differ : List ℕ → List ℕ → Type 0
Differ seen [] = ⊤
Differ seen (id ∷ ids) = (1 ≤ id) × (is_in id seen ≡ false) × Differ (seen ++ id ∷ []) ids

-- ids in strictly ascending order
pub record HasIdsSpelling (ids : List ℕ) : Type 0 where
  pub count : length ids ≤ 31
  pub ascending : Ascend 1 ids
  pub words : AllByRecursion IsWord ids

-- ids in any order, as a blacklist's
pub record HasOrderSpelling (ids : List ℕ) : Type 0 where
  pub count : length ids ≤ 31
  pub different : Differ [] ids
  pub words : AllByRecursion IsWord ids

pub record HasBatchSpelling (b : Batch) : Type 0 where
  pub count : IsWord b.count
  pub preferred : IsWord b.preferred
  pub absolute : IsWord b.absolute
  pub wait : IsWord b.wait

pub record HasConfigSpelling (c : Config) : Type 0 where
  pub number : IsNumber c.number
  pub members : HasIdsSpelling c.members
  pub some_member : 1 ≤ length c.members
  pub batch : HasBatchSpelling c.batch
  pub rotation : IsWord c.rotation

pub record HasSigSpelling (s : Sig) : Type 0 where
  pub signer : IsWord s.signer
  pub size : length s.bytes ≤ 2048

-- by signers, from the least one on, each above the one before
abbrev pub AreSigs : ℕ → List Sig → Type 0
AreSigs least [] = ⊤
AreSigs least (s ∷ sigs) = (least ≤ s.signer) × HasSigSpelling s × AreSigs (s.signer + 1) sigs

pub record HasCertSpelling (c : Cert) : Type 0 where
  pub view : IsNumber c.view
  pub count : length c.sigs ≤ 31
  pub sigs : AreSigs 0 c.sigs

-- clients and serials have the whole range of their types
pub record HasRequestSpelling (r : Request) : Type 0 where
  pub client : IsWord r.id.client
  pub serial : r.id.serial < 2 ^ 64
  pub size : length r.payload ≤ 65536

pub record HasRequestsSpelling (rs : List Request) : Type 0 where
  pub count : length rs ≤ 1000
  pub requests : AllByRecursion HasRequestSpelling rs

pub record HasMetaSpelling (m : Meta) : Type 0 where
  pub config : IsNumber m.config
  pub view : IsNumber m.view
  pub decided : IsNumber m.decided
  pub blacklist : HasOrderSpelling m.blacklist
  pub signers : HasIdsSpelling m.signers

pub record HasHeaderSpelling (h : Header) : Type 0 where
  pub number : IsNumber h.number
  pub previous : IsDigest h.previous
  pub content : IsDigest h.content
  pub meta : IsDigest h.meta

pub record HasBlockSpelling (b : Block) : Type 0 where
  pub header : HasHeaderSpelling b.header
  pub requests : HasRequestsSpelling b.requests
  pub meta : HasMetaSpelling b.meta

pub record HasVoteSpelling (v : Vote) : Type 0 where
  pub view : IsNumber v.view
  pub digest : IsDigest v.digest

pub record HasLastSpelling (l : Last) : Type 0 where
  pub hash : IsDigest l.hash
  pub cert : HasCertSpelling l.cert

-- by falling views, each below the one before, the first below the limit
abbrev pub AreVotes : ℕ → List Vote → Type 0
AreVotes limit [] = ⊤
AreVotes limit (v ∷ votes) = (v.view < limit) × IsDigest v.digest × AreVotes v.view votes

pub record HasReportSpelling (r : Report) : Type 0 where
  pub height : IsNumber r.height
  pub last : IfSome r.last HasLastSpelling
  pub prepared : IfSome r.prepared HasVoteSpelling
  pub count : length r.accepted ≤ 32
  pub accepted : AreVotes (2 ^ 62) r.accepted

abbrev pub HasProofSpelling : Proof → Type 0
HasProofSpelling proof_of.Raft = ⊤
HasProofSpelling (proof_of.Bft cert) = HasCertSpelling cert
