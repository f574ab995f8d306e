-- Values whose lengths fit the fields that tell them.
use Rattle.std.specs.Prelude.{ℕ, ◌<◌, ◌^◌, List, length, IfSome, ⊤}
use Rattle.std.specs.List.{All}
use Rattle.ord_types.specs.Spelling.{Block, Cert, Config, Last, Meta, Proof, Report, Request, Sig}
use Rattle.ord_types.specs.declared.values.Proof.TheVariants as proof_of

-- a count of ids is a u8
abbrev pub FitsIds : List ℕ → Type 0
FitsIds ids = length ids < 2 ^ 8

abbrev pub FitsConfig : Config → Type 0
FitsConfig c = FitsIds c.members

-- a signature's length is a u16
abbrev pub FitsSig : Sig → Type 0
FitsSig s = length s.bytes < 2 ^ 16

-- a count of sigs is a u8
pub record FitsCert (c : Cert) : Type 0 where
  pub count : length c.sigs < 2 ^ 8
  pub sigs : All FitsSig c.sigs

-- a payload's length is a u32
abbrev pub FitsRequest : Request → Type 0
FitsRequest r = length r.payload < 2 ^ 32

-- a count of requests is a u32
pub record FitsRequests (rs : List Request) : Type 0 where
  pub count : length rs < 2 ^ 32
  pub requests : All FitsRequest rs

pub record FitsMeta (m : Meta) : Type 0 where
  pub blacklist : FitsIds m.blacklist
  pub signers : FitsIds m.signers

pub record FitsBlock (b : Block) : Type 0 where
  pub requests : FitsRequests b.requests
  pub meta : FitsMeta b.meta

abbrev pub FitsLast : Last → Type 0
FitsLast l = FitsCert l.cert

-- a count of accepted votes is a u8
pub record FitsReport (r : Report) : Type 0 where
  pub last : IfSome r.last FitsLast
  pub count : length r.accepted < 2 ^ 8

abbrev pub FitsProof : Proof → Type 0
FitsProof proof_of.Raft = ⊤
FitsProof (proof_of.Bft cert) = FitsCert cert
