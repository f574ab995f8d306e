-- The proof of each delivered block is a certificate whose signatures stand in the box of seals, in every
-- world of a script.
use Rattle.std.specs.Prelude.{ℕ, List, Option, Some, None, IsTrue, ⊤}
use Rattle.std.specs.List.{AllByRecursion}
use Rattle.ord_types.specs.Hashes.{block_hash}
use Rattle.ord_types.specs.declared.values.Proof.TheVariants as proof_of
use Rattle.safety_model.specs.Blocks.{Block, Config}
use Rattle.safety_model.specs.Facts.{Proof}
use Rattle.safety_model.specs.declared.fact.Fact.{Fact}
use Rattle.safety_model.specs.declared.fact.Fact.TheVariants.{
  Accepted,
  Prepared,
  Left,
  Reported,
  Entered,
  Delivered,
}
use Rattle.signer_edge.specs.Accepts.{Accepts}
use Rattle.signer_edge.specs.Certificates.{is_good_cert}
use Rattle.signer_edge.specs.Seals.{is_sealed}
use Rattle.world_model.specs.Worlds.{Outcome}
use Rattle.world_safety.specs.Within.{PastWorld, all_worlds_of}

-- the proof is a certificate of the block under the configuration (SmartBFT): its signatures are of
-- members, at least a quorum of distinct ones, and each is accepted on the block's number and hash in the
-- certificate's one view
abbrev pub IsCertificateOf : Accepts → Config → Block → Proof → Type 0
IsCertificateOf accepts c b proof_of.Raft = ⊥
IsCertificateOf accepts c b (proof_of.Bft cert) =
    IsTrue (is_good_cert accepts c b.header.number (block_hash b) cert)

-- a delivery has one
abbrev pub IsCertifiedFact : Accepts → Config → Fact → Type 0
IsCertifiedFact accepts c (Accepted i e v s d) = ⊤
IsCertifiedFact accepts c (Prepared i e v s d) = ⊤
IsCertifiedFact accepts c (Left i e v) = ⊤
IsCertifiedFact accepts c (Reported i e v r) = ⊤
IsCertifiedFact accepts c (Entered i e v x choice) = ⊤
IsCertifiedFact accepts c (Delivered i b proof) = IsCertificateOf accepts c b proof

-- every delivery of the world has one under its configuration, of signatures that its box accepts
abbrev pub IsCertified : PastWorld → Type 0
IsCertified w = AllByRecursion (IsCertifiedFact (is_sealed w.seals) w.config) w.told

-- nothing is said where there is no world yet
abbrev pub IsCertifiedIn : Option PastWorld → Type 0
IsCertifiedIn None = ⊤
IsCertifiedIn (Some w) = IsCertified w

-- all worlds of every script, for every list of outcomes
abbrev pub AllWorldsAreCertified : Type 0
AllWorldsAreCertified =
    (outcomes : List Outcome) (script : List ℕ) → AllByRecursion IsCertifiedIn (all_worlds_of outcomes script)
