-- Blocks, certificates, messages and deeds that have a spelling.
use Rattle.std.specs.Prelude.{◌≤◌, ℕ, ⊤}
use Rattle.ord_types.specs.Grammar.{HasBlockSpelling, HasCertSpelling, HasIdsSpelling, IsNumber}
use Rattle.ord_types.specs.declared.values.Proof.TheVariants as proof_of
use Rattle.safety_model.specs.Blocks.{Block}
use Rattle.safety_model.specs.Facts.{Cert, Proof, signers_of}
use Rattle.safety_model.specs.declared.fact.Fact.{Fact}
use Rattle.safety_model.specs.declared.fact.Fact.TheVariants.{
  Accepted,
  Prepared,
  Left,
  Reported,
  Entered,
  Delivered,
}
use Rattle.bft_wire.specs.Messages.{HasMessageSpelling}
use Rattle.view_model.specs.declared.letter.VoteMessage.{VoteMessage}
use Rattle.view_model.specs.Letters.{on_wire}
use Rattle.node_model.specs.Entries.{Accepts, Deed, Delivers, Enters, Leaves, Prepares}

-- a block at number s that has a spelling, with no more decided before it in its view than stand before it
pub record FitsAt (s : ℕ) (b : Block) : Type 0 where
  pub number : IsNumber s
  pub decided : b.meta.decided ≤ s
  pub spelled : HasBlockSpelling b

-- a certificate that has a spelling, and whose signers may stand in a meta
pub record CertFits (cert : Cert) : Type 0 where
  pub spelled : HasCertSpelling cert
  pub signers : HasIdsSpelling (signers_of cert)

abbrev pub ProofFits : Proof → Type 0
ProofFits proof_of.Raft = ⊤
ProofFits (proof_of.Bft cert) = CertFits cert

-- a vote message that has a spelling
abbrev pub MessageFits : VoteMessage → Type 0
MessageFits m = HasMessageSpelling (on_wire m)

-- a block that was delivered, and what stands behind it
pub record DeliveredFits (b : Block) (proof : Proof) : Type 0 where
  pub block : FitsAt b.header.number b
  pub behind : ProofFits proof

abbrev pub FactFits : Fact → Type 0
FactFits (Accepted i e v s d) = ⊤
FactFits (Prepared i e v s d) = ⊤
FactFits (Left i e v) = ⊤
FactFits (Reported i e v r) = ⊤
FactFits (Entered i e v x choice) = ⊤
FactFits (Delivered i b proof) = DeliveredFits b proof

-- a deed with a block that fits where it is accepted, or was delivered with what stands behind it
abbrev pub DeedFits : Deed → Type 0
DeedFits (Accepts i e v s b) = FitsAt s b
DeedFits (Prepares i e v s d) = ⊤
DeedFits (Delivers i b proof) = DeliveredFits b proof
DeedFits (Leaves i e v) = ⊤
DeedFits (Enters i e v x choice) = ⊤
