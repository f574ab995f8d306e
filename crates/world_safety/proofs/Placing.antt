-- Where a node stands, its last block and its last certificate fit.
use Rattle.std.proofs.Common.{
  ◌≡◌,
  ℕ,
  ◌+◌,
  ◌≤◌,
  ◌<◌,
  ◌^◌,
  refl,
  sym,
  subst,
  ap,
  ◌∙◌,
  Option,
  Some,
  None,
  arith,
}
use Rattle.std.specs.List.{AllByRecursion}
use Rattle.sha2.proofs.Facts256.{length-sha256}
use Rattle.ord_types.specs.Genesis.{genesis_block}
use Rattle.ord_types.specs.Grammar.{HasIdsSpelling, IsNumber}
use Rattle.ord_types.specs.Hashes.{header_hash}
use Rattle.ord_types.specs.declared.values.Proof.TheVariants as proof_of
use Rattle.safety_model.specs.Blocks.{Block, Config}
use Rattle.safety_model.specs.Facts.{Cert, History, Proof}
use Rattle.safety_model.specs.Rules.{IsRun}
use Rattle.safety_model.specs.State.{Setup, block_or, config_of, delivered, height, last_delivered, tip, view}
use Rattle.safety_model.specs.declared.fact.Fact.TheVariants.{Delivered}
use Rattle.safety_model.proofs.Chains.{config_stays}
use Rattle.safety_model.proofs.Deliveries.{last_stands, tip_number}
use Rattle.chan_config.specs.Places.{cert_in}
use Rattle.node_model.specs.Entries.{Past, facts_of}
use Rattle.node_model.specs.Keeping.{cert_of_last, last_block, place_by_facts}
use Rattle.world_safety.specs.Fits.{CertFits, FactFits, ProofFits}
use Rattle.world_safety.specs.AllowedSteps.{IsBounded, NodeStands}
use Rattle.world_safety.proofs.Fitting.{PlaceFits, all_stands}
use Rattle.world_safety.proofs.Nodes.{first_view_of}
use Rattle.world_safety.proofs.Own.{height_own, last_own, tip_own}

pub genesis_first : (su : Setup) → IsBounded su → su.genesis.header.number ≡ 0
unfolding genesis_block
genesis_first su bounded = ap (λ (b : Block). b.header.number) bounded.genesis.block

genesis_decided : (su : Setup) → IsBounded su → su.genesis.meta.decided ≡ 0
unfolding genesis_block
genesis_decided su bounded = ap (λ (b : Block). b.meta.decided) bounded.genesis.block

-- the last block
tip_decided : (su : Setup) (h : History) (i : ℕ) → IsBounded su → AllByRecursion FactFits h
    → (o : Option (Block × Proof)) → last_delivered i h ≡ o
    → (block_or su.genesis o).meta.decided ≤ (block_or su.genesis o).header.number
tip_decided su h i bounded fit None is = let decided = genesis_decided su bounded in omega arith
tip_decided su h i bounded fit (Some last) is =
    (all_stands FactFits h (Delivered i last.0 last.1) fit (last_stands i h last.0 last.1 is)).block.decided

tip_below : (su : Setup) (h : History) (i : ℕ) → IsBounded su → AllByRecursion FactFits h
    → (o : Option (Block × Proof)) → last_delivered i h ≡ o → IsNumber (block_or su.genesis o).header.number
tip_below su h i bounded fit None is = let first = genesis_first su bounded in omega arith
tip_below su h i bounded fit (Some last) is =
    (all_stands FactFits h (Delivered i last.0 last.1) fit (last_stands i h last.0 last.1 is)).block.number

-- and the certificate that it was delivered with
proof_cert : (proof : Proof) (cert : Cert) → ProofFits proof → cert_in proof ≡ Some cert → CertFits cert
proof_cert proof_of.Raft cert fits at = absurd (cc)
proof_cert (proof_of.Bft x) cert fits at = let same : x ≡ cert = cc in subst CertFits same fits

last_fits : (h : History) (i : ℕ) → AllByRecursion FactFits h → (cert : Cert) (o : Option (Block × Proof))
    → last_delivered i h ≡ o → cert_of_last o ≡ Some cert → CertFits cert
last_fits h i fit cert None is at = absurd (cc)
last_fits h i fit cert (Some last) is at =
    proof_cert last.1 cert (all_stands FactFits h (Delivered i last.0 last.1) fit
    (last_stands i h last.0 last.1 is)).behind at

-- so the place fits
pub place_fits : (su : Setup) (h : History) (i : ℕ) (past : Past) → IsBounded su → NodeStands su h i past
    → IsRun su h → AllByRecursion FactFits h → PlaceFits (place_by_facts su.config i (facts_of past))
    (view i (config_of su i (facts_of past)).number (facts_of past))
unfolding place_by_facts header_hash
place_fits su h i past bounded node run fit =
    let g = facts_of past in
    let tip_is : tip su i h ≡ tip su i g = tip_own su i h ∙ ap (tip su i) node.own in
    let high : height i h ≡ height i g = height_own i h ∙ ap (height i) node.own in
    let last_is : last_delivered i h ≡ last_delivered i g = last_own i h ∙ ap (last_delivered i) node.own in
    let low : (tip su i h).meta.decided ≤ (tip su i h).header.number =
    tip_decided su h i bounded fit (last_delivered i h) refl in
    let decided : (tip su i g).meta.decided ≤ (tip su i g).header.number =
    subst (λ (b : Block). b.meta.decided ≤ b.header.number) tip_is low in
    let number = tip_number su h run (genesis_first su bounded) i in
    let below : (tip su i h).header.number < 2 ^ 62 = tip_below su h i bounded fit (last_delivered i h)
    refl in
    let numbers : (tip su i h).header.number ≡ (tip su i g).header.number =
    ap (λ (b : Block). b.header.number) tip_is in
    let last : (last_block su.config i g).meta.decided ≡ (tip su i g).meta.decided =
    ap (λ (b : Block). (block_or b (last_delivered i g)).meta.decided) (sym bounded.genesis.block) in
    let made : (last_block su.config i g).meta.decided + 1 ≤ height i g = omega arith in
    record {
      view = first_view_of su h i (config_of su i g).number past node;
      config = subst (λ (c : Config). IsNumber c.number) (sym (config_stays su.config (delivered i g)))
          bounded.number;
      members = subst (λ (c : Config). HasIdsSpelling c.members)
          (sym (config_stays su.config (delivered i g))) bounded.members;
      last = length-sha256 _;
      decided = made;
      small = omega arith;
      last_cert = λ cert at. last_fits h i fit cert (last_delivered i g) last_is at;
    }
