-- The first block that breaks the rules of a chain.
use Rattle.std.specs.Prelude.{ℕ, List, [], ◌∷◌, ◌++◌, length, if◌then◌else◌, Option, Some, None, Result, Ok, Err}
use Rattle.std.specs.Option.{option_map, option_or}
use Rattle.std.specs.Str.{bytes_eq}
use Rattle.ord_types.specs.Genesis.{genesis_block}
use Rattle.ord_types.specs.Hashes.{block_hash}
use Rattle.ord_types.specs.Members.{is_raft}
use Rattle.ord_types.specs.Spelling.{block_text}
use Rattle.ord_types.specs.declared.fault.ReadFault.{ReadFault}
use Rattle.ord_types.specs.declared.values.Config.{Config}
use Rattle.ord_types.specs.declared.values.Place.{Place}
use Rattle.ord_types.specs.declared.values.Proof.{Proof}
use Rattle.ord_types.specs.declared.values.Proof.TheVariants as proof_of
use Rattle.signer_edge.specs.Accepts.{Accepts}
use Rattle.signer_edge.specs.Certificates.{cert_refusal}
use Rattle.chan_config.specs.Refusals.{refusal_at}
use Rattle.block_ledger.specs.declared.fault.NextRefusal.{NextRefusal}
use Rattle.block_ledger.specs.declared.fault.NextRefusal.TheVariants as next_of
use Rattle.block_ledger.specs.declared.fault.StoredWhy.{StoredWhy}
use Rattle.block_ledger.specs.declared.fault.StoredWhy.TheVariants as why_of
use Rattle.block_ledger.specs.Chains.{Entry}
use Rattle.block_ledger.specs.Entries.{fault_place}
use Rattle.block_ledger.specs.Places.{place_after}

-- why a proof proves nothing under a configuration: it is of the other kind, or what is wrong with its certificate
abbrev pub proof_refusal : Accepts → Config → Entry → Option NextRefusal
proof_refusal accepts c (b, proof_of.Raft) = if is_raft c then None else Some next_of.Proof
proof_refusal accepts c (b, proof_of.Bft cert) =
    if is_raft c then Some next_of.Proof else option_map next_of.Cert (cert_refusal accepts c b.header.number (block_hash b) cert)

-- why a block with its proof may not come next at a place: what is wrong with the block, else with the proof
abbrev pub next_refusal : Accepts → Place → Entry → Option NextRefusal
next_refusal accepts place e =
    option_or (option_map next_of.Block (refusal_at place.last place.height place.config e.0)) (proof_refusal accepts place.config e)

-- the same of a stored block
abbrev pub stored_why : NextRefusal → StoredWhy
stored_why (next_of.Block refusal) = why_of.Block refusal
stored_why next_of.Proof = why_of.Proof
stored_why (next_of.Cert refusal) = why_of.Cert refusal

-- block 0 has the Raft proof, under either kind
abbrev pub genesis_proof_fault : Proof → Option StoredWhy
genesis_proof_fault proof_of.Raft = None
genesis_proof_fault (proof_of.Bft cert) = Some why_of.Proof

-- why a block with its proof isn't block 0 of the chain that begins with this configuration
abbrev pub genesis_fault : Config → Entry → Option StoredWhy
genesis_fault c e =
    if bytes_eq (block_text e.0) (block_text (genesis_block c)) then genesis_proof_fault e.1
    else Some (why_of.Other (block_hash e.0) (block_hash (genesis_block c)))

-- why a block with its proof breaks the rules behind these
abbrev pub entry_fault : Accepts → Config → List Entry → Entry → Option StoredWhy
entry_fault accepts c [] e = genesis_fault c e
entry_fault accepts c (first ∷ more) e = option_map stored_why (next_refusal accepts (place_after c (first ∷ more)) e)

-- what was read, where it breaks no rule behind these
abbrev pub stored_fault : Accepts → Config → List Entry → Result Entry ReadFault → Option StoredWhy
stored_fault accepts c before (Ok e) = entry_fault accepts c before e
stored_fault accepts c before (Err fault) = Some (why_of.Grammar (fault_place fault))

-- a fault at this number, or else a later one
abbrev pub fault_or : ℕ → Option StoredWhy → Option (ℕ × StoredWhy) → Option (ℕ × StoredWhy)
fault_or number (Some why) later = Some (number, why)
fault_or number None later = later

-- the first of these blocks that breaks the rules, with its number, where the others come before them
abbrev pub first_fault : Accepts → Config → List Entry → List Entry → Option (ℕ × StoredWhy)
first_fault accepts c before [] = None
first_fault accepts c before (e ∷ es) = fault_or (length before) (entry_fault accepts c before e) (first_fault accepts c (before ++ e ∷ []) es)
