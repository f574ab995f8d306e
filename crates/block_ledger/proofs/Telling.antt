-- The first block that breaks the rules, and the chain that a file stands for.
use Rattle.std.proofs.Common.{◌≡◌, ℕ, Bool, true, false, List, [], ◌∷◌, ◌++◌, length, map, refl, sym, ◌∙◌, ap, subst, Some, None, Ok, Err, append_assoc, if◌then◌else◌}
use Rattle.std.specs.Prelude.{Option, Result, ◌↔◌}
use Rattle.std.specs.Str.{bytes_eq}
use Rattle.std.proofs.lemmas.List.{append-nil}
use Rattle.std.proofs.lemmas.Option.{none-some, same_Some}
use Rattle.std.proofs.lemmas.Slice.Eq.{bytes_eq-Decides}
use Rattle.ord_types.specs.Genesis.{IsGenesisConfig, genesis_block}
use Rattle.ord_types.specs.Hashes.{block_hash}
use Rattle.ord_types.specs.Spelling.{block_text}
use Rattle.ord_types.specs.declared.fault.ReadFault.{ReadFault}
use Rattle.ord_types.specs.declared.values.Block.{Block}
use Rattle.ord_types.specs.declared.values.Config.{Config}
use Rattle.ord_types.specs.declared.values.Proof.{Proof}
use Rattle.ord_types.specs.declared.values.Proof.TheVariants as proof_of
use Rattle.ord_types.specs.Grammar.{HasBlockSpelling}
use Rattle.ord_types.proofs.Laws.{one_spelling}
use Rattle.ord_types.proofs.Sizes.{genesis_block_spelling}
use Rattle.ord_types.proofs.ValueLaws.{block_law}
use Rattle.signer_edge.specs.Accepts.{Accepts}
use Rattle.block_ledger.specs.declared.fault.StoredWhy.{StoredWhy}
use Rattle.block_ledger.specs.declared.fault.StoredWhy.TheVariants as why_of
use Rattle.block_ledger.specs.Chains.{Entry, IsChain, genesis_entry}
use Rattle.block_ledger.specs.Entries.{HasEntrySpelling, HaveSpelling, entry_text, fault_place, read_entry}
use Rattle.block_ledger.specs.Judging.{entry_fault, fault_or, first_fault, genesis_fault, genesis_proof_fault, next_refusal, stored_fault, stored_why}
use Rattle.block_ledger.specs.Places.{place_after}
use Rattle.block_ledger.specs.Reading.{Bad, Chain, bad_or, read_behind, read_chain}
use Rattle.block_ledger.proofs.EntryLaws.{reads_entry}
use Rattle.block_ledger.proofs.Linking.{begins, grows, next_in}
use Rattle.block_ledger.proofs.Refusing.{map_none, none_map}

-- BLOCK 0

-- two blocks that are spelled alike are one
pub same_block : (a b : Block) → HasBlockSpelling a → HasBlockSpelling b → block_text a ≡ block_text b → a ≡ b
same_block a b h k e = (one_spelling block_law a b [] [] h k (append-nil (block_text a) ∙ e ∙ sym (append-nil (block_text b)))).0

same_texts : (c : Config) (e : Entry) (same : Bool) → bytes_eq (block_text e.0) (block_text (genesis_block c)) ≡ same
    → (if same then genesis_proof_fault e.1 else Some (why_of.Other (block_hash e.0) (block_hash (genesis_block c)))) ≡ None → (block_text e.0 ≡ block_text (genesis_block c)) × (genesis_proof_fault e.1 ≡ None)
same_texts c e true is h = ((bytes_eq-Decides (block_text e.0) (block_text (genesis_block c))).0 is, h)
same_texts c e false is h = absurd (none-some _ (sym h))

raft_only : (proof : Proof) → genesis_proof_fault proof ≡ None → proof_of.Raft ≡ proof
raft_only proof_of.Raft h = refl
raft_only (proof_of.Bft cert) h = absurd (none-some _ (sym h))

-- nothing is wrong with the genesis block alone
pub genesis_where : (c : Config) (e : Entry) → IsGenesisConfig c → HasEntrySpelling e → genesis_fault c e ≡ None → e ≡ genesis_entry c
genesis_where c (b, proof) config spelled h =
    let p = same_texts c (b, proof) (bytes_eq (block_text b) (block_text (genesis_block c))) refl h in
    let block : b ≡ genesis_block c = same_block b (genesis_block c) spelled.block (genesis_block_spelling c config) p.0 in
    let proof_is : proof ≡ proof_of.Raft = sym (raft_only proof p.1) in
    rw (block, proof_is) refl

pub where_genesis : (c : Config) → genesis_fault c (genesis_entry c) ≡ None
where_genesis c =
    let same : bytes_eq (block_text (genesis_block c)) (block_text (genesis_block c)) ≡ true = (bytes_eq-Decides (block_text (genesis_block c)) (block_text (genesis_block c))).1 refl in
    rw same refl

-- FIRST FAULTS

fault_none : (number : ℕ) (fault : Option StoredWhy) (later : Option (ℕ × StoredWhy)) → fault_or number fault later ≡ None → (fault ≡ None) × (later ≡ None)
fault_none number None later h = (refl, h)
fault_none number (Some why) later h = absurd (none-some _ (sym h))

module _ (accepts : Accepts) (c : Config) where
  -- behind a chain, a list with no fault makes a chain
  chain_behind : (x : Entry) (xs es : List Entry) → IsChain accepts c (x ∷ xs) → first_fault accepts c (x ∷ xs) es ≡ None → IsChain accepts c (x ∷ xs ++ es)
  chain_behind x xs [] is h = subst (IsChain accepts c) (sym (append-nil (x ∷ xs))) is
  chain_behind x xs (e ∷ es) is h =
      let p = fault_none _ _ _ h in
      let one = grows accepts c x xs e is (map_none stored_why _ p.0) in
      subst (IsChain accepts c) (append_assoc (x ∷ xs) (e ∷ []) es) (chain_behind x (xs ++ e ∷ []) es one p.1)

  -- and the other way
  pub no_fault_behind : (x : Entry) (xs es : List Entry) → IsChain accepts c (x ∷ xs ++ es) → first_fault accepts c (x ∷ xs) es ≡ None
  no_fault_behind x xs [] is = refl
  no_fault_behind x xs (e ∷ es) is =
      let here : entry_fault accepts c (x ∷ xs) e ≡ None = none_map stored_why _ (next_in accepts c x xs e es is) in
      let later : first_fault accepts c (x ∷ xs ++ e ∷ []) es ≡ None = no_fault_behind x (xs ++ e ∷ []) es (subst (IsChain accepts c) (sym (append_assoc (x ∷ xs) (e ∷ []) es)) is) in
      rw (here, later) refl

  no_fault : (e : Entry) (es : List Entry) → IsChain accepts c (e ∷ es) → first_fault accepts c [] (e ∷ es) ≡ None
  no_fault e es is =
      let first : e ≡ genesis_entry c = same_Some _ _ is.first in
      let here : genesis_fault c e ≡ None = subst (λ (x : Entry). genesis_fault c x ≡ None) (sym first) (where_genesis c) in
      rw (here, no_fault_behind e [] es is) refl

  is_chain : (e : Entry) (es : List Entry) → IsGenesisConfig c → HaveSpelling (e ∷ es) → first_fault accepts c [] (e ∷ es) ≡ None → IsChain accepts c (e ∷ es)
  is_chain e es config spelled h =
      let p = fault_none _ _ _ h in
      let first : e ≡ genesis_entry c = genesis_where c e config spelled.0 p.0 in
      chain_behind e [] es (subst (λ (x : Entry). IsChain accepts c (x ∷ [])) (sym first) (begins accepts c)) p.1

  -- WHAT SPELLS A CHAIN IS READ AS IT

  -- an entry that breaks no rule behind these
  pub read_one : (before : List Entry) (bytes : List ℕ) (e : Entry) (more : List (List ℕ)) → read_entry bytes ≡ Ok e → entry_fault accepts c before e ≡ None
      → read_behind accepts c before (bytes ∷ more) ≡ read_behind accepts c (before ++ e ∷ []) more
  read_one before bytes e more read none =
      ap (λ (r : Result Entry ReadFault). elim r [
        | Ok x ↦ bad_or (length before) (entry_fault accepts c before x) (read_behind accepts c (before ++ x ∷ []) more)
        | Err fault ↦ Bad (length before) (why_of.Grammar (fault_place fault))
      ]) read
      ∙ ap (λ (f : Option StoredWhy). bad_or (length before) f (read_behind accepts c (before ++ e ∷ []) more)) none

  bad_one : (before : List Entry) (r : Result Entry ReadFault) (why : StoredWhy) (more : List (List ℕ)) → stored_fault accepts c before r ≡ Some why
      → (elim r [
        | Ok x ↦ bad_or (length before) (entry_fault accepts c before x) (read_behind accepts c (before ++ x ∷ []) more)
        | Err fault ↦ Bad (length before) (why_of.Grammar (fault_place fault))
      ]) ≡ Bad (length before) why
  bad_one before (Ok e) why more h = ap (λ (f : Option StoredWhy). bad_or (length before) f (read_behind accepts c (before ++ e ∷ []) more)) h
  bad_one before (Err fault) why more h = ap (Bad (length before)) (same_Some _ _ h)

  -- an entry that breaks a rule behind these
  pub reads_bad : (before : List Entry) (bytes : List ℕ) (why : StoredWhy) (more : List (List ℕ)) → stored_fault accepts c before (read_entry bytes) ≡ Some why
      → read_behind accepts c before (bytes ∷ more) ≡ Bad (length before) why
  reads_bad before bytes why more h = bad_one before (read_entry bytes) why more h

  reads_one : (before : List Entry) (e : Entry) (more : List (List ℕ)) → HasEntrySpelling e → entry_fault accepts c before e ≡ None
      → read_behind accepts c before (entry_text e ∷ more) ≡ read_behind accepts c (before ++ e ∷ []) more
  reads_one before e more spelled none =
      read_one before (entry_text e) e more (reads_entry e spelled) none

  reads_behind : (before es : List Entry) → HaveSpelling es → first_fault accepts c before es ≡ None → read_behind accepts c before (map entry_text es) ≡ Chain (before ++ es)
  reads_behind before [] spelled h = ap Chain (sym (append-nil before))
  reads_behind before (e ∷ es) spelled h =
      let p = fault_none _ _ _ h in
      reads_one before e (map entry_text es) spelled.0 p.0 ∙ reads_behind (before ++ e ∷ []) es spelled.1 p.1 ∙ ap Chain (append_assoc before (e ∷ []) es)

  pub chain_read : (chain : List Entry) → HaveSpelling chain → IsChain accepts c chain → read_chain accepts c (map entry_text chain) ≡ Chain chain
  chain_read [] spelled is = absurd (none-some _ is.first)
  chain_read (e ∷ es) spelled is = reads_behind [] (e ∷ es) spelled (no_fault e es is)

pub faults_are_told : (accepts : Accepts) (c : Config) (e : Entry) (es : List Entry) → IsGenesisConfig c → HaveSpelling (e ∷ es)
    → (first_fault accepts c [] (e ∷ es) ≡ None) ↔ IsChain accepts c (e ∷ es)
faults_are_told accepts c e es config spelled = (is_chain accepts c e es config spelled, no_fault accepts c e es)

pub next_is_added : (accepts : Accepts) (c : Config) (chain : List Entry) (e : Entry) → IsChain accepts c chain
    → (next_refusal accepts (place_after c chain) e ≡ None) ↔ IsChain accepts c (chain ++ e ∷ [])
next_is_added accepts c [] e is = absurd (none-some _ is.first)
next_is_added accepts c (x ∷ xs) e is = (grows accepts c x xs e is, next_in accepts c x xs e [])

pub reads_chain : (accepts : Accepts) (c : Config) (chain : List Entry) → HaveSpelling chain → IsChain accepts c chain
    → read_chain accepts c (map entry_text chain) ≡ Chain chain
reads_chain = chain_read
