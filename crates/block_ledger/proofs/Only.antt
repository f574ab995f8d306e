-- What is read as a chain is one.
use Rattle.std.proofs.Common.{◌≡◌, ℕ, List, [], ◌∷◌, ◌++◌, length, map, refl, ◌∙◌, ap, subst, Some, None, Ok, Err}
use Rattle.std.specs.Prelude.{Option, Result}
use Rattle.std.specs.List.{AllByRecursion}
use Rattle.std.proofs.lemmas.List.{append-nil}
use Rattle.ord_types.specs.Genesis.{IsGenesisConfig}
use Rattle.ord_types.specs.Laws.{IsBytes}
use Rattle.ord_types.specs.declared.fault.ReadFault.{ReadFault}
use Rattle.ord_types.specs.declared.values.Config.{Config}
use Rattle.ord_types.proofs.Answering.{found_of_all}
use Rattle.signer_edge.specs.Accepts.{Accepts}
use Rattle.block_ledger.specs.declared.fault.StoredWhy.{StoredWhy}
use Rattle.block_ledger.specs.declared.fault.StoredWhy.TheVariants.{Grammar}
use Rattle.block_ledger.specs.Chains.{Entry, IsChain}
use Rattle.block_ledger.specs.Entries.{entry_text, fault_place, read_entry}
use Rattle.block_ledger.specs.Judging.{entry_fault}
use Rattle.block_ledger.specs.Loading.{IsAdded}
use Rattle.block_ledger.specs.Reading.{Stored, Bad, Chain, bad_or, read_behind, read_chain}
use Rattle.block_ledger.proofs.EntryLaws.{entry_law}
use Rattle.block_ledger.proofs.Loaded.{IsReadSoFar, read_first, read_more}

module _ (accepts : Accepts) (c : Config) where
  -- the next entry is a block that breaks no rule
  record Goes (before : List Entry) (bytes : List ℕ) (more : List (List ℕ)) (chain : List Entry) : Type 0 where
    new : List Entry
    added : IsAdded accepts c before bytes new
    rest : read_behind accepts c new more ≡ Chain chain

  sound_one : (before : List Entry) (bytes : List ℕ) (more : List (List ℕ)) (chain : List Entry) (e : Entry) → IsBytes bytes → read_entry bytes ≡ Ok e → (fault : Option StoredWhy) → entry_fault accepts c before e ≡ fault
      → bad_or (length before) fault (read_behind accepts c (before ++ e ∷ []) more) ≡ Chain chain → Goes before bytes more chain
  sound_one before bytes more chain e fits read None sound h =
      let found = found_of_all entry_law bytes bytes (Ok e) refl fits read in
      record {
        new = before ++ e ∷ [];
        added = record { entry = e; read = read; spelled = found.spelling; is = found.is; sound = sound; added = refl };
        rest = h;
      }
  sound_one before bytes more chain e fits read (Some why) sound h = absurd cc

  by_result : (before : List Entry) (bytes : List ℕ) (more : List (List ℕ)) (chain : List Entry) → IsBytes bytes → (r : Result Entry ReadFault) → read_entry bytes ≡ r
      → (elim r [
        | Ok x ↦ bad_or (length before) (entry_fault accepts c before x) (read_behind accepts c (before ++ x ∷ []) more)
        | Err fault ↦ Bad (length before) (Grammar (fault_place fault))
      ]) ≡ Chain chain → Goes before bytes more chain
  by_result before bytes more chain fits (Ok e) read h = sound_one before bytes more chain e fits read (entry_fault accepts c before e) refl h
  by_result before bytes more chain fits (Err fault) read h = absurd cc

  goes : (before : List Entry) (bytes : List ℕ) (more : List (List ℕ)) (chain : List Entry) → IsBytes bytes → read_behind accepts c before (bytes ∷ more) ≡ Chain chain → Goes before bytes more chain
  goes before bytes more chain fits h = by_result before bytes more chain fits (read_entry bytes) refl h

  chain_in : Stored → List Entry
  chain_in (Chain l) = l
  chain_in s = []

  only : (entries rest : List (List ℕ)) (before chain : List Entry) → IsReadSoFar accepts c entries rest before → AllByRecursion IsBytes rest → read_behind accepts c before rest ≡ Chain chain
      → IsReadSoFar accepts c entries [] chain
  unfolding chain_in
  only entries [] before chain so fits h = subst (IsReadSoFar accepts c entries []) (ap chain_in h) so
  only entries (bytes ∷ more) before chain so fits h =
      let next = goes before bytes more chain fits.0 h in
      only entries more next.new chain (read_more accepts c entries more bytes before next.new so next.added) fits.1 next.rest

  pub reads_only : (bytes : List ℕ) (more : List (List ℕ)) (chain : List Entry) → IsGenesisConfig c → AllByRecursion IsBytes (bytes ∷ more) → read_chain accepts c (bytes ∷ more) ≡ Chain chain
      → IsChain accepts c chain × (bytes ∷ more ≡ map entry_text chain)
  reads_only bytes more chain config fits h =
      let next = goes [] bytes more chain fits.0 h in
      let so = only (bytes ∷ more) more next.new chain (read_first accepts c (bytes ∷ more) more bytes next.new config refl next.added) fits.1 next.rest in
      (so.is_chain, so.spells ∙ append-nil (map entry_text chain))

pub reads_only_chains : (accepts : Accepts) (c : Config) (bytes : List ℕ) (more : List (List ℕ)) (chain : List Entry) → IsGenesisConfig c → AllByRecursion IsBytes (bytes ∷ more) → read_chain accepts c (bytes ∷ more) ≡ Chain chain
    → IsChain accepts c chain × (bytes ∷ more ≡ map entry_text chain)
reads_only_chains = reads_only
