-- Stored blocks that are read, up to the first that breaks the rules.
use Rattle.std.proofs.Common.{◌≡◌, ℕ, ◌+◌, ◌≤◌, List, [], ◌∷◌, ◌++◌, length, map, take, drop, get_or, ◌-◌, ◌<◌, suc, length-drop, drop-cons, sym, ◌∙◌, ap, subst, arith, append_assoc, None, Ok}
use Rattle.std.proofs.lemmas.List.{append-nil, map-append, nil_from_length, take_all}
use Rattle.ord_types.specs.Genesis.{IsGenesisConfig}
use Rattle.ord_types.specs.declared.values.Config.{Config}
use Rattle.signer_edge.specs.Accepts.{Accepts}
use Rattle.block_ledger.specs.declared.fault.LedgerFault.{LedgerFault}
use Rattle.block_ledger.specs.declared.fault.LedgerFault.TheVariants as fault_of
use Rattle.block_ledger.specs.declared.blocks.Blocks.{Blocks}
use Rattle.block_ledger.specs.Chains.{Entry, IsChain, genesis_entry}
use Rattle.block_ledger.specs.Entries.{HasEntrySpelling, HaveSpelling, entry_text, read_entry}
use Rattle.block_ledger.proofs.Adding.{spelled_more}
use Rattle.block_ledger.specs.Judging.{entry_fault, stored_fault, stored_why}
use Rattle.block_ledger.specs.Loading.{IsAdded, IsLoaded, TellsBad, TellsFault}
use Rattle.block_ledger.specs.Reading.{Stored, Bad, read_behind, read_chain}
use Rattle.block_ledger.proofs.Linking.{begins}
use Rattle.block_ledger.proofs.Refusing.{map_none}
use Rattle.block_ledger.proofs.Storing.{fault_behind}
use Rattle.block_ledger.proofs.Telling.{genesis_where, next_is_added, read_one, reads_bad}

-- the blocks so far are a chain, and with what is left they make what all of the entries make
pub record IsReadSoFar (accepts : Accepts) (c : Config) (entries rest : List (List ℕ)) (chain : List Entry) : Type 0 where
  pub same : read_behind accepts c chain rest ≡ read_chain accepts c entries
  pub spells : entries ≡ map entry_text chain ++ rest
  pub spelled : HaveSpelling chain
  pub is_chain : IsChain accepts c chain
  pub some : 1 ≤ length chain

module _ (accepts : Accepts) (c : Config) where
  one_read : (entry : Entry) (bytes : List ℕ) (rest : List (List ℕ)) → entry ≡ genesis_entry c → read_entry bytes ≡ Ok entry → bytes ≡ entry_text entry → entry_fault accepts c [] entry ≡ None → HasEntrySpelling entry
      → IsReadSoFar accepts c (bytes ∷ rest) rest (entry ∷ [])
  one_read entry bytes rest genesis read is sound spelled = record {
    same = sym (read_one accepts c [] bytes entry rest read sound);
    spells = ap (λ (b : List ℕ). b ∷ rest) is;
    spelled = (spelled, tt);
    is_chain = subst (λ (e : Entry). IsChain accepts c (e ∷ [])) (sym genesis) (begins accepts c);
    some = omega arith;
  }

  -- the first one
  pub read_first : (entries rest : List (List ℕ)) (bytes : List ℕ) (chain : List Entry) → IsGenesisConfig c → entries ≡ bytes ∷ rest → IsAdded accepts c [] bytes chain
      → IsReadSoFar accepts c entries rest chain
  read_first entries rest bytes chain config parts added =
      let genesis = genesis_where c added.entry config added.spelled added.sound in
      let one = one_read added.entry bytes rest genesis added.read added.is added.sound added.spelled in
      subst (λ (l : List (List ℕ)). IsReadSoFar accepts c l rest chain) (sym parts)
      (subst (λ (l : List Entry). IsReadSoFar accepts c (bytes ∷ rest) rest l) (sym added.added) one)

  step_read : (entries more : List (List ℕ)) (bytes : List ℕ) (chain : List Entry) (entry : Entry) → IsReadSoFar accepts c entries (bytes ∷ more) chain
      → read_entry bytes ≡ Ok entry → bytes ≡ entry_text entry → entry_fault accepts c chain entry ≡ None → HasEntrySpelling entry → IsReadSoFar accepts c entries more (chain ++ entry ∷ [])
  step_read entries more bytes chain entry so read is sound spelled = record {
    same = sym (read_one accepts c chain bytes entry more read sound) ∙ so.same;
    spells = so.spells ∙ ap (λ (b : List ℕ). map entry_text chain ++ b ∷ more) is ∙ sym (append_assoc (map entry_text chain) (entry_text entry ∷ []) more)
        ∙ ap (λ (l : List (List ℕ)). l ++ more) (sym (map-append entry_text chain (entry ∷ [])));
    spelled = spelled_more chain entry so.spelled spelled;
    is_chain = (next_is_added accepts c chain entry so.is_chain).0 (map_none stored_why _ (sym (fault_behind accepts c chain entry so.some) ∙ sound));
    some = some_more chain so.some;
  }
    where
      some_more : (l : List Entry) → 1 ≤ length l → 1 ≤ length (l ++ entry ∷ [])
      some_more [] h = absurd (omega arith)
      some_more (x ∷ xs) h = omega arith

  -- one more
  pub read_more : (entries more : List (List ℕ)) (bytes : List ℕ) (chain new : List Entry) → IsReadSoFar accepts c entries (bytes ∷ more) chain → IsAdded accepts c chain bytes new
      → IsReadSoFar accepts c entries more new
  read_more entries more bytes chain new so added =
      subst (λ (l : List Entry). IsReadSoFar accepts c entries more l) (sym added.added) (step_read entries more bytes chain added.entry so added.read added.is added.sound added.spelled)

  -- one that breaks the rules
  pub bad_told : (chain : List Entry) (bytes : List ℕ) (more : List (List ℕ)) (stored : Stored) (fault : LedgerFault) → read_behind accepts c chain (bytes ∷ more) ≡ stored
      → TellsFault (length chain) (stored_fault accepts c chain (read_entry bytes)) fault → TellsBad stored fault
  bad_told chain bytes more stored fault_of.NoMemory is told = tt
  bad_told chain bytes more stored (fault_of.Stored n why) is told = sym is ∙ reads_bad accepts c chain bytes why more told.1 ∙ ap (λ k. Bad k why) (sym told.0)
  bad_told chain bytes more stored (fault_of.WrongNumber n) is told = told
  bad_told chain bytes more stored (fault_of.WrongPrevious a b) is told = told
  bad_told chain bytes more stored (fault_of.BadBlock n) is told = told
  bad_told chain bytes more stored (fault_of.BadCert n) is told = told
  bad_told chain bytes more stored fault_of.BadProof is told = told
  bad_told chain bytes more stored (fault_of.Foreign n) is told = told
  bad_told chain bytes more stored (fault_of.Limit n) is told = told
  bad_told chain bytes more stored fault_of.Failed is told = told

  pub first_told : (entries rest : List (List ℕ)) (bytes : List ℕ) (fault : LedgerFault) → entries ≡ bytes ∷ rest → TellsFault 0 (stored_fault accepts c [] (read_entry bytes)) fault
      → TellsBad (read_chain accepts c entries) fault
  first_told entries rest bytes fault parts told = bad_told [] bytes rest (read_chain accepts c entries) fault (ap (read_chain accepts c) (sym parts)) told

  -- all of them
  pub all_read : (entries rest : List (List ℕ)) (blocks : Blocks) → IsReadSoFar accepts c entries rest blocks.chain → rest ≡ [] → blocks.place.config ≡ c
      → IsLoaded accepts c entries (read_chain accepts c entries) blocks
  all_read entries rest blocks so none config = record {
    stands = sym so.same ∙ ap (read_behind accepts c blocks.chain) none;
    spells = so.spells ∙ ap (λ (l : List (List ℕ)). map entry_text blocks.chain ++ l) none ∙ append-nil (map entry_text blocks.chain);
    spelled = so.spelled;
    is_chain = so.is_chain;
    config = config;
  }

rest_of : (l : List (List ℕ)) → take (length l - 1) (drop 1 l) ≡ drop 1 l
rest_of l = take_all (length l - 1) (drop 1 l) (omega (arith, length-drop 1 l))

parts_of : (l : List (List ℕ)) (item : List ℕ) → 1 ≤ length l → item ≡ get_or l 0 item → l ≡ item ∷ drop 1 l
parts_of [] item some is = absurd (omega arith)
parts_of (x ∷ xs) item some is = ap (λ (y : List ℕ). y ∷ xs) (sym is)

-- the first of some entries, and the others
pub parted : (entries items : List (List ℕ)) (bytes item : List ℕ) → 1 ≤ length entries → items ≡ entries → bytes ≡ item → item ≡ get_or items 0 item
    → entries ≡ bytes ∷ take (length items - 1) (drop 1 items)
parted entries items bytes item some same is first =
    sym same ∙ parts_of items item (omega (arith, ap length same, some)) first ∙ ap (λ (b : List ℕ). b ∷ drop 1 items) (sym is) ∙ ap (λ (l : List (List ℕ)). bytes ∷ l) (sym (rest_of items))

-- the next of some entries, and those behind it
pub next_left : (l : List (List ℕ)) (i : ℕ) (bytes item : List ℕ) → i < length l → bytes ≡ item → item ≡ get_or l i item → drop i l ≡ bytes ∷ drop (i + 1) l
next_left l i bytes item lt is there =
    let behind : drop (suc i) l ≡ drop (i + 1) l = let e : suc i ≡ i + 1 = omega arith in ap (λ n. drop n l) e in
    drop-cons l i item lt ∙ ap (λ (b : List ℕ). b ∷ drop (suc i) l) (sym (is ∙ there)) ∙ ap (λ (r : List (List ℕ)). bytes ∷ r) behind

pub none_left : (l : List (List ℕ)) (i : ℕ) → length l ≤ i → drop i l ≡ []
none_left l i le = nil_from_length (drop i l) (omega (arith, length-drop i l))
