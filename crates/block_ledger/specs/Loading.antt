-- Stored blocks that are read, one after another.
use Rattle.std.specs.Prelude.{◌≡◌, ℕ, List, [], ◌∷◌, ◌++◌, length, map, Option, Some, None, Result, Ok, Err}
use Rattle.ord_types.specs.declared.values.Config.{Config}
use Rattle.signer_edge.specs.Accepts.{Accepts}
use Rattle.block_ledger.specs.declared.fault.LedgerFault.{LedgerFault}
use Rattle.block_ledger.specs.declared.fault.LedgerFault.TheVariants as fault_of
use Rattle.block_ledger.specs.declared.fault.StoredWhy.{StoredWhy}
use Rattle.block_ledger.specs.declared.fault.StoredWhy.TheVariants as why_of
use Rattle.ord_types.specs.declared.fault.ReadFault.{ReadFault}
use Rattle.ord_types.specs.declared.fault.ReadFault.TheVariants as read_of
use Rattle.block_ledger.specs.declared.blocks.Blocks.{Blocks}
use Rattle.block_ledger.specs.Chains.{Entry, IsChain}
use Rattle.block_ledger.specs.Entries.{HasEntrySpelling, HaveSpelling, entry_text, fault_place, read_entry}
use Rattle.block_ledger.specs.Judging.{entry_fault, stored_fault}
use Rattle.block_ledger.specs.Reading.{Stored, Bad, Chain}

-- the bytes are a block with its proof that breaks no rule behind these, and it came to them
pub record IsAdded (accepts : Accepts) (c : Config) (before : List Entry) (bytes : List ℕ) (after : List Entry) : Type 0 where
  pub entry : Entry
  pub read : read_entry bytes ≡ Ok entry
  pub spelled : HasEntrySpelling entry
  pub is : bytes ≡ entry_text entry
  pub sound : entry_fault accepts c before entry ≡ None
  pub added : after ≡ before ++ entry ∷ []

-- the fault of a stored entry that is no block with its proof
abbrev pub grammar_fault : ℕ → ReadFault → LedgerFault
grammar_fault number (read_of.Short at) = fault_of.Stored number (why_of.Grammar at)
grammar_fault number (read_of.BadField at) = fault_of.Stored number (why_of.Grammar at)
grammar_fault number (read_of.Trailing at) = fault_of.Stored number (why_of.Grammar at)
grammar_fault number read_of.NoMemory = fault_of.NoMemory

-- the entry is these bytes
pub record IsReadAs (bytes : List ℕ) (entry : Entry) : Type 0 where
  pub read : read_entry bytes ≡ Ok entry
  pub spelled : HasEntrySpelling entry
  pub is : bytes ≡ entry_text entry

-- what is wrong with an entry that isn't a block with its proof
abbrev pub grammar_why : Result Entry ReadFault → Option StoredWhy
grammar_why (Ok entry) = None
grammar_why (Err fault) = Some (why_of.Grammar (fault_place fault))

-- a stored block is told where it breaks a rule behind so many
abbrev pub TellsFault : ℕ → Option StoredWhy → LedgerFault → Type 0
TellsFault number why fault_of.NoMemory = Unit {0}
TellsFault number why (fault_of.Stored n told) = (n ≡ number) × (why ≡ Some told)
TellsFault number why fault = ⊥

-- an entry is read, or told by its place
abbrev pub ReadsStored : ℕ → List ℕ → Result Entry LedgerFault → Type 0
ReadsStored number bytes (Ok entry) = IsReadAs bytes entry
ReadsStored number bytes (Err fault) = TellsFault number (grammar_why (read_entry bytes)) fault

-- what is answered for a stored block
abbrev pub AddsStored : Accepts → Config → List Entry → List ℕ → List Entry → Result (Unit {0}) LedgerFault → Type 0
AddsStored accepts c before bytes after (Ok _) = IsAdded accepts c before bytes after
AddsStored accepts c before bytes after (Err fault) = TellsFault (length before) (stored_fault accepts c before (read_entry bytes)) fault

-- what is answered for the first one
abbrev pub BeginsStored : Accepts → Config → List ℕ → Result Blocks LedgerFault → Type 0
BeginsStored accepts c bytes (Ok blocks) = IsAdded accepts c [] bytes blocks.chain × (blocks.place.config ≡ c)
BeginsStored accepts c bytes (Err fault) = TellsFault 0 (stored_fault accepts c [] (read_entry bytes)) fault

-- these blocks are what the entries stand for
pub record IsLoaded (accepts : Accepts) (c : Config) (entries : List (List ℕ)) (stored : Stored) (blocks : Blocks) : Type 0 where
  pub stands : stored ≡ Chain blocks.chain
  pub spells : entries ≡ map entry_text blocks.chain
  pub spelled : HaveSpelling blocks.chain
  pub is_chain : IsChain accepts c blocks.chain
  pub config : blocks.place.config ≡ c

abbrev pub TellsBad : Stored → LedgerFault → Type 0
TellsBad stored fault_of.NoMemory = Unit {0}
TellsBad stored (fault_of.Stored n told) = stored ≡ Bad n told
TellsBad stored fault = ⊥

-- what is answered for all of them
abbrev pub LoadsAll : Accepts → Config → List (List ℕ) → Stored → Result Blocks LedgerFault → Type 0
LoadsAll accepts c entries stored (Ok blocks) = IsLoaded accepts c entries stored blocks
LoadsAll accepts c entries stored (Err fault) = TellsBad stored fault
