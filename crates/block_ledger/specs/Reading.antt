-- What a ledger's file stands for.
use Rattle.std.specs.Prelude.{◌≡◌, ℕ, List, [], ◌∷◌, ◌++◌, length, Option, Some, None, Ok, Err}
use Rattle.ord_types.specs.declared.values.Config.{Config}
use Rattle.gate_log.specs.Format.{reading}
use Rattle.gate_log.specs.declared.reading.Reading.{Reading}
use Rattle.gate_log.specs.declared.reading.Reading.TheVariants as log_of
use Rattle.signer_edge.specs.Accepts.{Accepts}
use Rattle.block_ledger.specs.declared.fault.StoredWhy.{StoredWhy}
use Rattle.block_ledger.specs.declared.fault.StoredWhy.TheVariants.{Grammar}
use Rattle.block_ledger.specs.Chains.{Entry, genesis_entry}
use Rattle.block_ledger.specs.Entries.{fault_place, read_entry}
use Rattle.block_ledger.specs.Judging.{entry_fault}

pub data Stored : Type 0 where
  -- no log; its first wrong byte is at this place
  Foreign : ℕ → Stored
  -- the first stored block that breaks the rules has this number
  Bad : ℕ → StoredWhy → Stored
  Chain : List Entry → Stored

-- one that breaks a rule, or else what those behind it make
abbrev pub bad_or : ℕ → Option StoredWhy → Stored → Stored
bad_or number (Some why) more = Bad number why
bad_or number None more = more

-- The chain that these bytes make behind these blocks, or the first that is no block with its proof or breaks the rules.
abbrev pub read_behind : Accepts → Config → List Entry → List (List ℕ) → Stored
read_behind accepts c before [] = Chain before
read_behind accepts c before (bytes ∷ more) =
    elim (read_entry bytes) [
      | Ok e ↦ bad_or (length before) (entry_fault accepts c before e) (read_behind accepts c (before ++ e ∷ []) more)
      | Err fault ↦ Bad (length before) (Grammar (fault_place fault))
    ]

-- what the entries of a log stand for: where there are none, for what is made of it, the genesis block
abbrev pub read_chain : Accepts → Config → List (List ℕ) → Stored
read_chain accepts c [] = Chain (genesis_entry c ∷ [])
read_chain accepts c (bytes ∷ more) = read_behind accepts c [] (bytes ∷ more)

abbrev pub stands_as : Accepts → Config → Reading → Stored
stands_as accepts c log_of.Absent = Chain (genesis_entry c ∷ [])
stands_as accepts c (log_of.Foreign at) = Foreign at
stands_as accepts c (log_of.Log generation entries) = read_chain accepts c entries

-- what the bytes of a file stand for
unfoldable pub stands_for : Accepts → Config → List ℕ → Stored
stands_for accepts c bytes = stands_as accepts c (reading bytes)

-- The files of a disk keep this chain: the ledger's file stands for it.
abbrev pub KeepsChain : Accepts → Config → (ℕ → List ℕ) → List Entry → Type 0
KeepsChain accepts c files chain = stands_for accepts c (files 2) ≡ Chain chain
