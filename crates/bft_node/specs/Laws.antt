-- What holds of stores, and of one deed after another.
use Rattle.std.specs.Prelude.{◌≡◌, List, ◌++◌}
use Rattle.ord_types.specs.declared.values.Config.{Config}
use Rattle.gate_log.specs.Disk.{State}
use Rattle.gate_log.specs.Runs.{Throughout}
use Rattle.signer_edge.specs.Accepts.{Accepts}
use Rattle.block_ledger.specs.Chains.{IsChain}
use Rattle.node_model.specs.Entries.{Deed}
use Rattle.bft_node.specs.Crashes.{Image, IsCrash, Opens, Within}
use Rattle.bft_node.specs.Held.{Held, with_deeds}
use Rattle.bft_node.specs.Stores.{IsKept, config_of, held_of}
use Rattle.bft_node.specs.declared.store.Store.{Store}

-- until ledger and log are written to again, every crash opens to what a kept store holds
abbrev pub KeptStoreOpens : Type 0
KeptStoreOpens =
    (accepts : Accepts) (store : Store) (state : State) → IsKept store state
    → IsChain accepts (config_of store) (held_of store).blocks
    → (image : Image) → IsCrash state image → Opens accepts (config_of store) image (held_of store)

-- it stays kept whatever becomes of the other file
abbrev pub KeptStoreStays : Type 0
KeptStoreStays =
    (store : Store) (one two : State) → IsKept store one → two 0 ≡ one 0 → two 2 ≡ one 2 → IsKept store two

-- a run within some deeds, and then one within more deeds from what they leave, is one within all of them
abbrev pub RunsGoOn : Type 0
RunsGoOn =
    (accepts : Accepts) (c : Config) (first more : List Deed) (held : Held) (old mid new : List State)
    → Throughout (Within accepts c first held) old mid
    → Throughout (Within accepts c more (with_deeds first held)) mid new
    → Throughout (Within accepts c (first ++ more) held) old new

-- a run within some deeds is one within more
abbrev pub RunsAreWithin : Type 0
RunsAreWithin =
    (accepts : Accepts) (c : Config) (first more : List Deed) (held : Held) (old new : List State)
    → Throughout (Within accepts c first held) old new → Throughout (Within accepts c (first ++ more) held) old new
