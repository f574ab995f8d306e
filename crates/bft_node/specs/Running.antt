-- What a running node stands for, and what it keeps true.
use Rattle.std.specs.Prelude.{◌≡◌, Bool, List, Option, IsTrue}
use Rattle.std.specs.Option.{option_map}
use Rattle.ord_types.specs.Grammar.{IsNumber}
use Rattle.ord_types.specs.declared.values.Place.{Place}
use Rattle.gate_log.specs.Disk.{State, now}
use Rattle.block_ledger.specs.Chains.{Entry}
use Rattle.block_ledger.specs.Ledgers.{blocks_of, stands_at}
use Rattle.node_model.specs.Cores.{Core, Found}
use Rattle.view_core.specs.Places.{IsPlace, StandsAt}
use Rattle.bft_node.specs.Stores.{IsKept, config_of}
use Rattle.bft_node.specs.declared.live.Found.{Found as Kept}
use Rattle.bft_node.specs.declared.live.Running.{Running}

-- the chain of its blocks with their proofs
abbrev pub chain_of : Running → List Entry
chain_of r = blocks_of r.store.ledger

-- where its ledger stands
abbrev pub place_of : Running → Place
place_of r = stands_at r.store.ledger

abbrev pub as_found : Option Kept → Option Found
as_found found =
    option_map (λ (f : Kept). record {
      config = f.config;
      view = f.view;
      height = f.height;
      block = f.block;
      is_prepared = f.is_prepared;
    }) found

abbrev pub state_of : Running → Core
state_of r = record { place = place_of r; view = r.view; found = as_found r.found }

-- its view is its own, at its place; all numbers have a spelling
pub record IsSound (r : Running) : Type 0 where
  pub me : r.view.me ≡ r.id
  pub place : IsPlace (place_of r)
  pub at : StandsAt (place_of r) r.view
  pub config : IsNumber (place_of r).config.number
  pub view : IsNumber r.view.view

-- It may go on over a disk with these moments: both files are as it left them.
pub record IsReady (tells : Bool) (moments : List State) (r : Running) : Type 0 where
  pub sound : IsSound r
  pub kept : IsTrue tells → IsKept r.store (now moments)

-- It is the same node, in the chain of the same first configuration.
pub record IsSame (old new : Running) : Type 0 where
  pub id : new.id ≡ old.id
  pub config : config_of new.store ≡ config_of old.store
