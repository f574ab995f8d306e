-- What an opening makes of a store.
use Rattle.std.proofs.Common.{◌≡◌, ◌≢◌, ℕ, false, Option, Ok, sym, ◌∙◌, ap, subst, arith}
use Rattle.std.specs.Ordering.{is_eq, nat_cmp}
use Rattle.std.proofs.lemmas.Bool.Decides.{nat_tests}
use Rattle.ord_types.specs.Genesis.{IsGenesisConfig, genesis_block}
use Rattle.ord_types.specs.Grammar.{IsNumber}
use Rattle.ord_types.specs.declared.values.Block.{Block}
use Rattle.ord_types.specs.declared.values.Config.{Config}
use Rattle.ord_types.specs.declared.values.Place.{Place}
use Rattle.gate_log.specs.Disk.{State}
use Rattle.signer_edge.specs.Accepts.{Accepts}
use Rattle.bft_wal.specs.Fold.{durable_of}
use Rattle.bft_wal.specs.declared.durable.Durable.{Durable}
use Rattle.block_ledger.specs.Chains.{IsGenesisBlock}
use Rattle.block_ledger.proofs.Opened.{one_config}
use Rattle.view_model.specs.Acts.{View}
use Rattle.node_model.specs.Cores.{Core, Found, found_in}
use Rattle.view_core.specs.Places.{IsPlace}
use Rattle.bft_node.specs.Returning.{opened, view_at}
use Rattle.bft_node.specs.Running.{IsSound, as_found, place_of, state_of}
use Rattle.bft_node.specs.Stores.{StoreOpensTo, config_of, held_of}
use Rattle.bft_node.specs.declared.live.Running.{Running}
use Rattle.bft_node.specs.declared.store.Store.{Store}

abbrev core_with : Place → View → Option Found → Core
core_with place view found = record { place = place; view = view; found = found }

-- a node whose view is that of an opening, with what the log leaves there
module _ (r : Running) (durable : Durable)
    (is : durable ≡ durable_of (place_of r).config.number (place_of r).height (held_of r.store).records)
    (view : r.view ≡ (opened (config_of r.store) r.id (held_of r.store)).view) where
  pub sound_of : IsPlace (place_of r) → IsNumber (place_of r).config.number → IsNumber durable.view → IsSound r
  sound_of place number entered =
      record {
        me = ap (λ (w : View). w.me) view;
        place = place;
        at = record {
          config = ap (λ (w : View). w.config) view;
          members = ap (λ (w : View). w.members) view;
          height = ap (λ (w : View). w.height) view;
        };
        config = number;
        view =
            subst IsNumber (ap (λ (d : Durable). d.view) is ∙ sym (ap (λ (w : View). w.view) view)) entered;
      }

  pub state_opened : as_found r.found ≡ found_in (place_of r) (view_at r.id (place_of r) durable)
      → state_of r ≡ opened (config_of r.store) r.id (held_of r.store)
  state_opened found =
      ap (core_with (place_of r) r.view) found
      ∙ ap (λ (d : Durable). core_with (place_of r) r.view (found_in (place_of r) (view_at r.id (place_of r) d))) is
      ∙ ap (λ (w : View). core_with (place_of r) w
      (found_in (place_of r) (opened (config_of r.store) r.id (held_of r.store)).view)) view

-- the configuration with whose block a store was opened
pub opened_on : (store : Store) (c : Config) (block : Block) → IsGenesisConfig c → block ≡ genesis_block c → IsGenesisBlock (config_of store) block → config_of store ≡ c
opened_on store c block first is opens = one_config (config_of store) c block opens (record { config = first; block = is })

-- the same store
pub opens_moved : (accepts : Accepts) (c : Config) (state : State) (store moved : Store) → moved ≡ store → StoreOpensTo accepts c state (Ok store) → StoreOpensTo accepts c state (Ok moved)
opens_moved accepts c state store moved is opens = subst (λ (s : Store). StoreOpensTo accepts c state (Ok s)) (sym is) opens

-- what it stands for there
pub state_moved : (r : Running) (c : Config) (me : ℕ) (store : Store) → r.store ≡ store → config_of store ≡ c → state_of r ≡ opened (config_of store) me (held_of store)
    → state_of r ≡ opened c me (held_of r.store)
state_moved r c me store is same state =
    subst (λ (s : Store). state_of r ≡ opened c me (held_of s)) (sym is) (subst (λ (k : Config). state_of r ≡ opened k me (held_of store)) same state)

-- KEYS OF A MAP

pub apart : (id other : ℕ) → other ≢ id → is_eq (nat_cmp id other) ≡ false
apart id other not = grind (arith, nat_tests)
