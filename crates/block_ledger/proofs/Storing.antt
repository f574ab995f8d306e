-- One stored block after another.
use Rattle.std.proofs.Common.{◌≡◌, ℕ, ◌≤◌, List, [], ◌∷◌, ◌++◌, length, refl, sym, ◌∙◌, ap, arith, Some, None, Ok, Err}
use Rattle.std.specs.Prelude.{Option, Result}
use Rattle.std.specs.Option.{option_map}
use Rattle.ord_types.specs.declared.fault.ReadFault.{ReadFault}
use Rattle.ord_types.specs.declared.values.Config.{Config}
use Rattle.ord_types.specs.declared.values.Place.{Place}
use Rattle.signer_edge.specs.Accepts.{Accepts}
use Rattle.block_ledger.specs.declared.fault.LedgerFault.{LedgerFault}
use Rattle.block_ledger.specs.declared.fault.LedgerFault.TheVariants as fault_of
use Rattle.block_ledger.specs.declared.fault.NextRefusal.{NextRefusal}
use Rattle.block_ledger.specs.declared.fault.StoredWhy.{StoredWhy}
use Rattle.block_ledger.specs.Chains.{Entry}
use Rattle.block_ledger.specs.Entries.{read_entry}
use Rattle.block_ledger.specs.Judging.{entry_fault, next_refusal, stored_fault, stored_why}
use Rattle.block_ledger.specs.Loading.{IsAdded, IsReadAs, TellsFault, grammar_why}
use Rattle.block_ledger.specs.Orders.{IsInOrder}
use Rattle.block_ledger.specs.Places.{place_after}
use Rattle.block_ledger.proofs.Placing.{height_of_place}

module _ (accepts : Accepts) where
  pub fault_behind : (c : Config) (chain : List Entry) (e : Entry) → 1 ≤ length chain → entry_fault accepts c chain e ≡ option_map stored_why (next_refusal accepts (place_after c chain) e)
  fault_behind c [] e some = absurd (omega arith)
  fault_behind c (x ∷ xs) e some = refl

  pub height_is : (chain : List Entry) (place : Place) → IsInOrder chain place → place.height ≡ length chain
  height_is chain place order = ap (λ (p : Place). p.height) order.behind ∙ height_of_place place.config chain

  -- what is wrong with a stored block at the place is what is wrong with it behind the blocks
  pub fault_here : (chain : List Entry) (place : Place) (e : Entry) (r : Option NextRefusal) → IsInOrder chain place → r ≡ next_refusal accepts place e → entry_fault accepts place.config chain e ≡ option_map stored_why r
  fault_here chain place e r order is =
      fault_behind place.config chain e order.some ∙ ap (λ (p : Place). option_map stored_why (next_refusal accepts p e)) (sym order.behind) ∙ ap (option_map stored_why) (sym is)

  pub fault_stored : (chain : List Entry) (place : Place) (bytes : List ℕ) (e : Entry) (r : NextRefusal) → IsInOrder chain place → read_entry bytes ≡ Ok e → Some r ≡ next_refusal accepts place e
      → stored_fault accepts place.config chain (read_entry bytes) ≡ Some (stored_why r)
  fault_stored chain place bytes e r order read is =
      ap (stored_fault accepts place.config chain) read ∙ fault_here chain place e (Some r) order is

  pub is_added : (chain : List Entry) (place : Place) (bytes : List ℕ) (e : Entry) (new : List Entry) → IsInOrder chain place → IsReadAs bytes e → None ≡ next_refusal accepts place e → new ≡ chain ++ e ∷ []
      → IsAdded accepts place.config chain bytes new
  is_added chain place bytes e new order read none new_is = record {
    entry = e;
    read = read.read;
    spelled = read.spelled;
    is = read.is;
    sound = fault_here chain place e None order none;
    added = new_is;
  }

  grammar_fault_is : (c : Config) (before : List Entry) (r : Result Entry ReadFault) (why : StoredWhy) → grammar_why r ≡ Some why → stored_fault accepts c before r ≡ Some why
  grammar_fault_is c before (Ok e) why h = absurd cc
  grammar_fault_is c before (Err fault) why h = h

  pub grammar_told : (c : Config) (before : List Entry) (number : ℕ) (r : Result Entry ReadFault) (fault : LedgerFault) → number ≡ length before → TellsFault number (grammar_why r) fault
      → TellsFault (length before) (stored_fault accepts c before r) fault
  grammar_told c before number r fault_of.NoMemory is told = tt
  grammar_told c before number r (fault_of.Stored n why) is told = (told.0 ∙ is, grammar_fault_is c before r why told.1)
  grammar_told c before number r (fault_of.WrongNumber n) is told = told
  grammar_told c before number r (fault_of.WrongPrevious a b) is told = told
  grammar_told c before number r (fault_of.BadBlock n) is told = told
  grammar_told c before number r (fault_of.BadCert n) is told = told
  grammar_told c before number r fault_of.BadProof is told = told
  grammar_told c before number r (fault_of.Foreign n) is told = told
  grammar_told c before number r (fault_of.Limit n) is told = told
  grammar_told c before number r fault_of.Failed is told = told
