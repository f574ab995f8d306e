-- What a file stands for, where more signatures are accepted.
use Rattle.std.proofs.Common.{◌≡◌, ℕ, List, [], ◌∷◌, ◌++◌, length, Some, None, Ok, Err, refl, ◌∙◌, ap}
use Rattle.std.specs.Prelude.{Option, Result}
use Rattle.ord_types.specs.declared.fault.ReadFault.{ReadFault}
use Rattle.ord_types.specs.declared.values.Config.{Config}
use Rattle.ord_types.specs.declared.values.Place.{Place}
use Rattle.gate_log.specs.Format.{reading}
use Rattle.gate_log.specs.declared.reading.Reading.{Reading}
use Rattle.gate_log.specs.declared.reading.Reading.TheVariants as log_of
use Rattle.signer_edge.specs.Accepts.{Accepts}
use Rattle.signer_edge.specs.Signing.{KeepsAccepted}
use Rattle.block_ledger.specs.declared.fault.StoredWhy.{StoredWhy}
use Rattle.block_ledger.specs.declared.fault.StoredWhy.TheVariants.{Grammar}
use Rattle.block_ledger.specs.Chains.{Entry}
use Rattle.block_ledger.specs.Entries.{fault_place, read_entry}
use Rattle.block_ledger.specs.Judging.{entry_fault, next_refusal, stored_why}
use Rattle.block_ledger.specs.Places.{place_after}
use Rattle.block_ledger.specs.Reading.{Stored, Bad, Chain, bad_or, read_behind, read_chain, stands_as, stands_for}
use Rattle.block_ledger.proofs.Refusing.{map_none, next_where, none_map, proved_kept, where_next}

module _ (old new : Accepts) (keeps : KeepsAccepted old new) (c : Config) (chain : List Entry) where
  next_more : (place : Place) (e : Entry) → next_refusal old place e ≡ None → next_refusal new place e ≡ None
  next_more place e h =
      let p = next_where old place e h in
      where_next new place e p.0 (proved_kept old new place.config e keeps p.1)

  fault_more : (before : List Entry) (e : Entry) → entry_fault old c before e ≡ None → entry_fault new c before e ≡ None
  fault_more [] e h = h
  fault_more (first ∷ more) e h =
      none_map stored_why (next_refusal new (place_after c (first ∷ more)) e)
      (next_more (place_after c (first ∷ more)) e (map_none stored_why (next_refusal old (place_after c (first ∷ more)) e) h))

  good_more : (number : ℕ) (o p : Option StoredWhy) (x y : Stored) → (o ≡ None → p ≡ None) → (x ≡ Chain chain → y ≡ Chain chain) → bad_or number o x ≡ Chain chain → bad_or number p y ≡ Chain chain
  good_more number None p x y to rest h = ap (λ (q : Option StoredWhy). bad_or number q y) (to refl) ∙ rest h
  good_more number (Some why) p x y to rest h = absurd (cc)

  read_on : Accepts → List Entry → List (List ℕ) → Result Entry ReadFault → Stored
  read_on accepts before more read =
      elim read [
        | Ok e ↦ bad_or (length before) (entry_fault accepts c before e) (read_behind accepts c (before ++ e ∷ []) more)
        | Err fault ↦ Bad (length before) (Grammar (fault_place fault))
      ]

  on_more : (before : List Entry) (more : List (List ℕ)) (read : Result Entry ReadFault)
      → ((e : Entry) → read_behind old c (before ++ e ∷ []) more ≡ Chain chain → read_behind new c (before ++ e ∷ []) more ≡ Chain chain)
      → read_on old before more read ≡ Chain chain → read_on new before more read ≡ Chain chain
  unfolding read_on
  on_more before more (Ok e) rest h =
      good_more (length before) (entry_fault old c before e) (entry_fault new c before e) (read_behind old c (before ++ e ∷ []) more) (read_behind new c (before ++ e ∷ []) more) (fault_more before e) (rest e) h
  on_more before more (Err fault) rest h = h

  behind_more : (entries : List (List ℕ)) (before : List Entry) → read_behind old c before entries ≡ Chain chain → read_behind new c before entries ≡ Chain chain
  unfolding read_on
  behind_more [] before h = h
  behind_more (bytes ∷ more) before h = on_more before more (read_entry bytes) (λ e. behind_more more (before ++ e ∷ [])) h

  chain_more : (entries : List (List ℕ)) → read_chain old c entries ≡ Chain chain → read_chain new c entries ≡ Chain chain
  chain_more [] h = h
  chain_more (bytes ∷ more) h = behind_more (bytes ∷ more) [] h

  log_more : (read : Reading) → stands_as old c read ≡ Chain chain → stands_as new c read ≡ Chain chain
  log_more log_of.Absent h = h
  log_more (log_of.Foreign at) h = h
  log_more (log_of.Log generation entries) h = chain_more entries h

  -- what stands for a chain does so still
  pub stands_more : (bytes : List ℕ) → stands_for old c bytes ≡ Chain chain → stands_for new c bytes ≡ Chain chain
  unfolding stands_for
  stands_more bytes h = log_more (reading bytes) h
