-- Blocks in memory, and the place behind them.
use Rattle.std.proofs.Common.{◌≡◌, ℕ, ◌-◌, List, [], ◌∷◌, ◌++◌, length, take, refl, sym, ◌∙◌, ap, subst, arith, length-append, None}
use Rattle.std.proofs.Math.Seq.{take-append_seam}
use Rattle.ord_types.specs.Genesis.{IsGenesisConfig, genesis_block, genesis_meta}
use Rattle.ord_types.specs.Hashes.{block_hash}
use Rattle.ord_types.specs.declared.values.Block.{Block}
use Rattle.ord_types.specs.declared.values.Config.{Config}
use Rattle.ord_types.specs.declared.values.Meta.{Meta}
use Rattle.ord_types.specs.declared.values.Place.{Place}
use Rattle.ord_types.specs.declared.values.Proof.TheVariants as proof_of
use Rattle.chan_config.proofs.PlaceLaws.{next_config}
use Rattle.block_ledger.specs.Chains.{Entry, IsGenesisBlock, genesis_entry}
use Rattle.block_ledger.specs.Orders.{IsBounded, IsInOrder}
use Rattle.block_ledger.specs.Places.{first_place, next_place, place_after}
use Rattle.block_ledger.proofs.Placing.{begins_at_first, moves_by_one}

pub bounded : (c : Config) → IsGenesisConfig c → IsBounded c
bounded c is = record {
  some_member = is.some_member;
  few_members = is.members.count;
  small_absolute = is.bounds.small_absolute;
}

-- block 0 alone
pub first_in_order : (c : Config) (b : Block) → IsGenesisBlock c b → (chain : List Entry) (place : Place) → chain ≡ genesis_entry c ∷ [] → place ≡ first_place c → IsInOrder chain place
first_in_order c b is chain place chain_is place_is =
    let config : place.config ≡ c = ap (λ (p : Place). p.config) place_is in
    record {
      bounds = subst IsBounded (sym config) (bounded c is.config);
      some = omega (arith, ap length chain_is);
      behind = place_is ∙ sym (begins_at_first c) ∙ ap (λ (l : List Entry). place_after c l) (sym chain_is) ∙ ap (λ (d : Config). place_after d chain) (sym config);
    }

pub next_config_is : (place next : Place) (e : Entry) → next ≡ next_place place e → next.config ≡ place.config
next_config_is place next e is = ap (λ (p : Place). p.config) is ∙ next_config place e

-- one more block
pub next_in_order : (chain new : List Entry) (place next : Place) (e : Entry) → IsInOrder chain place → new ≡ chain ++ e ∷ [] → next ≡ next_place place e → IsInOrder new next
next_in_order chain new place next e order new_is next_is =
    let config : next.config ≡ place.config = next_config_is place next e next_is in
    record {
      bounds = subst IsBounded (sym config) order.bounds;
      some = omega (arith, ap length new_is, length-append chain (e ∷ []));
      behind = next_is ∙ ap (λ (p : Place). next_place p e) order.behind ∙ sym (moves_by_one place.config chain e)
          ∙ ap (λ (l : List Entry). place_after place.config l) (sym new_is) ∙ ap (λ (d : Config). place_after d new) (sym config);
    }

-- all but one that was added
pub taken_back : (chain new : List Entry) (e : Entry) → new ≡ chain ++ e ∷ [] → take (length new - 1) new ≡ chain
taken_back chain new e is =
    let size : length new - 1 ≡ length chain = omega (arith, ap length is, length-append chain (e ∷ [])) in
    ap (λ n. take n new) size ∙ ap (λ (l : List Entry). take (length chain) l) is ∙ take-append_seam chain (e ∷ [])

genesis_meta_is : (c : Config) → (genesis_block c).meta ≡ genesis_meta
unfolding genesis_block
genesis_meta_is c = refl

pub first_place_is : (c : Config) (b : Block) → IsGenesisBlock c b → (last : List ℕ) (meta : Meta) → last ≡ block_hash b → meta ≡ b.meta
    → record { config = c; start = 1; height = 1; last = last; last_meta = meta; last_cert = None } ≡ first_place c
first_place_is c b is last meta last_is meta_is =
    let hash : last ≡ block_hash (genesis_block c) = last_is ∙ ap block_hash is.block in
    let same : meta ≡ genesis_meta = meta_is ∙ ap (λ (x : Block). x.meta) is.block ∙ genesis_meta_is c in
    rw (hash, same) refl

pub first_chain_is : (c : Config) (b : Block) → IsGenesisBlock c b → (empty : List Entry) → empty ≡ [] → empty ++ (b, proof_of.Raft) ∷ [] ≡ genesis_entry c ∷ []
first_chain_is c b is empty none = ap (λ (l : List Entry). l ++ (b, proof_of.Raft) ∷ []) none ∙ ap (λ (x : Block). one x) is.block
  where
    one : Block → List Entry
    one x = (x, proof_of.Raft) ∷ []

-- without the one that was added
pub back_in_order : (chain new : List Entry) (place back : Place) (e : Entry) → IsInOrder chain place → new ≡ chain ++ e ∷ [] → back ≡ place → IsInOrder (take (length new - 1) new) back
back_in_order chain new place back e order new_is back_is =
    subst (λ (l : List Entry). IsInOrder l back) (sym (taken_back chain new e new_is)) (subst (IsInOrder chain) (sym back_is) order)
