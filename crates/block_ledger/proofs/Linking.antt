-- How a chain grows.
use Rattle.std.proofs.Common.{◌≡◌, inl, inr, ℕ, zero, suc, ◌+◌, ◌≤◌, true, ◌&&◌, List, [], ◌∷◌, ◌++◌, length, take, refl, sym, ◌∙◌, ap, subst, arith, Some, None}
use Rattle.std.specs.Prelude.{slice_get, ◌==◌, nat_lt, ◌^◌}
use Rattle.std.specs.Str.{bytes_eq}
use Rattle.std.proofs.Math.Seq.{take-append_seam}
use Rattle.std.proofs.lemmas.Bool.{and_parts, eqb-true}
use Rattle.std.proofs.lemmas.List.{take-append-le}
use Rattle.std.proofs.lemmas.Option.{none-some, same_Some}
use Rattle.ord_types.specs.Genesis.{genesis_block}
use Rattle.ord_types.specs.Hashes.{block_hash}
use Rattle.ord_types.specs.declared.values.Block.{Block}
use Rattle.ord_types.specs.declared.values.Config.{Config}
use Rattle.signer_edge.specs.Accepts.{Accepts}
use Rattle.signer_edge.specs.Signing.{KeepsAccepted}
use Rattle.chan_config.specs.Blocks.{config_at, follows_block, has_number, hashes_fit, is_lawful, is_linked}
use Rattle.block_ledger.specs.Chains.{Entry, IsChain, blocks_in, config_in_force, genesis_entry, is_proved}
use Rattle.block_ledger.specs.Judging.{next_refusal}
use Rattle.block_ledger.specs.Places.{place_after, tip_after}
use Rattle.block_ledger.proofs.Lists.{get_before, get_behind, get_front, get_last, get_seam}
use Rattle.block_ledger.proofs.Refusing.{next_where, proved_kept, where_next}

-- what a linked block has for a number
number_linked : (last : List ℕ) (number : ℕ) (b : Block) → is_linked last number b ≡ true → b.header.number ≡ number
number_linked last number b h =
    let p = and_parts (has_number number b && bytes_eq b.header.previous last) (hashes_fit b) h in
    let q = and_parts (has_number number b) (bytes_eq b.header.previous last) p.0 in
    let r = and_parts (b.header.number == number) (nat_lt number (2 ^ 62)) q.0 in
    eqb-true b.header.number number r.0

genesis_number : (c : Config) → (genesis_entry c).0.header.number ≡ 0
unfolding genesis_block
genesis_number c = refl

-- each block has the number of its place
pub numbers : {accepts : Accepts} {c : Config} {chain : List Entry} → IsChain accepts c chain → (i : ℕ) (e : Entry) → slice_get chain i ≡ Some e → e.0.header.number ≡ i
numbers {c = c} {chain = chain} is zero e h =
    let same : genesis_entry c ≡ e = same_Some (genesis_entry c) e (sym is.first ∙ h) in
    ap (λ (x : Entry). x.0.header.number) (sym same) ∙ genesis_number c
numbers {chain = chain} is (suc i) e h =
    let at : i + 1 ≡ suc i = omega arith in
    let there : slice_get chain (i + 1) ≡ Some e = ap (λ n. slice_get chain n) at ∙ h in
    let b = get_before chain i e there in
    let linked = number_linked (block_hash b.0.0) (b.0.0.header.number + 1) e.0 (is.linked i b.0 e b.1 there) in
    linked ∙ ap (λ n. n + 1) (numbers is i b.0 b.1) ∙ at

-- the last of a front
front_last : (x : Entry) (xs ys : List Entry) → slice_get (x ∷ xs ++ ys) (length xs) ≡ Some (tip_after x xs)
front_last x [] ys = refl
front_last x (y ∷ xs) ys = front_last y xs ys

some_blocks : {accepts : Accepts} {c : Config} (chain : List Entry) → IsChain accepts c chain → 1 ≤ length chain
some_blocks [] is = absurd (none-some _ is.first)
some_blocks (x ∷ xs) is = omega arith

module _ (accepts : Accepts) (c : Config) where
  -- nothing is wrong with a block of a chain at the place of those before it
  pub next_in : (x : Entry) (xs : List Entry) (e : Entry) (more : List Entry) → IsChain accepts c (x ∷ xs ++ e ∷ more) → next_refusal accepts (place_after c (x ∷ xs)) e ≡ None
  unfolding place_after
  next_in x xs e more is =
      let chain : List Entry = x ∷ xs ++ e ∷ more in
      let at : slice_get chain (length xs + 1) ≡ Some e = get_behind x (xs ++ e ∷ more) (length xs) ∙ get_seam xs e more in
      let tip : slice_get chain (length xs) ≡ Some (tip_after x xs) = front_last x xs (e ∷ more) in
      let size : length xs + 1 ≡ length (x ∷ xs) = omega arith in
      let before : take (length xs + 1) chain ≡ x ∷ xs = ap (λ n. take n chain) size ∙ take-append_seam (x ∷ xs) (e ∷ more) in
      let here : config_in_force c chain (length xs + 1) ≡ config_at c (blocks_in (x ∷ xs)) = ap (λ (l : List Entry). config_at c (blocks_in l)) before in
      let number : (tip_after x xs).0.header.number + 1 ≡ length (x ∷ xs) = ap (λ n. n + 1) (numbers is (length xs) (tip_after x xs) tip) ∙ size in
      let linked : is_linked (block_hash (tip_after x xs).0) (length (x ∷ xs)) e.0 ≡ true =
      ap (λ n. is_linked (block_hash (tip_after x xs).0) n e.0) (sym number) ∙ is.linked (length xs) (tip_after x xs) e tip at in
      let lawful : is_lawful (config_at c (blocks_in (x ∷ xs))) e.0 ≡ true = ap (λ (d : Config). is_lawful d e.0) (sym here) ∙ is.lawful (length xs) e at in
      let proved : is_proved accepts (config_at c (blocks_in (x ∷ xs))) e ≡ true = ap (λ (d : Config). is_proved accepts d e) (sym here) ∙ is.proved (length xs) e at in
      where_next accepts (place_after c (x ∷ xs)) e (rw (linked, lawful) refl) proved

  -- a block with which nothing is wrong at the chain's place leaves a chain
  pub grows : (x : Entry) (xs : List Entry) (e : Entry) → IsChain accepts c (x ∷ xs) → next_refusal accepts (place_after c (x ∷ xs)) e ≡ None → IsChain accepts c (x ∷ xs ++ e ∷ [])
  unfolding place_after
  grows x xs e is none =
      let chain : List Entry = x ∷ xs in
      let new : List Entry = x ∷ xs ++ e ∷ [] in
      let is_next = next_where accepts (place_after c chain) e none in
      let parts = and_parts (is_linked (block_hash (tip_after x xs).0) (length chain) e.0) (is_lawful (config_at c (blocks_in chain)) e.0) is_next.0 in
      let tip : slice_get new (length xs) ≡ Some (tip_after x xs) = front_last x xs (e ∷ []) in
      let old_tip : slice_get chain (length xs) ≡ Some (tip_after x xs) = sym (get_front chain (e ∷ []) (length xs) (omega arith)) ∙ tip in
      let number : (tip_after x xs).0.header.number + 1 ≡ length chain = ap (λ n. n + 1) (numbers is (length xs) (tip_after x xs) old_tip) ∙ omega arith in
      let in_front : (i : ℕ) → i ≤ length chain → config_in_force c new i ≡ config_in_force c chain i =
      λ i le. ap (λ (l : List Entry). config_at c (blocks_in l)) (take-append-le i chain (e ∷ []) le) in
      let at_end : config_in_force c new (length chain) ≡ config_at c (blocks_in chain) =
      ap (λ (l : List Entry). config_at c (blocks_in l)) (take-append_seam chain (e ∷ [])) in
      let linked_last : (before : Entry) → slice_get new (length xs) ≡ Some before → follows_block before.0 e.0 ≡ true =
      λ before there.
      let same : tip_after x xs ≡ before = same_Some _ _ (sym tip ∙ there) in
      subst (λ (b : Entry). follows_block b.0 e.0 ≡ true) same
      (ap (λ n. is_linked (block_hash (tip_after x xs).0) n e.0) number ∙ parts.0) in
      record {
        first = is.first;
        linked = λ i before next there at.
            elim (get_last chain e (i + 1) next at) [
              | inl k ↦ is.linked i before next (sym (get_front chain (e ∷ []) i (omega (arith, k.1))) ∙ there) k.0
              | inr k ↦
                  let i_is : i ≡ length xs = omega (arith, k.0) in
                  subst (λ (n : Entry). follows_block before.0 n.0 ≡ true) k.1 (linked_last before (ap (λ n. slice_get new n) (sym i_is) ∙ there))
            ];
        lawful = λ i next at.
            elim (get_last chain e (i + 1) next at) [
              | inl k ↦ ap (λ (d : Config). is_lawful d next.0) (in_front (i + 1) (omega (arith, k.1))) ∙ is.lawful i next k.0
              | inr k ↦
                  let here : config_in_force c new (i + 1) ≡ config_at c (blocks_in chain) = ap (λ n. config_in_force c new n) k.0 ∙ at_end in
                  ap (λ (d : Config). is_lawful d next.0) here ∙ subst (λ (n : Entry). is_lawful (config_at c (blocks_in chain)) n.0 ≡ true) k.1 parts.1
            ];
        proved = λ i next at.
            elim (get_last chain e (i + 1) next at) [
              | inl k ↦ ap (λ (d : Config). is_proved accepts d next) (in_front (i + 1) (omega (arith, k.1))) ∙ is.proved i next k.0
              | inr k ↦
                  let here : config_in_force c new (i + 1) ≡ config_at c (blocks_in chain) = ap (λ n. config_in_force c new n) k.0 ∙ at_end in
                  ap (λ (d : Config). is_proved accepts d next) here ∙ subst (λ (n : Entry). is_proved accepts (config_at c (blocks_in chain)) n ≡ true) k.1 is_next.1
            ];
      }

  -- block 0 alone
  pub begins : IsChain accepts c (genesis_entry c ∷ [])
  begins =
      let none : (i : ℕ) (next : Entry) → slice_get (genesis_entry c ∷ []) (i + 1) ≡ Some next → ⊥ = λ i next at. none-some next (sym (get_behind (genesis_entry c) [] i) ∙ at) in
      record {
        first = refl;
        linked = λ i before next there at. absurd (none i next at);
        lawful = λ i next at. absurd (none i next at);
        proved = λ i next at. absurd (none i next at);
      }

-- a chain stays one where more signatures are accepted
pub chain_stays : (old new : Accepts) (c : Config) (chain : List Entry) → KeepsAccepted old new → IsChain old c chain → IsChain new c chain
chain_stays old new c chain keeps is =
    record {
      first = is.first;
      linked = is.linked;
      lawful = is.lawful;
      proved = λ i next at. proved_kept old new (config_in_force c chain (i + 1)) next keeps (is.proved i next at);
    }
