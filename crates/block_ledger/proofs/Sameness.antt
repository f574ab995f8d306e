-- A ledger that stays as it was.
use Rattle.std.proofs.Common.{◌≡◌, ℕ, List, ap, subst}
use Rattle.std.proofs.Props.{props}
use Rattle.ord_types.specs.declared.values.Place.{Place}
use Rattle.gate_log.specs.declared.log.GateLog.{GateLog}
use Rattle.block_ledger.specs.declared.blocks.Blocks.{Blocks}
use Rattle.block_ledger.specs.declared.ledger.Ledger.{Ledger}
use Rattle.block_ledger.specs.Chains.{Entry}
use Rattle.block_ledger.specs.Orders.{IsInOrder}

order_prop : (chain : List Entry) (place : Place) → IsProp (IsInOrder chain place)
order_prop chain place = hlevel props

pub same_blocks : (a b : Blocks) → a.chain ≡ b.chain → a.place ≡ b.place → a ≡ b
same_blocks a b p q =
    subst (λ (l : List Entry). (h : IsInOrder l b.place) → a ≡ record { chain = l; place = b.place; in_order = h }) p
    (subst (λ (x : Place). (h : IsInOrder a.chain x) → a ≡ record { chain = a.chain; place = x; in_order = h }) q
    (λ h. ap (λ (k : IsInOrder a.chain a.place). record { chain = a.chain; place = a.place; in_order = k }) (order_prop a.chain a.place a.in_order h)))
    b.in_order

file_prop : (n : ℕ) → IsProp (n ≡ 2)
file_prop n = hlevel props

pub same_ledger : (a b : Ledger) → a.log ≡ b.log → a.blocks ≡ b.blocks → a ≡ b
same_ledger a b p q =
    subst (λ (l : GateLog). (h : l.file ≡ 2) → a ≡ record { log = l; blocks = b.blocks; file = h }) p
    (subst (λ (x : Blocks). (h : a.log.file ≡ 2) → a ≡ record { log = a.log; blocks = x; file = h }) q
    (λ h. ap (λ (k : a.log.file ≡ 2). record { log = a.log; blocks = a.blocks; file = k }) (file_prop a.log.file a.file h)))
    b.file
