-- What a box accepts: what a seat signs, and from then on.
use Rattle.std.proofs.lemmas.Option.{slice_get_past, slice_get_read}
use Rattle.std.proofs.Common.{◌≤◌, get_or, ◌≡◌, ℕ, zero, suc, ◌<◌, ◌^◌, true, false, ◌&&◌, ◌==◌, List, [], ◌∷◌, ◌++◌, length, refl, arith, eq-eqb}
use Rattle.std.specs.Prelude.{slice_get}
use Rattle.std.specs.Int.{w64, to_be_bytes, from_be_bytes}
use Rattle.std.specs.Str.{bytes_eq}
use Rattle.std.proofs.lemmas.Nat.{from_be_bytes-to_be_bytes_8}
use Rattle.std.proofs.lemmas.List.{map-append}
use Rattle.std.proofs.lemmas.List.Elements.{filter-append}
use Rattle.ord_types.specs.declared.values.Sig.{Sig}
use Rattle.signer_edge.specs.declared.seals.Seal.{Seal}
use Rattle.signer_edge.specs.Seals.{is_seal, is_sealed, statements_by}

bytes_eq-same : (bytes : List ℕ) → bytes_eq bytes bytes ≡ true
bytes_eq-same [] = refl
bytes_eq-same (b ∷ bytes) = rw (eq-eqb b b refl, bytes_eq-same bytes) refl

is_seal-grown : (signer : ℕ) (statement : List ℕ) (box more : List Seal) (i : ℕ) → is_seal signer statement (slice_get box i) ≡ true → is_seal signer statement (slice_get (box ++ more) i) ≡ true
is_seal-grown signer statement [] more i h = absurd (cc h)
is_seal-grown signer statement (seal ∷ box) more zero h = h
is_seal-grown signer statement (seal ∷ box) more (suc i) h = is_seal-grown signer statement box more i h

is_seal-signed : (box : List Seal) (i : ℕ) (t : List ℕ) → is_seal i t (slice_get (box ++ record { signer = i; statement = t } ∷ []) (length box)) ≡ true
is_seal-signed [] i t = rw (eq-eqb i i refl, bytes_eq-same t) refl
is_seal-signed (seal ∷ box) i t = is_seal-signed box i t

-- what was accepted stays accepted when the box grows
pub is_sealed-grown : (box more : List Seal) (t : List ℕ) (sig : Sig) → is_sealed box t sig ≡ true → is_sealed (box ++ more) t sig ≡ true
unfolding is_sealed
is_sealed-grown box more t sig h = grind (arith, is_seal-grown sig.signer t box more (from_be_bytes w64 sig.bytes))

-- what a seat signs it accepts afterwards
pub is_sealed-signed : (box : List Seal) (i : ℕ) (t : List ℕ) → length box < 2 ^ 64 → is_sealed (box ++ record { signer = i; statement = t } ∷ []) t (record { signer = i; bytes = to_be_bytes w64 (length box) }) ≡ true
unfolding is_sealed
is_sealed-signed box i t h = rw (from_be_bytes-to_be_bytes_8 (length box) h, is_seal-signed box i t) refl

-- a seat's statement is added at the end of its own
pub statements_by-signed : (id : ℕ) (seals : List Seal) (t : List ℕ) → statements_by id (seals ++ record { signer = id; statement = t } ∷ []) ≡ statements_by id seals ++ t ∷ []
statements_by-signed id seals t = simp (filter-append, map-append, eq-eqb id id refl)

is_seal-past : (signer : ℕ) (statement : List ℕ) (box : List Seal) (i : ℕ) → length box ≤ i → is_seal signer statement (slice_get box i) ≡ false
is_seal-past signer statement box i past = rw (slice_get_past box i past) refl

-- what the test answers
pub is_sealed-long : (box : List Seal) (t : List ℕ) (sig : Sig) → (length sig.bytes ≡ 8 → ⊥) → is_sealed box t sig ≡ false
unfolding is_sealed
is_sealed-long box t sig other = grind arith

pub is_sealed-past : (box : List Seal) (t : List ℕ) (sig : Sig) → length box ≤ from_be_bytes w64 sig.bytes → is_sealed box t sig ≡ false
unfolding is_sealed
is_sealed-past box t sig past = grind (arith, is_seal-past sig.signer t box (from_be_bytes w64 sig.bytes) past)

pub is_sealed-at : (box : List Seal) (t : List ℕ) (sig : Sig) (seal : Seal) → length sig.bytes ≡ 8 → from_be_bytes w64 sig.bytes < length box → seal ≡ get_or box (from_be_bytes w64 sig.bytes) seal
    → is_sealed box t sig ≡ ((seal.signer == sig.signer) && bytes_eq seal.statement t)
unfolding is_sealed
is_sealed-at box t sig seal long within is = rw (long, slice_get_read box (length box) (from_be_bytes w64 sig.bytes) seal refl within is) refl
