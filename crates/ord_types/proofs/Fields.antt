-- Fields that were read.
use Rattle.std.proofs.Common.{◌≡◌, ℕ, ◌≤◌, Bool, true, false, cond, ltb, List, length, take, drop, Ok, Err, refl, ap, arith}
use Rattle.std.proofs.lemmas.Bool.{ltb-false}
use Rattle.std.proofs.lemmas.List.{length-take}
use Rattle.ord_types.specs.Reading.{bytes_at}
use Rattle.ord_types.specs.declared.fault.Flaw.{Flaw}
use Rattle.ord_types.specs.declared.fault.Flaw.TheVariants.{Short}

-- a test that did not fail
pub guard_ok : {A : Type 0} (b : Bool) (d : Flaw) (x y : A) → cond b (Err d) (Ok x) ≡ Ok y → (b ≡ false) × (x ≡ y)
guard_ok true d x y e = absurd cc
guard_ok false d x y e = (refl, cc)

-- so many bytes are so many
pub length_bytes : (n : ℕ) (bytes front rest : List ℕ) → bytes_at n bytes ≡ Ok (front, rest) → n ≡ length front
length_bytes n bytes front rest e =
    let g = guard_ok (ltb (length bytes) n) Short (take n bytes, drop n bytes) (front, rest) e in
    let long : n ≤ length bytes = ltb-false _ _ g.0 in
    let is : take n bytes ≡ front = ap (λ (p : List ℕ × List ℕ). p.0) g.1 in
    rw (← is) (omega (arith, length-take n bytes))
