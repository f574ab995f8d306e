-- Reading values one after the other, as a loop does.
use Rattle.std.proofs.Common.{◌≡◌, ℕ, suc, ◌-◌, ◌+◌, ◌≤◌, ◌<◌, List, [], ◌∷◌, ◌++◌, Result, Ok, Err, refl, sym, ap, ◌∙◌, append_assoc, arith}
use Rattle.std.proofs.lemmas.List.{append-nil}
use Rattle.std.specs.Prelude.{not, ◌&&◌, nat_le}
use Rattle.std.specs.Int.{w32}
use Rattle.ord_types.specs.Members.{is_in}
use Rattle.ord_types.specs.Reading.{◌>>=◌, Reading, ascending_at, differing_at, list_at, sig_from_at, sigs_at, tested_at, vote_below_at, votes_at}
use Rattle.ord_types.specs.Faults.{Halts}
use Rattle.ord_types.specs.declared.fault.Flaw.{Flaw}
use Rattle.ord_types.specs.declared.fault.Halt.{Halt}
use Rattle.ord_types.specs.declared.fault.Halt.TheVariants as halt_of

-- what was read before, and what is still read
abbrev pub with_front : {X : Type 0} → List X → Result (List X × List ℕ) Flaw → Result (List X × List ℕ) Flaw
with_front front read = read >>= λ x. Ok (front ++ x.0, x.1)

regroup : {X : Type 0} (front : List X) (x : X) (read : Result (List X × List ℕ) Flaw) → with_front front (read >>= λ r. Ok (x ∷ r.0, r.1)) ≡ with_front (front ++ x ∷ []) read
regroup {X} front x (Ok r) = ap (λ (xs : List X). Ok (xs, r.1)) (simp append_assoc)
regroup front x (Err f) = refl

-- Readers of so many values, which may depend on a state that each value moves: one of none, and one more.
pub record IsLoop {S X : Type 0} (one : S → Reading X) (moved : S → X → S) (many : S → ℕ → Reading (List X)) : Type 0 where
  pub none : (s : S) (bytes : List ℕ) → many s 0 bytes ≡ Ok ([], bytes)
  pub more : (s : S) (n : ℕ) (bytes : List ℕ) → many s (suc n) bytes ≡ (one s bytes >>= λ first. many (moved s first.0) n first.1 >>= λ more. Ok (first.0 ∷ more.0, more.1))

pub goes_on : {S X : Type 0} (one : S → Reading X) (moved : S → X → S) (many : S → ℕ → Reading (List X)) (loop : IsLoop one moved many)
    (s : S) (front : List X) (count i : ℕ) (bytes : List ℕ) (x : X) (after : List ℕ) (total : Result (List X × List ℕ) Flaw) → i < count → one s bytes ≡ Ok (x, after)
    → with_front front (many s (count - i) bytes) ≡ total → with_front (front ++ x ∷ []) (many (moved s x) (count - (i + 1)) after) ≡ total
goes_on one moved many loop s front count i bytes x after total lt h so_far =
    let k : count - i ≡ suc (count - (i + 1)) = omega arith in
    let one_more : with_front front (many s (count - i) bytes) ≡ with_front (front ++ x ∷ []) (many (moved s x) (count - (i + 1)) after) =
    rw (k, loop.more s (count - (i + 1)) bytes, h) (regroup front x (many (moved s x) (count - (i + 1)) after)) in
    sym one_more ∙ so_far

pub ends : {S X : Type 0} (one : S → Reading X) (moved : S → X → S) (many : S → ℕ → Reading (List X)) (loop : IsLoop one moved many)
    (s : S) (e : Halt) (front : List X) (count i : ℕ) (bytes : List ℕ) (total : Result (List X × List ℕ) Flaw) → i < count → Halts e (one s bytes)
    → with_front front (many s (count - i) bytes) ≡ total → Halts e total
ends one moved many loop s halt_of.NoMemory front count i bytes total lt h so_far = tt
ends one moved many loop s (halt_of.Flawed f) front count i bytes total lt h so_far =
    let k : count - i ≡ suc (count - (i + 1)) = omega arith in
    let stopped : with_front front (many s (count - i) bytes) ≡ Err f = rw (k, loop.more s (count - (i + 1)) bytes, h) refl in
    sym so_far ∙ stopped

pub is_done : {S X : Type 0} (one : S → Reading X) (moved : S → X → S) (many : S → ℕ → Reading (List X)) (loop : IsLoop one moved many)
    (s : S) (front : List X) (count i : ℕ) (bytes : List ℕ) (total : Result (List X × List ℕ) Flaw) → count ≤ i → with_front front (many s (count - i) bytes) ≡ total → total ≡ Ok (front, bytes)
is_done {S} {X} one moved many loop s front count i bytes total le so_far =
    let k : count - i ≡ 0 = omega arith in
    let ended : with_front front (many s (count - i) bytes) ≡ Ok (front, bytes) = rw (k, loop.none s bytes) (ap (λ (xs : List X). Ok (xs, bytes)) (append-nil front)) in
    sym so_far ∙ ended

-- THE READERS

pub list_loop : {X : Type 0} (at : Reading X) → IsLoop (λ (s : Unit {0}). at) (λ s x. tt) (λ s. list_at at)
unfolding list_at
list_loop at = record { none = λ s bytes. refl; more = λ s n bytes. refl }

pub ascending_loop : IsLoop (λ least. tested_at w32 (λ id. nat_le least id)) (λ least id. id + 1) ascending_at
unfolding ascending_at
ascending_loop = record { none = λ s bytes. refl; more = λ s n bytes. refl }

pub differing_loop : IsLoop (λ seen. tested_at w32 (λ id. nat_le 1 id && not (is_in id seen))) (λ seen id. seen ++ id ∷ []) differing_at
unfolding differing_at
differing_loop = record { none = λ s bytes. refl; more = λ s n bytes. refl }

pub sigs_loop : IsLoop sig_from_at (λ least s. s.signer + 1) sigs_at
unfolding sigs_at
sigs_loop = record { none = λ s bytes. refl; more = λ s n bytes. refl }

pub votes_loop : IsLoop vote_below_at (λ limit v. v.view) votes_at
unfolding votes_at
votes_loop = record { none = λ s bytes. refl; more = λ s n bytes. refl }
