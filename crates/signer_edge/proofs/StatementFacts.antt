-- Pieces written one after the other.
use Rattle.std.proofs.Common.{◌≡◌, ℕ, ◌+◌, List, [], ◌∷◌, ◌++◌, length, take, drop, refl, ap, ◌∙◌, arith, length-append, append-nil}
use Rattle.std.specs.Prelude.{replicate}
use Rattle.std.specs.Int.{w64, to_be_bytes}
use Rattle.signer_edge.specs.Statements.{commit_text}
use Rattle.std.proofs.Math.Seq.{take-append_seam, drop-append-add}

-- the next piece is written after a front
pub put-after : (old new front rest piece : List ℕ) (at n : ℕ) → old ≡ front ++ rest → length front ≡ at → length piece ≡ n
    → new ≡ take at old ++ piece ++ drop (at + length piece) old → new ≡ (front ++ piece) ++ drop n rest
put-after old new front rest piece at n is at_is n_is put =
    put ∙ rw (is, ← at_is, ← n_is, take-append_seam front rest, drop-append-add front rest (length piece)) refl

-- the five pieces of a commit statement fill 57 bytes
pub all-put : (e v s : ℕ) (b1 b2 b3 b4 p1 p2 p3 p4 : List ℕ) → p1 ≡ to_be_bytes w64 e → p2 ≡ to_be_bytes w64 v → p3 ≡ to_be_bytes w64 s → length p4 ≡ 32
    → b1 ≡ take 1 (replicate 57 1) ++ p1 ++ drop (1 + length p1) (replicate 57 1)
    → b2 ≡ take 9 b1 ++ p2 ++ drop (9 + length p2) b1
    → b3 ≡ take 17 b2 ++ p3 ++ drop (17 + length p3) b2
    → b4 ≡ take 25 b3 ++ p4 ++ drop (25 + length p4) b3
    → b4 ≡ commit_text e v s p4
unfolding commit_text
all-put e v s b1 b2 b3 b4 p1 p2 p3 p4 s1 s2 s3 l4 h1 h2 h3 h4 =
    let l1 : length p1 ≡ 8 = ap length s1 in
    let l2 : length p2 ≡ 8 = ap length s2 in
    let l3 : length p3 ≡ 8 = ap length s3 in
    let e1 : b1 ≡ (1 ∷ []) ++ p1 ++ replicate 48 1 = put-after (replicate 57 1) b1 (1 ∷ []) (replicate 56 1) p1 1 8 refl refl l1 h1 in
    let m1 : length ((1 ∷ []) ++ p1) ≡ 9 = omega arith in
    let e2 : b2 ≡ (1 ∷ []) ++ p1 ++ p2 ++ replicate 40 1 = put-after b1 b2 ((1 ∷ []) ++ p1) (replicate 48 1) p2 9 8 e1 m1 l2 h2 in
    let m2 : length ((1 ∷ []) ++ p1 ++ p2) ≡ 17 = omega (arith, length-append p1 p2) in
    let e3 : b3 ≡ (1 ∷ []) ++ p1 ++ p2 ++ p3 ++ replicate 32 1 = put-after b2 b3 ((1 ∷ []) ++ p1 ++ p2) (replicate 40 1) p3 17 8 e2 m2 l3 h3 in
    let m3 : length ((1 ∷ []) ++ p1 ++ p2 ++ p3) ≡ 25 = omega (arith, length-append p1 p2, length-append (p1 ++ p2) p3) in
    let e4 : b4 ≡ (1 ∷ []) ++ p1 ++ p2 ++ p3 ++ p4 ++ [] = put-after b3 b4 ((1 ∷ []) ++ p1 ++ p2 ++ p3) (replicate 32 1) p4 25 32 e3 m3 l4 h4 in
    e4 ∙ rw (append-nil, s1, s2, s3) refl
