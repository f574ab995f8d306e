-- What a write leaves is one of the images that a crash may leave.
use Rattle.std.specs.Prelude.{◌≡◌, ◌⊎◌, ℕ, ◌+◌, ◌-◌, ◌<◌, ◌≤◌, max, List, [], ◌++◌, length, take, drop, replicate, refl}
use Rattle.std.proofs.Common.{inl, inr, get_or, arith, ◌∙◌, ap, length-append, length-take, length-drop}
use Rattle.std.proofs.lemmas.List.{length-replicate, get_or_append_left, get_or-append_right, get_or-take, get_or-drop}
use Rattle.gate_log.specs.Disk.{File, IsLeft, MayLeave, after_write, after_try, overwritten}

pub length-overwritten : (at : ℕ) (bytes old : List ℕ) → length (overwritten at bytes old) ≡ max (at + length bytes) (length old)
length-overwritten at bytes old =
    let a = take at old in
    let b : List ℕ = replicate (at - length old) 0 in
    Prim.omega (arith, length-append (a ++ b ++ bytes) (drop (at + length bytes) old), length-append (a ++ b) bytes, length-append a b, length-take at old, length-replicate {A = ℕ} (at - length old) 0, length-drop (at + length bytes) old)

pub outside_same : (at : ℕ) (bytes old : List ℕ) (i : ℕ) → i < length old → (i < at) ⊎ (at + length bytes ≤ i) → get_or (overwritten at bytes old) i 0 ≡ get_or old i 0
outside_same at bytes old i within (inl below) =
    let a = take at old in
    let b : List ℕ = replicate (at - length old) 0 in
    let d = drop (at + length bytes) old in
    let la : i < length a = Prim.omega (arith, length-take at old) in
    get_or_append_left (a ++ b ++ bytes) d 0 i (Prim.omega (arith, la, length-append (a ++ b) bytes, length-append a b))
    ∙ get_or_append_left (a ++ b) bytes 0 i (Prim.omega (arith, la, length-append a b))
    ∙ get_or_append_left a b 0 i la
    ∙ get_or-take at old i 0 below
outside_same at bytes old i within (inr above) =
    let a = take at old in
    let b : List ℕ = replicate (at - length old) 0 in
    let d = drop (at + length bytes) old in
    let size : length (a ++ b ++ bytes) ≡ at + length bytes = Prim.omega (arith, length-append (a ++ b) bytes, length-append a b, length-take at old, length-replicate {A = ℕ} (at - length old) 0) in
    get_or-append_right (a ++ b ++ bytes) d (at + length bytes) i 0 size above
    ∙ get_or-drop (at + length bytes) old (i - (at + length bytes)) 0
    ∙ ap (λ (k : ℕ). get_or old k 0) (Prim.omega arith)

pub write_fine : (file : File) (at : ℕ) (bytes : List ℕ) → MayLeave file file.reads → MayLeave (after_write at bytes file) (overwritten at bytes file.reads)
write_fine file at bytes fine = record {
  no_shorter = Prim.omega (arith, fine.no_shorter, length-overwritten at bytes file.reads);
  no_longer = Prim.omega (arith, fine.no_longer, length-overwritten at bytes file.reads);
  same = λ i h out. outside_same at bytes file.reads i (Prim.omega (arith, h, fine.no_shorter)) out.0 ∙ fine.same i h out.1;
}

pub try_fine : (file : File) (at n : ℕ) → MayLeave file file.reads → MayLeave (after_try at n file.reads file) file.reads
try_fine file at n fine = record {
  no_shorter = fine.no_shorter;
  no_longer = Prim.omega (arith, fine.no_longer);
  same = λ i h out. fine.same i h out.1;
}

pub whole_fine : (bytes : List ℕ) → IsLeft bytes [] bytes
whole_fine bytes = record { no_shorter = Prim.omega arith; no_longer = Prim.omega arith; same = λ i h out. refl }
