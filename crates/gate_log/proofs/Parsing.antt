-- How the walk over gates and entries goes on.
use Rattle.std.proofs.Common.{◌≡◌, ◌≢◌, ℕ, suc, ◌+◌, ◌<◌, ◌≤◌, List, [], ◌∷◌, ◌++◌, length, get_or, take, drop, Result, Ok, Err, refl, sym, ◌∙◌, ap, arith, length-drop}
use Rattle.std.proofs.lemmas.List.{drop_more, drop-drop}
use Rattle.gate_log.specs.Format.{entry_length, behind, walk}
use Rattle.gate_log.proofs.Fronts.{onto}
use Rattle.gate_log.proofs.Gates.{walk_closed, walk_short, walk_open, walk_enough, onto_ended, onto_more}

abbrev W : Type 0
W = Result (List (List ℕ)) ℕ

-- all from this gate on
abbrev pub from_here : ℕ → List ℕ → W
from_here at bytes = walk (length (drop at bytes)) at (drop at bytes)

pub begun : (bytes : List ℕ) → walk (length bytes) 17 (drop 17 bytes) ≡ from_here 17 bytes
begun bytes = walk_enough (length bytes) 17 (drop 17 bytes) (omega (arith, length-drop 17 bytes))

onto_broken : (entries : List (List ℕ)) (at : ℕ) → onto entries (Err at) ≡ Err at
onto_broken [] at = refl
onto_broken (e ∷ entries) at = ap (λ (w : W). behind e w) (onto_broken entries at)

here : (bytes : List ℕ) (at : ℕ) → at < length bytes → from_here at bytes ≡ walk (suc (length (drop (at + 1) bytes))) at (get_or bytes at 0 ∷ drop (at + 1) bytes)
here bytes at within = ap (λ (l : List ℕ). walk (length l) at l) (drop_more bytes at 0 within)

pub ended : (whole : W) (bytes : List ℕ) (at : ℕ) (entries : List (List ℕ)) → at < length bytes → get_or bytes at 0 ≡ 0 → whole ≡ onto entries (from_here at bytes) → Ok entries ≡ whole
ended whole bytes at entries within shut so_far =
    sym (so_far
    ∙ ap (λ (w : W). onto entries w) (here bytes at within
    ∙ ap (λ (g : ℕ). walk (suc (length (drop (at + 1) bytes))) at (g ∷ drop (at + 1) bytes)) shut
    ∙ walk_closed (length (drop (at + 1) bytes)) at (drop (at + 1) bytes))
    ∙ onto_ended entries)

pub broken : (whole : W) (bytes : List ℕ) (at : ℕ) (entries : List (List ℕ)) → at < length bytes → get_or bytes at 0 ≢ 0 → length (drop (at + 1) bytes) < 5 + entry_length (drop (at + 1) bytes)
    → whole ≡ onto entries (from_here at bytes) → Err at ≡ whole
broken whole bytes at entries within is_open short so_far =
    sym (so_far
    ∙ ap (λ (w : W). onto entries w) (here bytes at within ∙ walk_short (length (drop (at + 1) bytes)) at (get_or bytes at 0) (drop (at + 1) bytes) is_open short)
    ∙ onto_broken entries at)

pub next : (whole : W) (bytes : List ℕ) (at : ℕ) (entries : List (List ℕ)) (entry : List ℕ) (to : ℕ) → at < length bytes → get_or bytes at 0 ≢ 0
    → 5 + entry_length (drop (at + 1) bytes) ≤ length (drop (at + 1) bytes)
    → entry ≡ take (entry_length (drop (at + 1) bytes)) (drop 4 (drop (at + 1) bytes))
    → to ≡ at + (5 + entry_length (drop (at + 1) bytes))
    → whole ≡ onto entries (from_here at bytes) → whole ≡ onto (entries ++ entry ∷ []) (from_here to bytes)
next whole bytes at entries entry to within is_open long is_entry is_to so_far =
    let rest = drop (at + 1) bytes in
    let n = entry_length rest in
    let place : at + 5 + n ≡ to = omega (arith, is_to) in
    let further : drop (4 + n) rest ≡ drop to bytes = drop-drop (4 + n) (at + 1) bytes ∙ ap (λ (k : ℕ). drop k bytes) (omega (arith, is_to)) in
    let step : from_here at bytes ≡ behind entry (from_here to bytes) =
    here bytes at within
    ∙ walk_open (length rest) at (get_or bytes at 0) rest is_open long
    ∙ ap (λ (l : List ℕ). behind l (walk (length rest) (at + 5 + n) (drop (4 + n) rest))) (sym is_entry)
    ∙ ap (λ (w : W). behind entry w) (walk_enough (length rest) (at + 5 + n) (drop (4 + n) rest) (omega (arith, length-drop (4 + n) rest)))
    ∙ ap (λ (l : List ℕ). behind entry (walk (length l) (at + 5 + n) l)) further
    ∙ ap (λ (k : ℕ). behind entry (walk (length (drop to bytes)) k (drop to bytes))) place in
    so_far ∙ ap (λ (w : W). onto entries w) step ∙ sym (onto_more entries entry (from_here to bytes))
