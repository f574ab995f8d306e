-- One file of a disk in memory, and the images that a crash makes of it.
use Rattle.std.proofs.Common.{◌≡◌, inl, inr, ℕ, ◌+◌, ◌<◌, List, [], ◌∷◌, ◌++◌, length, get_or, take, drop, replicate, refl, sym, ◌∙◌, ap, subst, arith, Bool, true, false, eq-eqb, take-append-drop}
use Rattle.std.specs.Prelude.{◌==◌, if◌then◌else◌}
use Rattle.std.proofs.lemmas.Bool.{cases_eq, ne_eqb}
use Rattle.std.proofs.lemmas.List.{take_more, drop_more}
use Rattle.gate_log.specs.Disk.{File, State, now, after_write, after_sync, overwritten}
use Rattle.gate_log.specs.Calls.{after, with_file, states_from, after_on, file_after, bytes_after, filled_after, filled, is_sync, NoSync}
use Rattle.gate_log.specs.Renew.{IsSynced}
use Rattle.gate_log.specs.declared.call.Call.{Call}
use Rattle.gate_log.specs.declared.call.Call.TheVariants.{Wrote, Synced}

file_after-append : (f : ℕ) (file : File) (xs ys : List Call) → file_after f file (xs ++ ys) ≡ file_after f (file_after f file xs) ys
file_after-append f file [] ys = refl
file_after-append f file (x ∷ xs) ys = file_after-append f (after_on f x file) xs ys

after_file : (f g : ℕ) (to : File → File) (state : State) → with_file g (to (state g)) state f ≡ (if g == f then to (state f) else state f)
after_file f g to state = elim (cases_eq g f) [
  | inl is ↦
      ap (λ (b : Bool). if b then to (state g) else state f) (eq-eqb f g (sym is))
      ∙ ap (λ (k : ℕ). to (state k)) is
      ∙ sym (ap (λ (b : Bool). if b then to (state f) else state f) (eq-eqb g f is))
  | inr other ↦
      ap (λ (b : Bool). if b then to (state g) else state f) (ne_eqb f g (λ is. other (sym is)))
      ∙ sym (ap (λ (b : Bool). if b then to (state f) else state f) (ne_eqb g f other))
]

after_is : (f : ℕ) (call : Call) (state : State) → after call state f ≡ after_on f call (state f)
after_is f (Wrote g at bytes) state = after_file f g (after_write at bytes) state
after_is f (Synced g) state = after_file f g after_sync state

-- a file in the last state
pub state_file : (f : ℕ) (states : List State) (calls : List Call) → now (states_from states calls) f ≡ file_after f (now states f) calls
state_file f states [] = refl
state_file f states (call ∷ calls) = state_file f (after call (now states) ∷ states) calls ∙ ap (λ (file : File). file_after f file calls) (after_is f call (now states))

-- the calls in two parts
pub file_split : (f : ℕ) (file : File) (calls : List Call) (n : ℕ) → file_after f file calls ≡ file_after f (file_after f file (take n calls)) (drop n calls)
file_split f file calls n = ap (file_after f file) (sym (take-append-drop n calls)) ∙ file_after-append f file (take n calls) (drop n calls)

-- one call more
pub file_next : (f : ℕ) (file : File) (calls : List Call) (i : ℕ) (call : Call) → i < length calls → call ≡ get_or calls i call
    → file_after f file (take (i + 1) calls) ≡ after_on f call (file_after f file (take i calls))
file_next f file calls i call within is =
    ap (file_after f file) (take_more calls i call within) ∙ file_after-append f file (take i calls) (get_or calls i call ∷ [])
    ∙ ap (λ (k : Call). after_on f k (file_after f file (take i calls))) (sym is)

bytes_on : (f : ℕ) (call : Call) (file : File) → (after_on f call file).reads ≡ bytes_after f call file.reads
bytes_on f (Wrote g at bytes) file = elim (g == f) as (λ b. (if b then after_write at bytes file else file).reads ≡ (if b then overwritten at bytes file.reads else file.reads)) [ true ↦ refl | false ↦ refl ]
bytes_on f (Synced g) file = elim (g == f) as (λ b. (if b then after_sync file else file).reads ≡ file.reads) [ true ↦ refl | false ↦ refl ]

-- what is written again
pub bytes_next : (f : ℕ) (file : File) (calls : List Call) (i : ℕ) (call : Call) (old new : List ℕ) → i < length calls → call ≡ get_or calls i call
    → old ≡ (file_after f file (take i calls)).reads → new ≡ bytes_after f call old → new ≡ (file_after f file (take (i + 1) calls)).reads
bytes_next f file calls i call old new within is before made =
    made ∙ ap (bytes_after f call) before ∙ sym (bytes_on f call (file_after f file (take i calls)))
    ∙ sym (ap (λ (k : File). k.reads) (file_next f file calls i call within is))

filled_on : (byte f : ℕ) (call : Call) (file : File) (bytes : List ℕ) → is_sync f call ≡ false → filled byte (after_on f call file).pending bytes ≡ filled_after byte f call (filled byte file.pending bytes)
filled_on byte f (Wrote g at new) file bytes none =
    elim (g == f) as (λ b. filled byte (if b then after_write at new file else file).pending bytes ≡ (if b then overwritten at (replicate (length new) byte) (filled byte file.pending bytes) else filled byte file.pending bytes)) [ true ↦ refl | false ↦ refl ]
filled_on byte f (Synced g) file bytes none = ap (λ (b : Bool). filled byte (if b then after_sync file else file).pending bytes) none

-- what is filled
pub filled_next : (byte f : ℕ) (file : File) (calls : List Call) (i : ℕ) (call : Call) (all old new : List ℕ) → i < length calls → call ≡ get_or calls i call → NoSync f (drop i calls)
    → old ≡ filled byte (file_after f file (take i calls)).pending all → new ≡ filled_after byte f call old → new ≡ filled byte (file_after f file (take (i + 1) calls)).pending all
filled_next byte f file calls i call all old new within is none before made =
    let here : drop i calls ≡ call ∷ drop (i + 1) calls = drop_more calls i call within ∙ ap (λ (k : Call). k ∷ drop (i + 1) calls) (sym is) in
    made ∙ ap (filled_after byte f call) before ∙ sym (filled_on byte f call (file_after f file (take i calls)) all (subst (NoSync f) here none).0)
    ∙ sym (ap (λ (k : File). filled byte k.pending all) (file_next f file calls i call within is))

pub no_sync_next : (f : ℕ) (calls : List Call) (i : ℕ) → i < length calls → NoSync f (drop i calls) → NoSync f (drop (i + 1) calls)
no_sync_next f calls i within none = no_sync_rest calls refl
  where
    no_sync_rest : (l : List Call) → l ≡ calls → NoSync f (drop (i + 1) calls)
    no_sync_rest [] is = absurd (omega (arith, ap length is))
    no_sync_rest (d ∷ l) is = (subst (NoSync f) (drop_more calls i d within) none).1

-- one call in front of the last sync
pub no_sync_before : (f : ℕ) (calls : List Call) (end i : ℕ) (call : Call) → end ≡ i + 1 → i < length calls → call ≡ get_or calls i call → is_sync f call ≡ false → NoSync f (drop end calls) → NoSync f (drop i calls)
no_sync_before f calls end i call one within is not_sync none =
    let here : drop i calls ≡ call ∷ drop end calls = drop_more calls i call within ∙ ap (λ (k : Call). k ∷ drop (i + 1) calls) (sym is) ∙ ap (λ (n : ℕ). call ∷ drop n calls) (sym one) in
    subst (NoSync f) (sym here) (not_sync, none)

sync_on : (f : ℕ) (call : Call) (file : File) → is_sync f call ≡ true → after_on f call file ≡ after_sync file
sync_on f (Wrote g at bytes) file syncs = absurd (cc)
sync_on f (Synced g) file syncs = ap (λ (b : Bool). if b then after_sync file else file) syncs

-- at a sync all of the file is on the disk
pub synced_at : (f : ℕ) (file : File) (calls : List Call) (end i : ℕ) (call : Call) → end ≡ i + 1 → i < length calls → call ≡ get_or calls i call → is_sync f call ≡ true → IsSynced (file_after f file (take end calls))
synced_at f file calls end i call one within is syncs =
    let last = file_after f file (take i calls) in
    let there : file_after f file (take end calls) ≡ after_sync last = ap (λ (n : ℕ). file_after f file (take n calls)) one ∙ file_next f file calls i call within is ∙ sync_on f call last syncs in
    subst IsSynced (sym there) refl

no_sync_kept : (f : ℕ) (file : File) (calls : List Call) → NoSync f calls → (file_after f file calls).kept ≡ file.kept
no_sync_kept f file [] none = refl
no_sync_kept f file (Wrote g at bytes ∷ calls) none =
    no_sync_kept f (if g == f then after_write at bytes file else file) calls none.1
    ∙ elim (g == f) as (λ b. (if b then after_write at bytes file else file).kept ≡ file.kept) [ true ↦ refl | false ↦ refl ]
no_sync_kept f file (Synced g ∷ calls) none =
    no_sync_kept f (if g == f then after_sync file else file) calls none.1 ∙ ap (λ (b : Bool). (if b then after_sync file else file).kept) none.0

-- what a file kept at its last sync
pub kept_is : (f : ℕ) (states : List State) (calls : List Call) (n : ℕ) → IsSynced (file_after f (now states f) (take n calls)) → NoSync f (drop n calls)
    → (file_after f (now states f) (take n calls)).reads ≡ (now (states_from states calls) f).kept
kept_is f states calls n synced none =
    let mid = file_after f (now states f) (take n calls) in
    sym (ap (λ (file : File). file.kept) (state_file f states calls ∙ file_split f (now states f) calls n)
    ∙ no_sync_kept f mid (drop n calls) none
    ∙ ap (λ (file : File). file.kept) synced)

-- the writes since then
pub pending_is : (f : ℕ) (states : List State) (calls : List Call) (n : ℕ) → (file_after f (file_after f (now states f) (take n calls)) (drop n calls)).pending ≡ (now (states_from states calls) f).pending
pending_is f states calls n = ap (λ (file : File). file.pending) (sym (state_file f states calls ∙ file_split f (now states f) calls n))

pending_on : (f : ℕ) (call : Call) (one two : File) → one.pending ≡ two.pending → (after_on f call one).pending ≡ (after_on f call two).pending
pending_on f (Wrote g at bytes) one two same =
    elim (g == f) as (λ b. (if b then after_write at bytes one else one).pending ≡ (if b then after_write at bytes two else two).pending) [ true ↦ ap (λ (p : List (ℕ × ℕ)). (at, length bytes) ∷ p) same | false ↦ same ]
pending_on f (Synced g) one two same =
    elim (g == f) as (λ b. (if b then after_sync one else one).pending ≡ (if b then after_sync two else two).pending) [ true ↦ refl | false ↦ same ]

-- the writes of the calls don't depend on what was read before
pub pending_same : (f : ℕ) (one two : File) (calls : List Call) → one.pending ≡ two.pending → (file_after f one calls).pending ≡ (file_after f two calls).pending
pending_same f one two [] same = same
pending_same f one two (call ∷ calls) same = pending_same f (after_on f call one) (after_on f call two) calls (pending_on f call one two same)
