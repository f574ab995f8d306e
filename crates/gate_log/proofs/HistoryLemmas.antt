-- The states of three files in memory, call by call.
use Rattle.std.proofs.Common.{◌≡◌, ◌≢◌, inl, inr, ℕ, ◌<◌, List, [], ◌∷◌, ◌++◌, refl, sym, ◌∙◌, ap, subst, arith, Bool, true, false, eq-eqb}
use Rattle.std.specs.Prelude.{if◌then◌else◌, Result, Ok, Err, is_err, OnOk}
use Rattle.std.proofs.lemmas.Bool.{cases_eq, ne_eqb}
use Rattle.gate_log.specs.Disk.{File, State, now, Moves, after_write, after_sync, overwritten}
use Rattle.gate_log.specs.Calls.{file_of, Rewrote, with_file, after, states_from}
use Rattle.gate_log.specs.declared.files.Files.{Files}
use Rattle.gate_log.specs.declared.call.Call.{Call}
use Rattle.gate_log.specs.declared.call.Call.TheVariants.{Wrote, Synced}

states_from-push : (states : List State) (calls : List Call) (call : Call) → states_from states (calls ++ call ∷ []) ≡ after call (now (states_from states calls)) ∷ states_from states calls
states_from-push states [] call = refl
states_from-push states (c ∷ calls) call = states_from-push (after c (now states) ∷ states) calls call

-- the states after one call more
pub pushed : (states : List State) (calls new : List Call) (call : Call) → new ≡ calls ++ call ∷ [] → states_from states new ≡ after call (now (states_from states calls)) ∷ states_from states calls
pushed states calls new call is = ap (states_from states) is ∙ states_from-push states calls call

pub with_there : (f : ℕ) (file : File) (state : State) → with_file f file state f ≡ file
with_there f file state = ap (λ (b : Bool). if b then file else state f) (eq-eqb f f refl)

pub with_other : (f g : ℕ) (file : File) (state : State) → g ≢ f → with_file f file state g ≡ state g
with_other f g file state other = ap (λ (b : Bool). if b then file else state g) (ne_eqb g f other)

-- one call is a move of its file
pub moves : (f : ℕ) (file : File) (old new : List State) → new ≡ with_file f file (now old) ∷ old → Moves f file old new
moves f file old new is = record {
  state = with_file f file (now old);
  is = is;
  there = with_there f file (now old);
  others = λ g other. with_other f g file (now old) other;
}

-- what three files read as
pub each_reads : (files : Files) (state : State) → file_of files 0 ≡ (state 0).reads → file_of files 1 ≡ (state 1).reads → file_of files 2 ≡ (state 2).reads
    → (g : ℕ) → g < 3 → file_of files g ≡ (state g).reads
each_reads files state first second third g within = elim (cases_eq g 0) [
  | inl is ↦ subst (λ (k : ℕ). file_of files k ≡ (state k).reads) (sym is) first
  | inr not_first ↦ elim (cases_eq g 1) [
    | inl is ↦ subst (λ (k : ℕ). file_of files k ≡ (state k).reads) (sym is) second
    | inr not_second ↦ let is : 2 ≡ g = omega arith in subst (λ (k : ℕ). file_of files k ≡ (state k).reads) is third
  ]
]

-- a write changes what its file reads as
pub write_reads : (f at : ℕ) (bytes : List ℕ) (old new : Files) (state : State) → f < 3 → ((g : ℕ) → g < 3 → file_of old g ≡ (state g).reads) → Rewrote f at bytes old new
    → (g : ℕ) → g < 3 → file_of new g ≡ (after (Wrote f at bytes) state g).reads
write_reads f at bytes old new state known before rewrote g within = elim (cases_eq g f) [
  | inl is ↦ subst (λ (k : ℕ). file_of new k ≡ (after (Wrote f at bytes) state k).reads) (sym is)
      (rewrote.there ∙ ap (overwritten at bytes) (before f known) ∙ sym (ap (λ (file : File). file.reads) (with_there f (after_write at bytes (state f)) state)))
  | inr other ↦ rewrote.others g within other ∙ before g within ∙ sym (ap (λ (file : File). file.reads) (with_other f g (after_write at bytes (state f)) state other))
]

-- a sync changes nothing that is read
pub sync_reads : (f : ℕ) (state : State) (g : ℕ) → (after (Synced f) state g).reads ≡ (state g).reads
sync_reads f state g = elim (cases_eq g f) [
  | inl is ↦ subst (λ (k : ℕ). (after (Synced f) state k).reads ≡ (state k).reads) (sym is) (ap (λ (file : File). file.reads) (with_there f (after_sync (state f)) state))
  | inr other ↦ ap (λ (file : File). file.reads) (with_other f g (after_sync (state f)) state other)
]

-- what is read after a push of a sync that may have failed
pub sync_kept : (states : List State) (calls new : List Call) (f : ℕ) (b : Bool) → new ≡ (if b then calls ++ Synced f ∷ [] else calls)
    → (g : ℕ) → (now (states_from states new) g).reads ≡ (now (states_from states calls) g).reads
sync_kept states calls new f true is g = ap (λ (s : List State). (now s g).reads) (pushed states calls new (Synced f) is) ∙ sync_reads f (now (states_from states calls)) g
sync_kept states calls new f false is g = ap (λ (l : List Call). (now (states_from states l) g).reads) is

pub ok_of : {T E A : Type 0} (result : Result T E) → false ≡ is_err result → OnOk result A → A
ok_of (Ok _) ok has = has
ok_of (Err _) ok has = absurd (cc)
