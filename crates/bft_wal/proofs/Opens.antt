-- What a file of entries opens to.
use Rattle.std.proofs.Common.{◌≡◌, ◌≢◌, inl, inr, ℕ, ◌+◌, ◌-◌, ◌^◌, ◌<◌, ◌≤◌, min, List, [], ◌∷◌, ◌++◌, length, Option, Some, None, option_map, unwrap_or, Result, Ok, Err, refl, sym, ◌∙◌, ap, subst, arith}
use Rattle.std.proofs.lemmas.List.Elements.{filter_map-append}
use Rattle.std.specs.Prelude.{Bool, IsTrue, IfOk, IsErrAnd}
use Rattle.gate_log.specs.Disk.{File, State, MayLeave, Synced, now}
use Rattle.gate_log.specs.Format.{gate_after, opened_as, reading}
use Rattle.gate_log.specs.Front.{IsReadOrNew, entries_before}
use Rattle.gate_log.specs.Runs.{Leaves}
use Rattle.gate_log.specs.Settled.{IsWithOrWithout as IsLogWithOrWithout}
use Rattle.gate_log.specs.Opening.{OpenAnswers as LogOpenAnswers, LogOpensTo}
use Rattle.gate_log.specs.declared.fault.LogFault.{LogFault}
use Rattle.gate_log.specs.declared.fault.LogFault.TheVariants.{TooLong, Foreign as ForeignFile, NoMemory, Failed}
use Rattle.gate_log.specs.declared.reading.Reading.{Reading}
use Rattle.gate_log.specs.declared.reading.Reading.TheVariants.{Absent, Foreign, Log}
use Rattle.gate_log.proofs.Going.{leaves_to}
use Rattle.bft_wal.specs.Opening.{IsWithOrWithout, OpenAnswers, OpensAsBefore, RecordsOpenTo, first_wrong, here_or, opens_as, opens_by, records_in, records_or}
use Rattle.bft_wal.specs.Reading.{record_in}
use Rattle.bft_wal.specs.Records.{WalRecord}

-- ENTRIES ONE AFTER ANOTHER

-- the first wrong entry is the first wrong one from here on, whose gate stands at this place, or past a u64
pub record IsHere (at : ℕ) (entries rest : List (List ℕ)) : Type 0 where
  pub place : ℕ
  pub stands : at ≡ min place (2 ^ 64 - 1)
  pub same : first_wrong 17 entries ≡ first_wrong place rest

pub here_first : (entries : List (List ℕ)) → IsHere 17 entries entries
here_first entries = record { place = 17; stands = omega arith; same = refl }

pub here_next : (at next : ℕ) (entries : List (List ℕ)) (entry : List ℕ) (rest : List (List ℕ)) (r : WalRecord) → record_in entry ≡ Some r → next ≡ min (min (at + 5) (2 ^ 64 - 1) + length entry) (2 ^ 64 - 1)
    → IsHere at entries (entry ∷ rest) → IsHere next entries rest
here_next at next entries entry rest r is moved here = record {
  place = here.place + 5 + length entry;
  stands = omega (arith, moved, here.stands);
  same = here.same ∙ ap (λ o. here_or here.place o (first_wrong (here.place + 5 + length entry) rest)) is;
}

pub here_wrong : (at : ℕ) (entries : List (List ℕ)) (entry : List ℕ) (rest : List (List ℕ)) → record_in entry ≡ None → IsHere at entries (entry ∷ rest)
    → Some at ≡ option_map (λ w. min w (2 ^ 64 - 1)) (first_wrong 17 entries)
here_wrong at entries entry rest is here =
    ap Some here.stands
    ∙ ap (λ o. option_map (λ w. min w (2 ^ 64 - 1)) o) (sym (here.same ∙ ap (λ o. here_or here.place o (first_wrong (here.place + 5 + length entry) rest)) is))

pub here_done : (at : ℕ) (entries : List (List ℕ)) → IsHere at entries [] → None ≡ option_map (λ w. min w (2 ^ 64 - 1)) (first_wrong 17 entries)
here_done at entries here = ap (λ o. option_map (λ w. min w (2 ^ 64 - 1)) o) (sym here.same)

-- ONE ENTRY MORE

record IsFine (o : Option WalRecord) (later : Option ℕ) : Type 0 where
  entry : WalRecord
  is : o ≡ Some entry
  rest : later ≡ None

fine : (at : ℕ) (o : Option WalRecord) (later : Option ℕ) → here_or at o later ≡ None → IsFine o later
fine at None later none = absurd (cc)
fine at (Some r) later none = record { entry = r; is = refl; rest = none }

pub fine_more : (at : ℕ) (entries : List (List ℕ)) (entry : List ℕ) (r : WalRecord) → first_wrong at entries ≡ None → record_in entry ≡ Some r → first_wrong at (entries ++ entry ∷ []) ≡ None
fine_more at [] entry r none is = ap (λ o. here_or at o None) is
fine_more at (e ∷ entries) entry r none is =
    let f = fine at (record_in e) (first_wrong (at + 5 + length e) entries) none in
    let more = fine_more (at + 5 + length e) entries entry r f.rest is in
    ap (λ o. here_or at o (first_wrong (at + 5 + length e) (entries ++ entry ∷ []))) f.is ∙ more

pub records_more : (entries : List (List ℕ)) (entry : List ℕ) (r : WalRecord) → record_in entry ≡ Some r → records_in (entries ++ entry ∷ []) ≡ records_in entries ++ r ∷ []
records_more entries entry r is = filter_map-append record_in entries (entry ∷ []) ∙ rw is refl

-- WHAT A FILE OPENS TO

pub opens_log : (c : List ℕ) (generation : ℕ) (entries : List (List ℕ)) → reading c ≡ Log generation entries → first_wrong 17 entries ≡ None → opens_as c ≡ Ok (records_in entries)
opens_log c generation entries is none = ap (opens_by c) is ∙ ap (records_or entries) none

pub with_or_without : (generation : ℕ) (entries : List (List ℕ)) (entry : List ℕ) (r : WalRecord) → first_wrong 17 entries ≡ None → record_in entry ≡ Some r
    → (c : List ℕ) → IsLogWithOrWithout generation entries entry c → IsWithOrWithout (records_in entries) r c
with_or_without generation entries entry r none is c (inl without) = inl (opens_log c generation entries without none)
with_or_without generation entries entry r none is c (inr one_more) =
    inr (opens_log c generation (entries ++ entry ∷ []) one_more (fine_more 17 entries entry r none is) ∙ ap Ok (records_more entries entry r is))

-- of what is opened as a log
by_reading : (bytes : List ℕ) (read : Reading) (generation : ℕ) (entries : List (List ℕ)) → opened_as read ≡ Log generation entries → opens_by bytes read ≡ records_or entries (first_wrong 17 entries)
by_reading bytes Absent generation entries is = let none : [] ≡ entries = cc in rw (sym none) refl
by_reading bytes (Foreign at) generation entries is = absurd (cc)
by_reading bytes (Log g es) generation entries is = let same : es ≡ entries = cc in rw same refl

pub opens_opened : (bytes : List ℕ) (generation : ℕ) (entries : List (List ℕ)) → opened_as (reading bytes) ≡ Log generation entries → opens_as bytes ≡ records_or entries (first_wrong 17 entries)
opens_opened bytes generation entries is = by_reading bytes (reading bytes) generation entries is

-- of what was read, or of a file that was made new
pub opens_before : (file : File) → MayLeave file file.reads → (c : List ℕ) → IsReadOrNew file.reads c → OpensAsBefore file c
opens_before file left c (inl same) = record { image = file.reads; left = left; same = ap opens_as same }
opens_before file left c (inr new) = record { image = file.reads; left = left; same = opens_opened c 1 [] new.1 ∙ sym (ap (opens_by file.reads) new.0) }

-- WRONG PLACES

gate_after_first : (entries : List (List ℕ)) → 17 ≤ gate_after entries
gate_after_first [] = omega arith
gate_after_first (e ∷ entries) = omega (arith, gate_after_first entries)

within : (at next behind w : ℕ) (o : Option WalRecord) (later : Option ℕ) → at + 5 ≤ next → 17 ≤ behind → (later ≡ Some w → w + 17 ≤ next + behind) → here_or at o later ≡ Some w → w + 17 ≤ next + behind
within at next behind w None later after some more here = let same : at ≡ w = cc in omega (arith, same)
within at next behind w (Some r) later after some more is = more is

-- a wrong entry stands in front of the last gate
pub wrong_within : (at w : ℕ) (entries : List (List ℕ)) → first_wrong at entries ≡ Some w → w + 17 ≤ at + gate_after entries
wrong_within at w [] is = absurd (cc)
wrong_within at w (e ∷ entries) is = omega (arith, within at (at + 5 + length e) (gate_after entries) w (record_in e) (first_wrong (at + 5 + length e) entries) (omega arith) (gate_after_first entries) (wrong_within (at + 5 + length e) w entries) is)

-- the place that was told, where no place is past a u64
pub told_wrong : (at : ℕ) (entries : List (List ℕ)) (o : Option ℕ) → gate_after entries < 2 ^ 63 → first_wrong 17 entries ≡ o → Some at ≡ option_map (λ w. min w (2 ^ 64 - 1)) o → first_wrong 17 entries ≡ Some at
told_wrong at entries None small is told = absurd (cc)
told_wrong at entries (Some w) small is told =
    let same : at ≡ min w (2 ^ 64 - 1) = cc in
    is ∙ ap Some (omega (arith, same, wrong_within 17 w entries is, small))

pub told_none : (o : Option ℕ) → None ≡ option_map (λ w. min w (2 ^ 64 - 1)) o → o ≡ None
told_none None told = refl
told_none (Some w) told = absurd (cc)

-- a broken gate, and what stands in front of it
pub opens_broken : (bytes : List ℕ) (at : ℕ) (entries : List (List ℕ)) (o : Option ℕ) → reading bytes ≡ Foreign at → entries ≡ entries_before at bytes → first_wrong 17 entries ≡ o → opens_as bytes ≡ Err (unwrap_or o at)
opens_broken bytes at entries o broken before is =
    ap (opens_by bytes) broken ∙ ap (λ (es : List (List ℕ)). Err (unwrap_or (first_wrong 17 es) at)) (sym before) ∙ ap (λ (w : Option ℕ). Err (unwrap_or w at)) is

-- CALLS

-- a disk that told tells still
pub still : (after before : Bool) → after ≡ before → IsTrue before → IsTrue after
still after before same told = subst IsTrue (sym same) told

-- an answer that is an error has no value
pub no_value : {T E : Type 0} (Q : E → Type 0) (r : Result T E) (P : T → Type 0) → IsErrAnd r Q → IfOk r P
no_value Q (Ok x) P is = absurd is
no_value Q (Err e) P is = tt

pub leaves_as_before : (old new : List State) → MayLeave (now old 0) (now old 0).reads → Leaves 0 (IsReadOrNew (now old 0).reads) old new → Leaves 0 (OpensAsBefore (now old 0)) old new
leaves_as_before old new left went = leaves_to 0 (IsReadOrNew (now old 0).reads) (OpensAsBefore (now old 0)) (opens_before (now old 0) left) old new went

-- a sync leaves what is read
pub synced_reads : (old new : List State) → Synced 0 old new → (now new 0).reads ≡ (now old 0).reads
synced_reads old new sync = ap (λ (states : List State). (now states 0).reads) sync.is ∙ ap (λ (f : File). f.reads) sync.there

-- a fault that isn't of the file
pub other_value : (fault : LogFault) (read : Reading) (opens : Result (List WalRecord) ℕ) → ((at : ℕ) → fault ≢ ForeignFile at) → LogOpensTo read (Err fault) → RecordsOpenTo opens (Err fault)
other_value (TooLong n) read opens other is = is
other_value (ForeignFile at) read opens other is = absurd (other at refl)
other_value NoMemory read opens other is = tt
other_value Failed read opens other is = tt

pub other_cause : (fault : LogFault) (before now : ℕ) → LogOpenAnswers before now (Err fault) → OpenAnswers before now (Err fault)
other_cause (TooLong n) before now is = is
other_cause (ForeignFile at) before now is = tt
other_cause NoMemory before now is = tt
other_cause Failed before now is = is
