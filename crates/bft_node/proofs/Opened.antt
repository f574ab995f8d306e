-- What an opening leaves at each moment.
use Rattle.std.proofs.Common.{◌≡◌, ◌≢◌, inl, inr, ℕ, ◌<◌, List, Ok, Err, refl, sym, ◌∙◌, subst, arith}
use Rattle.std.specs.Prelude.{◌==◌, if◌then◌else◌, IsErrAnd, Result}
use Rattle.std.proofs.lemmas.Bool.Decides.{eqb_tells}
use Rattle.ord_types.specs.declared.values.Config.{Config}
use Rattle.gate_log.specs.Disk.{File, State, MayLeave, now}
use Rattle.gate_log.specs.Runs.{Leaves, OnlyIn, Throughout}
use Rattle.gate_log.specs.declared.fault.LogFault.{LogFault}
use Rattle.gate_log.specs.declared.fault.LogFault.TheVariants as log_of
use Rattle.gate_log.proofs.Going.{last_of, then_went, went_to}
use Rattle.signer_edge.specs.Accepts.{Accepts}
use Rattle.bft_wal.specs.Opening.{OpensAsBefore as LogAsBefore, RecordsOpenTo, opens_as}
use Rattle.bft_wal.specs.declared.record.WalRecord.{WalRecord}
use Rattle.block_ledger.specs.Ledgers.{StandsAsBefore}
use Rattle.bft_node.specs.Crashes.{Image}
use Rattle.bft_node.specs.Openings.{log_fault}
use Rattle.bft_node.specs.declared.fault.OpenFault.{OpenFault}
use Rattle.bft_node.specs.declared.store.Store.{Store}
use Rattle.bft_node.specs.Stores.{HasChain, StoreOpensTo, StaysOpen}

-- the same files but for one
abbrev with_file : ℕ → List ℕ → Image → Image
with_file file bytes image f = if f == file then bytes else image f

file_left : (before : State) (file : ℕ) (bytes : List ℕ) (image : Image) → MayLeave (before file) bytes → ((f : ℕ) → f < 3 → f ≢ file → MayLeave (before f) (image f))
    → (f : ℕ) → f < 3 → MayLeave (before f) (with_file file bytes image f)
file_left before file bytes image here others f within = elim (eqb_tells f file) [
  | inl a ↦ rw a.0 (subst (λ n. MayLeave (before n) bytes) (sym a.1) here)
  | inr b ↦ rw b.0 (others f within b.1)
]

two_not : ◌≢◌ {A = ℕ} 2 0
two_not e = omega (arith, e)

-- while the ledger is opened
pub ledger_stays : (accepts : Accepts) (c : Config) (before state : State) → OnlyIn 2 (StandsAsBefore accepts c (before 2)) before state → StaysOpen accepts c before state
ledger_stays accepts c before state only =
    record {
      crash = λ image crash.
          let found = only.crash (image 2) (crash 2 (omega arith)) in
          record {
            was = with_file 2 found.image image;
            left = file_left before 2 found.image image found.left (λ f within not. subst (λ (file : File). MayLeave file (image f)) (only.others f not) (crash f within));
            ledger = found.same;
            log = refl;
          };
      others = λ file no_log no_ledger. only.others file no_ledger;
    }

-- while the log is opened behind it
log_stays : (accepts : Accepts) (c : Config) (before mid state : State) → OnlyIn 2 (StandsAsBefore accepts c (before 2)) before mid → OnlyIn 0 (LogAsBefore (mid 0)) mid state → StaysOpen accepts c before state
log_stays accepts c before mid state first only =
    record {
      crash = λ image crash.
          let ledger = first.crash (image 2) (subst (λ (file : File). MayLeave file (image 2)) (only.others 2 two_not) (crash 2 (omega arith))) in
          let log = only.crash (image 0) (crash 0 (omega arith)) in
          record {
            was = with_file 2 ledger.image (with_file 0 log.image image);
            left = file_left before 2 ledger.image (with_file 0 log.image image) ledger.left
                (λ f within not. subst (λ (file : File). MayLeave file (with_file 0 log.image image f)) (first.others f not)
                (file_left mid 0 log.image image log.left (λ g below no. subst (λ (file : File). MayLeave file (image g)) (only.others g no) (crash g below)) f within));
            ledger = ledger.same;
            log = log.same;
          };
      others = λ file no_log no_ledger. only.others file no_log ∙ first.others file no_ledger;
    }

pub went_ledger : (accepts : Accepts) (c : Config) (old new : List State) → Leaves 2 (StandsAsBefore accepts c (now old 2)) old new → Throughout (StaysOpen accepts c (now old)) old new
went_ledger accepts c old new went = went_to (OnlyIn 2 (StandsAsBefore accepts c (now old 2)) (now old)) (StaysOpen accepts c (now old)) (ledger_stays accepts c (now old)) old new went

pub went_both : (accepts : Accepts) (c : Config) (old mid new : List State) → Leaves 2 (StandsAsBefore accepts c (now old 2)) old mid → Leaves 0 (LogAsBefore (now mid 0)) mid new → Throughout (StaysOpen accepts c (now old)) old new
went_both accepts c old mid new first second =
    let here : OnlyIn 2 (StandsAsBefore accepts c (now old 2)) (now old) (now old) =
    record { crash = λ bytes left. record { image = bytes; left = left; same = refl }; others = λ other not. refl } in
    let last = last_of (OnlyIn 2 (StandsAsBefore accepts c (now old 2)) (now old)) old mid here first in
    then_went (StaysOpen accepts c (now old)) old mid new (went_ledger accepts c old mid first)
    (went_to (OnlyIn 0 (LogAsBefore (now mid 0)) (now mid)) (StaysOpen accepts c (now old)) (λ s only. log_stays accepts c (now old) (now mid) s last only) mid new second)

-- an answer that is this fault
pub told_err : (accepts : Accepts) (c : Config) (before : State) (r : Result Store OpenFault) (fault : OpenFault) → IsErrAnd r (λ told. told ≡ fault) → StoreOpensTo accepts c before (Err fault) → StoreOpensTo accepts c before r
told_err accepts c before (Ok store) fault is told = absurd is
told_err accepts c before (Err other) fault is told = subst (λ (f : OpenFault). StoreOpensTo accepts c before (Err f)) (sym is) told

-- the fault of a log behind a ledger that has none
pub log_told : (accepts : Accepts) (c : Config) (before : State) (opens : Result (List WalRecord) ℕ) (fault : LogFault) → HasChain accepts c before → opens ≡ opens_as (before 0).reads
    → RecordsOpenTo opens (Err fault) → StoreOpensTo accepts c before (Err (log_fault fault))
log_told accepts c before opens (log_of.Foreign at) chain is told = inr (refl, chain, sym is ∙ told)
log_told accepts c before opens (log_of.TooLong n) chain is told = told
log_told accepts c before opens log_of.NoMemory chain is told = tt
log_told accepts c before opens log_of.Failed chain is told = tt
