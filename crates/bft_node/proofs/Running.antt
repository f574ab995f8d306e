-- Crashes of a store, and runs of its calls.
use Rattle.std.proofs.Common.{◌≡◌, ◌≢◌, inl, inr, ℕ, suc, ◌+◌, List, [], ◌∷◌, ◌++◌, length, take, Ok, sym, ◌∙◌, ap, subst, arith, length-append}
use Rattle.std.proofs.lemmas.List.{take-append-le}
use Rattle.ord_types.specs.declared.values.Block.{Block}
use Rattle.ord_types.specs.declared.values.Config.{Config}
use Rattle.ord_types.specs.declared.values.Proof.{Proof}
use Rattle.gate_log.specs.Disk.{File, State, MayLeave}
use Rattle.gate_log.specs.Runs.{OnlyIn}
use Rattle.gate_log.proofs.Going.{then_went, went_to}
use Rattle.gate_log.proofs.Left.{left_kept}
use Rattle.gate_log.specs.Format.{reading}
use Rattle.signer_edge.specs.Accepts.{Accepts}
use Rattle.signer_edge.specs.Signing.{KeepsAccepted}
use Rattle.bft_wal.specs.Opening.{IsSettled, IsWithOrWithout as IsLogWithOrWithout, opens_as, records}
use Rattle.bft_wal.specs.declared.record.WalRecord.{WalRecord}
use Rattle.bft_wal.specs.declared.wal.Wal.{Wal}
use Rattle.bft_wal.proofs.Opens.{opens_log}
use Rattle.block_ledger.specs.Chains.{IsChain}
use Rattle.block_ledger.specs.Ledgers.{IsWithOrWithout}
use Rattle.block_ledger.proofs.Keeping.{kept_crash, kept_others}
use Rattle.node_model.specs.Entries.{Deed, Delivers}
use Rattle.bft_node.specs.Crashes.{Image, Opens, OpensAfter, Within}
use Rattle.bft_node.specs.Held.{Held, with_deed, with_deeds}
use Rattle.bft_node.specs.Laws.{KeptStoreOpens, KeptStoreStays, RunsAreWithin, RunsGoOn}
use Rattle.bft_node.specs.Stores.{IsKept, IsStoredAs, OthersStay, config_of, held_of}
use Rattle.bft_node.specs.declared.store.Store.{Store}
use Rattle.bft_node.proofs.Stands.{stands_more}

-- A LOG THAT ISN'T WRITTEN TO

pub wal_crash : (wal : Wal) (state : State) → IsSettled wal state → (c : List ℕ) → MayLeave (state 0) c → opens_as c ≡ Ok (records wal)
wal_crash wal state settled c left =
    let log = settled.log in
    let there : MayLeave (state wal.log.file) c = subst (λ n. MayLeave (state n) c) (sym settled.in_file) left in
    let same : c ≡ log.bytes = left_kept log.bytes c (subst (λ (f : File). MayLeave f c) log.file there) in
    opens_log c wal.log.generation wal.log.entries (ap reading same ∙ log.stands) settled.are_records

pub wal_others : (wal : Wal) (one two : State) → IsSettled wal one → two 0 ≡ one 0 → IsSettled wal two
wal_others wal one two settled same =
    let log = settled.log in
    record {
      log = record { bytes = log.bytes; file = subst (λ n. two n ≡ one n) (sym settled.in_file) same ∙ log.file; stands = log.stands; gate = log.gate };
      in_file = settled.in_file;
      are_records = settled.are_records;
    }

-- A STORE THAT ISN'T WRITTEN TO

pub store_opens : KeptStoreOpens
store_opens accepts store state kept chain image crash =
    record {
      ledger = kept_crash accepts store.ledger state kept.ledger chain (image 2) (crash 2 (omega arith));
      log = wal_crash store.wal state kept.log (image 0) (crash 0 (omega arith));
    }

pub store_stays : KeptStoreStays
store_stays store one two kept log ledger =
    record { ledger = kept_others store.ledger one two kept.ledger ledger; log = wal_others store.wal one two kept.log log }

-- ONE CALL

no_deed : (accepts : Accepts) (c : Config) (deed : Deed) (held : Held) (image : Image) → Opens accepts c image held → OpensAfter accepts c (deed ∷ []) held image
no_deed accepts c deed held image opens = record { done = 0; some = omega arith; opens = opens }

one_deed : (accepts : Accepts) (c : Config) (deed : Deed) (held : Held) (image : Image) → Opens accepts c image (with_deed deed held) → OpensAfter accepts c (deed ∷ []) held image
one_deed accepts c deed held image opens = record { done = 1; some = omega arith; opens = opens }

two_not : ◌≢◌ {A = ℕ} 2 0
two_not e = omega (arith, e)

zero_not : ◌≢◌ {A = ℕ} 0 2
zero_not e = omega (arith, e)

-- a record more, at each moment
pub log_within : (accepts : Accepts) (store : Store) (deed : Deed) (entry : WalRecord) (before state : State) → IsStoredAs deed entry → IsKept store before → IsChain accepts (config_of store) (held_of store).blocks
    → OnlyIn 0 (IsLogWithOrWithout (records store.wal) entry) before state → Within accepts (config_of store) (deed ∷ []) (held_of store) state
log_within accepts store deed entry before state stored kept chain only image crash =
    let ledger = kept_crash accepts store.ledger before kept.ledger chain (image 2) (subst (λ (f : File). MayLeave f (image 2)) (only.others 2 two_not) (crash 2 (omega arith))) in
    elim (only.crash (image 0) (crash 0 (omega arith))) [
      | inl without ↦ no_deed accepts (config_of store) deed (held_of store) image (record { ledger = ledger; log = without })
      | inr one_more ↦ one_deed accepts (config_of store) deed (held_of store) image (subst (Opens accepts (config_of store) image) (sym (stored (held_of store))) (record { ledger = ledger; log = one_more }))
    ]

-- a block more, at each moment
pub ledger_within : (old new : Accepts) (store : Store) (id : ℕ) (b : Block) (proof : Proof) (before state : State)
    → KeepsAccepted old new → IsKept store before → IsChain old (config_of store) (held_of store).blocks
    → OnlyIn 2 (IsWithOrWithout old (config_of store) (held_of store).blocks (b, proof)) before state
    → Within new (config_of store) (Delivers id b proof ∷ []) (held_of store) state
ledger_within old new store id b proof before state keeps kept chain only image crash =
    let c : Config = config_of store in
    let log = wal_crash store.wal before kept.log (image 0)
    (subst (λ (f : File). MayLeave f (image 0)) (only.others 0 zero_not) (crash 0 (omega arith))) in
    elim (only.crash (image 2) (crash 2 (omega arith)) chain) [
      | inl without ↦ no_deed new c (Delivers id b proof) (held_of store) image
          (record { ledger = stands_more old new keeps c _ (image 2) without; log = log })
      | inr one_more ↦ one_deed new c (Delivers id b proof) (held_of store) image
          (record { ledger = stands_more old new keeps c _ (image 2) one_more; log = log })
    ]

pub log_others : (P : List ℕ → Type 0) (before state : State) → OnlyIn 0 P before state → OthersStay before state
log_others P before state only file no_log no_ledger = only.others file no_log

pub ledger_others : (P : List ℕ → Type 0) (before state : State) → OnlyIn 2 P before state → OthersStay before state
ledger_others P before state only file no_log no_ledger = only.others file no_ledger

-- ONE RUN AFTER ANOTHER

pub behind : (first more : List Deed) (n : ℕ) (held : Held) → with_deeds (take (length first + n) (first ++ more)) held ≡ with_deeds (take n more) (with_deeds first held)
behind [] more n held = let e : 0 + n ≡ n = omega arith in ap (λ m. with_deeds (take m more) held) e
behind (deed ∷ first) more n held =
    let e : length (deed ∷ first) + n ≡ suc (length first + n) = omega arith in
    ap (λ m. with_deeds (take m (deed ∷ first ++ more)) held) e ∙ behind first more n (with_deed deed held)

within_more : (accepts : Accepts) (c : Config) (first more : List Deed) (held : Held) (state : State) → Within accepts c first held state → Within accepts c (first ++ more) held state
within_more accepts c first more held state within image crash =
    let found = within image crash in
    record {
      done = found.done;
      some = omega (arith, found.some, length-append first more);
      opens = subst (λ (l : List Deed). Opens accepts c image (with_deeds l held)) (sym (take-append-le found.done first more found.some)) found.opens;
    }

within_then : (accepts : Accepts) (c : Config) (first more : List Deed) (held : Held) (state : State) → Within accepts c more (with_deeds first held) state → Within accepts c (first ++ more) held state
within_then accepts c first more held state within image crash =
    let found = within image crash in
    record {
      done = length first + found.done;
      some = omega (arith, found.some, length-append first more);
      opens = subst (λ (h : Held). Opens accepts c image h) (sym (behind first more found.done held)) found.opens;
    }

pub runs_within : RunsAreWithin
runs_within accepts c first more held old new went =
    went_to (Within accepts c first held) (Within accepts c (first ++ more) held) (within_more accepts c first more held) old new went

pub runs_go_on : RunsGoOn
runs_go_on accepts c first more held old mid new one two =
    then_went (Within accepts c (first ++ more) held) old mid new (runs_within accepts c first more held old mid one)
    (went_to (Within accepts c more (with_deeds first held)) (Within accepts c (first ++ more) held) (within_then accepts c first more held) mid new two)
