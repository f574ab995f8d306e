-- A ledger that is opened.
use Rattle.std.proofs.Common.{◌≡◌, ℕ, Bool, true, false, List, [], ◌∷◌, length, refl, sym, ◌∙◌, ap, subst, Ok, Err, IsTrue}
use Rattle.std.specs.Prelude.{Result, ◌==◌}
use Rattle.std.specs.Result.{IsErr, IsErrAnd}
use Rattle.std.proofs.lemmas.Bool.{eqb-true, false≢true}
use Rattle.std.proofs.lemmas.List.{nil_from_length}
use Rattle.ord_types.specs.Genesis.{genesis_request, genesis_sig}
use Rattle.ord_types.specs.Spelling.{sig_text}
use Rattle.ord_types.specs.declared.values.Block.{Block}
use Rattle.ord_types.specs.declared.values.Config.{Config}
use Rattle.ord_types.specs.declared.values.Request.{Request}
use Rattle.ord_types.proofs.Laws.{one_spelling}
use Rattle.ord_types.proofs.ValueLaws.{config_law}
use Rattle.gate_log.specs.Disk.{File, State, MayLeave, Synced, now, synced_file}
use Rattle.gate_log.specs.Format.{opened_as, reading}
use Rattle.gate_log.specs.Opening.{OpensAsBefore, LogOpensTo}
use Rattle.gate_log.specs.Settled.{IsSettled, OnRefusal as OnLogRefusal}
use Rattle.gate_log.specs.declared.fault.LogFault.{LogFault}
use Rattle.gate_log.specs.declared.fault.LogFault.TheVariants as fault_in
use Rattle.gate_log.specs.declared.log.GateLog.{GateLog}
use Rattle.gate_log.specs.declared.reading.Reading.{Reading}
use Rattle.gate_log.specs.declared.reading.Reading.TheVariants as log_of
use Rattle.signer_edge.specs.Accepts.{Accepts}
use Rattle.block_ledger.specs.declared.fault.LedgerFault.{LedgerFault}
use Rattle.block_ledger.specs.declared.fault.LedgerFault.TheVariants as fault_of
use Rattle.block_ledger.specs.Answers.{BeginAnswers, OnRefusal, LedgerOpensTo, log_fault}
use Rattle.block_ledger.specs.Chains.{Entry, IsChain, IsGenesisBlock, genesis_entry}
use Rattle.block_ledger.specs.Ledgers.{StandsAsBefore}
use Rattle.block_ledger.specs.Loading.{TellsBad}
use Rattle.block_ledger.specs.Reading.{Stored, Chain, read_chain, stands_as, stands_for}
use Rattle.block_ledger.proofs.Beginning.{config_spelling, requests_are}
use Rattle.block_ledger.proofs.Linking.{begins}

-- an error that was handed on
pub handed : {T : Type 0} (P : Result T LedgerFault → Type 0) (r : Result T LedgerFault) (told : LedgerFault) → IsErr r × IsErrAnd r (λ x. x ≡ told) → P (Err told) → P r
handed P (Ok x) told k h = absurd (false≢true k.0)
handed P (Err x) told k h = subst (λ t. P (Err t)) (sym k.1) h

-- one configuration begins with a block
same_payload : (c d : Config) → genesis_request c ∷ [] ≡ genesis_request d ∷ [] → (genesis_request c).payload ≡ (genesis_request d).payload
same_payload c d h = ap (λ (l : List Request). payload_in l) h
  where
    payload_in : List Request → List ℕ
    payload_in [] = []
    payload_in (r ∷ rs) = r.payload

pub one_config : (c d : Config) (b : Block) → IsGenesisBlock c b → IsGenesisBlock d b → c ≡ d
one_config c d b one two =
    let requests = sym (requests_are c) ∙ ap (λ (x : Block). x.requests) (sym one.block ∙ two.block) ∙ requests_are d in
    (one_spelling config_law c d (sig_text genesis_sig) (sig_text genesis_sig) (config_spelling c one.config) (config_spelling d two.config) (same_payload c d requests)).0

module _ (accepts : Accepts) (c : Config) where
  opened_same : (r : Reading) → stands_as accepts c (opened_as r) ≡ stands_as accepts c r
  opened_same log_of.Absent = refl
  opened_same (log_of.Foreign at) = refl
  opened_same (log_of.Log generation entries) = refl

  -- what a file stands for that is opened as a log
  pub stands_opened : (reads : List ℕ) (generation : ℕ) (entries : List (List ℕ)) → opened_as (reading reads) ≡ log_of.Log generation entries → stands_for accepts c reads ≡ read_chain accepts c entries
  unfolding stands_for
  stands_opened reads generation entries h = sym (opened_same (reading reads)) ∙ ap (stands_as accepts c) h

  pub as_before : (file : File) (bytes : List ℕ) → OpensAsBefore file bytes → StandsAsBefore accepts c file bytes
  unfolding stands_for
  as_before file bytes h = record {
    image = h.image;
    left = h.left;
    same = sym (opened_same (reading bytes)) ∙ ap (stands_as accepts c) h.same ∙ opened_same (reading h.image);
  }

  -- a log that isn't opened
  pub log_value : (fault : LogFault) (reads : List ℕ) → LogOpensTo (reading reads) (Err fault) → LedgerOpensTo (stands_for accepts c reads) (Err (log_fault fault))
  unfolding stands_for
  log_value (fault_in.TooLong n) reads h = absurd h
  log_value (fault_in.Foreign at) reads h = ap (stands_as accepts c) h
  log_value fault_in.NoMemory reads h = tt
  log_value fault_in.Failed reads h = tt

  -- a settled log stands for what its file stood for
  pub stays : (log : GateLog) (state : State) (reads : List ℕ) → IsSettled log state → log.file ≡ 2 → opened_as (reading reads) ≡ log_of.Log log.generation log.entries
      → stands_for accepts c (state 2).reads ≡ stands_for accepts c reads
  unfolding stands_for
  stays log state reads settled file opened =
      let bytes : (state 2).reads ≡ settled.bytes = ap (λ n. (state n).reads) (sym file) ∙ ap (λ (f : File). f.reads) settled.file in
      ap (λ (b : List ℕ). stands_as accepts c (reading b)) bytes ∙ ap (stands_as accepts c) settled.stands ∙ sym (ap (stands_as accepts c) opened) ∙ opened_same (reading reads)

  synced_stands : (old new : List State) → Synced 2 old new → stands_for accepts c (now new 2).reads ≡ stands_for accepts c (now old 2).reads
  synced_stands old new moves =
      let state : now new 2 ≡ synced_file (now old 2).reads = ap (λ (l : List State). now l 2) moves.is ∙ moves.there in
      ap (λ (f : File). stands_for accepts c f.reads) state

  pub log_refused : (T : Type 0) (fault : LogFault) (old new : List State) → OnLogRefusal {T = GateLog} (Err fault) (Synced 2 old new)
      → OnRefusal {T = T} (Err (log_fault fault)) (stands_for accepts c (now new 2).reads ≡ stands_for accepts c (now old 2).reads)
  log_refused T (fault_in.TooLong n) old new h = synced_stands old new h
  log_refused T (fault_in.Foreign at) old new h = synced_stands old new h
  log_refused T fault_in.NoMemory old new h = synced_stands old new h
  log_refused T fault_in.Failed old new h = tt

-- stored blocks that aren't opened
pub bad_value : (stored : Stored) (fault : LedgerFault) → TellsBad stored fault → LedgerOpensTo stored (Err fault)
bad_value stored fault_of.NoMemory h = tt
bad_value stored (fault_of.Stored n why) h = h
bad_value stored (fault_of.WrongNumber n) h = h
bad_value stored (fault_of.WrongPrevious a b) h = h
bad_value stored (fault_of.BadBlock x) h = h
bad_value stored (fault_of.BadCert x) h = h
bad_value stored fault_of.BadProof h = h
bad_value stored (fault_of.Foreign n) h = absurd h
bad_value stored (fault_of.Limit n) h = h
bad_value stored fault_of.Failed h = absurd h

not_told : (tells : Bool) → IsTrue tells → tells ≡ false → ⊥
not_told true t h = false≢true (sym h)
not_told false t h = absurd (false≢true t)

-- an empty log that isn't made a ledger
pub begin_value : (tells : Bool) (before now : ℕ) (stored : Stored) (fault : LedgerFault) → IsTrue tells → BeginAnswers tells before now (Err fault) → LedgerOpensTo stored (Err fault)
begin_value tells before now stored fault_of.NoMemory t h = tt
begin_value tells before now stored fault_of.Failed t h = tt
begin_value tells before now stored (fault_of.WrongNumber n) t h = h
begin_value tells before now stored (fault_of.WrongPrevious a b) t h = h
begin_value tells before now stored (fault_of.BadBlock x) t h = h
begin_value tells before now stored (fault_of.BadCert x) t h = h
begin_value tells before now stored fault_of.BadProof t h = h
begin_value tells before now stored (fault_of.Foreign n) t h = absurd h
begin_value tells before now stored (fault_of.Stored n why) t h = absurd h
begin_value tells before now stored (fault_of.Limit n) t h = not_told tells t h

-- what holds after a refusal, and what follows
pub refused_to : (T : Type 0) (fault : LedgerFault) (P Q : Type 0) → OnRefusal {T = T} (Err fault) P → (P → Q) → OnRefusal {T = T} (Err fault) Q
refused_to T fault_of.NoMemory P Q h to = to h
refused_to T fault_of.Failed P Q h to = tt
refused_to T (fault_of.WrongNumber n) P Q h to = to h
refused_to T (fault_of.WrongPrevious a b) P Q h to = to h
refused_to T (fault_of.BadBlock x) P Q h to = to h
refused_to T (fault_of.BadCert x) P Q h to = to h
refused_to T fault_of.BadProof P Q h to = to h
refused_to T (fault_of.Foreign n) P Q h to = to h
refused_to T (fault_of.Stored n why) P Q h to = to h
refused_to T (fault_of.Limit n) P Q h to = to h

-- what holds anyway holds after a refusal
pub refused_with : (T : Type 0) (fault : LedgerFault) (Q : Type 0) → Q → OnRefusal {T = T} (Err fault) Q
refused_with T fault_of.NoMemory Q h = h
refused_with T fault_of.Failed Q h = tt
refused_with T (fault_of.WrongNumber n) Q h = h
refused_with T (fault_of.WrongPrevious a b) Q h = h
refused_with T (fault_of.BadBlock x) Q h = h
refused_with T (fault_of.BadCert x) Q h = h
refused_with T fault_of.BadProof Q h = h
refused_with T (fault_of.Foreign n) Q h = h
refused_with T (fault_of.Stored n why) Q h = h
refused_with T (fault_of.Limit n) Q h = h

-- no entries
pub empty_is : (entries items : List (List ℕ)) (b : Bool) → items ≡ entries → b ≡ (length items == 0) → b ≡ true → entries ≡ []
empty_is entries items b same is it = nil_from_length entries (ap length (sym same) ∙ eqb-true (length items) 0 (sym is ∙ it))

-- the genesis block alone, in an empty file
pub begun_before : (accepts : Accepts) (c d : Config) (file : File) (bytes : List ℕ) → MayLeave file file.reads → stands_for accepts d file.reads ≡ Chain (genesis_entry d ∷ []) → c ≡ d
    → stands_for accepts c bytes ≡ Chain (genesis_entry c ∷ []) → StandsAsBefore accepts d file bytes
begun_before accepts c d file bytes left empty same h = record {
  image = file.reads;
  left = left;
  same = subst (λ (x : Config). stands_for accepts x bytes ≡ Chain (genesis_entry x ∷ [])) same h ∙ sym empty;
}

pub begun_chain : (accepts : Accepts) (c first : Config) (chain : List Entry) → chain ≡ genesis_entry c ∷ [] → first ≡ c → IsChain accepts first chain
begun_chain accepts c first chain is same = subst (λ (x : Config). IsChain accepts x chain) (sym same) (subst (IsChain accepts c) (sym is) (begins accepts c))
