-- An empty log that is made a ledger.
use Rattle.std.proofs.Common.{◌≡◌, inl, inr, ℕ, ◌≤◌, Bool, true, false, List, [], ◌∷◌, ◌++◌, length, map, refl, sym, ◌∙◌, ap, subst, arith, Err, IsTrue}
use Rattle.ord_types.specs.declared.values.Block.{Block}
use Rattle.ord_types.specs.declared.values.Config.{Config}
use Rattle.ord_types.specs.declared.values.Proof.TheVariants as proof_of
use Rattle.gate_log.specs.Disk.{State}
use Rattle.gate_log.specs.Format.{gate_after}
use Rattle.gate_log.specs.Settled.{AppendAnswers, IsSettled, IsWithOrWithout, too_long}
use Rattle.gate_log.specs.declared.fault.LogFault.{LogFault}
use Rattle.gate_log.specs.declared.fault.LogFault.TheVariants as log_of
use Rattle.gate_log.specs.declared.log.GateLog.{GateLog}
use Rattle.gate_log.specs.declared.reading.Reading.TheVariants.{Log}
use Rattle.signer_edge.specs.Accepts.{Accepts}
use Rattle.block_ledger.specs.declared.fault.LedgerFault.{LedgerFault}
use Rattle.block_ledger.specs.Answers.{BeginAnswers, log_fault}
use Rattle.block_ledger.specs.Chains.{Entry, IsGenesisBlock, genesis_entry}
use Rattle.block_ledger.specs.Entries.{HasEntrySpelling, HaveSpelling, entry_text}
use Rattle.block_ledger.specs.Reading.{Chain, stands_as, stands_for}
use Rattle.block_ledger.proofs.Beginning.{genesis_spelling}
use Rattle.block_ledger.proofs.EntrySizes.{entry_short, genesis_short}
use Rattle.block_ledger.proofs.Keeping.{stands_spelled}
use Rattle.block_ledger.proofs.Limits.{begins_short}
use Rattle.block_ledger.proofs.Linking.{begins}

pub begun_spelling : (c : Config) (b : Block) → IsGenesisBlock c b → HasEntrySpelling (b, proof_of.Raft)
begun_spelling c b is = record { block = genesis_spelling c b is; proof = tt }

pub begun_entry : (c : Config) (b : Block) → IsGenesisBlock c b → (b, proof_of.Raft) ≡ genesis_entry c
begun_entry c b is = ap (λ (x : Block). one x) is.block
  where
    one : Block → Entry
    one x = (x, proof_of.Raft)

pub first_spelled : (c : Config) (b : Block) → IsGenesisBlock c b → HaveSpelling (genesis_entry c ∷ [])
first_spelled c b is = (subst HasEntrySpelling (begun_entry c b is) (begun_spelling c b is), tt)

-- what a crash leaves on the way stands for the genesis block
pub begun_stands : (accepts : Accepts) (c : Config) (b : Block) → IsGenesisBlock c b → (generation : ℕ) (entries : List (List ℕ)) (text bytes : List ℕ) → entries ≡ [] → text ≡ entry_text (b, proof_of.Raft)
    → IsWithOrWithout generation entries text bytes → stands_for accepts c bytes ≡ Chain (genesis_entry c ∷ [])
unfolding stands_for
begun_stands accepts c b is generation entries text bytes none text_is (inl without) = ap (stands_as accepts c) (without ∙ ap (Log generation) none)
begun_stands accepts c b is generation entries text bytes none text_is (inr with_it) =
    let spells : entries ++ text ∷ [] ≡ map entry_text (genesis_entry c ∷ []) =
    ap (λ (l : List (List ℕ)). l ++ text ∷ []) none ∙ ap (λ (t : List ℕ). t ∷ []) (text_is ∙ ap entry_text (begun_entry c b is)) in
    stands_spelled accepts c bytes generation (entries ++ text ∷ []) (genesis_entry c ∷ []) with_it spells (first_spelled c b is) (begins accepts c)

-- why an empty log isn't made a ledger
pub begun_cause : (tells : Bool) (c : Config) (b : Block) → IsGenesisBlock c b → (log : GateLog) (state : State) → (IsTrue tells → IsSettled log state) → log.entries ≡ [] → (text : List ℕ) → text ≡ entry_text (b, proof_of.Raft)
    → (before now : ℕ) (fault : LogFault) (told : LedgerFault) → told ≡ log_fault fault → AppendAnswers (too_long log.gate (length text)) before now (Err fault) → BeginAnswers tells before now (Err told)
begun_cause tells c b is log state settled none text text_is before now log_of.NoMemory told same answer = subst (λ t. BeginAnswers tells before now (Err t)) (sym same) tt
begun_cause tells c b is log state settled none text text_is before now log_of.Failed told same answer = subst (λ t. BeginAnswers tells before now (Err t)) (sym same) answer.1
begun_cause tells c b is log state settled none text text_is before now (log_of.Foreign at) told same answer = absurd answer
begun_cause true c b is log state settled none text text_is before now (log_of.TooLong n) told same answer =
    let short : length text ≤ 4194304 = omega (arith, ap length text_is, entry_short (b, proof_of.Raft) (begun_spelling c b is) (genesis_short c b is)) in
    let gate : log.gate ≡ 17 = (settled refl).gate ∙ ap gate_after none in
    absurd (begins_short log.gate (length text) n gate short answer)
begun_cause false c b is log state settled none text text_is before now (log_of.TooLong n) told same answer = subst (λ t. BeginAnswers false before now (Err t)) (sym same) refl
