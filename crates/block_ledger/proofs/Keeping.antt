-- A ledger and its file.
use Rattle.std.proofs.Common.{◌≡◌, ℕ, ◌+◌, List, map, sym, ◌∙◌, ap, subst}
use Rattle.ord_types.specs.declared.values.Config.{Config}
use Rattle.gate_log.specs.Disk.{File, State, MayLeave}
use Rattle.gate_log.specs.Format.{gate_after, reading}
use Rattle.gate_log.specs.Settled.{IsSettled}
use Rattle.gate_log.specs.declared.log.GateLog.{GateLog}
use Rattle.gate_log.specs.declared.reading.Reading.TheVariants.{Log}
use Rattle.gate_log.proofs.Left.{left_kept}
use Rattle.signer_edge.specs.Accepts.{Accepts}
use Rattle.block_ledger.specs.declared.ledger.Ledger.{Ledger}
use Rattle.block_ledger.specs.Chains.{Entry, IsChain}
use Rattle.block_ledger.specs.Entries.{HaveSpelling, entry_text}
use Rattle.block_ledger.specs.Ledgers.{IsKept, blocks_of, end_of, first_config}
use Rattle.block_ledger.specs.Reading.{Chain, stands_as, stands_for}
use Rattle.block_ledger.proofs.Telling.{chain_read}

settled_crash : (log : GateLog) (state : State) → IsSettled log state → (c : List ℕ) → MayLeave (state log.file) c → reading c ≡ Log log.generation log.entries
settled_crash log state settled c left =
    let same : c ≡ settled.bytes = left_kept settled.bytes c (subst (λ (f : File). MayLeave f c) settled.file left) in
    ap reading same ∙ settled.stands

settled_others : (log : GateLog) (one two : State) → IsSettled log one → two log.file ≡ one log.file → IsSettled log two
settled_others log one two settled same = record { bytes = settled.bytes; file = same ∙ settled.file; stands = settled.stands; gate = settled.gate }

-- bytes that spell a chain stand for it
pub stands_spelled : (accepts : Accepts) (c : Config) (bytes : List ℕ) (generation : ℕ) (entries : List (List ℕ)) (chain : List Entry) → reading bytes ≡ Log generation entries → entries ≡ map entry_text chain
    → HaveSpelling chain → IsChain accepts c chain → stands_for accepts c bytes ≡ Chain chain
unfolding stands_for
stands_spelled accepts c bytes generation entries chain read spells spelled is =
    ap (stands_as accepts c) (read ∙ ap (Log generation) spells) ∙ chain_read accepts c chain spelled is

pub kept_crash : (accepts : Accepts) (ledger : Ledger) (state : State) → IsKept ledger state → IsChain accepts (first_config ledger) (blocks_of ledger)
    → (bytes : List ℕ) → MayLeave (state 2) bytes → stands_for accepts (first_config ledger) bytes ≡ Chain (blocks_of ledger)
kept_crash accepts ledger state kept is bytes left =
    let there : MayLeave (state ledger.log.file) bytes = subst (λ n. MayLeave (state n) bytes) (sym ledger.file) left in
    stands_spelled accepts (first_config ledger) bytes ledger.log.generation ledger.log.entries (blocks_of ledger) (settled_crash ledger.log state kept.settled bytes there) kept.spells kept.spelled is

pub kept_others : (ledger : Ledger) (one two : State) → IsKept ledger one → two 2 ≡ one 2 → IsKept ledger two
kept_others ledger one two kept same = record {
  settled = settled_others ledger.log one two kept.settled (subst (λ n. two n ≡ one n) (sym ledger.file) same);
  spells = kept.spells;
  spelled = kept.spelled;
}

pub kept_ends : (ledger : Ledger) (state : State) → IsKept ledger state → end_of ledger ≡ gate_after (map entry_text (blocks_of ledger)) + 1
unfolding end_of
kept_ends ledger state kept = ap (λ n. n + 1) (kept.settled.gate ∙ ap gate_after kept.spells)
