use Rattle.std.proofs.Common.{◌≡◌, ◌∙◌, ℕ, List, [], ◌∷◌, ◌++◌, map, sym, ap, subst}
use Rattle.gate_log.specs.Runs.{Leaves}
use Rattle.gate_log.specs.Settled.{IsWithOrWithout}
use Rattle.gate_log.proofs.Going.{leaves_to}
use Rattle.block_ledger.specs.Chains.{genesis_entry}
use Rattle.block_ledger.specs.Entries.{HaveSpelling, entry_text}
use Rattle.block_ledger.specs.Ledgers.{blocks_of, first_config}
use Rattle.block_ledger.specs.Reading.{Chain, stands_for}
use Rattle.block_ledger.proofs.Begun.{begun_cause, begun_entry, begun_spelling, begun_stands, first_spelled}
use Rattle.block_ledger.proofs.open.begin.Goals as goal

pub entry_bytes-requires : goal.entry_bytes-requires
entry_bytes-requires g c = begun_spelling c.args.config c.args.genesis.now c.requires.genesis

pub returns-clause-any_moment : goal.returns-clause-any_moment
returns-clause-any_moment g c = λ accepts t.
    let text = c.as_slice.ensures ∙ c.in_ok-bytes.ensures in
    let here = subst (λ n. Leaves n (IsWithOrWithout c.args.log.generation c.args.log.entries c.as_slice.result.now) (g.D.Disk.moments c.args.disk.now) (g.D.Disk.moments c.append.new.disk)) c.requires.file (c.append.ensures.any_moment t) in
    leaves_to 2 _ (λ bytes. stands_for accepts c.args.config bytes ≡ Chain (genesis_entry c.args.config ∷ []))
    (λ bytes. begun_stands accepts c.args.config c.args.genesis.now c.requires.genesis c.args.log.generation c.args.log.entries c.as_slice.result.now bytes c.requires.empty text) _ _ here

pub returns-clause-cause : goal.returns-clause-cause
returns-clause-cause g c =
    let text = c.as_slice.ensures ∙ c.in_ok-bytes.ensures in
    begun_cause (g.D.Disk.tells c.args.disk.now) c.args.config c.args.genesis.now c.requires.genesis c.args.log _ c.requires.settled c.requires.empty c.as_slice.result.now text _ _ c.in-Err.fault _ c.from.ensures c.in-Err.ensures.cause

pub returns-in-Ok-clause-kept : goal.returns-in-Ok-clause-kept
unfolding blocks_of
returns-in-Ok-clause-kept g c = λ t.
    let text = c.as_slice.ensures ∙ c.in_ok-bytes.ensures ∙ ap entry_text (begun_entry c.args.config c.args.genesis.now c.requires.genesis) in
    let spells = c.in-Ok.ensures.added ∙ ap (λ (l : List (List ℕ)). l ++ c.as_slice.result.now ∷ []) c.requires.empty ∙ ap (λ (b : List ℕ). b ∷ []) text in
    record {
      settled = c.in-Ok.ensures.settled t;
      spells = spells ∙ ap (map entry_text) (sym c.in_ok-blocks.ensures.chain);
      spelled = subst HaveSpelling (sym c.in_ok-blocks.ensures.chain) (first_spelled c.args.config c.args.genesis.now c.requires.genesis);
    }

pub returns-in-Ok-clause-value : goal.returns-in-Ok-clause-value
unfolding blocks_of first_config
returns-in-Ok-clause-value g c = (c.in_ok-blocks.ensures.chain, c.in_ok-blocks.ensures.config)

pub returns-in-Ok-clause-any_moment : goal.returns-in-Ok-clause-any_moment
returns-in-Ok-clause-any_moment g c = λ accepts t.
    let text = c.as_slice.ensures ∙ c.in_ok-bytes.ensures in
    let here = subst (λ n. Leaves n (IsWithOrWithout c.args.log.generation c.args.log.entries c.as_slice.result.now) (g.D.Disk.moments c.args.disk.now) (g.D.Disk.moments c.append.new.disk)) c.requires.file (c.append.ensures.any_moment t) in
    leaves_to 2 _ (λ bytes. stands_for accepts c.args.config bytes ≡ Chain (genesis_entry c.args.config ∷ []))
    (λ bytes. begun_stands accepts c.args.config c.args.genesis.now c.requires.genesis c.args.log.generation c.args.log.entries c.as_slice.result.now bytes c.requires.empty text) _ _ here
