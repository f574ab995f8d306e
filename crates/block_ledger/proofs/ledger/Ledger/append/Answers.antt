use Rattle.std.proofs.Common.{◌≡◌, ◌∙◌, ◌+◌, map, refl, sym, ap, subst, None, Err}
use Rattle.ord_types.specs.declared.values.Place.{Place}
use Rattle.gate_log.specs.Runs.{Leaves}
use Rattle.gate_log.specs.Settled.{IsWithOrWithout as LogWithOrWithout}
use Rattle.gate_log.proofs.Going.{leaves_none, leaves_to}
use Rattle.block_ledger.specs.Answers.{AppendAnswers, append_fault}
use Rattle.block_ledger.specs.Chains.{Entry, IsChain}
use Rattle.block_ledger.specs.Entries.{HaveSpelling, entry_text}
use Rattle.block_ledger.specs.Judging.{next_refusal}
use Rattle.block_ledger.specs.Ledgers.{IsWithOrWithout, blocks_of, end_of, first_config}
use Rattle.block_ledger.proofs.Adding.{crash_between, handed_told, log_told, memory_refused, memory_told, refused_told, spelled_more, texts_more, written_told}
use Rattle.block_ledger.proofs.Ordering.{back_in_order, taken_back}
use Rattle.block_ledger.proofs.Refusing.{has_room_for}
use Rattle.block_ledger.proofs.Sameness.{same_blocks, same_ledger}
use Rattle.block_ledger.proofs.Telling.{next_is_added}
use Rattle.block_ledger.proofs.ledger.Ledger.append.Goals as goal

pub check_next-requires : goal.check_next-requires
check_next-requires g c = c.args.self.now.blocks.in_order.bounds

pub entry_bytes-requires : goal.entry_bytes-requires
entry_bytes-requires g c = c.requires.spelled

pub add-requires-clause-spelled : goal.add-requires-clause-spelled
add-requires-clause-spelled g c = c.requires.spelled

pub add-requires-clause-room : goal.add-requires-clause-room
add-requires-clause-room g c = has_room_for (g.V.Verifier.accepts c.args.verifier.now) c.args.self.now.blocks.place (c.args.block, c.args.proof) c.in_ok-check_next.ensures

pub append-requires : goal.append-requires
append-requires g c = λ t. (c.requires.kept t).settled

pub drop_last-requires : goal.drop_last-requires
drop_last-requires g c =
    back_in_order c.args.self.now.blocks.chain c.add.new.self.chain c.args.self.now.blocks.place _ (c.args.block, c.args.proof) c.args.self.now.blocks.in_order c.in_ok-before.ensures.ok c.in_ok-before.ensures.before

-- BEFORE THE FILE IS WRITTEN TO

pub returns-in_err-check_next-clause-any_moment : goal.returns-in_err-check_next-clause-any_moment
returns-in_err-check_next-clause-any_moment g c = λ t. leaves_none 2 _ _ _ refl

pub returns-in_err-check_next-clause-cause : goal.returns-in_err-check_next-clause-cause
unfolding blocks_of first_config end_of
returns-in_err-check_next-clause-cause g c =
    let accepts = g.V.Verifier.accepts c.args.verifier.now in
    let blocks = c.args.self.now.blocks in
    let entry : Entry = (c.args.block, c.args.proof) in
    let told = handed_told accepts blocks.place (c.args.self.now.log.gate + 1) entry (g.D.Disk.faults c.args.disk.now) (g.D.Disk.faults c.args.disk.now) c.in_err-check_next.field-0.0 _ c.in_err-check_next.ensures c.from_residual.ensures in
    subst (λ (p : Place). AppendAnswers (next_refusal accepts p entry) (append_fault accepts p (c.args.self.now.log.gate + 1) entry) (g.D.Disk.faults c.args.disk.now) (g.D.Disk.faults c.args.disk.now) c.from_residual.result) blocks.in_order.behind told

pub returns-in_err-bytes-clause-any_moment : goal.returns-in_err-bytes-clause-any_moment
returns-in_err-bytes-clause-any_moment g c = λ t. leaves_none 2 _ _ _ refl

pub returns-in_err-bytes-clause-cause : goal.returns-in_err-bytes-clause-cause
unfolding blocks_of first_config end_of
returns-in_err-bytes-clause-cause g c =
    let accepts = g.V.Verifier.accepts c.args.verifier.now in
    let blocks = c.args.self.now.blocks in
    let entry : Entry = (c.args.block, c.args.proof) in
    let told = memory_told (next_refusal accepts blocks.place entry) (append_fault accepts blocks.place (c.args.self.now.log.gate + 1) entry) (g.D.Disk.faults c.args.disk.now) (g.D.Disk.faults c.args.disk.now) c.from_residual-in_err-bytes.result c.in_ok-check_next.ensures c.from_residual-in_err-bytes.ensures in
    subst (λ (p : Place). AppendAnswers (next_refusal accepts p entry) (append_fault accepts p (c.args.self.now.log.gate + 1) entry) (g.D.Disk.faults c.args.disk.now) (g.D.Disk.faults c.args.disk.now) c.from_residual-in_err-bytes.result) blocks.in_order.behind told

pub returns-in_err-before-clause-any_moment : goal.returns-in_err-before-clause-any_moment
returns-in_err-before-clause-any_moment g c = λ t. leaves_none 2 _ _ _ refl

pub returns-in_err-before-clause-cause : goal.returns-in_err-before-clause-cause
unfolding blocks_of first_config end_of
returns-in_err-before-clause-cause g c =
    let accepts = g.V.Verifier.accepts c.args.verifier.now in
    let blocks = c.args.self.now.blocks in
    let entry : Entry = (c.args.block, c.args.proof) in
    let told = memory_told (next_refusal accepts blocks.place entry) (append_fault accepts blocks.place (c.args.self.now.log.gate + 1) entry) (g.D.Disk.faults c.args.disk.now) (g.D.Disk.faults c.args.disk.now) c.from_residual-in_err-before.result c.in_ok-check_next.ensures c.from_residual-in_err-before.ensures in
    subst (λ (p : Place). AppendAnswers (next_refusal accepts p entry) (append_fault accepts p (c.args.self.now.log.gate + 1) entry) (g.D.Disk.faults c.args.disk.now) (g.D.Disk.faults c.args.disk.now) c.from_residual-in_err-before.result) blocks.in_order.behind told

pub returns-in_err-before-clause-refused : goal.returns-in_err-before-clause-refused
returns-in_err-before-clause-refused g c =
    memory_refused c.from_residual-in_err-before.result _ c.from_residual-in_err-before.ensures (same_ledger _ c.args.self.now refl c.in_err-before.ensures.err, refl)

-- THE BLOCK IS ADDED

pub returns-in-Ok-clause-kept : goal.returns-in-Ok-clause-kept
unfolding blocks_of
returns-in-Ok-clause-kept g c = λ t.
    let kept = c.requires.kept t in
    let chain = c.args.self.now.blocks.chain in
    let text = c.as_slice.ensures ∙ c.in_ok-bytes.ensures in
    record {
      settled = c.in-Ok.ensures.settled t;
      spells = c.in-Ok.ensures.added ∙ texts_more chain (c.args.block, c.args.proof) c.args.self.now.log.entries _ kept.spells text ∙ ap (map entry_text) (sym c.in_ok-before.ensures.ok);
      spelled = subst HaveSpelling (sym c.in_ok-before.ensures.ok) (spelled_more chain (c.args.block, c.args.proof) kept.spelled c.requires.spelled);
    }

pub returns-in-Ok-clause-added : goal.returns-in-Ok-clause-added
unfolding blocks_of
returns-in-Ok-clause-added g c = c.in_ok-before.ensures.ok

pub returns-in-Ok-clause-chain : goal.returns-in-Ok-clause-chain
unfolding blocks_of first_config
returns-in-Ok-clause-chain g c = λ is.
    let accepts = g.V.Verifier.accepts c.args.verifier.now in
    let blocks = c.args.self.now.blocks in
    let none = ap (λ (p : Place). next_refusal accepts p (c.args.block, c.args.proof)) (sym blocks.in_order.behind) ∙ c.in_ok-check_next.ensures in
    subst (IsChain accepts blocks.place.config) (sym c.in_ok-before.ensures.ok) ((next_is_added accepts blocks.place.config blocks.chain (c.args.block, c.args.proof) is).0 none)

pub returns-in-Ok-clause-any_moment : goal.returns-in-Ok-clause-any_moment
unfolding blocks_of first_config
returns-in-Ok-clause-any_moment g c = λ t.
    let accepts = g.V.Verifier.accepts c.args.verifier.now in
    let blocks = c.args.self.now.blocks in
    let entry : Entry = (c.args.block, c.args.proof) in
    let kept = c.requires.kept t in
    let text = c.as_slice.ensures ∙ c.in_ok-bytes.ensures in
    let none = ap (λ (p : Place). next_refusal accepts p entry) (sym blocks.in_order.behind) ∙ c.in_ok-check_next.ensures in
    let log = c.args.self.now.log in
    let here = subst (λ n. Leaves n (LogWithOrWithout log.generation log.entries c.as_slice.result.now) (g.D.Disk.moments c.args.disk.now) (g.D.Disk.moments c.append.new.disk)) c.args.self.now.file (c.append.ensures.any_moment t) in
    leaves_to 2 _ (IsWithOrWithout accepts blocks.place.config blocks.chain entry)
    (λ bytes. crash_between accepts blocks.place.config blocks.chain entry log.generation log.entries c.as_slice.result.now bytes kept.spells kept.spelled text c.requires.spelled none) _ _ here

pub returns-in-Ok-clause-config : goal.returns-in-Ok-clause-config
unfolding first_config
returns-in-Ok-clause-config g c = c.add.ensures.config

pub returns-in-Ok-clause-cause : goal.returns-in-Ok-clause-cause
unfolding blocks_of first_config end_of
returns-in-Ok-clause-cause g c =
    let accepts = g.V.Verifier.accepts c.args.verifier.now in
    let blocks = c.args.self.now.blocks in
    let entry : Entry = (c.args.block, c.args.proof) in
    let text = c.as_slice.ensures ∙ c.in_ok-bytes.ensures in
    let none = written_told accepts blocks.place c.args.self.now.log.gate entry blocks.in_order.bounds c.requires.spelled c.in_ok-check_next.ensures c.as_slice.result.now text c.in-Ok.ensures.cause in
    subst (λ (p : Place). append_fault accepts p (c.args.self.now.log.gate + 1) entry ≡ None) blocks.in_order.behind none

-- THE LOG ADDS NO ENTRY

pub returns-clause-any_moment : goal.returns-clause-any_moment
unfolding blocks_of first_config
returns-clause-any_moment g c = λ t.
    let accepts = g.V.Verifier.accepts c.args.verifier.now in
    let blocks = c.args.self.now.blocks in
    let entry : Entry = (c.args.block, c.args.proof) in
    let kept = c.requires.kept t in
    let text = c.as_slice.ensures ∙ c.in_ok-bytes.ensures in
    let none = ap (λ (p : Place). next_refusal accepts p entry) (sym blocks.in_order.behind) ∙ c.in_ok-check_next.ensures in
    let log = c.args.self.now.log in
    let here = subst (λ n. Leaves n (LogWithOrWithout log.generation log.entries c.as_slice.result.now) (g.D.Disk.moments c.args.disk.now) (g.D.Disk.moments c.append.new.disk)) c.args.self.now.file (c.append.ensures.any_moment t) in
    leaves_to 2 _ (IsWithOrWithout accepts blocks.place.config blocks.chain entry)
    (λ bytes. crash_between accepts blocks.place.config blocks.chain entry log.generation log.entries c.as_slice.result.now bytes kept.spells kept.spelled text c.requires.spelled none) _ _ here

pub returns-clause-refused : goal.returns-clause-refused
returns-clause-refused g c =
    let blocks = c.args.self.now.blocks in
    let chain = c.drop_last.ensures.chain ∙ taken_back blocks.chain c.add.new.self.chain (c.args.block, c.args.proof) c.in_ok-before.ensures.ok in
    let place = c.drop_last.ensures.place ∙ c.in_ok-before.ensures.before in
    refused_told c.in-Err.fault c.from.result _ _ c.from.ensures c.in-Err.ensures.refused
    (λ same. (same_ledger _ c.args.self.now same.0 (same_blocks c.drop_last.new.self blocks chain place), same.1))

pub returns-clause-same : goal.returns-clause-same
unfolding blocks_of
returns-clause-same g c = c.drop_last.ensures.chain ∙ taken_back c.args.self.now.blocks.chain c.add.new.self.chain (c.args.block, c.args.proof) c.in_ok-before.ensures.ok

pub returns-clause-config : goal.returns-clause-config
unfolding first_config
returns-clause-config g c = ap (λ (p : Place). p.config) (c.drop_last.ensures.place ∙ c.in_ok-before.ensures.before)

pub returns-clause-cause : goal.returns-clause-cause
unfolding blocks_of first_config end_of
returns-clause-cause g c =
    let accepts = g.V.Verifier.accepts c.args.verifier.now in
    let blocks = c.args.self.now.blocks in
    let entry : Entry = (c.args.block, c.args.proof) in
    let text = c.as_slice.ensures ∙ c.in_ok-bytes.ensures in
    let told = log_told accepts blocks.place c.args.self.now.log.gate entry blocks.in_order.bounds c.requires.spelled c.in_ok-check_next.ensures c.as_slice.result.now text _ _ c.in-Err.fault _ c.from.ensures c.in-Err.ensures.cause in
    subst (λ (p : Place). AppendAnswers (next_refusal accepts p entry) (append_fault accepts p (c.args.self.now.log.gate + 1) entry) (g.D.Disk.faults c.args.disk.now) (g.D.Disk.faults c.append.new.disk) (Err c.from.result)) blocks.in_order.behind told
