use Rattle.std.proofs.Common.{◌≡◌, ◌∙◌, IsTrue, [], ◌∷◌, sym, ap, subst}
use Rattle.std.specs.Prelude.{Result}
use Rattle.ord_types.specs.declared.values.Config.{Config}
use Rattle.gate_log.specs.Disk.{now}
use Rattle.gate_log.proofs.Going.{leaves_then, leaves_to}
use Rattle.block_ledger.specs.Answers.{OnRefusal, LedgerOpensTo}
use Rattle.block_ledger.specs.Chains.{IsChain, IsGenesisBlock, genesis_entry}
use Rattle.block_ledger.specs.Ledgers.{StandsAsBefore, blocks_of, first_config}
use Rattle.block_ledger.specs.Loading.{TellsBad}
use Rattle.block_ledger.specs.Reading.{Chain, read_chain, stands_for}
use Rattle.block_ledger.specs.declared.fault.LedgerFault.{LedgerFault}
use Rattle.block_ledger.specs.declared.ledger.Ledger.{Ledger}
use Rattle.block_ledger.proofs.Opened.{as_before, bad_value, begin_value, begun_before, begun_chain, empty_is, handed, log_refused, log_value, one_config, refused_to, refused_with, stands_opened, stays}
use Rattle.block_ledger.proofs.ledger.Ledger.open.Goals as goal

pub config_in-requires : goal.config_in-requires
config_in-requires g c = c.requires

pub begin-requires-clause-file : goal.begin-requires-clause-file
begin-requires-clause-file g c = c.in_ok-log.ensures.file

pub begin-requires-clause-settled : goal.begin-requires-clause-settled
begin-requires-clause-settled g c = λ t. c.in_ok-log.ensures.settled (subst IsTrue c.open.ensures.tells t)

pub begin-requires-clause-empty : goal.begin-requires-clause-empty
begin-requires-clause-empty g c = empty_is c.in_ok-log.log.entries c.entries.result.now c.is_empty.result c.entries.ensures c.is_empty.ensures c.if-is_empty.true

pub begin-requires-clause-genesis : goal.begin-requires-clause-genesis
begin-requires-clause-genesis g c = c.in_ok-config.ensures

pub read_blocks-requires-clause-genesis : goal.read_blocks-requires-clause-genesis
read_blocks-requires-clause-genesis g c = c.in_ok-config.ensures

pub returns-in_err-log-clause-value : goal.returns-in_err-log-clause-value
returns-in_err-log-clause-value g c = λ d is t.
    let accepts = g.V.Verifier.accepts c.args.verifier.now in
    handed (LedgerOpensTo (stands_for accepts d (now (g.D.Disk.moments c.args.disk.now) 2).reads)) c.from_residual-in_err-log.result _ c.from_residual-in_err-log.ensures
    (log_value accepts d c.in_err-log.field-0.0 (now (g.D.Disk.moments c.args.disk.now) 2).reads (c.in_err-log.ensures.value t))

pub returns-in_err-log-clause-any_moment : goal.returns-in_err-log-clause-any_moment
returns-in_err-log-clause-any_moment g c = λ d is t.
    let accepts = g.V.Verifier.accepts c.args.verifier.now in
    let first = leaves_to 2 _ (StandsAsBefore accepts d (now (g.D.Disk.moments c.args.disk.now) 2)) (as_before accepts d (now (g.D.Disk.moments c.args.disk.now) 2)) (g.D.Disk.moments c.args.disk.now) (g.D.Disk.moments c.open.new.disk) (c.open.ensures.any_moment t) in
    first

pub returns-in_err-log-clause-refused : goal.returns-in_err-log-clause-refused
returns-in_err-log-clause-refused g c = λ d is t.
    let accepts = g.V.Verifier.accepts c.args.verifier.now in
    handed (λ (r : Result Ledger LedgerFault). OnRefusal r (stands_for accepts d (now (g.D.Disk.moments c.open.new.disk) 2).reads ≡ stands_for accepts d (now (g.D.Disk.moments c.args.disk.now) 2).reads)) c.from_residual-in_err-log.result _ c.from_residual-in_err-log.ensures
    (log_refused accepts d Ledger c.in_err-log.field-0.0 (g.D.Disk.moments c.args.disk.now) (g.D.Disk.moments c.open.new.disk) (c.in_err-log.ensures.refused t))

pub returns-in_err-ledger-clause-value : goal.returns-in_err-ledger-clause-value
returns-in_err-ledger-clause-value g c = λ d is t.
    let accepts = g.V.Verifier.accepts c.args.verifier.now in
    let later = subst IsTrue (sym c.open.ensures.tells) t in
    handed (LedgerOpensTo (stands_for accepts d (now (g.D.Disk.moments c.args.disk.now) 2).reads)) c.from_residual-in_err-ledger.result _ c.from_residual-in_err-ledger.ensures
    (begin_value (g.D.Disk.tells c.open.new.disk) _ _ (stands_for accepts d (now (g.D.Disk.moments c.args.disk.now) 2).reads) c.in_err-ledger.field-0.0 later c.in_err-ledger.ensures.cause)

pub returns-in_err-ledger-clause-any_moment : goal.returns-in_err-ledger-clause-any_moment
returns-in_err-ledger-clause-any_moment g c = λ d is t.
    let accepts = g.V.Verifier.accepts c.args.verifier.now in
    let later = subst IsTrue (sym c.open.ensures.tells) t in
    let log = c.in_ok-log.log in
    let opened = c.in_ok-log.ensures.value t in
    let empty = stands_opened accepts d (now (g.D.Disk.moments c.args.disk.now) 2).reads log.generation log.entries opened ∙ ap (read_chain accepts d) (empty_is c.in_ok-log.log.entries c.entries.result.now c.is_empty.result c.entries.ensures c.is_empty.ensures c.if-is_empty.true) in
    let same = one_config c.in_ok-config.config d c.args.genesis.now c.in_ok-config.ensures is in
    let first = leaves_to 2 _ (StandsAsBefore accepts d (now (g.D.Disk.moments c.args.disk.now) 2)) (as_before accepts d (now (g.D.Disk.moments c.args.disk.now) 2)) (g.D.Disk.moments c.args.disk.now) (g.D.Disk.moments c.open.new.disk) (c.open.ensures.any_moment t) in
    let second = leaves_to 2 _ (StandsAsBefore accepts d (now (g.D.Disk.moments c.args.disk.now) 2))
    (λ bytes. begun_before accepts c.in_ok-config.config d (now (g.D.Disk.moments c.args.disk.now) 2) bytes (g.met.D.Disk.reads_is_left c.args.disk.now 2 t) empty same) (g.D.Disk.moments c.open.new.disk) (g.D.Disk.moments c.begin.new.disk) (c.begin.ensures.any_moment accepts later) in
    leaves_then 2 (StandsAsBefore accepts d (now (g.D.Disk.moments c.args.disk.now) 2)) (g.D.Disk.moments c.args.disk.now) (g.D.Disk.moments c.open.new.disk) (g.D.Disk.moments c.begin.new.disk) first second

pub returns-in_err-ledger-clause-refused : goal.returns-in_err-ledger-clause-refused
returns-in_err-ledger-clause-refused g c = λ d is t.
    let accepts = g.V.Verifier.accepts c.args.verifier.now in
    let log = c.in_ok-log.log in
    let opened = c.in_ok-log.ensures.value t in
    let stay = stays accepts d log (now (g.D.Disk.moments c.open.new.disk)) (now (g.D.Disk.moments c.args.disk.now) 2).reads (c.in_ok-log.ensures.settled t) c.in_ok-log.ensures.file opened in
    handed (λ (r : Result Ledger LedgerFault). OnRefusal r (stands_for accepts d (now (g.D.Disk.moments c.begin.new.disk) 2).reads ≡ stands_for accepts d (now (g.D.Disk.moments c.args.disk.now) 2).reads)) c.from_residual-in_err-ledger.result _ c.from_residual-in_err-ledger.ensures
    (refused_to Ledger c.in_err-ledger.field-0.0 _ _ c.in_err-ledger.ensures.refused (λ same. ap (λ disk. stands_for accepts d (now (g.D.Disk.moments disk) 2).reads) same ∙ stay))

pub returns-then-is_empty-clause-kept : goal.returns-then-is_empty-clause-kept
returns-then-is_empty-clause-kept g c = λ t. c.in_ok-ledger.ensures.kept (subst IsTrue (sym c.open.ensures.tells) t)

pub returns-then-is_empty-clause-config : goal.returns-then-is_empty-clause-config
returns-then-is_empty-clause-config g c = subst (λ (x : Config). IsGenesisBlock x c.args.genesis.now) (sym c.in_ok-ledger.ensures.value.1) c.in_ok-config.ensures

pub returns-then-is_empty-clause-chain : goal.returns-then-is_empty-clause-chain
returns-then-is_empty-clause-chain g c = begun_chain (g.V.Verifier.accepts c.args.verifier.now) c.in_ok-config.config _ _ c.in_ok-ledger.ensures.value.0 c.in_ok-ledger.ensures.value.1

pub returns-then-is_empty-clause-value : goal.returns-then-is_empty-clause-value
returns-then-is_empty-clause-value g c = λ d is t.
    let accepts = g.V.Verifier.accepts c.args.verifier.now in
    let log = c.in_ok-log.log in
    let opened = c.in_ok-log.ensures.value t in
    let empty = stands_opened accepts d (now (g.D.Disk.moments c.args.disk.now) 2).reads log.generation log.entries opened ∙ ap (read_chain accepts d) (empty_is c.in_ok-log.log.entries c.entries.result.now c.is_empty.result c.entries.ensures c.is_empty.ensures c.if-is_empty.true) in
    let same = one_config c.in_ok-config.config d c.args.genesis.now c.in_ok-config.ensures is in
    empty ∙ ap (λ (x : Config). Chain (genesis_entry x ∷ [])) (sym same) ∙ ap Chain (sym c.in_ok-ledger.ensures.value.0)

pub returns-then-is_empty-clause-any_moment : goal.returns-then-is_empty-clause-any_moment
returns-then-is_empty-clause-any_moment g c = λ d is t.
    let accepts = g.V.Verifier.accepts c.args.verifier.now in
    let later = subst IsTrue (sym c.open.ensures.tells) t in
    let log = c.in_ok-log.log in
    let opened = c.in_ok-log.ensures.value t in
    let empty = stands_opened accepts d (now (g.D.Disk.moments c.args.disk.now) 2).reads log.generation log.entries opened ∙ ap (read_chain accepts d) (empty_is c.in_ok-log.log.entries c.entries.result.now c.is_empty.result c.entries.ensures c.is_empty.ensures c.if-is_empty.true) in
    let same = one_config c.in_ok-config.config d c.args.genesis.now c.in_ok-config.ensures is in
    let first = leaves_to 2 _ (StandsAsBefore accepts d (now (g.D.Disk.moments c.args.disk.now) 2)) (as_before accepts d (now (g.D.Disk.moments c.args.disk.now) 2)) (g.D.Disk.moments c.args.disk.now) (g.D.Disk.moments c.open.new.disk) (c.open.ensures.any_moment t) in
    let second = leaves_to 2 _ (StandsAsBefore accepts d (now (g.D.Disk.moments c.args.disk.now) 2))
    (λ bytes. begun_before accepts c.in_ok-config.config d (now (g.D.Disk.moments c.args.disk.now) 2) bytes (g.met.D.Disk.reads_is_left c.args.disk.now 2 t) empty same) (g.D.Disk.moments c.open.new.disk) (g.D.Disk.moments c.begin.new.disk) (c.begin.ensures.any_moment accepts later) in
    leaves_then 2 (StandsAsBefore accepts d (now (g.D.Disk.moments c.args.disk.now) 2)) (g.D.Disk.moments c.args.disk.now) (g.D.Disk.moments c.open.new.disk) (g.D.Disk.moments c.begin.new.disk) first second

pub returns-in_err-blocks-clause-value : goal.returns-in_err-blocks-clause-value
returns-in_err-blocks-clause-value g c = λ d is t.
    let accepts = g.V.Verifier.accepts c.args.verifier.now in
    let log = c.in_ok-log.log in
    let opened = c.in_ok-log.ensures.value t in
    let same = one_config c.in_ok-config.config d c.args.genesis.now c.in_ok-config.ensures is in
    let stored = stands_opened accepts d (now (g.D.Disk.moments c.args.disk.now) 2).reads log.generation log.entries opened ∙ ap (λ (x : Config). read_chain accepts x log.entries) (sym same) ∙ ap (read_chain accepts c.in_ok-config.config) (sym c.entries-2.ensures) in
    handed (LedgerOpensTo (stands_for accepts d (now (g.D.Disk.moments c.args.disk.now) 2).reads)) c.from_residual-in_err-blocks.result _ c.from_residual-in_err-blocks.ensures
    (bad_value (stands_for accepts d (now (g.D.Disk.moments c.args.disk.now) 2).reads) c.in_err-blocks.field-0.0 (subst (λ s. TellsBad s c.in_err-blocks.field-0.0) (sym stored) c.in_err-blocks.ensures))

pub returns-in_err-blocks-clause-any_moment : goal.returns-in_err-blocks-clause-any_moment
returns-in_err-blocks-clause-any_moment g c = λ d is t.
    let accepts = g.V.Verifier.accepts c.args.verifier.now in
    let first = leaves_to 2 _ (StandsAsBefore accepts d (now (g.D.Disk.moments c.args.disk.now) 2)) (as_before accepts d (now (g.D.Disk.moments c.args.disk.now) 2)) (g.D.Disk.moments c.args.disk.now) (g.D.Disk.moments c.open.new.disk) (c.open.ensures.any_moment t) in
    first

pub returns-in_err-blocks-clause-refused : goal.returns-in_err-blocks-clause-refused
returns-in_err-blocks-clause-refused g c = λ d is t.
    let accepts = g.V.Verifier.accepts c.args.verifier.now in
    let log = c.in_ok-log.log in
    let opened = c.in_ok-log.ensures.value t in
    let stay = stays accepts d log (now (g.D.Disk.moments c.open.new.disk)) (now (g.D.Disk.moments c.args.disk.now) 2).reads (c.in_ok-log.ensures.settled t) c.in_ok-log.ensures.file opened in
    handed (λ (r : Result Ledger LedgerFault). OnRefusal r (stands_for accepts d (now (g.D.Disk.moments c.open.new.disk) 2).reads ≡ stands_for accepts d (now (g.D.Disk.moments c.args.disk.now) 2).reads)) c.from_residual-in_err-blocks.result _ c.from_residual-in_err-blocks.ensures
    (refused_with Ledger c.in_err-blocks.field-0.0 _ stay)

pub returns-clause-kept : goal.returns-clause-kept
unfolding blocks_of
returns-clause-kept g c = λ t.
    let loaded = c.in_ok-blocks.ensures in
    record { settled = c.in_ok-log.ensures.settled t; spells = sym c.entries-2.ensures ∙ loaded.spells; spelled = loaded.spelled }

pub returns-clause-config : goal.returns-clause-config
unfolding first_config
returns-clause-config g c = subst (λ (x : Config). IsGenesisBlock x c.args.genesis.now) (sym c.in_ok-blocks.ensures.config) c.in_ok-config.ensures

pub returns-clause-chain : goal.returns-clause-chain
unfolding blocks_of first_config
returns-clause-chain g c = subst (λ (x : Config). IsChain (g.V.Verifier.accepts c.args.verifier.now) x c.in_ok-blocks.blocks.chain) (sym c.in_ok-blocks.ensures.config) c.in_ok-blocks.ensures.is_chain

pub returns-clause-value : goal.returns-clause-value
unfolding blocks_of
returns-clause-value g c = λ d is t.
    let accepts = g.V.Verifier.accepts c.args.verifier.now in
    let log = c.in_ok-log.log in
    let opened = c.in_ok-log.ensures.value t in
    let same = one_config c.in_ok-config.config d c.args.genesis.now c.in_ok-config.ensures is in
    let stored = stands_opened accepts d (now (g.D.Disk.moments c.args.disk.now) 2).reads log.generation log.entries opened ∙ ap (λ (x : Config). read_chain accepts x log.entries) (sym same) ∙ ap (read_chain accepts c.in_ok-config.config) (sym c.entries-2.ensures) in
    stored ∙ c.in_ok-blocks.ensures.stands

pub returns-clause-any_moment : goal.returns-clause-any_moment
returns-clause-any_moment g c = λ d is t.
    let accepts = g.V.Verifier.accepts c.args.verifier.now in
    let first = leaves_to 2 _ (StandsAsBefore accepts d (now (g.D.Disk.moments c.args.disk.now) 2)) (as_before accepts d (now (g.D.Disk.moments c.args.disk.now) 2)) (g.D.Disk.moments c.args.disk.now) (g.D.Disk.moments c.open.new.disk) (c.open.ensures.any_moment t) in
    first
