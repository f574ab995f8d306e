use Rattle.std.proofs.Common.{ℕ, List, ◌∙◌, length, sym, ap, subst}
use Rattle.ord_types.specs.declared.values.Config.{Config}
use Rattle.block_ledger.specs.Entries.{read_entry}
use Rattle.block_ledger.specs.Judging.{stored_fault}
use Rattle.block_ledger.specs.Loading.{IsAdded, TellsFault}
use Rattle.block_ledger.specs.Reading.{read_behind}
use Rattle.block_ledger.proofs.Loaded.{IsReadSoFar, all_read, bad_told, first_told, next_left, none_left, parted, read_first, read_more}
use Rattle.block_ledger.proofs.open.read_blocks.Goals as goal

pub returns-in-Err : goal.returns-in-Err
returns-in-Err g c =
    let accepts = g.V.Verifier.accepts c.args.verifier.now in
    let parts = parted c.args.entries.now c.as_slice-entries.result.now c.as_slice.result.now c.index-entries-0.result c.requires.some c.as_slice-entries.ensures c.as_slice.ensures c.index-entries-0.is in
    first_told accepts c.args.config c.args.entries.now _ c.as_slice.result.now c.in-Err.fault parts (c.in-Err.ensures accepts)

pub loop-bytes-init : goal.loop-bytes-init
loop-bytes-init g c =
    let accepts = g.V.Verifier.accepts c.args.verifier.now in
    let parts = parted c.args.entries.now c.as_slice-entries.result.now c.as_slice.result.now c.index-entries-0.result c.requires.some c.as_slice-entries.ensures c.as_slice.ensures c.index-entries-0.is in
    let first = c.in-Ok.ensures accepts in
    (read_first accepts c.args.config c.args.entries.now _ c.as_slice.result.now c.in-Ok.blocks.chain c.requires.genesis.config parts first.0, first.1)

pub returns-in-Err-add_stored : goal.returns-in-Err-add_stored
returns-in-Err-add_stored g c =
    let accepts = g.V.Verifier.accepts c.args.verifier.now in
    let chain = c.loop-bytes.blocks.chain in
    let bytes = c.as_slice-in-loop-bytes.result.now in
    let left = next_left _ c.loop-bytes.bytes-index bytes c.bytes-item.result c.loop-bytes-test.true c.as_slice-in-loop-bytes.ensures c.bytes-item.is in
    let so = c.loop-bytes.invariant in
    let stands = ap (read_behind accepts c.args.config chain) (sym left) ∙ so.0.same in
    let told = subst (λ (d : Config). TellsFault (length chain) (stored_fault accepts d chain (read_entry bytes)) c.in-Err-add_stored.fault) so.1 c.in-Err-add_stored.ensures.added in
    bad_told accepts c.args.config chain bytes _ _ c.in-Err-add_stored.fault stands told

pub loop-bytes-preserved : goal.loop-bytes-preserved
loop-bytes-preserved g c =
    let accepts = g.V.Verifier.accepts c.args.verifier.now in
    let chain = c.loop-bytes.blocks.chain in
    let bytes = c.as_slice-in-loop-bytes.result.now in
    let left = next_left _ c.loop-bytes.bytes-index bytes c.bytes-item.result c.loop-bytes-test.true c.as_slice-in-loop-bytes.ensures c.bytes-item.is in
    let so = c.loop-bytes.invariant in
    let here = subst (λ (rest : List (List ℕ)). IsReadSoFar accepts c.args.config c.args.entries.now rest chain) left so.0 in
    let added = subst (λ (d : Config). IsAdded accepts d chain bytes c.add_stored.new.blocks.chain) so.1 c.in_default.ensures.added in
    (read_more accepts c.args.config c.args.entries.now _ bytes chain c.add_stored.new.blocks.chain here added, c.in_default.ensures.config ∙ so.1)

pub returns : goal.returns
returns g c =
    let accepts = g.V.Verifier.accepts c.args.verifier.now in
    let so = c.loop-bytes.invariant in
    all_read accepts c.args.config c.args.entries.now _ c.loop-bytes.blocks so.0 (none_left _ c.loop-bytes.bytes-index c.loop-bytes-test.false) so.1
