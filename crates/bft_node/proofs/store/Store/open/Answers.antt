use Rattle.std.proofs.Common.{sym, ◌∙◌, ap, arith}
use Rattle.gate_log.specs.Disk.{File, now}
use Rattle.gate_log.proofs.Going.{others_kept}
use Rattle.bft_wal.specs.Opening.{opens_as}
use Rattle.bft_wal.proofs.Opens.{still}
use Rattle.block_ledger.specs.Ledgers.{blocks_of}
use Rattle.block_ledger.proofs.Keeping.{kept_others}
use Rattle.bft_node.specs.Openings.{log_fault}
use Rattle.bft_node.proofs.Opened.{log_told, told_err, went_both, went_ledger}
use Rattle.bft_node.proofs.store.Store.open.Goals as goal

pub returns-in_err-ledger-clause-any_moment : goal.returns-in_err-ledger-clause-any_moment
returns-in_err-ledger-clause-any_moment g c = λ k is t. went_ledger _ k _ _ (c.open.ensures.any_moment k is t)

pub returns-in_err-wal-clause-value : goal.returns-in_err-wal-clause-value
returns-in_err-wal-clause-value g c = λ k is t.
    let same = others_kept 2 _ _ _ (c.open.ensures.any_moment k is t) 0 (λ e. omega (arith, e)) in
    told_err (g.V.Verifier.accepts c.args.verifier.now) k (now (g.D.Disk.moments c.args.disk.now)) _ (log_fault c.in_err-wal.field-0.0) c.from_residual-in_err-wal.ensures.1
    (log_told (g.V.Verifier.accepts c.args.verifier.now) k (now (g.D.Disk.moments c.args.disk.now)) _ c.in_err-wal.field-0.0 (blocks_of c.in_ok-ledger.ledger, c.in_ok-ledger.ensures.value k is t) (ap (λ (file : File). opens_as file.reads) same)
    (c.in_err-wal.ensures.value (still _ _ c.open.ensures.tells t)))

pub returns-in_err-wal-clause-any_moment : goal.returns-in_err-wal-clause-any_moment
returns-in_err-wal-clause-any_moment g c = λ k is t.
    went_both _ k _ _ _ (c.open.ensures.any_moment k is t) (c.open-2.ensures.any_moment (still _ _ c.open.ensures.tells t))

pub returns-clause-kept : goal.returns-clause-kept
returns-clause-kept g c = λ t.
    let t' = still _ _ c.open.ensures.tells t in
    record {
      ledger = kept_others c.in_ok-ledger.ledger _ _ (c.in_ok-ledger.ensures.kept t) (others_kept 0 _ _ _ (c.open-2.ensures.any_moment t') 2 (λ e. omega (arith, e)));
      log = c.in_ok-wal.ensures.settled t';
    }

pub returns-clause-value : goal.returns-clause-value
returns-clause-value g c = λ k is t.
    let same = others_kept 2 _ _ _ (c.open.ensures.any_moment k is t) 0 (λ e. omega (arith, e)) in
    (c.in_ok-ledger.ensures.value k is t, ap (λ (file : File). opens_as file.reads) (sym same) ∙ c.in_ok-wal.ensures.value (still _ _ c.open.ensures.tells t))

pub returns-clause-any_moment : goal.returns-clause-any_moment
returns-clause-any_moment g c = λ k is t.
    went_both _ k _ _ _ (c.open.ensures.any_moment k is t) (c.open-2.ensures.any_moment (still _ _ c.open.ensures.tells t))
