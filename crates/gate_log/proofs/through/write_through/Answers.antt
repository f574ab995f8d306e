use Rattle.std.proofs.Common.{[], ◌∷◌, length}
use Rattle.gate_log.specs.Disk.{now, IsLeft}
use Rattle.gate_log.proofs.Going.{so_far}
use Rattle.gate_log.proofs.Steps as step
use Rattle.gate_log.proofs.Torn.{torn}
use Rattle.gate_log.proofs.AppendRun.{still}
use Rattle.gate_log.proofs.through.write_through.Goals as goal

pub returns-in_err-write_at-clause-any_moment : goal.returns-in_err-write_at-clause-any_moment
returns-in_err-write_at-clause-any_moment g c = λ t.
    let from = (now (g.D.Disk.moments c.args.disk.now) c.args.file).reads in
    let P = IsLeft from ((c.args.at, length c.args.bytes.now) ∷ []) in
    let s0 = so_far c.args.file P _ _ (c.requires.synced t) in
    step.write_failed _ P _ _ _ _ (torn from c.args.at c.args.bytes.now) _ _ s0 _ (c.in_err-write_at.ensures.err t)

pub returns-in_err-sync-clause-any_moment : goal.returns-in_err-sync-clause-any_moment
returns-in_err-sync-clause-any_moment g c = λ t.
    let from = (now (g.D.Disk.moments c.args.disk.now) c.args.file).reads in
    let P = IsLeft from ((c.args.at, length c.args.bytes.now) ∷ []) in
    let s0 = so_far c.args.file P _ _ (c.requires.synced t) in
    step.sync_failed _ P _ _ _ _ (torn from c.args.at c.args.bytes.now) _ _ s0 _ _ (c.in_ok-write_at.ensures.ok t) (c.in_err-sync.ensures.err (still _ _ c.write_at.ensures.tells t))

pub returns-clause-any_moment : goal.returns-clause-any_moment
returns-clause-any_moment g c = λ t.
    let from = (now (g.D.Disk.moments c.args.disk.now) c.args.file).reads in
    let P = IsLeft from ((c.args.at, length c.args.bytes.now) ∷ []) in
    let s0 = so_far c.args.file P _ _ (c.requires.synced t) in
    (step.done _ P _ _ _ _ (torn from c.args.at c.args.bytes.now) _ _ s0 _ _ (c.in_ok-write_at.ensures.ok t) (c.in_ok-sync.ensures.ok (still _ _ c.write_at.ensures.tells t))).went

pub returns-clause-written : goal.returns-clause-written
returns-clause-written g c = λ t.
    let from = (now (g.D.Disk.moments c.args.disk.now) c.args.file).reads in
    let P = IsLeft from ((c.args.at, length c.args.bytes.now) ∷ []) in
    let s0 = so_far c.args.file P _ _ (c.requires.synced t) in
    (step.done _ P _ _ _ _ (torn from c.args.at c.args.bytes.now) _ _ s0 _ _ (c.in_ok-write_at.ensures.ok t) (c.in_ok-sync.ensures.ok (still _ _ c.write_at.ensures.tells t))).is
