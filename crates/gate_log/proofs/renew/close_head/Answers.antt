use Rattle.std.proofs.Common.{subst}
use Rattle.gate_log.specs.Disk.{now}
use Rattle.gate_log.specs.Renew.{CanClose}
use Rattle.gate_log.specs.declared.head.Head.{Head}
use Rattle.gate_log.proofs.Going.{leaves_to}
use Rattle.gate_log.proofs.Torn.{closes_new, closes_begun, closes_open, closed_by, on_ok}
use Rattle.gate_log.proofs.renew.close_head.Goals as goal

pub returns-in-New-clause-any_moment : goal.returns-in-New-clause-any_moment
returns-in-New-clause-any_moment g c = λ t.
    let from = (now (g.D.Disk.moments c.args.disk.now) c.args.file).reads in
    let one = closes_new from (subst (λ (k : Head). CanClose k from) c.in-New.is (c.requires.head t)) in
    leaves_to _ _ _ one.crash _ _ (c.write_through.ensures.any_moment t)

pub returns-in-New-clause-closed : goal.returns-in-New-clause-closed
returns-in-New-clause-closed g c = λ t.
    let from = (now (g.D.Disk.moments c.args.disk.now) c.args.file).reads in
    let one = closes_new from (subst (λ (k : Head). CanClose k from) c.in-New.is (c.requires.head t)) in
    on_ok _ (closed_by _ _ _ _ one) (c.write_through.ensures.written t)

pub returns-in-Begun-clause-any_moment : goal.returns-in-Begun-clause-any_moment
returns-in-Begun-clause-any_moment g c = λ t.
    let from = (now (g.D.Disk.moments c.args.disk.now) c.args.file).reads in
    let one = closes_begun from _ (subst (λ (k : Head). CanClose k from) c.in-Begun.is (c.requires.head t)) in
    leaves_to _ _ _ one.crash _ _ (c.write_through-in-Begun.ensures.any_moment t)

pub returns-in-Begun-clause-closed : goal.returns-in-Begun-clause-closed
returns-in-Begun-clause-closed g c = λ t.
    let from = (now (g.D.Disk.moments c.args.disk.now) c.args.file).reads in
    let one = closes_begun from _ (subst (λ (k : Head). CanClose k from) c.in-Begun.is (c.requires.head t)) in
    on_ok _ (closed_by _ _ _ _ one) (c.write_through-in-Begun.ensures.written t)

pub returns-in-Open-clause-any_moment : goal.returns-in-Open-clause-any_moment
returns-in-Open-clause-any_moment g c = λ t.
    let from = (now (g.D.Disk.moments c.args.disk.now) c.args.file).reads in
    let h = subst (λ (k : Head). CanClose k from) c.in-Open.is (c.requires.head t) in
    let one = closes_open from h.gate h.is_open h.has in
    leaves_to _ _ _ one.crash _ _ (c.write_through-in-Open.ensures.any_moment t)

pub returns-in-Open-clause-closed : goal.returns-in-Open-clause-closed
returns-in-Open-clause-closed g c = λ t.
    let from = (now (g.D.Disk.moments c.args.disk.now) c.args.file).reads in
    let h = subst (λ (k : Head). CanClose k from) c.in-Open.is (c.requires.head t) in
    let one = closes_open from h.gate h.is_open h.has in
    on_ok _ (closed_by _ _ _ _ one) (c.write_through-in-Open.ensures.written t)
