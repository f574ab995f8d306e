use Rattle.std.proofs.Common.{◌∙◌, ap, refl, subst}
use Rattle.gate_log.specs.Disk.{now, synced_file}
use Rattle.gate_log.specs.Renew.{CanClose}
use Rattle.gate_log.specs.declared.head.Head.{Head}
use Rattle.gate_log.proofs.Going.{leaves_to, leaves_none}
use Rattle.gate_log.proofs.OpenLemmas.{OpensEmpty, empty_by_old}
use Rattle.gate_log.proofs.open.begin_head.Goals as goal

pub returns-in-Begun-clause-closed : goal.returns-in-Begun-clause-closed
returns-in-Begun-clause-closed g c = λ t.
    let from = (now (g.D.Disk.moments c.args.disk.now) c.args.file).reads in
    let h = subst (λ (k : Head). CanClose k from) c.in-Begun.is (c.requires.head t) in
    record { rest = h.rest; is = c.requires.synced t ∙ ap synced_file h.is }

pub returns-in-Begun-clause-any_moment : goal.returns-in-Begun-clause-any_moment
returns-in-Begun-clause-any_moment g c = λ t. leaves_none c.args.file OpensEmpty _ _ refl

pub returns-in_default-clause-any_moment : goal.returns-in_default-clause-any_moment
returns-in_default-clause-any_moment g c = λ t.
    leaves_to c.args.file _ OpensEmpty (λ k. empty_by_old _ k (c.requires.absent t)) _ _ (c.close_head.ensures.any_moment t)
