use Rattle.std.proofs.Common.{ℕ, List, subst}
use Rattle.gate_log.specs.Renew.{IsNewOrAbsent}
use Rattle.gate_log.proofs.Going.{leaves_to, leaves_then}
use Rattle.gate_log.proofs.OpenLemmas.{OpensEmpty, empty_by_new}
use Rattle.gate_log.proofs.AppendRun.{still}
use Rattle.gate_log.proofs.open.make_new.Goals as goal

pub returns-in_err-log-clause-any_moment : goal.returns-in_err-log-clause-any_moment
returns-in_err-log-clause-any_moment g c = λ t.
    leaves_then c.args.file OpensEmpty _ _ _ (c.begin_head.ensures.any_moment t)
    (leaves_to c.args.file _ OpensEmpty (λ bytes is. empty_by_new bytes (subst (λ (es : List (List ℕ)). IsNewOrAbsent 1 es bytes) c.new.ensures is)) _ _
    (c.write_log.ensures.any_moment (still _ _ c.begin_head.ensures.tells t)))

pub returns-clause-any_moment : goal.returns-clause-any_moment
returns-clause-any_moment g c = λ t.
    leaves_then c.args.file OpensEmpty _ _ _ (c.begin_head.ensures.any_moment t)
    (leaves_to c.args.file _ OpensEmpty (λ bytes is. empty_by_new bytes (subst (λ (es : List (List ℕ)). IsNewOrAbsent 1 es bytes) c.new.ensures is)) _ _
    (c.write_log.ensures.any_moment (still _ _ c.begin_head.ensures.tells t)))
