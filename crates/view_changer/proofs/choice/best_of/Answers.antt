use Rattle.view_changer.proofs.ChoiceLemmas.{best_step}
use Rattle.view_changer.proofs.choice.best_of.Goals as goal

pub loop-signed-preserved : goal.loop-signed-preserved
loop-signed-preserved c =
    rw (c.better_of-best.ensures, c.passing_of.ensures)
    (best_step c.args.n c.args.height c.args.reports.now c.loop-signed.signed-index c.signed-item.result c.loop-signed.best c.loop-signed-test.true c.signed-item.is c.loop-signed.invariant)
