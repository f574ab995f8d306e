use Rattle.std.proofs.Common.{sym}
use Rattle.world_run.proofs.ListLemmas.{running_absent, stopped_standing, where_stopped}
use Rattle.world_run.proofs.world.World.running.Goals as goal

pub returns-in-Stopped-clause-none : goal.returns-in-Stopped-clause-none
returns-in-Stopped-clause-none c = λ lodged later.
    let w = c.args.self.now in
    stopped_standing w.config lodged c.args.id w.members.items c.in-Stopped._place (where_stopped c.args.id w.members.items c.in-Stopped._place (sym c.in-Stopped.ensures))

pub returns-in-Absent-clause-none : goal.returns-in-Absent-clause-none
returns-in-Absent-clause-none c = λ lodged later.
    let w = c.args.self.now in
    running_absent w.config lodged c.args.id w.members.items (sym c.in-Absent.ensures)
