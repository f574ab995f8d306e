use Rattle.std.proofs.Common.{refl}
use Rattle.world_run.proofs.ListLemmas.{running_standing, where_running}
use Rattle.world_run.proofs.world.World.is_running.Goals as goal

pub returns-in-None : goal.returns-in-None
returns-in-None c = λ lodged later. rw (c.in-None.ensures.none lodged later) refl

pub returns-in-Some : goal.returns-in-Some
returns-in-Some c = λ lodged later.
    let w = c.args.self.now in
    rw (running_standing w.config lodged c.args.id w.members.items c.in-Some.field-0 (where_running c.args.id w.members.items c.in-Some.field-0 c.in-Some.ensures.some)) refl
