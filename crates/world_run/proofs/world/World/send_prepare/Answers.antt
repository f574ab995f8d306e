use Rattle.world_run.proofs.world.World.send_prepare.Goals as goal

pub returns-clause-says : goal.returns-clause-says
returns-clause-says c = rw c.in_ok-bytes.ensures at c.send.ensures.says
