use Rattle.world_run.proofs.world.World.refuse_barred.Goals as goal

pub returns-in-UnknownNode-clause-says : goal.returns-in-UnknownNode-clause-says
returns-in-UnknownNode-clause-says c = rw c.in-UnknownNode.is c.refuse.ensures.says

pub returns-in-NotByzantine-clause-says : goal.returns-in-NotByzantine-clause-says
returns-in-NotByzantine-clause-says c = rw c.in-NotByzantine.is c.refuse-in-NotByzantine.ensures.says
