use Rattle.world_run.proofs.runner.submit.Goals as goal

pub returns-clause-says : goal.returns-clause-says
returns-clause-says c = rw (c.as_slice.ensures, c.in_ok-bytes.ensures) at c.submit_bytes.ensures.says
