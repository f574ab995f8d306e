use Rattle.bft_wal.proofs.encoding.write_record.Goals as goal

pub returns-in-Accepted : goal.returns-in-Accepted
returns-in-Accepted g c = rw c.in-Accepted.is c.write_accepted.ensures
