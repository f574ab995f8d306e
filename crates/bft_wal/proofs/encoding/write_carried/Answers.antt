use Rattle.bft_wal.proofs.encoding.write_carried.Goals as goal

pub returns-in-Some : goal.returns-in-Some
returns-in-Some g c = rw c.in-Some.is (g.met.W.Writer.joined _ _ _ _ _ c.put_u8-in-Some.ensures c.write_vote.ensures)
