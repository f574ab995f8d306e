use Rattle.bft_wal.proofs.encoding.write_tail.Goals as goal

pub returns : goal.returns
returns g c =
    let join = g.met.W.Writer.joined in
    join _ _ _ _ _ (join _ _ _ _ _ (join _ _ _ _ _ c.put_u8.ensures c.put_u64.ensures) c.put_u64-2.ensures) c.write_block.ensures
