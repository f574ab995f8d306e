use Rattle.bft_wire.proofs.encoding.write_new_view.Goals as goal

pub returns : goal.returns
returns g c =
    let join = g.met.W.Writer.joined in
    let count = rw c.len-count.ensures at c.put_u8-2.ensures in
    join _ _ _ _ _ (join _ _ _ _ _ (join _ _ _ _ _ (join _ _ _ _ _ (join _ _ _ _ _ c.put_u8.ensures c.put_u64.ensures) c.put_u64-2.ensures) count) c.write_signed_reports.ensures) c.write_block_or_none.ensures
