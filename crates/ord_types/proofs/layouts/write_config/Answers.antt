use Rattle.ord_types.proofs.layouts.write_config.Goals as goal

pub returns : goal.returns
returns g c =
    let join = g.met.W.Writer.joined in
    let kind = rw c.kind_number.ensures at c.put_u8-2.ensures in
    let mode = rw c.mode_number.ensures at c.put_u8-3.ensures in
    join _ _ _ _ _ (join _ _ _ _ _ (join _ _ _ _ _ (join _ _ _ _ _ (join _ _ _ _ _ (join _ _ _ _ _ c.put_u8.ensures c.put_u64.ensures) kind) mode) c.write_ids.ensures) c.write_batch.ensures) c.put_u32.ensures
