use Rattle.ord_types.proofs.layouts.write_batch.Goals as goal

pub returns : goal.returns
returns g c =
    let join = g.met.W.Writer.joined in
    join _ _ _ _ _ (join _ _ _ _ _ (join _ _ _ _ _ c.put_u32.ensures c.put_u32-2.ensures) c.put_u32-3.ensures) c.put_u32-4.ensures
