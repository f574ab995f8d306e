use Rattle.ord_types.proofs.layouts.write_sig.Goals as goal

pub returns : goal.returns
returns g c =
    let join = g.met.W.Writer.joined in
    let size = rw c.len-length.ensures at c.put_u16.ensures in
    let bytes = rw c.as_slice.ensures at c.put.ensures in
    join _ _ _ _ _ (join _ _ _ _ _ c.put_u32.ensures size) bytes
