use Rattle.ord_types.proofs.layouts.write_request.Goals as goal

pub returns : goal.returns
returns g c =
    let join = g.met.W.Writer.joined in
    let kind = rw c.request_kind_number.ensures at c.put_u8.ensures in
    let size = rw c.len-length.ensures at c.put_u32-2.ensures in
    let payload = rw c.as_slice.ensures at c.put.ensures in
    join _ _ _ _ _ (join _ _ _ _ _ (join _ _ _ _ _ (join _ _ _ _ _ kind c.put_u32.ensures) c.put_u64.ensures) size) payload
