use Rattle.bft_wire.proofs.encoding.write_header_reply.Goals as goal

pub returns : goal.returns
returns g c =
    let join = g.met.W.Writer.joined in
    let count = rw c.len-count.ensures at c.put_u16.ensures in
    join _ _ _ _ _ (join _ _ _ _ _ c.put_u8.ensures count) c.write_headers.ensures
