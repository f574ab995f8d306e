use Rattle.bft_wire.proofs.encoding.write_block_reply.Goals as goal

pub returns : goal.returns
returns g c =
    let join = g.met.W.Writer.joined in
    join _ _ _ _ _ (join _ _ _ _ _ c.put_u8.ensures c.write_block.ensures) c.write_cert.ensures
