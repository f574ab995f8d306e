use Rattle.ord_types.proofs.layouts.write_block.Goals as goal

pub returns : goal.returns
returns g c =
    let join = g.met.W.Writer.joined in
    join _ _ _ _ _ (join _ _ _ _ _ c.write_header.ensures c.write_requests.ensures) c.write_meta.ensures
