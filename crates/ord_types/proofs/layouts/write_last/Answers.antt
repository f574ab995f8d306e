use Rattle.ord_types.proofs.layouts.write_last.Goals as goal

pub returns : goal.returns
returns g c =
    let join = g.met.W.Writer.joined in
    join _ _ _ _ _ c.put.ensures c.write_cert.ensures
