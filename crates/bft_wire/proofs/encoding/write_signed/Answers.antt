use Rattle.bft_wire.proofs.encoding.write_signed.Goals as goal

pub returns : goal.returns
returns g c =
    let join = g.met.W.Writer.joined in
    join _ _ _ _ _ c.write_report.ensures c.write_sig.ensures
