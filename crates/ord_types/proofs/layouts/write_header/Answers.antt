use Rattle.ord_types.proofs.layouts.write_header.Goals as goal

pub returns : goal.returns
returns g c = let join = g.met.W.Writer.joined in join _ _ _ _ _ (join _ _ _ _ _ (join _ _ _ _ _ c.put_u64.ensures c.put.ensures) c.put-2.ensures) c.put-3.ensures
