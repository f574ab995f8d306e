use Rattle.ord_types.proofs.layouts.write_report.Goals as goal

pub returns : goal.returns
returns g c =
    let join = g.met.W.Writer.joined in
    let count = rw c.len-count.ensures at c.put_u8.ensures in
    join _ _ _ _ _ (join _ _ _ _ _ (join _ _ _ _ _ (join _ _ _ _ _ c.put_u64.ensures c.write_last_or_none.ensures) c.write_vote_or_none.ensures) count) c.write_votes.ensures
