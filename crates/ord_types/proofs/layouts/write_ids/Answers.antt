use Rattle.std.proofs.Common.{ℕ, List, subst}
use Rattle.std.specs.Int.{w32, to_be_bytes}
use Rattle.ord_types.proofs.Pieces.{all_pieces}
use Rattle.ord_types.proofs.layouts.write_ids.Goals as goal

pub returns : goal.returns
returns g c =
    let count = rw c.len-count.ensures at c.put_u8.ensures in
    let all = all_pieces (λ (id : ℕ). to_be_bytes w32 id) _ _ _ c.as_slice-id-items.ensures c.loop-id-test.false in
    let pieces = subst (λ (t : List ℕ). g.W.Writer.took c.put_u8.new.self c.loop-id.writer t) all c.loop-id.invariant in
    g.met.W.Writer.joined _ _ _ _ _ count pieces
