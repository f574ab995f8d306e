use Rattle.std.proofs.Common.{ℕ, List, subst}
use Rattle.ord_types.specs.Spelling.{request_text}
use Rattle.ord_types.proofs.Pieces.{all_pieces, one_piece_more}
use Rattle.ord_types.proofs.layouts.write_requests.Goals as goal

pub returns : goal.returns
returns g c =
    let count = rw c.len-count.ensures at c.put_u32.ensures in
    let all = all_pieces request_text _ _ _ c.as_slice-request-items.ensures c.loop-request-test.false in
    let pieces = subst (λ (t : List ℕ). g.W.Writer.took c.put_u32.new.self c.loop-request.writer t) all c.loop-request.invariant in
    g.met.W.Writer.joined _ _ _ _ _ count pieces

pub loop-request-preserved : goal.loop-request-preserved
loop-request-preserved g c =
    let more = one_piece_more request_text _ _ _ _ c.as_slice-request-items.ensures c.loop-request-test.true c.request-item.is in
    let both = g.met.W.Writer.joined _ _ _ _ _ c.loop-request.invariant c.write_request.ensures in
    subst (λ (t : List ℕ). g.W.Writer.took c.put_u32.new.self c.write_request.new.writer t) more both
