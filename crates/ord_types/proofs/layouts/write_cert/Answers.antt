use Rattle.std.proofs.Common.{ℕ, List, subst}
use Rattle.ord_types.specs.Spelling.{sig_text}
use Rattle.ord_types.proofs.Pieces.{all_pieces, one_piece_more}
use Rattle.ord_types.proofs.layouts.write_cert.Goals as goal

pub returns : goal.returns
returns g c =
    let join = g.met.W.Writer.joined in
    let count = rw c.len-count.ensures at c.put_u8.ensures in
    let all = all_pieces sig_text _ _ _ c.as_slice-sig-items.ensures c.loop-sig-test.false in
    let pieces = subst (λ (t : List ℕ). g.W.Writer.took c.put_u8.new.self c.loop-sig.writer t) all c.loop-sig.invariant in
    join _ _ _ _ _ (join _ _ _ _ _ c.put_u64.ensures count) pieces

pub loop-sig-preserved : goal.loop-sig-preserved
loop-sig-preserved g c =
    let more = one_piece_more sig_text _ _ _ _ c.as_slice-sig-items.ensures c.loop-sig-test.true c.sig-item.is in
    let both = g.met.W.Writer.joined _ _ _ _ _ c.loop-sig.invariant c.write_sig.ensures in
    subst (λ (t : List ℕ). g.W.Writer.took c.put_u8.new.self c.write_sig.new.writer t) more both
