use Rattle.std.proofs.Common.{ℕ, List, subst}
use Rattle.bft_wire.specs.Spelling.{signed_text}
use Rattle.ord_types.proofs.Pieces.{all_pieces, one_piece_more}
use Rattle.bft_wire.proofs.encoding.write_signed_reports.Goals as goal

pub returns : goal.returns
returns g c =
    let all = all_pieces signed_text _ _ _ c.as_slice-signed-items.ensures c.loop-signed-test.false in
    subst (λ (t : List ℕ). g.W.Writer.took c.args.writer.now c.loop-signed.writer t) all c.loop-signed.invariant

pub loop-signed-preserved : goal.loop-signed-preserved
loop-signed-preserved g c =
    let more = one_piece_more signed_text _ _ _ _ c.as_slice-signed-items.ensures c.loop-signed-test.true c.signed-item.is in
    let both = g.met.W.Writer.joined _ _ _ _ _ c.loop-signed.invariant c.write_signed.ensures in
    subst (λ (t : List ℕ). g.W.Writer.took c.args.writer.now c.write_signed.new.writer t) more both
