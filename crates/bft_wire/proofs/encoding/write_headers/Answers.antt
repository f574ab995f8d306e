use Rattle.std.proofs.Common.{ℕ, List, subst}
use Rattle.ord_types.specs.Spelling.{header_text}
use Rattle.ord_types.proofs.Pieces.{all_pieces}
use Rattle.bft_wire.proofs.encoding.write_headers.Goals as goal

pub returns : goal.returns
returns g c =
    let all = all_pieces header_text _ _ _ c.as_slice-header-items.ensures c.loop-header-test.false in
    subst (λ (t : List ℕ). g.W.Writer.took c.args.writer.now c.loop-header.writer t) all c.loop-header.invariant
