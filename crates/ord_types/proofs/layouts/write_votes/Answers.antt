use Rattle.std.proofs.Common.{ℕ, List, subst}
use Rattle.ord_types.specs.Spelling.{vote_text}
use Rattle.ord_types.proofs.Pieces.{all_pieces}
use Rattle.ord_types.proofs.layouts.write_votes.Goals as goal

pub returns : goal.returns
returns g c =
    let all = all_pieces vote_text _ _ _ c.as_slice-vote-items.ensures c.loop-vote-test.false in
    subst (λ (t : List ℕ). g.W.Writer.took c.args.writer.now c.loop-vote.writer t) all c.loop-vote.invariant
