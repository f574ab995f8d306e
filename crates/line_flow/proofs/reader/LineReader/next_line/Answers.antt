use Rattle.std.proofs.Common.{ap, Ok, ◌≡◌, ◌∙◌}
use Rattle.line_flow.specs.declared.reader.NextLine.TheVariants.{Line}
use Rattle.line_flow.specs.declared.reader.Piece.{Piece}
use Rattle.line_flow.proofs.LineLemmas.{lines_cut, lines_end}
use Rattle.line_flow.proofs.reader.LineReader.next_line.Goals as goal

pub returns-then-self-clause-line : goal.returns-then-self-clause-line
returns-then-self-clause-line g c = λ is tells.
    let before = c.pieces.invariant in
    let line : c.at_end.result ≡ Line = cc in
    lines_end _ c.refill.new.self.line.items _ (rw (c.refill.ensures.line, c.refill.ensures.same (before.tells tells)) (before.whole tells)) (c.in_ok-refill.ensures.at_end (before.tells tells) c.if-self.true) (rw c.refill.ensures.line before.unbroken) (c.at_end.ensures.line line)

pub returns-in-Last-clause-line : goal.returns-in-Last-clause-line
returns-in-Last-clause-line g c = λ _ tells.
    let before = c.pieces.invariant in
    let last = c.in_ok-cut.was ∙ ap (λ (piece : Piece). Ok piece) c.in-Last.is in
    lines_cut _ c.refill.new.self.line.items _ _ _ _ (c.cut.ensures.last last) (rw (c.refill.ensures.line, c.refill.ensures.same (before.tells tells)) (before.whole tells)) (c.cut.ensures.unbroken (rw c.refill.ensures.line before.unbroken))
