use Rattle.std.proofs.Common.{◌≡◌, rules, ap, lit≤, [], ◌∷◌}
use Rattle.signer_edge.proofs.SealFacts.{is_sealed-grown, is_sealed-signed}
use Rattle.signer_edge.specs.Seals.{Seat}
use Rattle.signer_edge.proofs.boxes.SealSeatSigner.sign.Goals as goal

pub returns-clause-signature : goal.returns-clause-signature
returns-clause-signature c = record {
  signer = search rules;
  accepted = rw (c.in_ok-bytes.ensures.ok, c.in_ok-bytes.ensures.place) (is_sealed-signed c.self.inside.seals c.self.inside.id c.args.statement.now c.in_ok-bytes.ensures.small);
  short = rw c.in_ok-bytes.ensures.place (lit≤ tt);
}

pub returns-clause-honoured : goal.returns-clause-honoured
returns-clause-honoured c = λ t sig h.
    let same : c.self.inside.seals ≡ c.args.self.now.seals = ap (λ (seat : Seat). seat.seals) c.self.view_is in
    rw (c.in_ok-bytes.ensures.ok, same) (is_sealed-grown c.args.self.now.seals (record { signer = c.self.inside.id; statement = c.args.statement.now } ∷ []) t sig h)
