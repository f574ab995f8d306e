use Rattle.std.proofs.Common.{◌≡◌, arith, sym, true, ◌∙◌}
use Rattle.bft_node.proofs.Nexts.{next_none}
use Rattle.bft_node.proofs.tests.is_next.Goals as goal

pub returns-then-next : goal.returns-then-next
returns-then-next g c = λ is.
    let bft : c.is_bft.result ≡ true = grind (arith, c.if-not-is_bft.false) in
    next_none (g.V.Verifier.accepts c.args.verifier.now) c.args.place.now c.args.block.now c.args.cert.now (sym c.may_come-next.ensures ∙ c.if-next.true) (sym c.is_good-good.ensures ∙ is)
    (c.is_bft.ensures bft).2
