use Rattle.std.proofs.Common.{arith}
use Rattle.signer_edge.proofs.SealFacts.{is_sealed-at, is_sealed-long, is_sealed-past}
use Rattle.signer_edge.proofs.boxes.SealBox.holds.Goals as goal

pub returns-in_default : goal.returns-in_default
returns-in_default c = grind (arith, is_sealed-long c.args.self.now c.args.statement.now c.args.sig.now, c.in_default.ensures)

pub returns-then-seal-sig : goal.returns-then-seal-sig
returns-then-seal-sig c = grind (arith, is_sealed-at c.args.self.now c.args.statement.now c.args.sig.now c.in-Some.seal.now, c.in-Some.ensures, c.in-Ok.ensures)

pub returns-else-seal-sig : goal.returns-else-seal-sig
returns-else-seal-sig c = grind (arith, is_sealed-at c.args.self.now c.args.statement.now c.args.sig.now c.in-Some.seal.now, c.in-Some.ensures, c.in-Ok.ensures)

pub returns-in-None : goal.returns-in-None
returns-in-None c = grind (arith, is_sealed-past c.args.self.now c.args.statement.now c.args.sig.now, c.in-None.ensures, c.in-Ok.ensures)
