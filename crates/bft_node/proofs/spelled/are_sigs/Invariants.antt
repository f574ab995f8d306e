use Rattle.std.proofs.Common.{drop}
use Rattle.ord_types.specs.Grammar.{AreSigs}
use Rattle.bft_node.proofs.spelled.are_sigs.Given as goal

abbrev pub invariant-loop-sig : goal.invariant-loop-sig
invariant-loop-sig l = AreSigs l.least (drop l.sig-index l.sigs) → AreSigs 0 l.sigs
