use Rattle.std.proofs.Common.{drop}
use Rattle.std.specs.List.{AllByRecursion}
use Rattle.ord_types.specs.Grammar.{Ascend, IsWord}
use Rattle.bft_node.proofs.spelled.ascend.Given as goal

abbrev pub invariant-loop-id : goal.invariant-loop-id
invariant-loop-id l = (Ascend l.least (drop l.id-index l.ids) → Ascend 1 l.ids) × (AllByRecursion IsWord (drop l.id-index l.ids) → AllByRecursion IsWord l.ids)
