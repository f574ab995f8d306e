use Rattle.std.proofs.Common.{drop}
use Rattle.std.specs.List.{AllByRecursion}
use Rattle.ord_types.specs.Grammar.{HasRequestSpelling}
use Rattle.bft_node.proofs.spelled.are_requests.Given as goal

abbrev pub invariant-loop-request : goal.invariant-loop-request
invariant-loop-request l = AllByRecursion HasRequestSpelling (drop l.request-index l.requests) → AllByRecursion HasRequestSpelling l.requests
