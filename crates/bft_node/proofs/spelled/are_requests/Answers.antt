use Rattle.std.proofs.Common.{◌<◌, length, subst, sym, arith}
use Rattle.std.specs.List.{AllByRecursion}
use Rattle.ord_types.specs.Grammar.{HasRequestSpelling}
use Rattle.ord_types.specs.declared.values.Request.{Request}
use Rattle.std.proofs.Common.{List}
use Rattle.bft_node.proofs.SpelledLemmas.{drop_one}
use Rattle.bft_node.proofs.spelled.are_requests.Goals as goal

pub loop-request-preserved : goal.loop-request-preserved
loop-request-preserved c = λ rest.
    let request = c.request-item.result in
    let within : c.loop-request.request-index < length c.args.requests.now = omega arith in
    let here : HasRequestSpelling request = grind arith in
    c.loop-request.invariant (subst (λ (l : List Request). AllByRecursion HasRequestSpelling l) (sym (drop_one c.args.requests.now c.loop-request.request-index request within c.request-item.is)) (here, rest))
