use Rattle.std.specs.List.{AllWithin}
use Rattle.safety_model.specs.Safety.{RequestFits}
use Rattle.safety_model.proofs.widths.requests_fit.Given as goal

abbrev pub invariant-loop-request : goal.invariant-loop-request
invariant-loop-request l = AllWithin RequestFits l.requests 0 l.request-index
