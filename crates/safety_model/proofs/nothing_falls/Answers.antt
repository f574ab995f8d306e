use Rattle.safety_model.proofs.ViewLaws.{nothing_falls}
use Rattle.safety_model.proofs.nothing_falls.Goals as goal

pub returns : goal.returns
returns c = nothing_falls
