use Rattle.bft_wire.proofs.MessageLaws.{cut_is_short}
use Rattle.bft_wire.proofs.laws.fronts_are_short.Goals as goal

pub returns : goal.returns
returns c = cut_is_short
