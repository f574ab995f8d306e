use Rattle.bft_wire.proofs.MessageLaws.{unambiguous}
use Rattle.bft_wire.proofs.laws.spellings_differ.Goals as goal

pub returns : goal.returns
returns c = unambiguous
