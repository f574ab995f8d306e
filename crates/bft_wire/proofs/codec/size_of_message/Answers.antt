use Rattle.std.proofs.Common.{[], refl}
use Rattle.bft_wire.proofs.codec.size_of_message.Goals as goal

pub returns : goal.returns
returns c = c.write_message.ensures [] refl
