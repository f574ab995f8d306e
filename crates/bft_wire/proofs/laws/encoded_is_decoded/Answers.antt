use Rattle.bft_wire.proofs.MessageLaws.{round_trip}
use Rattle.bft_wire.proofs.laws.encoded_is_decoded.Goals as goal

pub returns : goal.returns
returns c = round_trip
