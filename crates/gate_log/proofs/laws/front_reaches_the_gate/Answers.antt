use Rattle.gate_log.proofs.Broken.{front_reaches}
use Rattle.gate_log.proofs.laws.front_reaches_the_gate.Goals as goal

pub returns : goal.returns
returns c = front_reaches
