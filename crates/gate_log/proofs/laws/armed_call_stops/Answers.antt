use Rattle.gate_log.proofs.LawLemmas.{waits, stops_at, stopped_stays}
use Rattle.gate_log.proofs.laws.armed_call_stops.Goals as goal

pub returns-clause-before : goal.returns-clause-before
returns-clause-before c = waits

pub returns-clause-at : goal.returns-clause-at
returns-clause-at c = stops_at

pub returns-clause-later : goal.returns-clause-later
returns-clause-later c = stopped_stays
