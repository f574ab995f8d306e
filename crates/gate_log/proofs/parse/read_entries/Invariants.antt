use Rattle.std.proofs.Common.{◌≡◌, ◌-◌, ◌<◌, length, drop}
use Rattle.gate_log.specs.Format.{walk}
use Rattle.gate_log.proofs.Fronts.{onto}
use Rattle.gate_log.proofs.Parsing.{from_here}
use Rattle.gate_log.proofs.parse.read_entries.Given as goal

abbrev pub invariant-loop-at : goal.invariant-loop-at
invariant-loop-at l = (l.at < length l.bytes) × (walk (length l.bytes) 17 (drop 17 l.bytes) ≡ onto l.entries (from_here l.at l.bytes))

abbrev pub decreases-loop-at : goal.decreases-loop-at
decreases-loop-at l = length l.bytes - l.at
