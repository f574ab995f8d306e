use Rattle.std.proofs.Common.{◌≡◌, ◌++◌, drop}
use Rattle.gate_log.specs.Format.{spelled, body}
use Rattle.gate_log.specs.Renew.{AreShort}
use Rattle.gate_log.proofs.restart.body_bytes.Given as goal

abbrev pub invariant-loop-entry : goal.invariant-loop-entry
invariant-loop-entry l = record {
  short : AreShort (drop l.entry-index l.entries);
  whole : l.bytes ++ spelled (drop l.entry-index l.entries) ≡ body l.generation l.entries;
}
