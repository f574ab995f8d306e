use Rattle.std.proofs.Common.{◌≡◌, take}
use Rattle.gate_log.specs.Disk.{synced_file}
use Rattle.gate_log.specs.Calls.{file_of, file_after}
use Rattle.gate_log.proofs.history.History.kept.Given as goal

abbrev pub invariant-loop-call : goal.invariant-loop-call
invariant-loop-call l = l.bytes.items ≡ (file_after l.file (synced_file (file_of l.self.began l.file)) (take l.call-index l.call-items)).reads
