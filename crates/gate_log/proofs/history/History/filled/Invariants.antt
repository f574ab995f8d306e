use Rattle.std.proofs.Common.{◌≡◌, [], take, drop}
use Rattle.gate_log.specs.Disk.{synced_file}
use Rattle.gate_log.specs.Calls.{file_of, file_after, filled, NoSync}
use Rattle.gate_log.proofs.history.History.filled.Given as goal

abbrev pub invariant-loop-call : goal.invariant-loop-call
invariant-loop-call l = record {
  bytes : l.bytes.items ≡ filled l.byte (file_after l.file (synced_file []) (take l.call-index l.call-items)).pending (file_of l.self.files l.file);
  last : NoSync l.file (drop l.call-index l.call-items);
}
