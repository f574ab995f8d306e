use Rattle.gate_log.proofs.LawLemmas.{begun_reads}
use Rattle.gate_log.proofs.laws.begun_log_reads.Goals as goal

pub returns : goal.returns
returns c = begun_reads
