use Rattle.bft_wal.proofs.Opens.{here_first}
use Rattle.bft_wal.proofs.codec.first_wrong.Goals as goal

pub loop-entry-init : goal.loop-entry-init
loop-entry-init c = here_first c.args.entries.now
