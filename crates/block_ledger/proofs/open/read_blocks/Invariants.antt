use Rattle.std.proofs.Common.{◌≡◌, drop}
use Rattle.block_ledger.proofs.Loaded.{IsReadSoFar}
use Rattle.block_ledger.proofs.open.read_blocks.Given as goal

abbrev pub invariant-loop-bytes : goal.invariant-loop-bytes
invariant-loop-bytes g l = IsReadSoFar (g.V.Verifier.accepts l.verifier) l.fn.config l.fn.entries (drop l.bytes-index l.bytes-items) l.blocks.chain × (l.blocks.place.config ≡ l.fn.config)
