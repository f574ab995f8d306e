use Rattle.block_ledger.proofs.Placing.{begins_at_first, moves_by_one}
use Rattle.block_ledger.proofs.laws.places_move.Goals as goal

pub returns-clause-first : goal.returns-clause-first
returns-clause-first g = begins_at_first

pub returns-clause-next : goal.returns-clause-next
returns-clause-next g = moves_by_one
