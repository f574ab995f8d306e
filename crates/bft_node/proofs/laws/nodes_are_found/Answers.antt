use Rattle.bft_node.proofs.Recoverings.{crashes_keep, empty_files_keep, holds_on, openings_keep}
use Rattle.bft_node.proofs.laws.nodes_are_found.Goals as goal

pub returns-clause-empty : goal.returns-clause-empty
returns-clause-empty c = empty_files_keep

pub returns-clause-crash : goal.returns-clause-crash
returns-clause-crash c = crashes_keep

pub returns-clause-on : goal.returns-clause-on
returns-clause-on c = holds_on

pub returns-clause-opening : goal.returns-clause-opening
returns-clause-opening c = openings_keep
