use Rattle.std.proofs.Common.{arith}
use Rattle.world_model.specs.Turns.{first_config}
use Rattle.world_run.proofs.GenesisLemmas.{genesis_from_ids}
use Rattle.world_run.proofs.RunnerLemmas.{line_opened, line_overrun}
use Rattle.world_run.proofs.runner.Runner.open.Goals as goal

pub new-requires-clause-config : goal.new-requires-clause-config
new-requires-clause-config g c = genesis_from_ids c.args.members c.requires.ids

pub returns-then-bound-count-clause-plays : goal.returns-then-bound-count-clause-plays
returns-then-bound-count-clause-plays g c =
    let count = rw (c.as_slice.ensures, c.as_slice-2.ensures) at c.how_many_in-count.ensures in
    let bound = rw c.len.ensures at c.fault_bound-bound.ensures in
    rw c.requires.none
    (line_overrun (g.N.Nodes.at c.args.self.now.nodes) (first_config c.args.members) c.args.number _ _ c.args.members c.args.byzantine _ _ count bound c.if-bound-count.true c.in_ok-put_too_many_faulty.ensures)

pub returns-clause-plays : goal.returns-clause-plays
returns-clause-plays g c =
    let count = rw (c.as_slice.ensures, c.as_slice-2.ensures) at c.how_many_in-count.ensures in
    let bound = rw c.len.ensures at c.fault_bound-bound.ensures in
    let moves = c.in_ok-world.ensures.moves in
    rw c.requires.none
    (line_opened (g.N.Nodes.at c.args.self.now.nodes) (g.N.Nodes.at c.new.new.nodes) c.args.number _ _ c.args.members c.args.byzantine c.in_ok-world.world moves.0 _ _ count bound (omega arith) moves.1 moves.2 c.in_ok-world.ensures.unarmed
    c.in_ok-world.ensures.value c.in_ok-put_genesis.ensures)
