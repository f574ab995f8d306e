use Rattle.std.proofs.Common.{◌≡◌, drop}
use Rattle.world_model.specs.Cores.{core_setting}
use Rattle.world_model.specs.Turns.{deliver_turn}
use Rattle.world_run.specs.Sound.{IsSound}
use Rattle.world_run.proofs.GoingLemmas.{GoesBy}
use Rattle.world_run.proofs.world.World.deliver.Given as goal

abbrev pub invariant-loop-range : goal.invariant-loop-range
invariant-loop-range g l =
    let number = l.fn.self.outside.number in
    record {
      sound : IsSound (g.N.Nodes.at l.nodes) l.self;
      goes : GoesBy (g.N.Nodes.at l.fn.nodes) (g.N.Nodes.at l.nodes) l.fn.self l.self (deliver_turn core_setting number l.ranges 0) (deliver_turn core_setting number (drop l.range-index l.ranges) l.count);
      number : l.self.outside.number ≡ number;
    }
