use Rattle.std.proofs.Common.{◌≡◌, ◌-◌, ◌^◌}
use Rattle.world_model.specs.Cores.{core_setting}
use Rattle.world_model.specs.Turns.{flush_turn}
use Rattle.world_run.specs.Sound.{IsSound}
use Rattle.world_run.proofs.FlushLemmas.{NoneWaits}
use Rattle.world_run.proofs.GoingLemmas.{GoesBy}
use Rattle.world_run.proofs.world.World.flush.Given as goal

abbrev pub invariant-loop-count : goal.invariant-loop-count
invariant-loop-count g l =
    let number = l.fn.self.outside.number in
    record {
      sound : IsSound (g.N.Nodes.at l.nodes) l.self;
      goes : GoesBy (g.N.Nodes.at l.fn.nodes) (g.N.Nodes.at l.nodes) l.fn.self l.self (flush_turn core_setting number l.only 10000 0) (flush_turn core_setting number l.only (10000 - l.count) l.count);
      none : NoneWaits l.only l.at l.self;
      number : l.self.outside.number ≡ number;
    }

abbrev pub decreases-loop-count : goal.decreases-loop-count
decreases-loop-count g l = 2 ^ 64 - l.at
