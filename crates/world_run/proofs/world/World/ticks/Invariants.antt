use Rattle.std.proofs.Common.{◌≡◌, ◌-◌}
use Rattle.world_model.specs.Cores.{core_setting}
use Rattle.world_model.specs.Turns.{ticks}
use Rattle.world_run.specs.Sound.{IsSound}
use Rattle.world_run.proofs.GoingLemmas.{GoesBy}
use Rattle.world_run.proofs.world.World.ticks.Given as goal

abbrev pub invariant-loop-tick : goal.invariant-loop-tick
invariant-loop-tick g l =
    let number = l.fn.self.outside.number in
    record {
      sound : IsSound (g.N.Nodes.at l.nodes) l.self;
      goes : GoesBy (g.N.Nodes.at l.fn.nodes) (g.N.Nodes.at l.nodes) l.fn.self l.self (ticks core_setting number l.id l.count) (ticks core_setting number l.id (l.count - l._tick));
      number : l.self.outside.number ≡ number;
    }
