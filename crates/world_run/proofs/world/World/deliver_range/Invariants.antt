use Rattle.std.proofs.Common.{◌≡◌, ◌-◌, ◌+◌}
use Rattle.world_model.specs.Cores.{core_setting}
use Rattle.world_model.specs.Turns.{deliveries}
use Rattle.world_run.specs.Sound.{IsSound}
use Rattle.world_run.proofs.RangeLemmas.{RangeBy}
use Rattle.world_run.proofs.world.World.deliver_range.Given as goal

abbrev pub invariant-loop-number : goal.invariant-loop-number
invariant-loop-number g l =
    let number = l.fn.self.outside.number in
    let end = l.fn.range.last + 1 in
    record {
      sound : IsSound (g.N.Nodes.at l.nodes) l.self;
      goes : RangeBy (g.N.Nodes.at l.fn.nodes) (g.N.Nodes.at l.nodes) l.fn.self l.self (deliveries core_setting number (end - l.fn.range.first) l.fn.range.first l.fn.so_far) (deliveries core_setting number (end - l.number) l.number l.count);
      number : l.self.outside.number ≡ number;
    }
