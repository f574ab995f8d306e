use Rattle.std.proofs.Common.{◌≡◌, ◌-◌, vec_len}
use Rattle.world_run.proofs.world.World.pass_over.Given as goal

abbrev pub invariant-loop-self : goal.invariant-loop-self
invariant-loop-self l =
    record {
      outside : l.self.outside ≡ l.fn.self.outside;
      members : l.self.members ≡ l.fn.self.members;
      config : l.self.config ≡ l.fn.self.config;
      byzantine : l.self.byzantine ≡ l.fn.self.byzantine;
    }

abbrev pub decreases-loop-self : goal.decreases-loop-self
decreases-loop-self l = vec_len l.self.outside.network - l.self.first_waiting
