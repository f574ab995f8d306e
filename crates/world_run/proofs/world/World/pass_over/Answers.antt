use Rattle.std.proofs.Common.{◌<◌, [], arith, length, map, sym, ◌∙◌, None}
use Rattle.std.proofs.lemmas.List.{length-map}
use Rattle.world_model.specs.Worlds as worlds
use Rattle.world_run.specs.Entries.{entry_of}
use Rattle.world_run.specs.Members.{node_of}
use Rattle.world_run.specs.Waiting.{nowhere}
use Rattle.world_run.proofs.ListLemmas.{item_at}
use Rattle.world_run.proofs.WaitingLemmas.{none_past}
use Rattle.world_run.proofs.world.World.pass_over.Goals as goal

pub invariant_of-self-clause-passed : goal.invariant_of-self-clause-passed
invariant_of-self-clause-passed c =
    let w = c.loop-self.self in
    let within : w.first_waiting < length (map entry_of w.outside.network.items) = omega (arith, length-map w.outside.network.items entry_of) in
    let e = item_at (map entry_of w.outside.network.items) w.first_waiting within in
    none_past (worlds.is_waiting (map (node_of w.config nowhere) w.members.items) None) (map entry_of w.outside.network.items) w.first_waiting e.0 e.1 (sym (c.is_waiting.ensures nowhere [] e.0 e.1) ∙ c.if-not-is_waiting.true) w.passed
