use Rattle.std.proofs.Common.{ap, ◌∙◌, arith, map}
use Rattle.world_model.specs.Worlds as worlds
use Rattle.world_run.specs.Members.{node_of}
use Rattle.world_run.proofs.ListLemmas.{entry_read}
use Rattle.world_run.proofs.world.World.is_waiting.Goals as goal

pub returns : goal.returns
returns c = λ lodged later e has.
    let w = c.args.self.now in
    c.waits.ensures lodged later ∙ ap (worlds.is_waiting (map (node_of w.config lodged) w.members.items) c.args.only.now) (entry_read w.outside.network.items c.args.at c.index.result.now e (omega arith) c.index.ensures has)
