use Rattle.std.proofs.Common.{◌≡◌, Some, slice_get}
use Rattle.std.proofs.lemmas.Result.{on_ok_weaker}
use Rattle.world_run.specs.Following.{Crashes}
use Rattle.world_run.specs.declared.member.Member.{Member}
use Rattle.world_run.proofs.TellLemmas.{gone_there, stopped_plays, stopped_sound, stops_here}
use Rattle.world_run.proofs.world.World.stop.Goals as goal

pub crash-requires-clause-gone : goal.crash-requires-clause-gone
crash-requires-clause-gone g c =
    gone_there (g.N.Nodes.at c.stop-disk.new.self) (g.N.Nodes.at c.args.nodes.now) c.args.self.now.members.items c.args.place c.index.result.now c.index.ensures c.stop-disk.ensures.gone

pub returns-clause-sound : goal.returns-clause-sound
returns-clause-sound g c =
    let old = c.args.self.now in
    let there = c.requires.there in
    stopped_sound c.crash.result (g.N.Nodes.at c.args.nodes.now) (g.N.Nodes.at c.crash.new.nodes) old c.crash.new.self c.args.place there
    (stops_here c.crash.result (g.N.Nodes.at c.args.nodes.now) (g.N.Nodes.at c.stop-disk.new.self) (g.N.Nodes.at c.crash.new.nodes) old c.crash.new.self c.args.place c.index.result.now c.stop-disk.result c.args.image
    c.nodes_are_found.ensures.crash c.requires.sound c.index.ensures c.stop-disk.ensures.disk c.stop-disk.ensures.gone c.crash.ensures)

pub returns-clause-plays : goal.returns-clause-plays
returns-clause-plays g c =
    let old = c.args.self.now in
    stopped_plays c.crash.result (g.N.Nodes.at c.args.nodes.now) (g.N.Nodes.at c.crash.new.nodes) old c.crash.new.self c.args.place
    (stops_here c.crash.result (g.N.Nodes.at c.args.nodes.now) (g.N.Nodes.at c.stop-disk.new.self) (g.N.Nodes.at c.crash.new.nodes) old c.crash.new.self c.args.place c.index.result.now c.stop-disk.result c.args.image
    c.nodes_are_found.ensures.crash c.requires.sound c.index.ensures c.stop-disk.ensures.disk c.stop-disk.ensures.gone c.crash.ensures)

pub returns-clause-number : goal.returns-clause-number
returns-clause-number g c =
    let there = c.requires.there in
    on_ok_weaker c.crash.result
    (λ (crashes : (member : Member) → slice_get c.args.self.now.members.items c.args.place ≡ Some member
    → Crashes (g.N.Nodes.at c.stop-disk.new.self) (g.N.Nodes.at c.crash.new.nodes) c.args.self.now c.crash.new.self c.args.place member c.stop-disk.result c.args.image). (crashes there.0 there.1).number)
    c.crash.ensures
