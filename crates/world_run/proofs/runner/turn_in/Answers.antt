use Rattle.world_run.proofs.RunnerLemmas.{line_played, line_said}
use Rattle.world_run.proofs.SaysLemmas.{sound_after}
use Rattle.world_run.proofs.runner.turn_in.Goals as goal

pub returns-in-Genesis-clause-sound : goal.returns-in-Genesis-clause-sound
returns-in-Genesis-clause-sound g c = sound_after c.refuse.result (g.N.Nodes.at c.args.nodes.now) c.args.world.now c.refuse.new.self c.refuse.ensures.keeps c.requires.sound

pub returns-in-Genesis-clause-plays : goal.returns-in-Genesis-clause-plays
returns-in-Genesis-clause-plays g c =
    line_said c.refuse.result (g.N.Nodes.at c.args.nodes.now) c.args.world.now c.refuse.new.self c.args.command _ c.in-Genesis.is c.refuse.ensures.keeps
    c.refuse.ensures.says

pub returns-in-Submit-clause-sound : goal.returns-in-Submit-clause-sound
returns-in-Submit-clause-sound g c = sound_after c.submit.result (g.N.Nodes.at c.args.nodes.now) c.args.world.now c.submit.new.world c.submit.ensures.keeps c.requires.sound

pub returns-in-Submit-clause-plays : goal.returns-in-Submit-clause-plays
returns-in-Submit-clause-plays g c =
    line_said c.submit.result (g.N.Nodes.at c.args.nodes.now) c.args.world.now c.submit.new.world c.args.command _ c.in-Submit.is c.submit.ensures.keeps
    c.submit.ensures.says

pub returns-in-Raw-clause-sound : goal.returns-in-Raw-clause-sound
returns-in-Raw-clause-sound g c = sound_after c.submit_bytes.result (g.N.Nodes.at c.args.nodes.now) c.args.world.now c.submit_bytes.new.world c.submit_bytes.ensures.keeps c.requires.sound

pub returns-in-Raw-clause-plays : goal.returns-in-Raw-clause-plays
returns-in-Raw-clause-plays g c =
    line_said c.submit_bytes.result (g.N.Nodes.at c.args.nodes.now) c.args.world.now c.submit_bytes.new.world c.args.command _ c.in-Raw.is c.submit_bytes.ensures.keeps
    (rw c.as_slice.ensures at c.submit_bytes.ensures.says)

pub returns-in-Show-clause-plays : goal.returns-in-Show-clause-plays
returns-in-Show-clause-plays g c =
    line_played c.show.result (g.N.Nodes.at c.args.nodes.now) (g.N.Nodes.at c.show.new.nodes) c.args.world.now c.show.new.world c.args.command _ c.in-Show.is
    c.show.ensures.plays

pub returns-in-Tick-clause-plays : goal.returns-in-Tick-clause-plays
returns-in-Tick-clause-plays g c =
    line_played c.tick.result (g.N.Nodes.at c.args.nodes.now) (g.N.Nodes.at c.tick.new.nodes) c.args.world.now c.tick.new.world c.args.command _ c.in-Tick.is
    c.tick.ensures.plays

pub returns-in-Deliver-clause-plays : goal.returns-in-Deliver-clause-plays
returns-in-Deliver-clause-plays g c =
    line_played c.deliver.result (g.N.Nodes.at c.args.nodes.now) (g.N.Nodes.at c.deliver.new.nodes) c.args.world.now c.deliver.new.self c.args.command _ c.in-Deliver.is
    (rw c.as_slice-in-Deliver.ensures at c.deliver.ensures.plays)

pub returns-in-Flush-clause-plays : goal.returns-in-Flush-clause-plays
returns-in-Flush-clause-plays g c =
    line_played c.flush.result (g.N.Nodes.at c.args.nodes.now) (g.N.Nodes.at c.flush.new.nodes) c.args.world.now c.flush.new.self c.args.command _ c.in-Flush.is
    c.flush.ensures.plays

pub returns-in-Propose-clause-plays : goal.returns-in-Propose-clause-plays
returns-in-Propose-clause-plays g c =
    line_played c.propose.result (g.N.Nodes.at c.args.nodes.now) (g.N.Nodes.at c.args.nodes.now) c.args.world.now c.propose.new.world c.args.command _ c.in-Propose.is
    c.propose.ensures.plays

pub returns-in-Vote-clause-sound : goal.returns-in-Vote-clause-sound
returns-in-Vote-clause-sound g c = sound_after c.vote.result (g.N.Nodes.at c.args.nodes.now) c.args.world.now c.vote.new.world c.vote.ensures.keeps c.requires.sound

pub returns-in-Vote-clause-plays : goal.returns-in-Vote-clause-plays
returns-in-Vote-clause-plays g c =
    line_said c.vote.result (g.N.Nodes.at c.args.nodes.now) c.args.world.now c.vote.new.world c.args.command _ c.in-Vote.is c.vote.ensures.keeps
    c.vote.ensures.says

pub returns-in-Lie-clause-sound : goal.returns-in-Lie-clause-sound
returns-in-Lie-clause-sound g c = sound_after c.lie.result (g.N.Nodes.at c.args.nodes.now) c.args.world.now c.lie.new.world c.lie.ensures.keeps c.requires.sound

pub returns-in-Lie-clause-plays : goal.returns-in-Lie-clause-plays
returns-in-Lie-clause-plays g c =
    line_said c.lie.result (g.N.Nodes.at c.args.nodes.now) c.args.world.now c.lie.new.world c.args.command _ c.in-Lie.is c.lie.ensures.keeps
    c.lie.ensures.says

pub returns-in-Seal-clause-sound : goal.returns-in-Seal-clause-sound
returns-in-Seal-clause-sound g c = sound_after c.seal.result (g.N.Nodes.at c.args.nodes.now) c.args.world.now c.seal.new.world c.seal.ensures.keeps c.requires.sound

pub returns-in-Seal-clause-plays : goal.returns-in-Seal-clause-plays
returns-in-Seal-clause-plays g c =
    line_said c.seal.result (g.N.Nodes.at c.args.nodes.now) c.args.world.now c.seal.new.world c.args.command _ c.in-Seal.is c.seal.ensures.keeps
    (rw c.as_slice-in-Seal.ensures at c.seal.ensures.says)

pub returns-in-Stop-clause-plays : goal.returns-in-Stop-clause-plays
returns-in-Stop-clause-plays g c =
    line_played c.stop.result (g.N.Nodes.at c.args.nodes.now) (g.N.Nodes.at c.stop.new.nodes) c.args.world.now c.stop.new.world c.args.command _ c.in-Stop.is
    c.stop.ensures.plays

pub returns-in-StopAt-clause-plays : goal.returns-in-StopAt-clause-plays
returns-in-StopAt-clause-plays g c = rw c.in-StopAt.is c.stop_at.ensures.plays

pub returns-in-Start-clause-sound : goal.returns-in-Start-clause-sound
returns-in-Start-clause-sound g c = sound_after c.start.result (g.N.Nodes.at c.args.nodes.now) c.args.world.now c.start.new.world c.start.ensures.keeps c.requires.sound

pub returns-in-Start-clause-plays : goal.returns-in-Start-clause-plays
returns-in-Start-clause-plays g c =
    line_said c.start.result (g.N.Nodes.at c.args.nodes.now) c.args.world.now c.start.new.world c.args.command _ c.in-Start.is c.start.ensures.keeps
    c.start.ensures.says
