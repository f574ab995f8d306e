use Rattle.node_model.specs.declared.event.Event.TheVariants.{Tick}
use Rattle.world_run.proofs.EventLemmas.{took_number, took_sound, took_tick}
use Rattle.world_run.proofs.world.World.tick_at.Goals as goal

pub returns-clause-sound : goal.returns-clause-sound
returns-clause-sound g c =
    took_sound c.event.result (g.N.Nodes.at c.args.nodes.now) (g.N.Nodes.at c.event.new.nodes) c.args.self.now c.event.new.self c.args.place (Tick c.in_ok-offer.offer) c.requires.runs c.event.ensures.takes

pub returns-clause-plays : goal.returns-clause-plays
returns-clause-plays g c =
    took_tick c.event.result (g.N.Nodes.at c.args.nodes.now) (g.N.Nodes.at c.event.new.nodes) c.args.self.now c.event.new.self c.args.place c.in_ok-offer.offer c.in_ok-offer.ensures c.event.ensures.takes

pub returns-clause-number : goal.returns-clause-number
returns-clause-number g c =
    took_number c.event.result (g.N.Nodes.at c.args.nodes.now) (g.N.Nodes.at c.event.new.nodes) c.args.self.now c.event.new.self c.args.place (Tick c.in_ok-offer.offer) c.requires.runs c.event.ensures.takes
