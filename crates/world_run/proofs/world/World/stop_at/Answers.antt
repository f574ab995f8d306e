use Rattle.std.proofs.Common.{refl, sym, ap, ◌∙◌}
use Rattle.std.specs.Prelude.{string_bytes}
use Rattle.world_run.specs.declared.member.Member.{Member}
use Rattle.world_run.proofs.CrashLemmas.{read_is}
use Rattle.world_run.proofs.TellLemmas.{armed_sound, armed_there, armed_turned}
use Rattle.world_run.proofs.WaitingLemmas.{waits_set}
use Rattle.world_run.proofs.world.World.stop_at.Goals as goal

pub invariant_of-self : goal.invariant_of-self
invariant_of-self g c =
    let w = c.args.self.now in
    let there = c.requires.there in
    let same = read_is w.members.items c.args.place there.0 c.index_mut-member.result.now there.1 c.index_mut-member.ensures.value in
    record {
      within = w.within;
      passed = waits_set w.config w.config w.first_waiting w.members.items w.outside.network.items c.args.place there.0 _ there.1 (ap (λ (m : Member). m.id) same) (λ runs. ap (λ (m : Member). m.runs) (sym same) ∙ runs) w.passed;
    }

pub returns-clause-sound : goal.returns-clause-sound
returns-clause-sound g c =
    armed_sound (g.N.Nodes.at c.args.nodes.now) (g.N.Nodes.at c.arm.new.self) c.args.self.now _ c.args.place c.index_mut-member.result.now c.args.call c.args.image c.requires.sound c.requires.there
    c.index_mut-member.ensures.value c.arm.ensures refl refl refl

pub returns-clause-arms : goal.returns-clause-arms
returns-clause-arms g c =
    armed_there (g.N.Nodes.at c.args.nodes.now) (g.N.Nodes.at c.arm.new.self) c.args.self.now c.args.place c.index_mut-member.result.now c.args.call c.args.image c.requires.sound
    c.index_mut-member.ensures.value c.arm.ensures

pub returns-clause-turned : goal.returns-clause-turned
returns-clause-turned g c =
    armed_turned (g.N.Nodes.at c.args.nodes.now) (g.N.Nodes.at c.arm.new.self) c.args.self.now c.args.place c.index_mut-member.result.now c.args.call c.args.image (string_bytes c.put_stop_at.new.text) c.requires.sound
    c.index_mut-member.ensures.value c.arm.ensures c.in_ok-put_stop_at.ensures
