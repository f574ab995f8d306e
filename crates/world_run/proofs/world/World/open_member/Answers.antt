use Rattle.std.proofs.Common.{Global, Vec, true, false, [], ◌∷◌, ◌++◌, ap, refl, ◌∙◌}
use Rattle.world_run.specs.declared.member.Member.{Member}
use Rattle.world_run.specs.declared.member.Outside.{Outside}
use Rattle.world_run.specs.declared.network.Entry.{Entry}
use Rattle.world_run.proofs.FirstLemmas.{nothing_waits}
use Rattle.world_run.proofs.world.World.open_member.Goals as goal

pub invariant_of-self : goal.invariant_of-self
invariant_of-self g c =
    let w = c.open.new.self in
    let network = ap (λ (v : Vec Entry Global). v.items) (ap (λ (o : Outside). o.network) c.in_ok-open.ensures.outside) ∙ c.requires.network in
    record { within = w.within; passed = nothing_waits w.config w.first_waiting c.push.new.self.items w.outside.network.items network }

pub returns : goal.returns
returns g c =
    let old = c.args.self.now in
    let opened = c.in_ok-open.ensures in
    record {
      disk = c.in_ok-disk.disk;
      empty = c.in_ok-disk.ensures;
      node = opened.opens.0;
      opened = opened.opens.1;
      becomes = opened.opens.2;
      member = record { id = c.args.id; pool = c.new-2.result; runs = true; armed = false };
      named = refl;
      pool = c.new-2.ensures.items;
      runs = refl;
      armed = refl;
      members = c.in_ok-push.ensures.items ∙ ap (λ (v : Vec Member Global). v.items ++ record { id = c.args.id; pool = c.new-2.result; runs = true; armed = false } ∷ []) opened.members;
      config = opened.config;
      byzantine = opened.byzantine;
      network = ap (λ (o : Outside). o.network) opened.outside;
      seals = ap (λ (o : Outside). o.seat.seals) opened.outside;
    }
