use Rattle.std.proofs.Common.{◌≡◌, ℕ, false, Global, Vec, Some, slice_get, slice_set, ap, ◌∙◌, ◌++◌, arith, refl, subst}
use Rattle.std.specs.Prelude.{string_bytes}
use Rattle.std.proofs.lemmas.Option.{slice_get_within}
use Rattle.bft_node.specs.Lodgings.{Becomes, IsOpenedOn, accepts_of}
use Rattle.world_model.specs.Texts.{stopped_text}
use Rattle.world_run.specs.Moves.{setup_of}
use Rattle.world_run.specs.declared.member.Member.{Member}
use Rattle.world_run.specs.declared.member.Outside.{Outside}
use Rattle.world_run.proofs.CrashLemmas.{read_is}
use Rattle.world_run.proofs.WaitingLemmas.{waits_set}
use Rattle.world_run.proofs.world.World.crash.Goals as goal

pub index_mut-member-requires : goal.index_mut-member-requires
index_mut-member-requires g c =
    let there = c.requires.there in
    let members = c.open.new.self.members in
    let has = ap (λ (v : Vec Member Global). slice_get v.items c.args.place) c.in_ok-open.ensures.members ∙ there.1 in
    omega (arith, slice_get_within members.items c.args.place there.0 has, members.ok.0)

pub invariant_of-self : goal.invariant_of-self
invariant_of-self g c =
    let w = c.open.new.self in
    let there = c.requires.there in
    let has = ap (λ (v : Vec Member Global). slice_get v.items c.args.place) c.in_ok-open.ensures.members ∙ there.1 in
    let same = read_is w.members.items c.args.place there.0 c.index_mut-member.result.now has c.index_mut-member.ensures.value in
    record {
      within = w.within;
      passed = waits_set w.config w.config w.first_waiting w.members.items w.outside.network.items c.args.place there.0 _ has (ap (λ (m : Member). m.id) same) (λ e. absurd (cc)) w.passed;
    }

pub returns : goal.returns
returns g c member has =
    let w = c.open.new.self in
    let old = c.args.self.now in
    let opens = c.in_ok-open.ensures.opens in
    let read = read_is old.members.items c.args.place member c.index.result.now has c.index.ensures in
    let id : c.index.result.now.id ≡ member.id = ap (λ (m : Member). m.id) read in
    let members = c.in_ok-open.ensures.members in
    let there = ap (λ (v : Vec Member Global). slice_get v.items c.args.place) members ∙ has in
    let again = read_is w.members.items c.args.place member c.index_mut-member.result.now there c.index_mut-member.ensures.value in
    let outside = c.in_ok-open.ensures.outside in
    record {
      left = c.in_ok-disk.disk;
      crash = record { image_is = c.in_ok-disk.ensures.image; may_be = c.in_ok-disk.ensures.left };
      node = opens.0;
      opened = subst (λ (i : ℕ). IsOpenedOn (setup_of old.config i) (accepts_of old.outside.seat) c.in_ok-disk.disk opens.0) id opens.1;
      becomes = subst (λ (i : ℕ). Becomes (g.N.Nodes.at c.args.nodes.now) (g.N.Nodes.at c.open.new.nodes) i (Some opens.0)) id opens.2;
      moved = record { id = c.index_mut-member.result.now.id; pool = c.clear.new.self; runs = false; armed = false };
      id = ap (λ (m : Member). m.id) again;
      runs = refl;
      armed = refl;
      pool = c.clear.ensures.items;
      members = ap (λ (v : Vec Member Global). slice_set v.items c.args.place (record { id = c.index_mut-member.result.now.id; pool = c.clear.new.self; runs = false; armed = false })) members;
      config = c.in_ok-open.ensures.config;
      byzantine = c.in_ok-open.ensures.byzantine;
      network = ap (λ (o : Outside). o.network) outside;
      seals = ap (λ (o : Outside). o.seat.seals) outside;
      number = ap (λ (o : Outside). o.number) outside;
      text =
          c.in_ok-put_stopped.ensures
          ∙ ap (λ (o : Outside). string_bytes o.text ++ stopped_text o.number c.index.result.now.id) outside
          ∙ ap (λ (i : ℕ). string_bytes old.outside.text ++ stopped_text old.outside.number i) id;
    }
