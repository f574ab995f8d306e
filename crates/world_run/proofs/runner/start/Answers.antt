use Rattle.std.proofs.Common.{◌≡◌, ℕ, Some, ap, eqb, position, subst, sym, ◌∙◌}
use Rattle.std.proofs.lemmas.Option.{same_Some}
use Rattle.node_model.specs.Cores.{Core}
use Rattle.world_model.specs.Turns.{start_turn}
use Rattle.world_model.specs.Worlds as worlds
use Rattle.world_run.specs.Mapped.{world_of}
use Rattle.world_run.specs.declared.member.Member.{Member}
use Rattle.world_run.proofs.CommandLemmas.{at_stopped_one, running_says, stopped_absent_says}
use Rattle.world_run.proofs.GoingLemmas.{Turned-same}
use Rattle.world_run.proofs.ListLemmas.{where_stopped}
use Rattle.world_run.proofs.runner.start.Goals as goal

pub start-requires : goal.start-requires
start-requires c =
    let stands = where_stopped c.args.node c.args.world.now.members.items c.in-Stopped.place (sym c.in-Stopped.ensures) in
    record {
      there = (stands.member, stands.there);
      first = λ member is.
          subst (λ (id : ℕ). position (λ (other : Member). eqb other.id id) c.args.world.now.members.items ≡ Some c.in-Stopped.place)
          (sym stands.named ∙ ap (λ (m : Member). m.id) (same_Some stands.member member (sym stands.there ∙ is))) stands.first;
    }

pub returns-in-Absent-clause-says : goal.returns-in-Absent-clause-says
returns-in-Absent-clause-says c =
    stopped_absent_says c.refuse_absent.result c.args.world.now c.refuse_absent.new.self c.args.node (λ v found. start_turn c.args.world.now.outside.number v found) (sym c.in-Absent.ensures) c.refuse_absent.ensures.says

pub returns-in-Running-clause-says : goal.returns-in-Running-clause-says
returns-in-Running-clause-says c =
    running_says c.refuse.result c.args.world.now c.refuse.new.self c.args.node c.in-Running._place (λ v found. start_turn c.args.world.now.outside.number v found) (sym c.in-Running.ensures) c.refuse.ensures.says

pub returns-in_ok-start-in-Stopped-clause-says : goal.returns-in_ok-start-in-Stopped-clause-says
returns-in_ok-start-in-Stopped-clause-says c = λ at later.
    let w = c.args.world.now in
    let stands = where_stopped c.args.node w.members.items c.in-Stopped.place (sym c.in-Stopped.ensures) in
    Turned-same _ _ _ _ _ _
    (sym (at_stopped_one at w later w.outside.number c.args.node c.in-Stopped.place (λ (found : worlds.Node Core). start_turn w.outside.number (world_of at w later) found) stands))
    (c.in_ok-start-in-Stopped.ensures.says stands.member stands.there at later)
