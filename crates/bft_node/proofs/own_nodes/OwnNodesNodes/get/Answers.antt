use Rattle.std.proofs.Common.{refl, subst, ap, ◌∙◌}
use Rattle.std.proofs.lemmas.Option.{same_Some}
use Rattle.gate_log.specs.History.{states}
use Rattle.gate_log.specs.declared.memory.MemDisk.{MemDisk}
use Rattle.bft_node.specs.Lodgings.{IsRead}
use Rattle.bft_node.specs.declared.lodged.Lodged.{Lodged}
use Rattle.bft_node.proofs.OpenLemmas.{apart}
use Rattle.bft_node.proofs.own_nodes.OwnNodesNodes.get.Goals as goal

pub returns-clause-reads : goal.returns-clause-reads
returns-clause-reads c = λ old there.
    let was : Lodged = c.in-Some.lodged.now in
    let new : Lodged = record { node = was.node; disk = c.get.new.disk } in
    let updates = (c.get_mut.follows.holds new).3 c.requires in
    let read : IsRead was new =
    record {
      node = refl;
      disk = record {
        states_same = ap (λ (disk : MemDisk). states disk.history) c.get.ensures.same;
        arm = ap (λ (disk : MemDisk). disk.arm) c.get.ensures.same;
      };
    } in (
      new,
      subst (λ (l : Lodged). IsRead l new) (same_Some was old (c.in-Some.ensures.value ∙ there)) read,
      record { there = updates.1; others = λ other not. updates.2 other (apart c.args.node other not) },
    )
