use Rattle.std.proofs.Common.{◌≡◌, true, false, Some, None, slice_get, sym, ap, ◌∙◌, subst}
use Rattle.std.proofs.lemmas.Result.{on_ok_weaker}
use Rattle.gate_log.specs.Arms.{is_reached}
use Rattle.gate_log.specs.declared.image.Image.TheVariants.{Keep}
use Rattle.gate_log.specs.declared.memory.MemDisk.{MemDisk}
use Rattle.bft_node.specs.Lodgings.{Becomes}
use Rattle.bft_node.specs.declared.lodged.Lodged.{Lodged}
use Rattle.world_run.specs.Following.{Crashes}
use Rattle.world_run.specs.declared.member.Member.{Member}
use Rattle.world_run.proofs.CrashLemmas.{crashes_behind, disk_of, read_is}
use Rattle.world_run.proofs.world.World.fail.Goals.{then-index, else-index}
use Rattle.world_run.proofs.world.World.fail.Goals as goal

pub returns-clause-crashes : goal.returns-clause-crashes
returns-clause-crashes g c =
    let at = g.N.Nodes.at c.args.nodes.now in
    let mid = g.N.Nodes.at c.stop-disk.new.self in
    let next = g.N.Nodes.at c.crash.new.nodes in
    let old = c.args.self.now in
    let new = c.crash.new.self in
    let disk = c.stop-disk.result in
    let reached : is_reached disk.arm ≡ true =
    elim c.if-index.branch [
      | then-index w ↦ sym w.stopped.ensures ∙ sym w.value-is ∙ c.if-not-stopped.false
      | else-index w ↦ absurd (let e : true ≡ false = sym c.if-not-stopped.false ∙ w.value-is ∙ w.if-index.false in cc)
    ] in
    on_ok_weaker c.crash.result
    (λ (crashed : (member : Member) → slice_get old.members.items c.args.place ≡ Some member → Crashes mid next old new c.args.place member disk Keep) (member : Member) has (failed : Lodged) there.
    let id = ap (λ (m : Member). m.id) (read_is old.members.items c.args.place member c.index.result.now has c.index.ensures) in
    let same = disk_of (at c.index.result.now.id) failed disk c.stop-disk.ensures.disk (ap at id ∙ there) in
    let gone = subst (λ i. Becomes at mid i None) id c.stop-disk.ensures.gone in (
      subst (λ (d : MemDisk). is_reached d.arm ≡ true) same reached,
      subst (λ (d : MemDisk). Crashes at next old new c.args.place member d Keep) same (crashes_behind at mid next old new c.args.place member disk Keep None gone (crashed member has)),
    ))
    c.crash.ensures
