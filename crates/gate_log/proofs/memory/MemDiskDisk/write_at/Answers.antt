use Rattle.std.proofs.Common.{[], ◌∷◌, length, ap, subst, sym}
use Rattle.gate_log.specs.Disk.{Wrote, Tried}
use Rattle.gate_log.specs.History.{states}
use Rattle.gate_log.specs.Calls.{start, states_fine, start_fine}
use Rattle.gate_log.specs.declared.memory.MemDisk.{MemDisk}
use Rattle.gate_log.specs.declared.history.History.{History}
use Rattle.gate_log.proofs.HistoryLemmas.{ok_of}
use Rattle.gate_log.proofs.ImageLemmas.{made_but_failed}
use Rattle.gate_log.proofs.memory.MemDiskDisk.write_at.Goals as goal

pub returns-then-listed-clause-err : goal.returns-then-listed-clause-err
returns-then-listed-clause-err c =
    let h = c.args.self.now.history in
    let fine = states_fine (start h.began ∷ []) h.calls.items (start_fine h.began) c.args.file in
    let counted = ap (λ (d : MemDisk). d.history) c.count_call-listed.ensures.made in
    let wrote = subst (λ (k : History). Wrote c.args.file c.args.at c.args.bytes.now (states k) (states c.write_at.new.self)) counted (ok_of c.write_at.result c.if-is_err.ensures.value c.write_at.ensures.ok) in
    subst (λ (d : MemDisk). Tried c.args.file c.args.at (length c.args.bytes.now) (states h) (states d.history)) (sym c.fault-then-listed.ensures.counted) (made_but_failed c.args.file c.args.at c.args.bytes.now _ _ fine wrote)

pub returns-then-is_reached-2-clause-err : goal.returns-then-is_reached-2-clause-err
returns-then-is_reached-2-clause-err c =
    let h = c.args.self.now.history in
    let fine = states_fine (start h.began ∷ []) h.calls.items (start_fine h.began) c.args.file in
    let counted = ap (λ (d : MemDisk). d.history) c.count_call-listed.ensures.made in
    let wrote = subst (λ (k : History). Wrote c.args.file c.args.at c.args.bytes.now (states k) (states c.write_at.new.self)) counted (ok_of c.write_at.result c.if-is_err.ensures.value c.write_at.ensures.ok) in
    subst (λ (d : MemDisk). Tried c.args.file c.args.at (length c.args.bytes.now) (states h) (states d.history)) (sym c.fault-then-is_reached-2.ensures.counted) (made_but_failed c.args.file c.args.at c.args.bytes.now _ _ fine wrote)
