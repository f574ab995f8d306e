use Rattle.std.proofs.Common.{◌≡◌, ℕ, [], ◌∷◌, ap, ◌∙◌, subst, sym}
use Rattle.gate_log.specs.Disk.{File, now, MayLeave, synced_file}
use Rattle.gate_log.specs.History.{states}
use Rattle.gate_log.specs.Arms.{image_in_force}
use Rattle.gate_log.specs.Calls.{file_of, left_by, start, states_fine, start_fine}
use Rattle.gate_log.specs.declared.files.Files.{Files}
use Rattle.gate_log.specs.declared.image.Image.{Image}
use Rattle.gate_log.proofs.ImageLemmas.{left_by_left, below_three}
use Rattle.gate_log.proofs.memory.MemDisk.crash.Goals as goal

pub returns-clause-image : goal.returns-clause-image
returns-clause-image c = λ f within.
    let h = c.args.self.history in
    let image = image_in_force c.args.self.arm c.args.image in
    let files : Files = record { first = c.in_ok-image.field-0; second = c.in_ok-image-2.field-0; third = c.in_ok-image-3.field-0 } in
    let in_force : (g : ℕ) → left_by c.image-image.result (now (states h) g) ≡ left_by image (now (states h) g) = λ g. ap (λ (i : Image). left_by i (now (states h) g)) c.image-image.ensures in
    c.in_ok-new.ensures f
    ∙ ap synced_file (below_three (λ g. file_of files g ≡ left_by image (now (states h) g))
    (c.in_ok-image.ensures ∙ in_force 0) (c.in_ok-image-2.ensures ∙ in_force 1) (c.in_ok-image-3.ensures ∙ in_force 2) f within)

pub returns-clause-left : goal.returns-clause-left
returns-clause-left c = λ f within.
    let h = c.args.self.history in
    let image = c.image-image.result in
    let files : Files = record { first = c.in_ok-image.field-0; second = c.in_ok-image-2.field-0; third = c.in_ok-image-3.field-0 } in
    let is = ap (λ (file : File). file.reads) (c.in_ok-new.ensures f)
    ∙ below_three (λ g. file_of files g ≡ left_by image (now (states h) g)) c.in_ok-image.ensures c.in_ok-image-2.ensures c.in_ok-image-3.ensures f within in
    subst (MayLeave (now (states h) f)) (sym is) (left_by_left image (now (states h) f) (states_fine (start h.began ∷ []) h.calls.items (start_fine h.began) f))
