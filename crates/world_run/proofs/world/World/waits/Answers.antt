use Rattle.std.proofs.Common.{◌≡◌, ◌∙◌, ap, false, not, sym, true}
use Rattle.world_model.specs.Worlds as worlds
use Rattle.world_run.specs.Entries.{entry_of}
use Rattle.world_run.proofs.world.World.waits.Goals.{then-not-entry, else-not-entry}
use Rattle.world_run.proofs.world.World.waits.Goals as goal

pub returns-then-is_named : goal.returns-then-is_named
returns-then-is_named c = λ lodged later.
    elim c.if-not-entry.branch [
      | then-not-entry w ↦
          let named : worlds.is_named c.args.only.now (entry_of c.args.entry.now) ≡ true = sym w.is_named.ensures ∙ sym w.value-is ∙ c.if-is_named.true in
          rw (named, w.if-not-entry.true) (c.is_running.ensures lodged later)
      | else-not-entry w ↦ absurd (let e : true ≡ false = sym c.if-is_named.true ∙ w.value-is ∙ ap not w.if-not-entry.false in cc)
    ]
