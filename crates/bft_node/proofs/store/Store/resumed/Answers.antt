use Rattle.std.proofs.Common.{◌∙◌, ap, subst, sym}
use Rattle.ord_types.specs.declared.lists.NoMemory.{NoMemory}
use Rattle.ord_types.specs.declared.values.Place.{Place}
use Rattle.view_model.specs.Acts.{View}
use Rattle.bft_wal.proofs.Opens.{no_value}
use Rattle.view_core.specs.Places.{IsPlace}
use Rattle.view_core.specs.Resuming.{resumed}
use Rattle.bft_node.proofs.store.Store.resumed.Goals as goal

pub returns-in_err-view : goal.returns-in_err-view
returns-in_err-view c = no_value {T = View} {E = NoMemory} _ c.from_residual-in_err-view.result _ c.from_residual-in_err-view.ensures.1

pub resume-requires : goal.resume-requires
resume-requires c = subst IsPlace (sym c.place-place.ensures) c.requires

pub returns : goal.returns
returns c =
    c.resume.ensures ∙ ap (λ (w : View). resumed w.me c.place-place.result.now c.in_ok-held.held) c.in_ok-view.ensures
    ∙ ap (λ (p : Place). resumed c.args.me p c.in_ok-held.held) c.place-place.ensures ∙ c.in_ok-held.ensures c.args.me
