use Rattle.std.proofs.Common.{◌∙◌, ap, subst}
use Rattle.ord_types.specs.Grammar.{IsNumber}
use Rattle.ord_types.specs.declared.lists.NoMemory.{NoMemory}
use Rattle.ord_types.specs.declared.values.Place.{Place}
use Rattle.view_core.specs.Places.{IsPlace}
use Rattle.bft_wal.specs.Fold.{durable_of}
use Rattle.bft_wal.proofs.Opens.{no_value}
use Rattle.node_model.specs.Cores.{found_in}
use Rattle.bft_node.specs.Returning.{view_at}
use Rattle.bft_node.specs.Stores.{held_of}
use Rattle.bft_node.specs.declared.live.Running.{Running}
use Rattle.bft_node.proofs.OpenLemmas.{sound_of, state_opened}
use Rattle.bft_node.proofs.live.Running.of.Goals as goal

pub resumed-requires : goal.resumed-requires
resumed-requires c = subst IsPlace c.place-place.ensures (c.is_place.ensures.place c.if-not-is_place.false)

pub returns-in_err-view-clause-id : goal.returns-in_err-view-clause-id
returns-in_err-view-clause-id c = no_value {T = Running} {E = NoMemory} _ c.from_residual-in_err-view.result _ c.from_residual-in_err-view.ensures.1

pub returns-in_err-view-clause-store : goal.returns-in_err-view-clause-store
returns-in_err-view-clause-store c = no_value {T = Running} {E = NoMemory} _ c.from_residual-in_err-view.result _ c.from_residual-in_err-view.ensures.1

pub returns-in_err-view-clause-sound : goal.returns-in_err-view-clause-sound
returns-in_err-view-clause-sound c = no_value {T = Running} {E = NoMemory} _ c.from_residual-in_err-view.result _ c.from_residual-in_err-view.ensures.1

pub returns-in_err-view-clause-state : goal.returns-in_err-view-clause-state
returns-in_err-view-clause-state c = no_value {T = Running} {E = NoMemory} _ c.from_residual-in_err-view.result _ c.from_residual-in_err-view.ensures.1

pub returns-clause-sound : goal.returns-clause-sound
returns-clause-sound c =
    let r : Running = record { alloc = c.args.alloc; id = c.args.id; store = c.args.store; view = c.in_ok-view.view; found = c.found_in-found.result } in
    let numbers = c.is_place.ensures.numbers c.if-not-is_place.false in
    sound_of r c.in_ok-durable.durable
    (c.in_ok-durable.ensures ∙ ap (λ (p : Place). durable_of p.config.number p.height (held_of c.args.store).records) c.place-place.ensures) c.in_ok-view.ensures
    (subst IsPlace c.place-place.ensures (c.is_place.ensures.place c.if-not-is_place.false)) (subst (λ (p : Place). IsNumber p.config.number) c.place-place.ensures numbers.0) numbers.1

pub returns-clause-state : goal.returns-clause-state
returns-clause-state c =
    let r : Running = record { alloc = c.args.alloc; id = c.args.id; store = c.args.store; view = c.in_ok-view.view; found = c.found_in-found.result } in
    state_opened r c.in_ok-durable.durable
    (c.in_ok-durable.ensures ∙ ap (λ (p : Place). durable_of p.config.number p.height (held_of c.args.store).records) c.place-place.ensures) c.in_ok-view.ensures
    (c.found_in-found.ensures c.args.id ∙ ap (λ (p : Place). found_in p (view_at c.args.id p c.in_ok-durable.durable)) c.place-place.ensures)
