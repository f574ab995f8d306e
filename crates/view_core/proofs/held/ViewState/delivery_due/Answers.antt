use Rattle.std.proofs.Common.{◌≡◌, Some, sym, ap, ◌∙◌}
use Rattle.std.specs.Option.{option_map}
use Rattle.view_model.specs.Acts.{commits}
use Rattle.view_core.proofs.DueLemmas.{delivery_none, delivery_some}
use Rattle.view_core.specs.declared.held.Accepted.{Accepted}
use Rattle.view_core.proofs.held.ViewState.delivery_due.Goals as goal

pub returns-then-not-is_delivery_due : goal.returns-then-not-is_delivery_due
returns-then-not-is_delivery_due c =
    let accepted : c.args.self.now.accepted ≡ Some c.in-Some.accepted.block = sym (ap (λ v. v.accepted) c.self.view_is) ∙ ap (option_map (λ (a : Accepted). a.block)) c.in-Some.is in
    delivery_none c.args.place.now c.args.self.now c.in-Some.accepted.block c.in-Some.accepted.digest (sym c.is_raft.ensures ∙ c.if-is_raft.false) accepted c.in-Some.accepted.is_hash (sym c.is_delivery_due.ensures ∙ c.if-not-is_delivery_due.true)

pub returns-in_ok-copy-in-Some : goal.returns-in_ok-copy-in-Some
returns-in_ok-copy-in-Some c =
    let accepted : c.args.self.now.accepted ≡ Some c.in-Some.accepted.block = sym (ap (λ v. v.accepted) c.self.view_is) ∙ ap (option_map (λ (a : Accepted). a.block)) c.in-Some.is in
    let kept : c.self.inside.kept.items ≡ c.args.self.now.kept = ap (λ v. v.kept) c.self.view_is in
    let sigs : c.in_ok-sigs-in-Some.sigs ≡ commits c.args.place.now c.args.self.now c.in-Some.accepted.digest = cc (kept, c.in_ok-sigs-in-Some.ensures, c.as_slice.ensures.value, c.as_slice-members.ensures) in
    delivery_some c.args.place.now c.args.self.now c.in-Some.accepted.block c.in-Some.accepted.digest _ _ _ (sym c.is_raft.ensures ∙ c.if-is_raft.false) accepted c.in-Some.accepted.is_hash (sym c.is_delivery_due.ensures ∙ c.if-not-is_delivery_due.false) c.in_ok-copy-in-Some.ensures (ap (λ v. v.view) c.self.view_is) sigs
