use Rattle.std.proofs.Common.{rules, ◌≡◌, ℕ, cond, length, Option, Some, None, ap, sym, ◌∙◌, subst, arith}
use Rattle.std.proofs.lemmas.Bool.{eqb-true, eqb-false, le-leb, lt-leb}
use Rattle.safety_model.specs.Blocks.{Block}
use Rattle.bft_wire.specs.declared.reason.Reason.TheVariants as reason
use Rattle.view_model.specs.declared.act.Act.TheVariants as act_of
use Rattle.view_model.specs.Acts.{accept_act, proposal}
use Rattle.view_model.specs.Answers.{act_or}
use Rattle.view_model.specs.Checks.{is_next_block}
use Rattle.view_core.proofs.ProposalLemmas.{propose_refused, propose_empty, propose_made}
use Rattle.view_core.proofs.held.ViewState.placed_proposal.Goals as goal

pub returns-in-Some : goal.returns-in-Some
returns-in-Some c =
    record {
      answer = propose_refused c.args.place.now c.args.self.now c.args.offer c.in-Some.reason c.in-Some.ensures;
      after = search rules;
      err = search rules;
    }

pub returns-then-is_empty : goal.returns-then-is_empty
returns-then-is_empty c =
    let none : length c.args.offer ≡ 0 = eqb-true (length c.args.offer) 0 (sym c.if-is_empty.ensures) in
    record {
      answer = propose_empty c.args.place.now c.args.self.now c.args.offer c.in_default.ensures (lt-leb 1 (length c.args.offer) (omega arith));
      after = search rules;
      err = search rules;
    }

pub returns-in_ok-accept-in-Some-2 : goal.returns-in_ok-accept-in-Some-2
returns-in_ok-accept-in-Some-2 c =
    let some : length c.args.offer ≡ 0 → ⊥ = eqb-false (length c.args.offer) 0 (sym c.if-is_empty.ensures) in
    let made = subst (λ (v : ℕ). c.in_ok-block.field-0 ≡ cond (is_next_block c.args.place.now (proposal c.args.place.now v c.args.offer)) (Some (proposal c.args.place.now v c.args.offer)) None) (ap (λ w. w.view) c.self.view_is) c.in_ok-block.ensures in
    record {
      answer = ap (λ (o : Option Block). act_or (accept_act o) (act_of.Nothing reason.BadBlock)) (sym c.in-Some-2.is)
          ∙ propose_made c.args.place.now c.args.self.now c.args.offer c.in_ok-block.field-0 c.in_default.ensures
          (le-leb 1 (length c.args.offer) (omega arith)) made;
      after = search rules;
      err = search rules;
    }

pub returns-in-None : goal.returns-in-None
returns-in-None c =
    let some : length c.args.offer ≡ 0 → ⊥ = eqb-false (length c.args.offer) 0 (sym c.if-is_empty.ensures) in
    let made = subst (λ (v : ℕ). c.in_ok-block.field-0 ≡ cond (is_next_block c.args.place.now (proposal c.args.place.now v c.args.offer)) (Some (proposal c.args.place.now v c.args.offer)) None) (ap (λ w. w.view) c.self.view_is) c.in_ok-block.ensures in
    record {
      answer = ap (λ (o : Option Block). act_or (accept_act o) (act_of.Nothing reason.BadBlock)) (sym c.in-None.is)
          ∙ propose_made c.args.place.now c.args.self.now c.args.offer c.in_ok-block.field-0 c.in_default.ensures
          (le-leb 1 (length c.args.offer) (omega arith)) made;
      after = search rules;
      err = search rules;
    }
