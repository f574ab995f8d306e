use Rattle.std.proofs.Common.{◌≡◌, sym, ◌∙◌, ap, subst}
use Rattle.std.specs.Prelude.{Option, IfOk}
use Rattle.std.specs.Option.{option_map, option_or}
use Rattle.block_ledger.specs.declared.fault.NextRefusal.{NextRefusal}
use Rattle.block_ledger.specs.declared.fault.NextRefusal.TheVariants as next_of
use Rattle.block_ledger.specs.Judging.{next_refusal, proof_refusal}
use Rattle.block_ledger.proofs.Refusing.{checked_none, checked_some}
use Rattle.block_ledger.proofs.judge.next_refusal.Goals as goal
use Rattle.block_ledger.proofs.judge.next_refusal.Goals.{in-Err-NoMemory, in-Err, in-Ok}

pub returns-clause-refusal : goal.returns-clause-refusal
returns-clause-refusal g c =
    let accepts = g.V.Verifier.accepts c.args.verifier.now in
    let place = c.args.place.now in
    let rest = proof_refusal accepts place.config (c.args.block.now, c.args.proof.now) in
    let wanted = λ (r : Option NextRefusal). r ≡ next_refusal accepts place (c.args.block.now, c.args.proof.now) in
    elim c.match-check_block.branch [
      | in-Err-NoMemory w ↦ subst (λ r. IfOk r wanted) (sym w.result-is) tt
      | in-Err w ↦
          let refusal = checked_some _ _ (sym c.check_block.ensures.exact ∙ w.in-Err.is) in
          subst (λ r. IfOk r wanted) (sym w.result-is) (ap (λ o. option_or (option_map next_of.Block o) rest) (sym refusal))
      | in-Ok w ↦
          let none = checked_none _ _ (sym c.check_block.ensures.exact ∙ w.in-Ok.is) in
          subst (λ r. IfOk r wanted) (sym w.result-is) (w.proof_refusal.ensures ∙ ap (λ o. option_or (option_map next_of.Block o) rest) (sym none))
    ]
