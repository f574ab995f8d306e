use Rattle.std.proofs.Common.{◌∙◌, sym, subst, Err}
use Rattle.block_ledger.specs.Answers.{ChecksNext}
use Rattle.block_ledger.specs.Judging.{next_refusal}
use Rattle.block_ledger.proofs.Adding.{refusal_told}
use Rattle.block_ledger.proofs.append.check_next.Goals as goal

pub returns-in-Ok-Some : goal.returns-in-Ok-Some
returns-in-Ok-Some g c =
    let accepts = g.V.Verifier.accepts c.args.verifier.now in
    let told = refusal_told accepts c.args.place.now (c.args.block.now, c.args.proof.now) c.in-Ok-Some.refusal (sym c.in-Ok-Some.ensures.refusal ∙ c.in-Ok-Some.field-0-is) in
    subst (λ f. ChecksNext (next_refusal accepts c.args.place.now (c.args.block.now, c.args.proof.now)) (Err f)) (sym c.next_fault.ensures) told
