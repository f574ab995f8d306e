use Rattle.std.proofs.Common.{◌∙◌, get_or, sym}
use Rattle.safety_model.proofs.Histories.{counted_yes, counted_no, is_in_signers}
use Rattle.safety_model.proofs.history.signed_of.Goals as goal
use Rattle.safety_model.proofs.history.signed_of.Goals.{then-has_signed, else-has_signed}

pub loop-member-preserved : goal.loop-member-preserved
loop-member-preserved c =
    elim c.if-has_signed.branch [
      | then-has_signed w ↦ counted_yes _ _ _ _ _ _ c.loop-member-test.true c.loop-member.invariant (c.has_signed.ensures ∙ sym (is_in_signers (get_or c.args.members.now c.loop-member.member-index 0) c.args.sigs.now)) w.if-has_signed.true w.count-is
      | else-has_signed w ↦ counted_no _ _ _ _ _ _ c.loop-member-test.true c.loop-member.invariant (c.has_signed.ensures ∙ sym (is_in_signers (get_or c.args.members.now c.loop-member.member-index 0) c.args.sigs.now)) w.if-has_signed.false w.count-is
    ]
