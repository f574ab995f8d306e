use Rattle.std.proofs.Common.{sym, ◌∙◌, arith}
use Rattle.safety_model.specs.Reports.{sig_eq}
use Rattle.safety_model.proofs.Pairs.{pairs_end, pairs_step}
use Rattle.safety_model.proofs.reports.same_sigs.Goals as goal

pub returns-then-not-same_sig : goal.returns-then-not-same_sig
returns-then-not-same_sig c =
    let inv = c.loop-place.invariant in
    let step = pairs_step sig_eq c.args.a.now c.args.b.now c.loop-place.place c.index-a-place.result c.index-b-place.result c.loop-place-test.true (omega arith) c.index-a-place.is c.index-b-place.is in
    sym (inv.1 ∙ rw (sym c.same_sig.ensures ∙ c.if-not-same_sig.true) at step)

pub loop-place-preserved : goal.loop-place-preserved
loop-place-preserved c =
    let inv = c.loop-place.invariant in
    let step = pairs_step sig_eq c.args.a.now c.args.b.now c.loop-place.place c.index-a-place.result c.index-b-place.result c.loop-place-test.true (omega arith) c.index-a-place.is c.index-b-place.is in
    (omega arith, inv.1 ∙ rw (sym c.same_sig.ensures ∙ c.if-not-same_sig.false) at step)

pub returns : goal.returns
returns c =
    let inv = c.loop-place.invariant in
    sym (inv.1 ∙ pairs_end sig_eq c.args.a.now c.args.b.now c.loop-place.place (omega arith) (omega arith))
