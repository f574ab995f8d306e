use Rattle.std.proofs.Common.{sym, ◌∙◌, ap, Err, arith}
use Rattle.chan_config.specs.declared.submissions.Malformed.TheVariants.{TooLarge}
use Rattle.chan_config.proofs.SubmissionLaws.{change_is, fitting_is, too_large_is}
use Rattle.chan_config.proofs.submissions.judge_request.Goals as goal

pub returns-then-not-is_ordinary-clause-exact : goal.returns-then-not-is_ordinary-clause-exact
returns-then-not-is_ordinary-clause-exact g c =
    change_is (g.V.Verifier.accepts c.args.verifier.now) c.args.config.now c.args.request.now (sym c.is_ordinary.ensures ∙ c.if-not-is_ordinary.true)

pub returns-then-config-size-clause-exact : goal.returns-then-config-size-clause-exact
returns-then-config-size-clause-exact g c =
    too_large_is (g.V.Verifier.accepts c.args.verifier.now) c.args.config.now c.args.request.now (sym c.is_ordinary.ensures ∙ c.if-not-is_ordinary.false) (omega (arith, c.size-size.ensures, c.if-config-size.true))
    ∙ ap (λ n. Err (TooLarge n)) (sym c.size-size.ensures)

pub returns-clause-exact : goal.returns-clause-exact
returns-clause-exact g c =
    fitting_is (g.V.Verifier.accepts c.args.verifier.now) c.args.config.now c.args.request.now (sym c.is_ordinary.ensures ∙ c.if-not-is_ordinary.false) (omega (arith, c.size-size.ensures, c.if-config-size.false))
