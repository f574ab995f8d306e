use Rattle.std.proofs.Common.{ap}
use Rattle.view_core.proofs.FitLemmas.{kept_short}
use Rattle.view_core.proofs.held.ViewState.settle.Goals as goal

pub returns-then-self-place-2-clause-short : goal.returns-then-self-place-2-clause-short
returns-then-self-place-2-clause-short c =
    kept_short _ _ _ _ c.self.inside.kept.items c.args.self.now.kept c.self.invariant.0 (ap (λ v. v.kept) c.self.view_is)

pub returns-else-self-place-2-clause-short : goal.returns-else-self-place-2-clause-short
returns-else-self-place-2-clause-short c =
    kept_short _ _ _ _ c.self.inside.kept.items c.args.self.now.kept c.self.invariant.0 (ap (λ v. v.kept) c.self.view_is)

pub returns-else-self-place-clause-short : goal.returns-else-self-place-clause-short
returns-else-self-place-clause-short c =
    kept_short _ _ _ _ c.self.inside.kept.items c.args.self.now.kept c.self.invariant.0 (ap (λ v. v.kept) c.self.view_is)
