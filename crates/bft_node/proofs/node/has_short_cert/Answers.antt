use Rattle.std.proofs.Common.{subst, sym, ◌∙◌}
use Rattle.std.proofs.lemmas.Option.{same_Some}
use Rattle.ord_types.specs.Lengths.{FitsCert}
use Rattle.ord_types.proofs.Fitting.{fits_cert}
use Rattle.bft_node.proofs.node.has_short_cert.Goals as goal

pub returns-in-Some : goal.returns-in-Some
returns-in-Some c = λ t x e. subst FitsCert (same_Some _ x (sym c.in-Some.is ∙ e)) (fits_cert _ (c.is_cert.ensures t))
