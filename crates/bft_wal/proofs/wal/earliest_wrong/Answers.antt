use Rattle.std.proofs.Common.{Some, refl, sym, ◌∙◌}
use Rattle.bft_wal.specs.Opening.{first_wrong}
use Rattle.bft_wal.proofs.Opens.{opens_broken, told_wrong}
use Rattle.bft_wal.proofs.wal.earliest_wrong.Goals as goal

pub returns-clause-value : goal.returns-clause-value
returns-clause-value g c = λ t.
    let entries = c.in_ok-entries.entries in
    let told = told_wrong c.in-Some.earlier entries (first_wrong 17 entries) c.in_ok-entries.ensures.small refl (sym c.in-Some.is ∙ c.in_ok-first_wrong.ensures.value) in
    opens_broken _ c.args.at entries (Some c.in-Some.earlier) (c.requires t) (c.in_ok-entries.ensures.value t) told
