use Rattle.std.proofs.Common.{◌≡◌, ◌<◌, ℕ, List, length, get_or, ◌∙◌, ap, subst, ◌≤◌}
use Rattle.std.proofs.lemmas.List.{take_all}
use Rattle.bft_wal.specs.Fold.{Tally, counted, tally_of}
use Rattle.bft_wal.specs.Opening.{records_in}
use Rattle.bft_wal.specs.Reading.{record_in}
use Rattle.bft_wal.proofs.Folding.{entry_counted}
use Rattle.bft_wal.proofs.wal.Wal.tally.Goals as goal

pub loop-entry-preserved : goal.loop-entry-preserved
loop-entry-preserved c =
    let items = c.as_slice-entry-items.ensures ∙ c.entries.ensures in
    let within = subst (λ (es : List (List ℕ)). c.loop-entry.entry-index < length es) items c.loop-entry-test.true in
    let is = subst (λ (es : List (List ℕ)). c.entry-item.result ≡ get_or es c.loop-entry.entry-index c.entry-item.result) items c.entry-item.is in
    c.in_ok-count.ensures
    ∙ ap (λ (e : List ℕ). counted c.loop-entry.tally (record_in e)) c.as_slice.ensures
    ∙ ap (λ (t : Tally). counted t (record_in c.entry-item.result)) c.loop-entry.invariant
    ∙ entry_counted c.args.config c.args.height c.args.self.now.log.entries c.loop-entry.entry-index c.entry-item.result within is

pub returns : goal.returns
returns c =
    let items = c.as_slice-entry-items.ensures ∙ c.entries.ensures in
    let past = subst (λ (es : List (List ℕ)). length es ≤ c.loop-entry.entry-index) items c.loop-entry-test.false in
    c.loop-entry.invariant ∙ ap (λ (es : List (List ℕ)). tally_of c.args.config c.args.height (records_in es)) (take_all c.loop-entry.entry-index c.args.self.now.log.entries past)
