use Rattle.std.proofs.Common.{◌≡◌, None, refl, ◌∙◌, ap}
use Rattle.bft_wal.specs.Fold.{block_of, newest_below, newest_prepared, newest_votes, with_block}
use Rattle.bft_wal.proofs.Opens.{no_value}
use Rattle.bft_wal.proofs.fold.fold.Goals as goal

pub returns-in_err-block : goal.returns-in_err-block
returns-in_err-block c = no_value _ c.from_residual-in_err-block.result _ c.from_residual-in_err-block.ensures.1

pub returns-in_err-prepared : goal.returns-in_err-prepared
returns-in_err-prepared c = no_value _ c.from_residual-in_err-prepared.result _ c.from_residual-in_err-prepared.ensures.1

pub returns : goal.returns
returns c =
    let t = c.args.tally in
    let accepted = c.in_ok-accepted.ensures ∙ ap (newest_votes 32 None) c.as_slice.ensures in
    let block = c.in_ok-block.ensures ∙ ap block_of (c.newest_below.ensures ∙ ap (newest_below None) c.as_slice-2.ensures) in
    let vote : c.newest_prepared-vote.result ≡ newest_prepared t.accepted t.prepared = rw (c.as_slice-3.ensures, c.as_slice-4.ensures) at c.newest_prepared-vote.ensures in
    let prepared : c.in_ok-prepared.prepared ≡ with_block t.accepted (newest_prepared t.accepted t.prepared) = rw (c.as_slice-5.ensures, vote) at c.in_ok-prepared.ensures in
    rw (accepted, block, prepared, c.unwrap_or-term.ensures) refl
