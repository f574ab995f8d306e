-- The law of entries: each has one spelling, and what is spelled is read.
use Rattle.std.proofs.Common.{◌≡◌, ◌++◌, length, Ok, refl, sym, ap, subst, ◌∙◌}
use Rattle.ord_types.specs.Faults.{whole}
use Rattle.ord_types.specs.Spelling.{block_text, proof_text}
use Rattle.ord_types.proofs.Laws.{Law, Spelled, last, read_whole, said_as, step}
use Rattle.ord_types.proofs.ValueLaws.{block_law, proof_law}
use Rattle.block_ledger.specs.Chains.{Entry}
use Rattle.block_ledger.specs.Entries.{HasEntrySpelling, entry_at, entry_text, read_entry}

pub entry_law : Law entry_at (Spelled HasEntrySpelling entry_text)
unfolding entry_at
entry_law =
    said_as
    (λ e t h.
    let w = h.more.whole in
    record {
      may = subst HasEntrySpelling (sym w) (record { block = h.may; proof = h.more.may });
      is = h.is ∙ ap (λ u. block_text h.first ++ u) h.more.is ∙ ap entry_text (sym w);
    })
    (λ e t h.
    record {
      first = e.0;
      behind = proof_text e.1;
      may = h.may.block;
      is = h.is;
      more = record { last = e.1; may = h.may.proof; is = refl; whole = refl };
    })
    (step block_law (λ block. last (λ proof. (block, proof)) proof_law))

-- what is spelled is read
pub reads_entry : (e : Entry) → HasEntrySpelling e → read_entry (entry_text e) ≡ Ok e
reads_entry e h = ap (whole (length (entry_text e))) (read_whole entry_law e h)
