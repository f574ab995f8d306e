use Rattle.std.proofs.Common.{arith}
use Rattle.ord_types.proofs.Answering.{found_of_all, stays_all}
use Rattle.block_ledger.specs.Entries.{entry_at}
use Rattle.block_ledger.proofs.EntryLaws.{entry_law}
use Rattle.block_ledger.proofs.entry.read_entry.Goals as goal

pub all_of-requires : goal.all_of-requires
all_of-requires c = stays_all entry_law c.args.bytes.now c.new-reader.result c.next_entry-read.result c.next_entry-read.new.reader c.new-reader.ensures (λ i. omega (arith, c.type_inv.bytes i)) c.next_entry-read.ensures

pub returns-clause-found : goal.returns-clause-found
returns-clause-found c =
    found_of_all entry_law c.args.bytes.now c.new-reader.result c.all_of.result c.new-reader.ensures (λ i. omega (arith, c.type_inv.bytes i)) (c.all_of.ensures (entry_at c.new-reader.result) c.next_entry-read.ensures)
