use Rattle.std.proofs.Common.{ℕ, ◌∙◌, ap, subst}
use Rattle.gate_log.specs.Runs.{Leaves}
use Rattle.gate_log.specs.Settled.{IsWithOrWithout as IsLogWithOrWithout}
use Rattle.gate_log.proofs.Going.{leaves_to}
use Rattle.bft_wal.specs.Opening.{IsWithOrWithout, first_wrong, records, records_in}
use Rattle.bft_wal.specs.Reading.{record_in}
use Rattle.bft_wal.proofs.Opens.{fine_more, records_more, with_or_without}
use Rattle.bft_wal.proofs.RecordLaws.{record_complete}
use Rattle.bft_wal.proofs.wal.Wal.append.Goals as goal

pub returns-in_err-append-clause-any_moment : goal.returns-in_err-append-clause-any_moment
returns-in_err-append-clause-any_moment g c = λ t.
    let is = ap record_in (c.as_slice.ensures ∙ c.in_ok-bytes.ensures) ∙ record_complete c.args.entry.now c.requires.spelling in
    let log = c.args.self.now.log in
    let s = c.requires.settled t in
    leaves_to 0 (IsLogWithOrWithout log.generation log.entries c.as_slice.result.now) (IsWithOrWithout (records c.args.self.now) c.args.entry.now) (with_or_without log.generation log.entries c.as_slice.result.now c.args.entry.now s.are_records is) (g.D.Disk.moments c.args.disk.now) (g.D.Disk.moments c.append.new.disk)
    (subst (λ (file : ℕ). Leaves file (IsLogWithOrWithout log.generation log.entries c.as_slice.result.now) (g.D.Disk.moments c.args.disk.now) (g.D.Disk.moments c.append.new.disk)) s.in_file (c.append.ensures.any_moment t))

pub returns-clause-any_moment : goal.returns-clause-any_moment
returns-clause-any_moment g c = λ t.
    let is = ap record_in (c.as_slice.ensures ∙ c.in_ok-bytes.ensures) ∙ record_complete c.args.entry.now c.requires.spelling in
    let log = c.args.self.now.log in
    let s = c.requires.settled t in
    leaves_to 0 (IsLogWithOrWithout log.generation log.entries c.as_slice.result.now) (IsWithOrWithout (records c.args.self.now) c.args.entry.now) (with_or_without log.generation log.entries c.as_slice.result.now c.args.entry.now s.are_records is) (g.D.Disk.moments c.args.disk.now) (g.D.Disk.moments c.append.new.disk)
    (subst (λ (file : ℕ). Leaves file (IsLogWithOrWithout log.generation log.entries c.as_slice.result.now) (g.D.Disk.moments c.args.disk.now) (g.D.Disk.moments c.append.new.disk)) s.in_file (c.append.ensures.any_moment t))

pub returns-clause-settled : goal.returns-clause-settled
returns-clause-settled g c = λ t.
    let is = ap record_in (c.as_slice.ensures ∙ c.in_ok-bytes.ensures) ∙ record_complete c.args.entry.now c.requires.spelling in
    let log = c.args.self.now.log in
    let s = c.requires.settled t in
    record {
      log = c.in_ok-append.ensures.settled t;
      in_file = c.append.ensures.same.0 ∙ s.in_file;
      are_records = ap (first_wrong 17) c.in_ok-append.ensures.added ∙ fine_more 17 log.entries c.as_slice.result.now c.args.entry.now s.are_records is;
    }

pub returns-clause-added : goal.returns-clause-added
returns-clause-added g c =
    let is = ap record_in (c.as_slice.ensures ∙ c.in_ok-bytes.ensures) ∙ record_complete c.args.entry.now c.requires.spelling in
    ap records_in c.in_ok-append.ensures.added ∙ records_more c.args.self.now.log.entries c.as_slice.result.now c.args.entry.now is
