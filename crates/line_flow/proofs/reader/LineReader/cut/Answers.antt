use Rattle.std.proofs.Common.{arith, slice_range, refl, eq-eqb}
use Rattle.line_flow.proofs.LineLemmas.{part_cut, IsUnbroken-append, IsUnbroken-take, IsUnbroken-whole, lines_long, cut_long}
use Rattle.std.proofs.lemmas.Bool.{eqb-true}
use Rattle.std.proofs.lemmas.List.{append_assoc}
use Rattle.line_flow.proofs.reader.LineReader.cut.Goals as goal

pub returns-then-at-room-clause-long : goal.returns-then-at-room-clause-long
returns-then-at-room-clause-long c =
    let reader = c.args.self.now in
    let first = rw c.deref.ensures.value at c.in-Some.ensures in
    λ _ before more. cut_long reader.line.items (slice_range reader.chunk.items reader.from reader.to) more c.in-Some.at c.args.limit before
    (IsUnbroken-take (slice_range reader.chunk.items reader.from reader.to) c.in-Some.at (λ k low within e. first.0.before k (omega arith) low (eq-eqb _ 10 e)))
    (omega arith) (omega arith)

pub returns-then-piece-room-clause-long : goal.returns-then-piece-room-clause-long
returns-then-piece-room-clause-long c =
    let reader = c.args.self.now in
    let none = rw c.deref.ensures.value at c.in-None.ensures in
    let long = rw c.deref.ensures.value at c.if-piece-room.true in
    λ _ before more. lines_long reader.line.items (slice_range reader.chunk.items reader.from reader.to) more c.args.limit before
    (IsUnbroken-whole (slice_range reader.chunk.items reader.from reader.to) (λ k within e. none k (omega arith) within (eq-eqb _ 10 e)))
    (omega arith)

pub returns-in_ok-extend_from_slice-in-Some-clause-last : goal.returns-in_ok-extend_from_slice-in-Some-clause-last
returns-in_ok-extend_from_slice-in-Some-clause-last c =
    let reader = c.args.self.now in
    let first = rw c.deref.ensures.value at c.in-Some.ensures in
    let split = part_cut reader.chunk.items reader.from reader.to c.in-Some.at 10 (omega arith) (omega arith) first.0.high (eqb-true _ _ first.1) in
    λ _. rw (c.in_ok-extend_from_slice-in-Some.ensures.items, c.deref.ensures.value, append_assoc, split) refl

pub returns-in_ok-extend_from_slice-in-Some-clause-unbroken : goal.returns-in_ok-extend_from_slice-in-Some-clause-unbroken
returns-in_ok-extend_from_slice-in-Some-clause-unbroken c =
    let reader = c.args.self.now in
    let first = rw c.deref.ensures.value at c.in-Some.ensures in
    λ before. rw (c.in_ok-extend_from_slice-in-Some.ensures.items, c.deref.ensures.value) (IsUnbroken-append _ _ before (IsUnbroken-take (slice_range reader.chunk.items reader.from reader.to) c.in-Some.at (λ k low within e. first.0.before k (omega arith) low (eq-eqb _ 10 e))))

pub returns-in_ok-extend_from_slice-in-None-clause-unbroken : goal.returns-in_ok-extend_from_slice-in-None-clause-unbroken
returns-in_ok-extend_from_slice-in-None-clause-unbroken c =
    let reader = c.args.self.now in
    let none = rw c.deref.ensures.value at c.in-None.ensures in
    λ before. rw (c.in_ok-extend_from_slice-in-None.ensures.items, c.deref.ensures.value) (IsUnbroken-append _ _ before (IsUnbroken-whole (slice_range reader.chunk.items reader.from reader.to) (λ k within e. none k (omega arith) within (eq-eqb _ 10 e))))
