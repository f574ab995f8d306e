use Rattle.std.proofs.Common.{◌≡◌, ℕ, ◌≤◌, List, ◌++◌, length, take, drop, subst, sym, ◌∙◌, ap, arith}
use Rattle.gate_log.specs.Disk.{State, now}
use Rattle.gate_log.proofs.AppendRun.{still}
use Rattle.gate_log.proofs.Wholes.{one_piece, whole_buffer}
use Rattle.gate_log.proofs.whole.read_whole.Goals as goal

pub loop-disk-preserved : goal.loop-disk-preserved
loop-disk-preserved g c =
    let i = c.loop-disk.invariant in
    let into = c.read.new.into in
    let buffer : take c.loop-disk.piece.len (into ++ drop (length into) c.loop-disk.piece.items) ≡ into = whole_buffer _ _ c.loop-disk.piece.items (omega arith) (omega arith) in
    let added : c.extend_from_slice.new.self.items ≡ c.loop-disk.bytes.items ++ take c.in_ok-count.count into =
    c.in_ok-extend_from_slice.ensures.items ∙ ap (λ (l : List ℕ). c.loop-disk.bytes.items ++ take c.in_ok-count.count l) (c.deref.ensures.value ∙ buffer) in (
      c.read.ensures.tells ∙ i.0,
      omega (arith, i.1, c.read.ensures.cause.later),
      ap length buffer ∙ omega arith,
      λ t. c.read.ensures.same (still _ _ i.0 t) ∙ i.3 t,
      λ t.
          let reads = (now (g.D.Disk.moments c.args.disk.now) c.args.file).reads in
          let same : (now (g.D.Disk.moments c.loop-disk.disk) c.args.file).reads ≡ reads = ap (λ (m : List State). (now m c.args.file).reads) (i.3 t) in
          let place : c.len-in-loop-disk-2.result ≡ length c.loop-disk.bytes.items = omega arith in
          let got : take c.in_ok-count.count into ≡ take c.in_ok-count.count (drop (length c.loop-disk.bytes.items) reads) =
          c.in_ok-count.ensures.bytes (still _ _ i.0 t)
          ∙ ap (λ (l : List ℕ). take c.in_ok-count.count (drop c.len-in-loop-disk-2.result l)) same
          ∙ ap (λ (k : ℕ). take c.in_ok-count.count (drop k reads)) place in
          let fits : c.in_ok-count.count ≤ length into = c.in_ok-count.ensures.bound in
          subst (λ (l : List ℕ). l ≡ take (length l) reads) (sym added) (one_piece reads c.loop-disk.bytes.items into c.in_ok-count.count (i.4 t) fits got),
      i.5,
    )
