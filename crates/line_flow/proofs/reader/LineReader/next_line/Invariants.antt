use Rattle.std.proofs.Common.{◌≡◌, ◌≤◌, ◌-◌, ◌++◌, IsSome, length}
use Rattle.line_flow.specs.Lines.{IsUnbroken}
use Rattle.line_flow.specs.Reader.{ahead}
use Rattle.line_flow.proofs.reader.LineReader.next_line.Given as goal

abbrev pub invariant-pieces : goal.invariant-pieces
invariant-pieces g l = record {
  tells : IsSome (g.S.Source.left l.fn.source) → IsSome (g.S.Source.left l.source);
  whole : IsSome (g.S.Source.left l.fn.source) → l.self.line.items ++ ahead l.self (g.S.Source.left l.source) ≡ ahead l.fn.self (g.S.Source.left l.fn.source);
  unbroken : IsUnbroken l.self.line.items;
  within : length l.self.line.items ≤ l.limit;
  later : g.S.Source.faults l.fn.source ≤ g.S.Source.faults l.source;
}

abbrev pub decreases-pieces : goal.decreases-pieces
decreases-pieces g l = l.limit - length l.self.line.items
