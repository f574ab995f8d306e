-- What a line reader has before it.
use Rattle.std.specs.Prelude.{ℕ, List, slice_range, Option, ◌++◌}
use Rattle.ord_types.specs.Told.{told}
use Rattle.line_flow.specs.declared.reader.LineReader.{LineReader}

-- what was read from the source and not given yet
abbrev pub unread : LineReader → List ℕ
unread reader = slice_range reader.chunk.items reader.from reader.to

-- that, and what the source has left
abbrev pub ahead : LineReader → Option (List ℕ) → List ℕ
ahead reader left = unread reader ++ told left
