-- Which signatures are good.
use Rattle.std.specs.Prelude.{ℕ, Bool, List}
use Rattle.ord_types.specs.declared.values.Sig.{Sig}

-- which signatures are accepted on which statements
abbrev pub Accepts : Type 0
Accepts = List ℕ → Sig → Bool
