-- The part of a log in front of its closed gate.
use Rattle.std.specs.Prelude.{◌≡◌, ℕ, List, [], ◌∷◌, ◌++◌, length, Result}
use Rattle.gate_log.specs.Format.{behind, walk, read_as, reading, gate_after}

-- entries in front of those behind them
abbrev pub onto : List (List ℕ) → Result (List (List ℕ)) ℕ → Result (List (List ℕ)) ℕ
onto [] walked = walked
onto (entry ∷ entries) walked = behind entry (onto entries walked)

-- These bytes, and then a gate, are a log of these entries and of those that follow from that gate on.
pub record IsFront (generation : ℕ) (entries : List (List ℕ)) (front : List ℕ) : Type 0 where
  pub size : length front ≡ gate_after entries
  pub leads : (gate : ℕ) (rest : List ℕ) → reading (front ++ gate ∷ rest) ≡ read_as generation (onto entries (walk (length (gate ∷ rest)) (gate_after entries) (gate ∷ rest)))
