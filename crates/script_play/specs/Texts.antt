-- The lines that end a run.
use Rattle.std.specs.Prelude.{ℕ, List, ◌++◌, codes, decimal}

-- the place counts from 1
abbrev pub malformed_text : ℕ → ℕ → List ℕ
malformed_text number place = decimal number ++ codes " malformed at " ++ decimal place ++ codes "\n"

abbrev pub not_built_text : ℕ → List ℕ
not_built_text number = decimal number ++ codes " not built\n"

abbrev pub limit_text : ℕ → ℕ → List ℕ
limit_text number limit = decimal number ++ codes " limit " ++ decimal limit ++ codes "\n"

-- a configuration has so many Byzantine members, above its bound
unfoldable pub too_many_faulty_text : ℕ → ℕ → ℕ → ℕ → List ℕ
too_many_faulty_text number config count bound =
    decimal number ++ codes " too many faulty: configuration " ++ decimal config ++ codes " has " ++ decimal count ++ codes ", bound " ++ decimal bound ++ codes "\n"
