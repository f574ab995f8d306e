-- The words of a command.
use Rattle.std.specs.Prelude.{ℕ, ◌-◌, ◌^◌, Bool, ◌&&◌, ◌||◌, is_some, List, [], ◌∷◌, if◌then◌else◌, codes}
use Rattle.std.specs.Str.{bytes_eq}
use Rattle.script.specs.Fields.{number_of}
use Rattle.orderer.specs.declared.commands.Asked.{Asked}
use Rattle.orderer.specs.declared.commands.Asked.TheVariants.{World, Later, Unknown}

-- the commands with two words: `world-gen NUMBER STEPS`, `audit SETTINGS LEDGER` and `genesis SETTINGS LEDGER` come with later parts
unfoldable pub is_later_command : List ℕ → List ℕ → List ℕ → Bool
is_later_command command first second =
    bytes_eq command (codes "audit") || bytes_eq command (codes "genesis")
    || (bytes_eq command (codes "world-gen") && is_some (number_of (2 ^ 64 - 1) first) && is_some (number_of 100000 second))

-- what words ask for: `world FILE` plays a script
unfoldable pub asked : List (List ℕ) → Asked
asked [] = Unknown
asked (command ∷ []) = Unknown
asked (command ∷ file ∷ []) = if bytes_eq command (codes "world") then World else Unknown
asked (command ∷ first ∷ second ∷ []) = if is_later_command command first second then Later else Unknown
asked (command ∷ first ∷ second ∷ third ∷ more) = Unknown
