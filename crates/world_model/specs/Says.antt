-- Turns that say something, one after the other, and the network's limit.
use Rattle.std.specs.Prelude.{ℕ, nat_lt, List, ◌++◌, length, Result, Ok, Err, if◌then◌else◌}
use Rattle.ord_types.specs.declared.values.ReqKind.TheVariants.{Ordinary}
use Rattle.safety_model.specs.Blocks.{Request}
use Rattle.script_play.specs.declared.ending.Ending.{Ending}
use Rattle.script_play.specs.declared.ending.Ending.TheVariants.{Limit}
use Rattle.script_play.specs.Turns.{Turn}
use Rattle.world_model.specs.Worlds.{World}
use Rattle.world_model.specs.Texts.{limit_text, refused_text}

abbrev pub says : {W : Type 0} → List ℕ → W → Turn W
says text w = record { printed = text; next = Ok w }

-- a turn, and one from the world after it
abbrev pub then_on : {V W : Type 0} → List ℕ → Result V Ending → (V → Turn W) → Turn W
then_on printed (Ok w) rest = record { printed = printed ++ (rest w).printed; next = (rest w).next }
then_on printed (Err ending) rest = record { printed = printed; next = Err ending }

abbrev pub goes_on : {V W : Type 0} → Turn V → (V → Turn W) → Turn W
goes_on turn rest = then_on turn.printed turn.next rest

abbrev pub refuses : {W : Type 0} → ℕ → List ℕ → W → Turn W
refuses number reason w = says (refused_text number reason) w

-- THE NETWORK has its limit: the blocks of an event, and the line of the limit where it is passed

abbrev pub most_entries : ℕ
most_entries = 1000000

abbrev pub within_limit : {S T : Type 0} → ℕ → List ℕ → World S T → Turn (World S T)
within_limit number blocks w =
    if nat_lt most_entries (length w.network)
    then record { printed = blocks ++ limit_text number most_entries; next = Err (Limit most_entries) }
    else says blocks w

-- AN ORDINARY REQUEST

abbrev pub ordinary : ℕ → ℕ → List ℕ → Request
ordinary client serial payload =
    record { kind = Ordinary; id = record { client = client; serial = serial }; payload = payload }
