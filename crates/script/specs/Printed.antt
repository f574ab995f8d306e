-- How a command is printed: the format of a line, told without a reader.
use Rattle.std.specs.Prelude.{ℕ, ◌+◌, ◌/◌, ◌%◌, ◌==◌, ◌++◌, List, [], ◌∷◌, map, nat_lt, if◌then◌else◌, Option, Some, None, codes}
use Rattle.std.specs.List.{join_with_byte}
use Rattle.std.specs.Fmt.{decimal}
use Rattle.script.specs.declared.command.Command.{Command}
use Rattle.script.specs.declared.command.Command.TheVariants.{Genesis, Submit, Raw, Tick, Deliver, Flush, Show, Propose, Vote, Lie, Seal, Stop, StopAt, Start}
use Rattle.script.specs.declared.command.Image.{Image}
use Rattle.script.specs.declared.command.Image.TheVariants.{Keep, Undo, Fill}
use Rattle.script.specs.declared.command.Range.{Range}
use Rattle.script.specs.declared.command.VoteKind.{VoteKind}
use Rattle.script.specs.declared.command.VoteKind.TheVariants.{Prepare, Commit}

-- a hex digit in lower case
abbrev pub hex_digit : ℕ → ℕ
hex_digit n = if nat_lt n 10 then 48 + n else 87 + n

-- two hex digits a byte
abbrev pub hex_pairs : List ℕ → List ℕ
hex_pairs [] = []
hex_pairs (b ∷ more) = hex_digit (b / 16) ∷ hex_digit (b % 16) ∷ hex_pairs more

-- HEX: bytes in pairs of hex digits, a dash for none
abbrev pub hex_text : List ℕ → List ℕ
hex_text [] = codes "-"
hex_text (b ∷ more) = hex_pairs (b ∷ more)

-- IDS: ids joined by commas
abbrev pub ids_text : List ℕ → List ℕ
ids_text ids = join_with_byte 44 (map decimal ids)

-- FIRST-LAST
abbrev pub first_last_text : Range → List ℕ
first_last_text range = decimal range.first ++ 45 ∷ decimal range.last

-- NUMBER where the first number is the last one, otherwise FIRST-LAST
abbrev pub range_text : Range → List ℕ
range_text range = if range.first == range.last then decimal range.first else first_last_text range

-- RANGES: ranges joined by commas
abbrev pub ranges_text : List Range → List ℕ
ranges_text ranges = join_with_byte 44 (map range_text ranges)

abbrev pub vote_text : VoteKind → List ℕ
vote_text Prepare = codes "prepare"
vote_text Commit = codes "commit"

-- MODE: what the disk of a stopped node is left with
abbrev pub image_text : Image → List ℕ
image_text Keep = codes "keep"
image_text Undo = codes "drop"
image_text (Fill byte) = codes "fill=" ++ hex_pairs (byte ∷ [])

-- no word where there are no ids
abbrev pub byzantine_words : List ℕ → List (List ℕ)
byzantine_words [] = []
byzantine_words (id ∷ more) = (codes "byz=" ++ ids_text (id ∷ more)) ∷ []

-- no word where no ids are given
abbrev pub only_words : Option (List ℕ) → List (List ℕ)
only_words None = []
only_words (Some ids) = ids_text ids ∷ []

-- the words of a command
abbrev pub printed_words : Command → List (List ℕ)
printed_words (Genesis members byzantine) =
    codes "genesis" ∷ codes "bft" ∷ ids_text members ∷ codes "batch=1" ∷ byzantine_words byzantine
printed_words (Submit node client serial payload) =
    codes "submit" ∷ decimal node ∷ decimal client ∷ decimal serial ∷ hex_text payload ∷ []
printed_words (Raw node bytes) = codes "raw" ∷ decimal node ∷ hex_text bytes ∷ []
printed_words (Tick node count) = codes "tick" ∷ decimal node ∷ decimal count ∷ []
printed_words (Deliver ranges) = codes "deliver" ∷ ranges_text ranges ∷ []
printed_words (Flush only) = codes "flush" ∷ only_words only
printed_words (Show node number) = codes "show" ∷ decimal node ∷ decimal number ∷ []
printed_words (Propose from to view client serial payload) =
    codes "byz-propose" ∷ decimal from ∷ decimal to ∷ decimal view ∷ decimal client ∷ decimal serial
    ∷ hex_text payload ∷ []
printed_words (Vote from to kind view entry) =
    codes "byz-vote" ∷ decimal from ∷ decimal to ∷ vote_text kind ∷ decimal view ∷ decimal entry ∷ []
printed_words (Lie from to bytes) = codes "lie" ∷ decimal from ∷ decimal to ∷ hex_text bytes ∷ []
printed_words (Seal id bytes) = codes "seal" ∷ decimal id ∷ hex_text bytes ∷ []
printed_words (Stop node image) = codes "stop" ∷ decimal node ∷ image_text image ∷ []
printed_words (StopAt node call image) =
    codes "stop-at" ∷ decimal node ∷ decimal call ∷ image_text image ∷ []
printed_words (Start node) = codes "start" ∷ decimal node ∷ []

-- the line of a command: its words with one blank between each two
abbrev pub printed : Command → List ℕ
printed command = join_with_byte 32 (printed_words command)
