-- What a line means.
use Rattle.std.specs.Prelude.{ℕ, ◌-◌, ◌+◌, ◌^◌, ◌==◌, List, [], ◌∷◌, length, if◌then◌else◌, Result, Ok, Err, codes, Option, Some, None}
use Rattle.std.specs.Str.{bytes_eq}
use Rattle.script.specs.declared.command.Command.{Command}
use Rattle.script.specs.declared.command.Command.TheVariants.{Genesis, Submit, Raw, Tick, Deliver, Flush, Show, Propose, Vote, Lie, Seal, Stop as StopNode, StopAt, Start}
use Rattle.script.specs.declared.command.Options.{Options}
use Rattle.script.specs.declared.command.Stop.{Stop}
use Rattle.script.specs.declared.command.Stop.TheVariants.{Malformed, NotBuilt}
use Rattle.script.specs.declared.command.Meaning.{Meaning}
use Rattle.script.specs.declared.command.Meaning.TheVariants.{Nothing, Means, Wrong}
use Rattle.script.specs.Words.{Word, words}
use Rattle.script.specs.Fields.{number_of, id_of, ticks_of, hex_of, payload_of, ids_of, given_ids_of, given_batch_of, byzantine_of, vote_kind_of, device_call_of, image_of, entry_of, ranges_of}
use Rattle.script.specs.Reading.{◌>>=◌, field, field_or, optional, no_more}
use Rattle.script.specs.Later.{is_later}

-- a word that is this one
abbrev pub same_as : List ℕ → List ℕ → Option (Unit {0})
same_as wanted text = if bytes_eq text wanted then Some tt else None

-- what stands behind the batch
abbrev pub options_behind : Option ℕ → List ℕ × List Word → Options × List Word
options_behind batch byzantine = (record { batch = batch; byzantine = byzantine.0 }, byzantine.1)

-- `[batch=N] [byz=IDS]`: the options in this order, each of which may be left out
abbrev pub options_of : List Word → Options × List Word
options_of w =
    let batch = optional None given_batch_of w in options_behind batch.0 (optional [] byzantine_of batch.1)

-- `genesis bft IDS [batch=N] [byz=IDS]`; where no word is `batch=1`, it belongs to a later part
unfoldable pub genesis_line : ℕ → List Word → Result Command Stop
genesis_line past w = do
  kind ← field (same_as (codes "bft")) past w
  members ← field ids_of past kind.1
  options ← Ok (options_of members.1)
  none ← no_more options.1
  Ok (Genesis members.0 options.0.byzantine)

-- `submit NODE CLIENT SERIAL HEX`
unfoldable pub submit_line : ℕ → List Word → Result Command Stop
submit_line past w = do
  node ← field id_of past w
  client ← field (number_of (2 ^ 32 - 1)) past node.1
  serial ← field (number_of (2 ^ 64 - 1)) past client.1
  payload ← field hex_of past serial.1
  none ← no_more payload.1
  Ok (Submit node.0 client.0 serial.0 payload.0)

-- `raw NODE HEX`
unfoldable pub raw_line : ℕ → List Word → Result Command Stop
raw_line past w = do
  node ← field id_of past w
  bytes ← field hex_of past node.1
  none ← no_more bytes.1
  Ok (Raw node.0 bytes.0)

-- `tick NODE [N]`, once where there is no N
unfoldable pub tick_line : ℕ → List Word → Result Command Stop
tick_line past w = do
  node ← field id_of past w
  count ← field_or 1 ticks_of node.1
  none ← no_more count.1
  Ok (Tick node.0 count.0)

-- `deliver RANGES`
unfoldable pub deliver_line : ℕ → List Word → Result Command Stop
deliver_line past w = do
  ranges ← field ranges_of past w
  none ← no_more ranges.1
  Ok (Deliver ranges.0)

-- `flush [IDS]`
unfoldable pub flush_line : List Word → Result Command Stop
flush_line w = do
  only ← field_or None given_ids_of w
  none ← no_more only.1
  Ok (Flush only.0)

-- `show NODE NUMBER`
unfoldable pub show_line : ℕ → List Word → Result Command Stop
show_line past w = do
  node ← field id_of past w
  number ← field entry_of past node.1
  none ← no_more number.1
  Ok (Show node.0 number.0)

-- `byz-propose FROM TO VIEW CLIENT SERIAL HEX`
unfoldable pub propose_line : ℕ → List Word → Result Command Stop
propose_line past w = do
  from ← field id_of past w
  to ← field id_of past from.1
  view ← field entry_of past to.1
  client ← field (number_of (2 ^ 32 - 1)) past view.1
  serial ← field (number_of (2 ^ 64 - 1)) past client.1
  payload ← field payload_of past serial.1
  none ← no_more payload.1
  Ok (Propose from.0 to.0 view.0 client.0 serial.0 payload.0)

-- `byz-vote FROM TO prepare VIEW ENTRY`, `byz-vote FROM TO commit VIEW ENTRY`
unfoldable pub vote_line : ℕ → List Word → Result Command Stop
vote_line past w = do
  from ← field id_of past w
  to ← field id_of past from.1
  kind ← field vote_kind_of past to.1
  view ← field entry_of past kind.1
  entry ← field entry_of past view.1
  none ← no_more entry.1
  Ok (Vote from.0 to.0 kind.0 view.0 entry.0)

-- `lie FROM TO HEX`
unfoldable pub lie_line : ℕ → List Word → Result Command Stop
lie_line past w = do
  from ← field id_of past w
  to ← field id_of past from.1
  bytes ← field hex_of past to.1
  none ← no_more bytes.1
  Ok (Lie from.0 to.0 bytes.0)

-- `seal ID HEX`, also of id 0
unfoldable pub seal_line : ℕ → List Word → Result Command Stop
seal_line past w = do
  id ← field (number_of (2 ^ 32 - 1)) past w
  bytes ← field hex_of past id.1
  none ← no_more bytes.1
  Ok (Seal id.0 bytes.0)

-- a command of a Byzantine member by its first word and those behind it
unfoldable pub byzantine_line_of : ℕ → Word → List Word → Result Command Stop
byzantine_line_of past word more =
    if bytes_eq word.text (codes "byz-propose") then propose_line past more
    else (if bytes_eq word.text (codes "byz-vote") then vote_line past more
    else (if bytes_eq word.text (codes "lie") then lie_line past more
    else (if bytes_eq word.text (codes "seal") then seal_line past more
    else Err (Malformed word.place))))

-- `stop NODE MODE`
unfoldable pub stop_line : ℕ → List Word → Result Command Stop
stop_line past w = do
  node ← field id_of past w
  image ← field image_of past node.1
  none ← no_more image.1
  Ok (StopNode node.0 image.0)

-- `stop-at NODE K MODE`
unfoldable pub stop_at_line : ℕ → List Word → Result Command Stop
stop_at_line past w = do
  node ← field id_of past w
  call ← field device_call_of past node.1
  image ← field image_of past call.1
  none ← no_more image.1
  Ok (StopAt node.0 call.0 image.0)

-- `start NODE`
unfoldable pub start_line : ℕ → List Word → Result Command Stop
start_line past w = do
  node ← field id_of past w
  none ← no_more node.1
  Ok (Start node.0)

-- a stop or a start of a node, or else a command of a Byzantine member, by its first word and those behind it
unfoldable pub stopping_line_of : ℕ → Word → List Word → Result Command Stop
stopping_line_of past word more =
    if bytes_eq word.text (codes "stop") then stop_line past more
    else (if bytes_eq word.text (codes "stop-at") then stop_at_line past more
    else (if bytes_eq word.text (codes "start") then start_line past more
    else byzantine_line_of past word more))

-- a command by its first word and those behind it
unfoldable pub line_of : ℕ → Word → List Word → Result Command Stop
line_of past word more =
    if bytes_eq word.text (codes "genesis") then genesis_line past more
    else (if bytes_eq word.text (codes "submit") then submit_line past more
    else (if bytes_eq word.text (codes "raw") then raw_line past more
    else (if bytes_eq word.text (codes "tick") then tick_line past more
    else (if bytes_eq word.text (codes "deliver") then deliver_line past more
    else (if bytes_eq word.text (codes "flush") then flush_line more
    else (if bytes_eq word.text (codes "show") then show_line past more
    else stopping_line_of past word more))))))

-- a command by its words; whether they belong to a later part is looked at first
abbrev pub command_of : ℕ → List Word → Result Command Stop
command_of past [] = Err (Malformed past)
command_of past (word ∷ more) = if is_later word.text more then Err NotBuilt else line_of past word more

abbrev pub judged : Result Command Stop → Meaning
judged (Ok command) = Means command
judged (Err stop) = Wrong stop

-- what a line means: an empty line and a comment mean nothing
unfoldable pub meaning : List ℕ → Meaning
meaning [] = Nothing
meaning (b ∷ line) = if b == 35 then Nothing else judged (command_of (length (b ∷ line) + 1) (words 1 (b ∷ line)))
