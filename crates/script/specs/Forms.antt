-- The lines of the grammar: for each its first word, and the fields behind it in order, each with the words that
-- may stand there.
use Rattle.std.specs.Prelude.{◌≡◌, false, ℕ, ◌+◌, ◌-◌, ◌^◌, ◌≤◌, ◌++◌, ◌⊎◌, List, [], ◌∷◌, length, codes}
use Rattle.std.specs.List.{join_with_byte, AllZip}
use Rattle.std.specs.Fmt.{decimal}
use Rattle.script.specs.declared.command.Range.{Range}
use Rattle.script.specs.declared.command.Image.{Image}
use Rattle.script.specs.declared.command.VoteKind.{VoteKind}
use Rattle.script.specs.Words.{Word, words}
use Rattle.script.specs.Later.{is_later_line}
use Rattle.script.specs.Commands.{AreIds, AreBytes, AreRanges, IsImage}
use Rattle.script.specs.Printed.{hex_text, ids_text, first_last_text, vote_text, image_text}

-- the kinds of words behind the first one
pub data Kind : Type 0 where
  -- this word alone
  This : List ℕ → Kind
  -- a node's id
  Node : Kind
  -- a client, or an id that may be 0
  Client : Kind
  Serial : Kind
  -- a view, or the number of a block or an entry
  Number : Kind
  -- a count of ticks
  Ticks : Kind
  -- the place of a device call
  Call : Kind
  Hex : Kind
  -- the bytes of a payload that isn't too long
  Payload : Kind
  Ids : Kind
  Ranges : Kind
  Vote : Kind
  Mode : Kind
  -- the option `batch=N`
  Batch : Kind
  -- the option `byz=IDS`
  Byzantine : Kind

-- a decimal number in these bounds
pub record IsNumber (least most : ℕ) (text : List ℕ) : Type 0 where
  pub value : ℕ
  pub not_below : least ≤ value
  pub not_above : value ≤ most
  pub spelled : text ≡ decimal value

pub record IsHex (text : List ℕ) : Type 0 where
  pub bytes : List ℕ
  pub are_bytes : AreBytes bytes
  pub spelled : text ≡ hex_text bytes

pub record IsPayload (text : List ℕ) : Type 0 where
  pub bytes : List ℕ
  pub are_bytes : AreBytes bytes
  pub few : length bytes ≤ 65536
  pub spelled : text ≡ hex_text bytes

pub record IsIdsText (text : List ℕ) : Type 0 where
  pub ids : List ℕ
  pub are_ids : AreIds ids
  pub spelled : text ≡ ids_text ids

-- FIRST-LAST, or one number where both are the same
abbrev pub SpellsRange : Range → List ℕ → Type 0
SpellsRange range text =
    (text ≡ first_last_text range) ⊎ ((range.first ≡ range.last) × (text ≡ decimal range.first))

pub record IsRangesText (text : List ℕ) : Type 0 where
  pub ranges : List Range
  pub are_ranges : AreRanges ranges
  pub parts : List (List ℕ)
  pub each : AllZip SpellsRange ranges parts
  pub spelled : text ≡ join_with_byte 44 parts

-- a beginning, and behind it a text that fits
pub record IsBehind (front : List ℕ) (Fits : List ℕ → Type 0) (text : List ℕ) : Type 0 where
  pub rest : List ℕ
  pub fits : Fits rest
  pub spelled : text ≡ front ++ rest

-- the words of a kind
abbrev pub Stands : Kind → List ℕ → Type 0
Stands (This wanted) text = text ≡ wanted
Stands Node text = IsNumber 1 (2 ^ 32 - 1) text
Stands Client text = IsNumber 0 (2 ^ 32 - 1) text
Stands Serial text = IsNumber 0 (2 ^ 64 - 1) text
Stands Number text = IsNumber 0 (2 ^ 62 - 1) text
Stands Ticks text = IsNumber 1 10000 text
Stands Call text = IsNumber 1 1000000 text
Stands Hex text = IsHex text
Stands Payload text = IsPayload text
Stands Ids text = IsIdsText text
Stands Ranges text = IsRangesText text
Stands Vote text = (kind : VoteKind) × (text ≡ vote_text kind)
Stands Mode text = (image : Image) × IsImage image × (text ≡ image_text image)
Stands Batch text = IsBehind (codes "batch=") (IsNumber 1 1000) text
Stands Byzantine text = IsBehind (codes "byz=") IsIdsText text

-- a field of a line; one that is optional may be left out
pub data Field : Type 0 where
  Needed : Kind → Field
  Optional : Kind → Field

-- words that stand in these fields, in order
abbrev pub AreInFields : List Field → List (List ℕ) → Type 0
AreInFields [] [] = Unit {0}
AreInFields [] (text ∷ more) = ⊥
AreInFields (Needed kind ∷ fields) [] = ⊥
AreInFields (Needed kind ∷ fields) (text ∷ more) = Stands kind text × AreInFields fields more
AreInFields (Optional kind ∷ fields) [] = AreInFields fields []
AreInFields (Optional kind ∷ fields) (text ∷ more) =
    AreInFields fields (text ∷ more) ⊎ (Stands kind text × AreInFields fields more)

-- lines with this first word and these fields behind it
pub record Form : Type 0 where
  pub name : List ℕ
  pub fields : List Field

abbrev pub form : List ℕ → List Field → Form
form name fields = record { name = name; fields = fields }

-- with any batch; where no word is `batch=1`, the line belongs to a later part
abbrev pub genesis_form : Form
genesis_form =
    form (codes "genesis") (Needed (This (codes "bft")) ∷ Needed Ids ∷ Optional Batch ∷ Optional Byzantine ∷ [])

abbrev pub submit_form : Form
submit_form = form (codes "submit") (Needed Node ∷ Needed Client ∷ Needed Serial ∷ Needed Hex ∷ [])

abbrev pub raw_form : Form
raw_form = form (codes "raw") (Needed Node ∷ Needed Hex ∷ [])

abbrev pub tick_form : Form
tick_form = form (codes "tick") (Needed Node ∷ Optional Ticks ∷ [])

abbrev pub deliver_form : Form
deliver_form = form (codes "deliver") (Needed Ranges ∷ [])

abbrev pub flush_form : Form
flush_form = form (codes "flush") (Optional Ids ∷ [])

abbrev pub show_form : Form
show_form = form (codes "show") (Needed Node ∷ Needed Number ∷ [])

abbrev pub stop_form : Form
stop_form = form (codes "stop") (Needed Node ∷ Needed Mode ∷ [])

abbrev pub stop_at_form : Form
stop_at_form = form (codes "stop-at") (Needed Node ∷ Needed Call ∷ Needed Mode ∷ [])

abbrev pub start_form : Form
start_form = form (codes "start") (Needed Node ∷ [])

abbrev pub propose_form : Form
propose_form =
    form (codes "byz-propose")
    (Needed Node ∷ Needed Node ∷ Needed Number ∷ Needed Client ∷ Needed Serial ∷ Needed Payload ∷ [])

abbrev pub vote_form : Form
vote_form =
    form (codes "byz-vote") (Needed Node ∷ Needed Node ∷ Needed Vote ∷ Needed Number ∷ Needed Number ∷ [])

abbrev pub lie_form : Form
lie_form = form (codes "lie") (Needed Node ∷ Needed Node ∷ Needed Hex ∷ [])

abbrev pub seal_form : Form
seal_form = form (codes "seal") (Needed Client ∷ Needed Hex ∷ [])

abbrev pub byzantine_forms : List Form
byzantine_forms = propose_form ∷ vote_form ∷ lie_form ∷ seal_form ∷ []

abbrev pub stopping_forms : List Form
stopping_forms = stop_form ∷ stop_at_form ∷ start_form ∷ byzantine_forms

abbrev pub forms : List Form
forms =
    genesis_form ∷ submit_form ∷ raw_form ∷ tick_form ∷ deliver_form ∷ flush_form ∷ show_form ∷ stopping_forms

abbrev pub IsOfForm : Form → List (List ℕ) → Type 0
IsOfForm form [] = ⊥
IsOfForm form (first ∷ more) = (first ≡ form.name) × AreInFields form.fields more

abbrev pub IsOfOne : List Form → List (List ℕ) → Type 0
IsOfOne [] texts = ⊥
IsOfOne (form ∷ more) texts = IsOfForm form texts ⊎ IsOfOne more texts

-- the words of a line of the grammar
unfoldable pub IsLine : List (List ℕ) → Type 0
IsLine texts = IsOfOne forms texts

abbrev pub texts : List Word → List (List ℕ)
texts [] = []
texts (word ∷ more) = word.text ∷ texts more

-- a line goes on with these words
abbrev pub GoesOn : (List (List ℕ) → Type 0) → List (List ℕ) → Type 0
GoesOn Line front = (more : List (List ℕ)) × Line (front ++ more)

-- a line goes on with the words before this place, and none with the word at it too
pub record IsWrongAt (Line : List (List ℕ) → Type 0) (ws : List Word) (place : ℕ) : Type 0 where
  pub before : List Word
  pub word : Word
  pub after : List Word
  pub all : ws ≡ before ++ word ∷ after
  pub here : place ≡ word.place
  pub goes_on : GoesOn Line (texts before)
  pub ends : GoesOn Line (texts before ++ word.text ∷ []) → ⊥

-- a line goes on with the words, but they are none; the place is one past the end
pub record LacksWord (Line : List (List ℕ) → Type 0) (past : ℕ) (ws : List Word) (place : ℕ) : Type 0 where
  pub here : place ≡ past
  pub goes_on : GoesOn Line (texts ws)
  pub lacks : Line (texts ws) → ⊥

-- the place of the first word at which no line goes on
abbrev pub IsFirstWrong : (List (List ℕ) → Type 0) → ℕ → List Word → ℕ → Type 0
IsFirstWrong Line past ws place = IsWrongAt Line ws place ⊎ LacksWord Line past ws place

-- a line that is neither empty nor a comment
abbrev pub HasWords : List ℕ → Type 0
HasWords [] = ⊥
HasWords (b ∷ line) = b ≡ 35 → ⊥

-- a line that is neither empty nor a comment, and belongs to no later part
pub record IsBuilt (line : List ℕ) : Type 0 where
  pub has_words : HasWords line
  pub not_later : is_later_line (words 1 line) ≡ false

-- a line of the grammar
pub record IsGrammatical (line : List ℕ) : Type 0 where
  pub built : IsBuilt line
  pub is_line : IsLine (texts (words 1 line))

-- a line that isn't of the grammar, by the place of its first wrong word
pub record IsWrong (line : List ℕ) (place : ℕ) : Type 0 where
  pub built : IsBuilt line
  pub first : IsFirstWrong IsLine (length line + 1) (words 1 line) place
