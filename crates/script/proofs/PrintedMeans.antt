-- The printed line of a command means it.
use Rattle.std.proofs.Common.{codes, ◌≡◌, ℕ, ◌+◌, ◌-◌, ◌^◌, ◌<◌, ◌≤◌, inl, inr, List, [], ◌∷◌, ◌++◌, length, map, cond, Bool, true, false, ◌&&◌, ◌||◌, not, refl, ap, ◌∙◌, arith, Option, Some, None, Ok, nat_eq, ◌==◌, IfSome}
use Rattle.std.proofs.lemmas.Bool.{false≢true}
use Rattle.std.proofs.lemmas.Bool.Decides.{nat_tests, Decides-eqb}
use Rattle.std.specs.List.{AllByRecursion, AllZip, join_with_byte, slice_split, list_all, starts_with}
use Rattle.std.specs.Str.{bytes_eq}
use Rattle.std.specs.Fmt.{decimal}
use Rattle.script.specs.declared.command.Command.{Command}
use Rattle.script.specs.declared.command.Command.TheVariants.{Genesis, Submit, Raw, Tick, Deliver, Flush, Show, Propose, Vote, Lie, Seal, Stop, StopAt, Start}
use Rattle.script.specs.declared.command.Image.{Image}
use Rattle.script.specs.declared.command.Image.TheVariants.{Keep, Undo, Fill}
use Rattle.script.specs.declared.command.VoteKind.{VoteKind}
use Rattle.script.specs.declared.command.VoteKind.TheVariants.{Prepare, Commit}
use Rattle.script.specs.declared.command.Range.{Range}
use Rattle.script.specs.declared.command.Meaning.TheVariants.{Means}
use Rattle.script.specs.Words.{placed}
use Rattle.script.specs.Fields.{number_of, id_of, ticks_of, device_call_of, entry_of, batch_of, byzantine_of}
use Rattle.script.specs.Later.{is_later_word, is_later_option, is_later_genesis}
use Rattle.script.specs.Grammar.{genesis_line, submit_line, raw_line, tick_line, deliver_line, flush_line, show_line, propose_line, vote_line, lie_line, seal_line, byzantine_line_of, stop_line, stop_at_line, start_line, stopping_line_of, line_of, command_of, judged, meaning}
use Rattle.script.specs.Commands.{IsId, AreIds, AreRanges, IsWellFormed, IsGenesisLine, IsSubmit, IsRaw, IsTick, IsShow, IsPropose, IsVote, IsLie, IsSeal, IsStop, IsStopAt, IsStart}
use Rattle.script.specs.Printed.{hex_pairs, ids_text, range_text, first_last_text, vote_text, image_text, printed_words, printed}
use Rattle.script.specs.Forms.{SpellsRange}
use Rattle.script.proofs.NumberTexts.{number_prints, not_zero_prints, IsPlain, decimal_plain, append_plain, split_joined}
use Rattle.script.proofs.HexTexts.{hex_prints, payload_prints, pairs_plain, hex_plain}
use Rattle.script.proofs.PartTexts.{ids_print, ids_plain, ids_plain_of, ranges_print, ranges_plain}
use Rattle.script.proofs.KindTexts.{vote_prints, image_prints}

-- a line that is neither empty nor a comment
abbrev IsSpoken : List ℕ → Type 0
IsSpoken [] = ⊥
IsSpoken (b ∷ line) = (b == 35) ≡ false

split_all : (ws : List (List ℕ)) → 0 < length ws → AllByRecursion (IsPlain 32) ws → slice_split (λ b. b == 32) (join_with_byte 32 ws) ≡ ws
split_all [] some plain = absurd (omega arith)
split_all (first ∷ more) some plain = split_joined 32 first more plain

means : (line : List ℕ) (ws : List (List ℕ)) (command : Command) → IsSpoken line → slice_split (λ b. b == 32) line ≡ ws
    → command_of (length line + 1) (placed 1 ws) ≡ Ok command → meaning line ≡ Means command
unfolding meaning
means [] ws command spoken cut e = absurd spoken
means (b ∷ line) ws command spoken cut e =
    rw spoken (ap (λ (parts : List (List ℕ)). judged (command_of (length (b ∷ line) + 1) (placed 1 parts))) cut ∙ ap judged e)

spelled_means_if : (ws : List (List ℕ)) (command : Command) → IsSpoken (join_with_byte 32 ws) → 0 < length ws → AllByRecursion (IsPlain 32) ws
    → ((past : ℕ) → command_of past (placed 1 ws) ≡ Ok command) → meaning (join_with_byte 32 ws) ≡ Means command
spelled_means_if ws command spoken some plain e = means (join_with_byte 32 ws) ws command spoken (split_all ws some plain) (e (length (join_with_byte 32 ws) + 1))

printed_means_if : (command : Command) → IsSpoken (printed command) → 0 < length (printed_words command) → AllByRecursion (IsPlain 32) (printed_words command)
    → ((past : ℕ) → command_of past (placed 1 (printed_words command)) ≡ Ok command) → meaning (printed command) ≡ Means command
printed_means_if command spoken some plain e = spelled_means_if (printed_words command) command spoken some plain e

-- a text without blanks, by computing
plain : (text : List ℕ) → list_all (λ b. not (b == 32)) text ≡ true → IsPlain 32 text
plain [] e = tt
plain (b ∷ more) e = go (b == 32) refl e (plain more)
  where
    go : (blank : Bool) → (b == 32) ≡ blank → (not blank && list_all (λ b. not (b == 32)) more) ≡ true → (list_all (λ b. not (b == 32)) more ≡ true → IsPlain 32 more) → IsPlain 32 (b ∷ more)
    go true is e rest = absurd (false≢true e)
    go false is e rest = (is, rest e)

number_plain : (most n : ℕ) → n ≤ most → most < 2 ^ 64 → IsPlain 32 (decimal n)
number_plain most n below h = decimal_plain 32 n refl (omega arith)

id_plain : (n : ℕ) → IsId n → IsPlain 32 (decimal n)
id_plain n is = number_plain (2 ^ 32 - 1) n is.below (omega arith)

id_prints : (n : ℕ) → IsId n → id_of (decimal n) ≡ Some n
id_prints n is = not_zero_prints (number_of (2 ^ 32 - 1) (decimal n)) n (number_prints (2 ^ 32 - 1) n is.below (let below = is.below in omega arith)) is.positive

client_prints : (n : ℕ) → n ≤ 2 ^ 32 - 1 → number_of (2 ^ 32 - 1) (decimal n) ≡ Some n
client_prints n h = number_prints (2 ^ 32 - 1) n h (omega arith)

serial_prints : (n : ℕ) → n ≤ 2 ^ 64 - 1 → number_of (2 ^ 64 - 1) (decimal n) ≡ Some n
serial_prints n h = number_prints (2 ^ 64 - 1) n h (omega arith)

entry_prints : (n : ℕ) → n ≤ 2 ^ 62 - 1 → entry_of (decimal n) ≡ Some n
entry_prints n h = number_prints (2 ^ 62 - 1) n h (omega arith)

ticks_print : (n : ℕ) → 1 ≤ n → n ≤ 10000 → ticks_of (decimal n) ≡ Some n
ticks_print n some few = not_zero_prints (number_of 10000 (decimal n)) n (number_prints 10000 n few (omega arith)) some

call_prints : (n : ℕ) → 1 ≤ n → n ≤ 1000000 → device_call_of (decimal n) ≡ Some n
call_prints n some few = not_zero_prints (number_of 1000000 (decimal n)) n (number_prints 1000000 n few (omega arith)) some

vote_plain : (kind : VoteKind) → IsPlain 32 (vote_text kind)
vote_plain Prepare = plain (codes "prepare") refl
vote_plain Commit = plain (codes "commit") refl

image_plain : (image : Image) → IsPlain 32 (image_text image)
image_plain Keep = plain (codes "keep") refl
image_plain Undo = plain (codes "drop") refl
image_plain (Fill byte) = append_plain 32 (codes "fill=") (hex_pairs (byte ∷ [])) (plain (codes "fill=") refl) (pairs_plain 32 (byte ∷ []) (omega arith))

submit_means : (node client serial : ℕ) (payload : List ℕ) → IsSubmit node client serial payload → meaning (printed (Submit node client serial payload)) ≡ Means (Submit node client serial payload)
unfolding is_later_word line_of submit_line
submit_means node client serial payload is =
    printed_means_if (Submit node client serial payload) refl (omega arith)
    (plain (codes "submit") refl, (id_plain node is.node_id, (number_plain (2 ^ 32 - 1) client is.client_below (omega arith), (number_plain (2 ^ 64 - 1) serial is.serial_below (omega arith), (hex_plain payload, tt)))))
    reads
  where
    reads : (past : ℕ) → command_of past (placed 1 (printed_words (Submit node client serial payload))) ≡ Ok (Submit node client serial payload)
    reads past = rw (id_prints node is.node_id, client_prints client is.client_below, serial_prints serial is.serial_below, hex_prints payload is.are_bytes) refl

raw_means : (node : ℕ) (bytes : List ℕ) → IsRaw node bytes → meaning (printed (Raw node bytes)) ≡ Means (Raw node bytes)
unfolding is_later_word line_of raw_line
raw_means node bytes is =
    printed_means_if (Raw node bytes) refl (omega arith)
    (plain (codes "raw") refl, (id_plain node is.node_id, (hex_plain bytes, tt)))
    reads
  where
    reads : (past : ℕ) → command_of past (placed 1 (printed_words (Raw node bytes))) ≡ Ok (Raw node bytes)
    reads past = rw (id_prints node is.node_id, hex_prints bytes is.are_bytes) refl

tick_means : (node : ℕ) (count : ℕ) → IsTick node count → meaning (printed (Tick node count)) ≡ Means (Tick node count)
unfolding is_later_word line_of tick_line
tick_means node count is =
    printed_means_if (Tick node count) refl (omega arith)
    (plain (codes "tick") refl, (id_plain node is.node_id, (number_plain 10000 count is.few (omega arith), tt)))
    reads
  where
    reads : (past : ℕ) → command_of past (placed 1 (printed_words (Tick node count))) ≡ Ok (Tick node count)
    reads past = rw (id_prints node is.node_id, ticks_print count is.some is.few) refl

show_means : (node : ℕ) (number : ℕ) → IsShow node number → meaning (printed (Show node number)) ≡ Means (Show node number)
unfolding is_later_word line_of show_line
show_means node number is =
    printed_means_if (Show node number) refl (omega arith)
    (plain (codes "show") refl, (id_plain node is.node_id, (number_plain (2 ^ 62 - 1) number is.number_below (omega arith), tt)))
    reads
  where
    reads : (past : ℕ) → command_of past (placed 1 (printed_words (Show node number))) ≡ Ok (Show node number)
    reads past = rw (id_prints node is.node_id, entry_prints number is.number_below) refl

propose_means : (from : ℕ) (to : ℕ) (view : ℕ) (client : ℕ) (serial : ℕ) (payload : List ℕ) → IsPropose from to view client serial payload → meaning (printed (Propose from to view client serial payload)) ≡ Means (Propose from to view client serial payload)
unfolding is_later_word line_of stopping_line_of byzantine_line_of propose_line
propose_means from to view client serial payload is =
    printed_means_if (Propose from to view client serial payload) refl (omega arith)
    (plain (codes "byz-propose") refl, (id_plain from is.from_id, (id_plain to is.to_id, (number_plain (2 ^ 62 - 1) view is.view_below (omega arith), (number_plain (2 ^ 32 - 1) client is.client_below (omega arith), (number_plain (2 ^ 64 - 1) serial is.serial_below (omega arith), (hex_plain payload, tt)))))))
    reads
  where
    reads : (past : ℕ) → command_of past (placed 1 (printed_words (Propose from to view client serial payload))) ≡ Ok (Propose from to view client serial payload)
    reads past = rw (id_prints from is.from_id, id_prints to is.to_id, entry_prints view is.view_below, client_prints client is.client_below, serial_prints serial is.serial_below, payload_prints payload is.are_bytes is.few) refl

vote_means : (from : ℕ) (to : ℕ) (kind : VoteKind) (view : ℕ) (entry : ℕ) → IsVote from to view entry → meaning (printed (Vote from to kind view entry)) ≡ Means (Vote from to kind view entry)
unfolding is_later_word line_of stopping_line_of byzantine_line_of vote_line
vote_means from to kind view entry is =
    printed_means_if (Vote from to kind view entry) refl (omega arith)
    (plain (codes "byz-vote") refl, (id_plain from is.from_id, (id_plain to is.to_id, (vote_plain kind, (number_plain (2 ^ 62 - 1) view is.view_below (omega arith), (number_plain (2 ^ 62 - 1) entry is.entry_below (omega arith), tt))))))
    reads
  where
    reads : (past : ℕ) → command_of past (placed 1 (printed_words (Vote from to kind view entry))) ≡ Ok (Vote from to kind view entry)
    reads past = rw (id_prints from is.from_id, id_prints to is.to_id, vote_prints kind, entry_prints view is.view_below, entry_prints entry is.entry_below) refl

lie_means : (from : ℕ) (to : ℕ) (bytes : List ℕ) → IsLie from to bytes → meaning (printed (Lie from to bytes)) ≡ Means (Lie from to bytes)
unfolding is_later_word line_of stopping_line_of byzantine_line_of lie_line
lie_means from to bytes is =
    printed_means_if (Lie from to bytes) refl (omega arith)
    (plain (codes "lie") refl, (id_plain from is.from_id, (id_plain to is.to_id, (hex_plain bytes, tt))))
    reads
  where
    reads : (past : ℕ) → command_of past (placed 1 (printed_words (Lie from to bytes))) ≡ Ok (Lie from to bytes)
    reads past = rw (id_prints from is.from_id, id_prints to is.to_id, hex_prints bytes is.are_bytes) refl

seal_means : (id : ℕ) (bytes : List ℕ) → IsSeal id bytes → meaning (printed (Seal id bytes)) ≡ Means (Seal id bytes)
unfolding is_later_word line_of stopping_line_of byzantine_line_of seal_line
seal_means id bytes is =
    printed_means_if (Seal id bytes) refl (omega arith)
    (plain (codes "seal") refl, (number_plain (2 ^ 32 - 1) id is.id_below (omega arith), (hex_plain bytes, tt)))
    reads
  where
    reads : (past : ℕ) → command_of past (placed 1 (printed_words (Seal id bytes))) ≡ Ok (Seal id bytes)
    reads past = rw (client_prints id is.id_below, hex_prints bytes is.are_bytes) refl

stop_means : (node : ℕ) (image : Image) → IsStop node image → meaning (printed (Stop node image)) ≡ Means (Stop node image)
unfolding is_later_word line_of stopping_line_of stop_line
stop_means node image is =
    printed_means_if (Stop node image) refl (omega arith)
    (plain (codes "stop") refl, (id_plain node is.node_id, (image_plain image, tt)))
    reads
  where
    reads : (past : ℕ) → command_of past (placed 1 (printed_words (Stop node image))) ≡ Ok (Stop node image)
    reads past = rw (id_prints node is.node_id, image_prints image is.is_image) refl

stop_at_means : (node : ℕ) (call : ℕ) (image : Image) → IsStopAt node call image → meaning (printed (StopAt node call image)) ≡ Means (StopAt node call image)
unfolding is_later_word line_of stopping_line_of stop_at_line
stop_at_means node call image is =
    printed_means_if (StopAt node call image) refl (omega arith)
    (plain (codes "stop-at") refl, (id_plain node is.node_id, (number_plain 1000000 call is.few (omega arith), (image_plain image, tt))))
    reads
  where
    reads : (past : ℕ) → command_of past (placed 1 (printed_words (StopAt node call image))) ≡ Ok (StopAt node call image)
    reads past = rw (id_prints node is.node_id, call_prints call is.some is.few, image_prints image is.is_image) refl

start_means : (node : ℕ) → IsStart node → meaning (printed (Start node)) ≡ Means (Start node)
unfolding is_later_word line_of stopping_line_of start_line
start_means node is =
    printed_means_if (Start node) refl (omega arith)
    (plain (codes "start") refl, (id_plain node is.node_id, tt))
    reads
  where
    reads : (past : ℕ) → command_of past (placed 1 (printed_words (Start node))) ≡ Ok (Start node)
    reads past = rw (id_prints node is.node_id) refl

range_texts : (ranges : List Range) → AllZip SpellsRange ranges (map range_text ranges)
range_texts [] = tt
range_texts (range ∷ more) = (one (range.first == range.last) refl, range_texts more)
  where
    one : (same : Bool) → (range.first == range.last) ≡ same → SpellsRange range (cond same (decimal range.first) (first_last_text range))
    one true e = inr ((Decides-eqb range.first range.last).0 e, refl)
    one false e = inl refl

pub ranges_mean : (ranges : List Range) (parts : List (List ℕ)) → AreRanges ranges → AllZip SpellsRange ranges parts
    → meaning (codes "deliver " ++ join_with_byte 44 parts) ≡ Means (Deliver ranges)
unfolding is_later_word line_of deliver_line
ranges_mean ranges parts are each =
    spelled_means_if (codes "deliver" ∷ join_with_byte 44 parts ∷ []) (Deliver ranges) refl (omega arith)
    (plain (codes "deliver") refl, (ranges_plain ranges parts are each, tt))
    reads
  where
    reads : (past : ℕ) → command_of past (placed 1 (codes "deliver" ∷ join_with_byte 44 parts ∷ [])) ≡ Ok (Deliver ranges)
    reads past = rw (ranges_print ranges parts are each) refl

deliver_means : (ranges : List Range) → AreRanges ranges → meaning (printed (Deliver ranges)) ≡ Means (Deliver ranges)
deliver_means ranges are = ranges_mean ranges (map range_text ranges) are (range_texts ranges)

-- without a count
pub once_means : (node : ℕ) → IsId node → meaning (codes "tick " ++ decimal node) ≡ Means (Tick node 1)
unfolding is_later_word line_of tick_line
once_means node is =
    spelled_means_if (codes "tick" ∷ decimal node ∷ []) (Tick node 1) refl (omega arith) (plain (codes "tick") refl, (id_plain node is, tt)) reads
  where
    reads : (past : ℕ) → command_of past (placed 1 (codes "tick" ∷ decimal node ∷ [])) ≡ Ok (Tick node 1)
    reads past = rw (id_prints node is) refl

flush_means : (only : Option (List ℕ)) → IfSome only AreIds → meaning (printed (Flush only)) ≡ Means (Flush only)
unfolding is_later_word line_of flush_line
flush_means None are = printed_means_if (Flush None) refl (omega arith) (plain (codes "flush") refl, tt) (λ past. refl)
flush_means (Some ids) are =
    printed_means_if (Flush (Some ids)) refl (omega arith) (plain (codes "flush") refl, (ids_plain ids are, tt)) reads
  where
    reads : (past : ℕ) → command_of past (placed 1 (printed_words (Flush (Some ids)))) ≡ Ok (Flush (Some ids))
    reads past = rw (ids_print ids are) refl

-- a text without a byte begins with none that begins with it
no_start : (c : ℕ) (front text : List ℕ) → IsPlain c text → starts_with nat_eq text (c ∷ front) ≡ false
no_start c front [] h = refl
no_start c front (b ∷ more) h =
    let other : nat_eq c b ≡ false = (let apart : (b == c) ≡ false = h.0 in grind (arith, nat_tests)) in
    rw other refl

ids_are_no_option : (ids : List ℕ) → AreIds ids → is_later_option (ids_text ids) ≡ false
unfolding is_later_option
ids_are_no_option ids are =
    rw (
      no_start 114 (codes "otation=") (ids_text ids) (ids_plain_of 114 refl refl ids are),
      no_start 119 (codes "ait=") (ids_text ids) (ids_plain_of 119 refl refl ids are),
      no_start 112 (codes "ool=") (ids_text ids) (ids_plain_of 112 refl refl ids are),
      no_start 101 (codes "xtra=") (ids_text ids) (ids_plain_of 101 refl refl ids are),
    ) refl

with_true : (b other : Bool) → (b || (true || other)) ≡ true
with_true true other = refl
with_true false other = refl

genesis_means : (members byzantine : List ℕ) → IsGenesisLine members byzantine → meaning (printed (Genesis members byzantine)) ≡ Means (Genesis members byzantine)
unfolding is_later_word is_later_option is_later_genesis line_of genesis_line batch_of byzantine_of number_of
genesis_means members [] is =
    printed_means_if (Genesis members []) refl (omega arith)
    (plain (codes "genesis") refl, (plain (codes "bft") refl, (ids_plain members is.member_ids, (plain (codes "batch=1") refl, tt))))
    reads
  where
    reads : (past : ℕ) → command_of past (placed 1 (printed_words (Genesis members []))) ≡ Ok (Genesis members [])
    reads past = rw (ids_are_no_option members is.member_ids, with_true (bytes_eq (ids_text members) (codes "batch=1")) false, ids_print members is.member_ids) refl
genesis_means members (id ∷ more) is =
    printed_means_if (Genesis members (id ∷ more)) refl (omega arith) (
      plain (codes "genesis") refl,
      (
        plain (codes "bft") refl,
        (
          ids_plain members is.member_ids,
          (
            plain (codes "batch=1") refl,
            (append_plain 32 (codes "byz=") (ids_text (id ∷ more)) (plain (codes "byz=") refl) (ids_plain (id ∷ more) are), tt),
          ),
        ),
      ),
    )
    reads
  where
    are : AreIds (id ∷ more)
    are = record { some = omega arith; few = is.byzantine_ids.few; ascending = is.byzantine_ids.ascending; each = is.byzantine_ids.each }

    reads : (past : ℕ) → command_of past (placed 1 (printed_words (Genesis members (id ∷ more)))) ≡ Ok (Genesis members (id ∷ more))
    reads past =
        rw (ids_are_no_option members is.member_ids, with_true (bytes_eq (ids_text members) (codes "batch=1")) _, ids_print members is.member_ids, ids_print (id ∷ more) are) refl

-- the printed line of each command that a line may mean
pub printed_means : (command : Command) → IsWellFormed command → meaning (printed command) ≡ Means command
printed_means (Genesis members byzantine) is = genesis_means members byzantine is
printed_means (Submit node client serial payload) is = submit_means node client serial payload is
printed_means (Raw node bytes) is = raw_means node bytes is
printed_means (Tick node count) is = tick_means node count is
printed_means (Deliver ranges) is = deliver_means ranges is
printed_means (Flush only) is = flush_means only is
printed_means (Show node number) is = show_means node number is
printed_means (Propose from to view client serial payload) is = propose_means from to view client serial payload is
printed_means (Vote from to kind view entry) is = vote_means from to kind view entry is
printed_means (Lie from to bytes) is = lie_means from to bytes is
printed_means (Seal id bytes) is = seal_means id bytes is
printed_means (Stop node image) is = stop_means node image is
printed_means (StopAt node call image) is = stop_at_means node call image is
printed_means (Start node) is = start_means node is
