-- What comes as bytes: the vote message of an entry, and the request for a pool.
use Rattle.std.proofs.Common.{
  ◌≡◌,
  ℕ,
  zero,
  suc,
  Bool,
  true,
  false,
  ◌&&◌,
  ◌||◌,
  List,
  [],
  ◌∷◌,
  ◌++◌,
  length,
  cond,
  refl,
  sym,
  subst,
  ap,
  ◌∙◌,
  Option,
  Some,
  None,
  Result,
  Ok,
  Err,
  arith,
}
use Rattle.std.specs.Prelude.{IsSome, not, option_and_then, option_map}
use Rattle.std.specs.Int.{w8, w32, w64, to_be_bytes}
use Rattle.std.specs.List.{All}
use Rattle.std.proofs.lemmas.Bool.{or_left, or_right}
use Rattle.std.proofs.lemmas.List.Elements.{All-push}
use Rattle.ord_types.specs.Faults.{all_or, whole}
use Rattle.ord_types.specs.Grammar.{HasRequestSpelling, IsWord}
use Rattle.ord_types.specs.Members.{is_in}
use Rattle.ord_types.specs.Reading.{request_at}
use Rattle.ord_types.specs.Spelling.{request_text}
use Rattle.ord_types.specs.declared.fault.Flaw.{Flaw}
use Rattle.ord_types.specs.declared.fault.ReadFault.{ReadFault}
use Rattle.ord_types.proofs.Laws.{IsBytes, IsBytes-append, wide32, wide64, wide8}
use Rattle.ord_types.proofs.ValueLaws.{request_law}
use Rattle.safety_model.specs.Blocks.{Request, is_ordinary}
use Rattle.safety_model.specs.Facts.{History}
use Rattle.safety_model.specs.declared.fact.Fact.{Fact}
use Rattle.safety_model.specs.State.{Setup}
use Rattle.script.specs.Commands.{AreBytes}
use Rattle.signer_edge.specs.declared.seals.Seal.{Seal}
use Rattle.bft_wire.specs.Messages.{HasMessageSpelling}
use Rattle.bft_wire.specs.Reading.{decoded, message_in, message_or_none}
use Rattle.bft_wire.specs.Spelling.{message_text}
use Rattle.bft_wire.specs.declared.message.Message.{Message}
use Rattle.bft_wire.specs.declared.message.Message.TheVariants as wire
use Rattle.bft_wire.proofs.MessageLaws.{decoded_complete, decoded_sound}
use Rattle.view_model.specs.declared.letter.Letter.{Letter}
use Rattle.view_model.specs.declared.letter.VoteMessage.TheVariants as message_of
use Rattle.view_model.specs.declared.letter.VoteMessage.{VoteMessage}
use Rattle.view_model.specs.Letters.{on_wire, vote_in}
use Rattle.world_model.specs.Liars.{is_raft_if_any, is_raft_message}
use Rattle.world_model.specs.Pools.{entered, has_id, pool_after, request_in}
use Rattle.world_model.specs.Turns.{ordinary}
use Rattle.world_model.specs.Worlds.{Entry, keys_of, letter_from}
use Rattle.world_safety.specs.Resting.{has_ground}
use Rattle.world_safety.specs.Safe.{IsAmong, IsNoRaftMessage, IsReadable, RestsIn}
use Rattle.world_safety.specs.AllowedSteps.{IsBrought, IsGoodEvent, SignsFit}
use Rattle.world_safety.proofs.Delivering.{some_same}
use Rattle.world_safety.proofs.Nodes.{rests_over}

-- ENTRIES

-- Of the bytes that a member sent to a member: whatever message they spell has a spelling, is none of Raft,
-- and rests on a fact of the sender where that isn't Byzantine; and there they do spell one.
pub record EntryIn (su : Setup) (h : History) (e : Entry) : Type 0 where
  pub among : IsAmong su.config.members e
  pub readable : IsReadable su.byzantine e
  pub rests : RestsIn su.byzantine h e
  pub no_raft : IsNoRaftMessage e
  pub spelled : (m : Message) → message_in e.bytes ≡ Some m → HasMessageSpelling m

-- what is spelled is read
pub text_read : (m : Message) → HasMessageSpelling m → message_in (message_text m) ≡ Some m
text_read m may =
    ap message_or_none (decoded_complete (message_text m) m (record { grammar = may; text = refl }))

-- so a text spells nothing but its message
pub text_is : (P : Message → Type 0) (m n : Message) → HasMessageSpelling m → message_in (message_text m)
    ≡ Some n → P m → P n
text_is P m n may at is = subst P (some_same (sym (text_read m may) ∙ at)) is

-- a message of a node
no_raft_ground : (h : History) (from : ℕ) (m : Message) → has_ground h from m ≡ true → is_raft_message m
    ≡ false
no_raft_ground h from (wire.PrePrepare m) is = refl
no_raft_ground h from (wire.Prepare m) is = refl
no_raft_ground h from (wire.Commit m) is = refl
no_raft_ground h from (wire.ViewChange m) is = refl
no_raft_ground h from (wire.ViewData m) is = refl
no_raft_ground h from (wire.NewView m) is = refl
no_raft_ground h from (wire.HeartBeat m) is = refl
no_raft_ground h from (wire.HeartBeatReply m) is = refl
no_raft_ground h from (wire.Forward m) is = refl
no_raft_ground h from (wire.BlockAsk m) is = refl
no_raft_ground h from (wire.BlockReply m) is = refl
no_raft_ground h from (wire.HeaderAsk m) is = refl
no_raft_ground h from (wire.HeaderReply m) is = refl
no_raft_ground h from (wire.RaftVote m) is = absurd (cc)
no_raft_ground h from (wire.RaftVoteReply m) is = absurd (cc)
no_raft_ground h from (wire.RaftAppend m) is = absurd (cc)
no_raft_ground h from (wire.RaftAppendReply m) is = absurd (cc)
no_raft_ground h from (wire.RaftBlock m) is = absurd (cc)

pub posted_in : (su : Setup) (h : History) (from to : ℕ) (m : Message) → is_in from su.config.members ≡ true
    → is_in to su.config.members ≡ true → has_ground h from m ≡ true → HasMessageSpelling m
    → EntryIn su h (record { from = from; to = to; bytes = message_text m; came = false })
posted_in su h from to m member receiver ground spelled =
    let read = text_read m spelled in
    record {
      among = (member, receiver);
      readable = λ correct. subst IsSome (sym read) refl;
      rests = λ n at. or_right _ _ (text_is (λ n. has_ground h from n ≡ true) m n spelled at ground);
      no_raft = ap is_raft_if_any read ∙ no_raft_ground h from m ground;
      spelled = λ n at. text_is HasMessageSpelling m n spelled at spelled;
    }

-- who lies is a Byzantine member, to a member
pub record IsLiar (su : Setup) (from to : ℕ) : Type 0 where
  pub from_member : is_in from su.config.members ≡ true
  pub to_member : is_in to su.config.members ≡ true
  pub byzantine : is_in from su.byzantine ≡ true

-- what it sent, where what it spells has a spelling and is no message of Raft
pub lied_in : (su : Setup) (h : History) (from to : ℕ) (bytes : List ℕ) → IsLiar su from to
    → is_raft_if_any (message_in bytes) ≡ false
    → ((m : Message) → message_in bytes ≡ Some m → HasMessageSpelling m)
    → EntryIn su h (record { from = from; to = to; bytes = bytes; came = false })
lied_in su h from to bytes liar no_raft spelled =
    record {
      among = (liar.from_member, liar.to_member);
      readable = λ correct. let byzantine = liar.byzantine in absurd (cc);
      rests = λ m at. or_left _ _ liar.byzantine;
      no_raft = no_raft;
      spelled = spelled;
    }

-- any bytes spell only what has a spelling
read_ok : (bytes : List ℕ) (m : Message) (read : Result Message ReadFault) → message_or_none read ≡ Some m
    → read ≡ Ok m
read_ok bytes m (Ok n) is = let same : n ≡ m = some_same is in ap (λ (m : Message). Ok m) same
read_ok bytes m (Err fault) is = absurd (cc)

pub bytes_spelled : (bytes : List ℕ) → IsBytes bytes → (m : Message) → message_in bytes ≡ Some m
    → HasMessageSpelling m
bytes_spelled bytes fits m is = (decoded_sound bytes m fits (read_ok bytes m (decoded bytes) is)).grammar

-- facts are only added
pub entry_over : (su : Setup) (h : History) (fs : List Fact) (e : Entry) → EntryIn su h e
    → EntryIn su (fs ++ h) e
entry_over su h fs e is =
    record {
      among = is.among;
      readable = is.readable;
      rests = λ m at. rests_over su.byzantine h fs e.from m (is.rests m at);
      no_raft = is.no_raft;
      spelled = is.spelled;
    }

-- the vote message of a message
vote_is : (m : Message) (v : VoteMessage) → vote_in m ≡ Some v → on_wire v ≡ m
vote_is (wire.PrePrepare m) v is = let same : message_of.PrePrepare m ≡ v = cc in ap on_wire (sym same)
vote_is (wire.Prepare m) v is = let same : message_of.Prepare m ≡ v = cc in ap on_wire (sym same)
vote_is (wire.Commit m) v is = let same : message_of.Commit m ≡ v = cc in ap on_wire (sym same)
vote_is (wire.ViewChange m) v is = absurd (cc)
vote_is (wire.ViewData m) v is = absurd (cc)
vote_is (wire.NewView m) v is = absurd (cc)
vote_is (wire.HeartBeat m) v is = absurd (cc)
vote_is (wire.HeartBeatReply m) v is = absurd (cc)
vote_is (wire.Forward m) v is = absurd (cc)
vote_is (wire.BlockAsk m) v is = absurd (cc)
vote_is (wire.BlockReply m) v is = absurd (cc)
vote_is (wire.HeaderAsk m) v is = absurd (cc)
vote_is (wire.HeaderReply m) v is = absurd (cc)
vote_is (wire.RaftVote m) v is = absurd (cc)
vote_is (wire.RaftVoteReply m) v is = absurd (cc)
vote_is (wire.RaftAppend m) v is = absurd (cc)
vote_is (wire.RaftAppendReply m) v is = absurd (cc)
vote_is (wire.RaftBlock m) v is = absurd (cc)

-- the letter that a message makes
letter_is : (from : ℕ) (m : Message) (letter : Letter)
    → option_map (λ message. record { from = from; message = message }) (vote_in m) ≡ Some letter
    → (letter.from ≡ from) × (on_wire letter.message ≡ m)
letter_is from m letter is = go (vote_in m) refl is
  where
    go : (o : Option VoteMessage) → vote_in m ≡ o
        → option_map (λ message. record { from = from; message = message }) o ≡ Some letter
        → (letter.from ≡ from) × (on_wire letter.message ≡ m)
    go None vote at = absurd (cc)
    go (Some v) vote at =
        let made : Letter = record { from = from; message = v } in
        let same : made ≡ letter = some_same at in (
          ap (λ (l : Letter). l.from) (sym same),
          ap (λ (l : Letter). on_wire l.message) (sym same)
              ∙ vote_is m v vote,
        )

-- so what it brings to its receiver rests on a fact, or is of a Byzantine member, and has a spelling
pub entry_brings : (su : Setup) (h : History) (e : Entry) → EntryIn su h e → IsGoodEvent su h (letter_from e)
entry_brings su h e is =
    record { offer = λ rs at. absurd (cc); letter = λ letter at. go letter (message_in e.bytes) refl at }
  where
    go : (letter : Letter) (o : Option Message) → message_in e.bytes ≡ o
        → option_map (λ message. record { from = e.from; message = message }) (option_and_then vote_in o)
        ≡ Some letter
        → IsBrought su h letter
    go letter None read at = absurd (cc)
    go letter (Some m) read at =
        let parts = letter_is e.from m letter at in
        let ground : (is_in e.from su.byzantine || has_ground h e.from (on_wire letter.message)) ≡ true =
        subst (λ m. (is_in e.from su.byzantine || has_ground h e.from m) ≡ true) (sym parts.1)
        (is.rests m read) in
        record {
          rests = subst (λ from. (is_in from su.byzantine || has_ground h from (on_wire letter.message))
              ≡ true) (sym parts.0) ground;
          fits = subst HasMessageSpelling (sym parts.1) (is.spelled m read);
        }

-- REQUESTS

all_read : (size : ℕ) (x r : Request) (rest : List ℕ) → all_or size x rest ≡ Ok r → (x ≡ r) × (rest ≡ [])
all_read size x r [] is = (cc, refl)
all_read size x r (b ∷ rest) is = absurd (cc)

-- what bytes spell has a spelling
request_spelled : (bytes : List ℕ) (r : Request) → IsBytes bytes → request_in bytes ≡ Ok r
    → HasRequestSpelling r
unfolding request_in
request_spelled bytes r fits is = go (request_at bytes) refl is
  where
    go : (read : Result (Request × List ℕ) Flaw) → request_at bytes ≡ read → whole (length bytes) read
        ≡ Ok r → HasRequestSpelling r
    go (Ok found) at is = subst HasRequestSpelling (all_read (length bytes) found.0 r found.1 is).0
        (request_law.sound bytes found.0 found.1 fits at).means.may
    go (Err flaw) at is = absurd (cc)

-- so all requests of a pool do
pub pool_spelled : (pool : List Request) (bytes : List ℕ) → IsBytes bytes → All HasRequestSpelling pool
    → All HasRequestSpelling (pool_after pool bytes)
pool_spelled pool bytes fits all = go (request_in bytes) refl
  where
    unless : (t : Bool) (r : Request) → HasRequestSpelling r
        → All HasRequestSpelling (cond t (pool ++ r ∷ []) pool)
    unless true r is = All-push HasRequestSpelling pool r all is
    unless false r is = all

    go : (read : Result Request ReadFault) → request_in bytes ≡ read
        → All HasRequestSpelling (entered pool read)
    go (Ok r) at = unless (is_ordinary r && not (has_id r.id pool)) r (request_spelled bytes r fits at)
    go (Err fault) at = all

pub each_byte : (bytes : List ℕ) → AreBytes bytes → IsBytes bytes
each_byte [] all i = omega arith
each_byte (b ∷ bytes) all zero = all.0
each_byte (b ∷ bytes) all (suc i) = each_byte bytes all.1 i

-- what `submit` makes is bytes
pub ordinary_bytes : (client serial : ℕ) (payload : List ℕ) → IsBytes payload
    → IsBytes (request_text (ordinary client serial payload))
ordinary_bytes client serial payload fits =
    let kind = to_be_bytes w8 1 in
    let from = to_be_bytes w32 client in
    let number = to_be_bytes w64 serial in
    let size = to_be_bytes w32 (length payload) in
    IsBytes-append (kind ++ from ++ number ++ size) payload
    (IsBytes-append (kind ++ from ++ number) size
    (IsBytes-append (kind ++ from) number (IsBytes-append kind from (wide8.bytes 1) (wide32.bytes client))
    (wide64.bytes serial)) (wide32.bytes (length payload))) fits

-- SIGNATURES: the place of a seal, in eight bytes
pub seals_fit : (box : List Seal) (i : ℕ) → IsWord i → SignsFit (keys_of box i)
seals_fit box i word statements = record { signer = word; size = omega arith }
