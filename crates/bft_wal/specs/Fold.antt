-- What the records of a log leave for one configuration and height.
use Rattle.std.specs.Prelude.{ℕ, zero, suc, Bool, true, ◌&&◌, ◌==◌, nat_lt, nat_le, max, List, [], ◌∷◌, ◌++◌, Option, Some, None, filter, filter_map, option_map, unwrap_or, if◌then◌else◌}
use Rattle.std.specs.List.{last_or, list_any}
use Rattle.std.specs.Str.{bytes_eq}
use Rattle.ord_types.specs.Hashes.{block_hash}
use Rattle.ord_types.specs.declared.values.Block.{Block}
use Rattle.ord_types.specs.declared.values.Choice.{Choice}
use Rattle.ord_types.specs.declared.values.Choice.TheVariants.{Carry, Free}
use Rattle.ord_types.specs.declared.values.Vote.{Vote}
use Rattle.bft_wal.specs.Records.{WalRecord}
use Rattle.bft_wal.specs.declared.record.WalRecord.TheVariants as record_of
pub use Rattle.bft_wal.specs.declared.durable.Durable.{Durable}
pub use Rattle.bft_wal.specs.declared.tally.Acceptance.{Acceptance}
pub use Rattle.bft_wal.specs.declared.tally.Tally.{Tally}

-- WHAT A RECORD SAYS: of another configuration, or of an acceptance, preparation or tail at another number, nothing

-- the view that it enters under this configuration
abbrev pub entered_view : ℕ → WalRecord → Option ℕ
entered_view c (record_of.Entered config view number carried) = if config == c then Some view else None
entered_view c _ = None

-- the view that it leaves for
abbrev pub left_view : ℕ → WalRecord → Option ℕ
left_view c (record_of.Left config view) = if config == c then Some view else None
left_view c _ = None

-- a carried vote is carried, and none is a free choice
abbrev pub choice_of : Option Vote → Choice
choice_of None = Free
choice_of (Some vote) = Carry vote

-- at which number, and with which choice, it enters a view
abbrev pub bound_in : ℕ → WalRecord → Option (ℕ × Choice)
bound_in c (record_of.Entered config view number carried) = if config == c then Some (number, choice_of carried) else None
bound_in c _ = None

-- the block that it accepts at this height, and the vote for it
abbrev pub acceptance_in : ℕ → ℕ → WalRecord → Option Acceptance
acceptance_in c h (record_of.Accepted config view number block) =
    if (config == c) && (number == h) then Some (record { vote = record { view = view; digest = block_hash block }; block = block }) else None
acceptance_in c h _ = None

-- the vote that it prepares at this height
abbrev pub preparation_in : ℕ → ℕ → WalRecord → Option Vote
preparation_in c h (record_of.Prepared config view number digest) =
    if (config == c) && (number == h) then Some (record { view = view; digest = digest }) else None
preparation_in c h _ = None

-- the term and the candidate of its vote
abbrev pub vote_in : WalRecord → Option (ℕ × ℕ)
vote_in (record_of.Voted term candidate) = Some (term, candidate)
vote_in _ = None

-- the term and the block of its tail at this height
abbrev pub tail_in : ℕ → WalRecord → Option (ℕ × Block)
tail_in h (record_of.Tail term number block) = if number == h then Some (term, block) else None
tail_in h _ = None

-- WHICH OF THEM STANDS

-- the greatest of these numbers, 0 if none
abbrev pub greatest : List ℕ → ℕ
greatest [] = 0
greatest (n ∷ ns) = max n (greatest ns)

-- the view of a vote, and of an acceptance
abbrev pub view_voted : Vote → ℕ
view_voted vote = vote.view

abbrev pub view_accepted : Acceptance → ℕ
view_accepted a = a.vote.view

-- of the greatest view, and of equal ones the last
abbrev pub later : {X : Type 0} → (X → ℕ) → X → Option X → Option X
later view x None = Some x
later view x (Some y) = if nat_le (view x) (view y) then Some y else Some x

-- the same, of one that came before, if there is one, and the next
abbrev pub later_than : {X : Type 0} → (X → ℕ) → Option X → X → X
later_than view None x = x
later_than view (Some y) x = if nat_le (view y) (view x) then x else y

abbrev pub newest : {X : Type 0} → (X → ℕ) → List X → Option X
newest view [] = None
newest view (x ∷ xs) = later view x (newest view xs)

-- its view is below the limit, where there is one
abbrev pub is_below : Option ℕ → Acceptance → Bool
is_below None a = true
is_below (Some limit) a = nat_lt (view_accepted a) limit

-- the newest acceptance below the limit
abbrev pub newest_below : Option ℕ → List Acceptance → Option Acceptance
newest_below limit accepted = newest view_accepted (filter (is_below limit) accepted)

-- the vote for it
abbrev pub newest_vote : Option ℕ → List Acceptance → Option Vote
newest_vote limit accepted = option_map (λ (a : Acceptance). a.vote) (newest_below limit accepted)

abbrev pub in_front : Option Vote → List Vote → List Vote
in_front None votes = []
in_front (Some vote) votes = vote ∷ votes

-- The votes of so many of the greatest views below the limit, by falling views. Of one view the last acceptance counts.
abbrev pub newest_votes : ℕ → Option ℕ → List Acceptance → List Vote
newest_votes zero limit accepted = []
newest_votes (suc n) limit accepted = in_front (newest_vote limit accepted) (newest_votes n (option_map view_voted (newest_vote limit accepted)) accepted)

abbrev pub block_of : Option Acceptance → Option Block
block_of None = None
block_of (Some a) = Some a.block

-- it accepts the block of this hash
abbrev pub has_digest : List ℕ → Acceptance → Bool
has_digest digest a = bytes_eq a.vote.digest digest

-- the block of the voted hash was accepted
abbrev pub is_accepted : List Acceptance → Vote → Bool
is_accepted accepted vote = list_any (has_digest vote.digest) accepted

-- the last accepted block of this hash
abbrev pub last_block : List ℕ → List Acceptance → Option Block
last_block digest accepted = block_of (last_or None (filter (has_digest digest) accepted))

abbrev pub with_its : Vote → Option Block → Option (Vote × Block)
with_its vote None = None
with_its vote (Some block) = Some (vote, block)

-- a vote with the last accepted block of its hash
abbrev pub with_block : List Acceptance → Option Vote → Option (Vote × Block)
with_block accepted None = None
with_block accepted (Some vote) = with_its vote (last_block vote.digest accepted)

-- the newest preparation whose block was accepted
abbrev pub newest_prepared : List Acceptance → List Vote → Option Vote
newest_prepared accepted prepared = newest view_voted (filter (is_accepted accepted) prepared)

-- THE FOLD

-- what counts of these records for a configuration and a height
abbrev pub tally_of : ℕ → ℕ → List WalRecord → Tally
tally_of c h rs = record {
  config = c;
  height = h;
  view = greatest (filter_map (entered_view c) rs);
  left = greatest (filter_map (left_view c) rs);
  bound = last_or None (filter_map (bound_in c) rs);
  accepted = filter_map (acceptance_in c h) rs;
  prepared = filter_map (preparation_in c h) rs;
  voted = last_or None (filter_map vote_in rs);
  tail = last_or None (filter_map (tail_in h) rs);
}

-- what is durable of that
abbrev pub folded : Tally → Durable
folded t = record {
  config = t.config;
  height = t.height;
  view = t.view;
  left = t.left;
  bound = t.bound;
  accepted = newest_votes 32 None t.accepted;
  block = block_of (newest_below None t.accepted);
  prepared = with_block t.accepted (newest_prepared t.accepted t.prepared);
  term = (unwrap_or t.voted (0, 0)).0;
  voted = (unwrap_or t.voted (0, 0)).1;
  tail = t.tail;
}

-- what these records leave for a configuration and a height
abbrev pub durable_of : ℕ → ℕ → List WalRecord → Durable
durable_of c h rs = folded (tally_of c h rs)

-- ONE RECORD MORE

abbrev pub raised : ℕ → Option ℕ → ℕ
raised n None = n
raised n (Some m) = max n m

abbrev pub replaced : {X : Type 0} → Option X → Option X → Option X
replaced old None = old
replaced old (Some x) = Some x

abbrev pub extended : {X : Type 0} → List X → Option X → List X
extended xs None = xs
extended xs (Some x) = xs ++ x ∷ []

-- what one more record adds: it raises a view, replaces what is the last, or is one more acceptance or preparation
abbrev pub added : Tally → WalRecord → Tally
added t r = record {
  config = t.config;
  height = t.height;
  view = raised t.view (entered_view t.config r);
  left = raised t.left (left_view t.config r);
  bound = replaced t.bound (bound_in t.config r);
  accepted = extended t.accepted (acceptance_in t.config t.height r);
  prepared = extended t.prepared (preparation_in t.config t.height r);
  voted = replaced t.voted (vote_in r);
  tail = replaced t.tail (tail_in t.height r);
}

-- after one more entry, which counts where it spells a record
abbrev pub counted : Tally → Option WalRecord → Tally
counted t None = t
counted t (Some r) = added t r
