-- What the lines of Byzantine members print is told by the histories of their worlds.
use Rattle.std.proofs.Common.{
  ◌≡◌,
  ℕ,
  Bool,
  true,
  false,
  ◌&&◌,
  List,
  [],
  ◌∷◌,
  ◌++◌,
  length,
  cond,
  refl,
  sym,
  subst,
  Option,
  Some,
  None,
  Err,
}
use Rattle.std.specs.Prelude.{◌==◌, codes, nat_lt, not}
use Rattle.std.proofs.lemmas.Bool.{and_from, and_parts, or_left, or_right}
use Rattle.std.proofs.lemmas.List.{length_push}
use Rattle.ord_types.specs.Members.{is_in}
use Rattle.safety_model.specs.Blocks.{Request}
use Rattle.script.specs.declared.command.Command.TheVariants as command_of
use Rattle.script.specs.declared.command.Meaning.{Meaning}
use Rattle.script.specs.declared.command.Meaning.TheVariants.{Means}
use Rattle.script.specs.declared.command.VoteKind.{VoteKind}
use Rattle.script.specs.declared.command.VoteKind.TheVariants.{Prepare, Commit}
use Rattle.script_play.specs.declared.ending.Ending.TheVariants.{Limit}
use Rattle.script_play.specs.Turns.{Turn}
use Rattle.bft_wire.specs.Reading.{message_in}
use Rattle.bft_wire.specs.Spelling.{message_text}
use Rattle.node_model.specs.Keeping.{PastNode, past_place}
use Rattle.view_model.specs.Letters.{PrePrepare}
use Rattle.world_model.specs.Histories.{past_setting}
use Rattle.world_model.specs.Liars.{
  as_liar,
  as_signer,
  commit_for,
  is_raft_if_any,
  lie_turn,
  longest,
  prepare_for,
  propose_on,
  propose_turn,
  proposal_of,
  proposed_in,
  seal_turn,
  sends,
  sig_at,
  statement_for,
  vote_for,
  vote_if,
  vote_turn,
  with_sent,
  with_signed,
}
use Rattle.world_model.specs.Says.{goes_on, most_entries, refuses, says}
use Rattle.world_model.specs.Texts.{lied_text, limit_text}
use Rattle.world_model.specs.Worlds.{Entry, Node, entry}
use Rattle.signer_edge.specs.declared.seals.Seal.{Seal}
use Rattle.world_safety.specs.Safe.{signs_anything}
use Rattle.world_safety.specs.Telling.{
  IsLastSent,
  NoBlock,
  NoCore,
  NoEntry,
  NotByzantine,
  RaftMessage,
  UnknownNode,
  Went,
  route_in,
}
use Rattle.world_safety.specs.Telling as it
use Rattle.world_safety.specs.Within.{
  PastWorld,
  after_lie,
  after_propose,
  after_vote,
  after_vote_if,
  after_vote_on,
  where_liar,
  where_signer,
}
use Rattle.world_safety.proofs.Tells.{Tells, in_world, last_pushed, length_pushed, replies}

-- a Byzantine member of the world
abbrev IsByzantine : PastWorld → ℕ → Type 0
IsByzantine w id = (is_in id w.config.members && is_in id w.byzantine) ≡ true

-- the line's own
abbrev Goes : Meaning → ℕ → ℕ → Type 0
Goes meant from to = route_in meant ≡ Some (from, to)

module _ (number : ℕ) (meant : Meaning) where
  -- an entry is sent: an event without facts, also where the network is then past its limit. The world
  -- before may be another with the same history.
  sends_tell : (word : List ℕ) (before w : PastWorld) (from to : ℕ) (bytes : List ℕ) → Goes meant from to
      → IsByzantine w from → before.told ≡ w.told → Tells (in_world meant) number before
      (with_sent w from to bytes ∷ []) (sends number word w from to bytes)
  sends_tell word before w from to bytes route liar same = go (nat_lt most_entries (length after.network))
    where
      after : PastWorld
      after = with_sent w from to bytes

      sent : Entry
      sent = record { from = from; to = to; bytes = bytes; came = false }

      is_last : IsLastSent meant after (length after.network)
      is_last = record {
        last = sent;
        at = subst (λ n. entry n after ≡ Some sent)
            (sym (length_pushed w.network sent)) (last_pushed w.network sent);
        count =
            refl;
        route = route;
        by = liar;
      }

      go : (t : Bool)
          → Tells (in_world meant) number before (after ∷ [])
          (goes_on (cond t (record {
            printed = [] ++ limit_text number most_entries;
            next =
                Err (Limit most_entries);
          }) (says [] after))
          (λ sent. says (lied_text number word (length sent.network)) sent))
      go true = record {
        events = Went [] ∷ [];
        reply = it.Limited most_entries;
        histories = rw same refl;
        stops = (tt, tt);
        so = tt;
        printed = refl;
        next = refl;
      }
      go false = record {
        events = Went [] ∷ [];
        reply = it.Lied word (length after.network);
        histories =
            rw same refl;
        stops = (tt, tt);
        so = is_last;
        printed = refl;
        next = refl;
      }

  -- a line is refused, or its sender is Byzantine
  liar_tells : (w : PastWorld) (from to : ℕ) (within : List PastWorld) (turn : Turn PastWorld)
      → (IsByzantine w from → Tells (in_world meant) number w within turn)
      → Tells (in_world meant) number w (where_liar w from to within) (as_liar number w from to turn)
  liar_tells w from to within turn tells =
      go (is_in from w.config.members && is_in to w.config.members) (is_in from w.byzantine) refl refl
    where
      go : (t u : Bool) → (is_in from w.config.members && is_in to w.config.members) ≡ t
          → is_in from w.byzantine ≡ u → Tells (in_world meant) number w (cond (t && u) within [])
          (cond (not t) (refuses number (codes "unknown node") w)
          (cond (not u) (refuses number (codes "not byzantine") w) turn))
      go false u members liar = replies number (in_world meant) w (refuses number (codes "unknown node") w)
          (it.Refused UnknownNode) refl refl tt
      go true false members liar = replies number (in_world meant) w
          (refuses number (codes "not byzantine") w) (it.Refused NotByzantine) refl refl tt
      go true true members liar = tells
          (and_from _ _ (and_parts (is_in from w.config.members) (is_in to w.config.members) members).0 liar)

  propose_tells_on : (w : PastWorld) (from to v : ℕ) (r : Request) (o : Option (Node PastNode))
      → Goes meant from to → IsByzantine w from
      → Tells (in_world meant) number w (after_propose w from to v r o)
      (propose_on past_setting number w from to v r o)
  propose_tells_on w from to v r None route liar =
      replies number (in_world meant) w (refuses number (codes "no core") w) (it.Refused NoCore) refl refl tt
  propose_tells_on w from to v r (Some node) route liar = sends_tell (codes "byz-propose") w w from to
      (message_text (proposal_of (past_place node.state) v r)) route liar refl

  pub propose_tells : (w : PastWorld) (from to v : ℕ) (r : Request) → Goes meant from to
      → Tells (in_world meant) number w
      (where_liar w from to (after_propose w from to v r (longest w.nodes)))
      (as_liar number w from to (propose_turn past_setting number w from to v r))
  propose_tells w from to v r route = liar_tells w from to (after_propose w from to v r (longest w.nodes))
      (propose_turn past_setting number w from to v r) (propose_tells_on w from to v r (longest w.nodes)
      route)

  vote_tells_for : (w : PastWorld) (from to : ℕ) (kind : VoteKind) (v : ℕ) (m : PrePrepare)
      → Goes meant from to → IsByzantine w from
      → Tells (in_world meant) number w (after_vote w from to kind v m ∷ [])
      (vote_for number w from to kind v m)
  vote_tells_for w from to Prepare v m route liar =
      sends_tell (codes "byz-vote") w w from to (message_text (prepare_for m v)) route liar refl
  vote_tells_for w from to Commit v m route liar =
      sends_tell (codes "byz-vote") w (with_signed w from (statement_for m v)) from to
      (message_text (commit_for m v (sig_at from (length w.seals)))) route liar refl

  vote_tells_if : (w : PastWorld) (from to : ℕ) (kind : VoteKind) (v : ℕ) (o : Option PrePrepare)
      → Goes meant from to → IsByzantine w from
      → Tells (in_world meant) number w (after_vote_if w from to kind v o) (vote_if number w from to kind v o)
  vote_tells_if w from to kind v None route liar =
      replies number (in_world meant) w (refuses number (codes "no block") w) (it.Refused NoBlock) refl refl
      tt
  vote_tells_if w from to kind v (Some m) route liar = vote_tells_for w from to kind v m route liar

  vote_tells_on : (w : PastWorld) (from to : ℕ) (kind : VoteKind) (v : ℕ) (o : Option Entry)
      → Goes meant from to → IsByzantine w from
      → Tells (in_world meant) number w (after_vote_on w from to kind v o)
      (vote_turn number w from to kind v o)
  vote_tells_on w from to kind v None route liar =
      replies number (in_world meant) w (refuses number (codes "no entry") w) (it.Refused NoEntry) refl refl
      tt
  vote_tells_on w from to kind v (Some e) route liar =
      vote_tells_if w from to kind v (proposed_in e.bytes) route liar

  pub vote_tells : (w : PastWorld) (from to : ℕ) (kind : VoteKind) (v k : ℕ) → Goes meant from to
      → Tells (in_world meant) number w (where_liar w from to (after_vote_on w from to kind v (entry k w)))
      (as_liar number w from to (vote_turn number w from to kind v (entry k w)))
  vote_tells w from to kind v k route = liar_tells w from to (after_vote_on w from to kind v (entry k w))
      (vote_turn number w from to kind v (entry k w)) (vote_tells_on w from to kind v (entry k w) route)

  pub lie_tells : (w : PastWorld) (from to : ℕ) (bytes : List ℕ) → Goes meant from to
      → Tells (in_world meant) number w (where_liar w from to (after_lie w from to bytes))
      (as_liar number w from to (lie_turn number w from to bytes))
  lie_tells w from to bytes route = liar_tells w from to (after_lie w from to bytes)
      (lie_turn number w from to bytes) (go (is_raft_if_any (message_in bytes)))
    where
      go : (t : Bool) → IsByzantine w from
          → Tells (in_world meant) number w (cond t [] (with_sent w from to bytes ∷ []))
          (cond t (refuses number (codes "raft message") w) (sends number (codes "lie") w from to bytes))
      go true liar = replies number (in_world meant) w (refuses number (codes "raft message") w)
          (it.Refused RaftMessage) refl refl tt
      go false liar = sends_tell (codes "lie") w w from to bytes route liar refl

  -- a seal is an event without facts
  pub seal_tells : (w : PastWorld) (id : ℕ) (bytes : List ℕ) → meant ≡ Means (command_of.Seal id bytes)
      → Tells (in_world meant) number w (where_signer w id (with_signed w id bytes ∷ []))
      (as_signer number w id (seal_turn number w id bytes))
  seal_tells w id bytes asked = go (id == 0) refl
    where
      seal : Seal
      seal = record { signer = id; statement = bytes }

      sealed : signs_anything w.config.members w.byzantine id ≡ true
          → Tells (in_world meant) number w (with_signed w id bytes ∷ []) (seal_turn number w id bytes)
      sealed any =
          record {
            events = Went [] ∷ [];
            reply = it.Sealed (length w.seals);
            histories = refl;
            stops =
                (tt, tt);
            so = record {
              last = seal;
              at = last_pushed w.seals seal;
              count =
                  length_push w.seals seal;
              asked = asked;
              by = any;
            };
            printed = refl;
            next = refl;
          }

      go : (t : Bool) → (id == 0) ≡ t
          → Tells (in_world meant) number w (cond t (with_signed w id bytes ∷ [])
          (where_liar w id id (with_signed w id bytes ∷ []))) (cond t (seal_turn number w id bytes)
          (as_liar number w id id (seal_turn number w id bytes)))
      go true is = sealed (or_left _ _ is)
      go false is = liar_tells w id id (with_signed w id bytes ∷ []) (seal_turn number w id bytes)
          (λ liar. sealed (or_right _ _ liar))
